-- The requests of a text, one behind the other, and how they end (RFC 9112, sections 9.3 and 9.6).
use Rattle.std.specs.Prelude.{◌≡◌, ℕ, ◌-◌, Bool, true, false, nat_le, List, [], ◌∷◌}
use Rattle.http_wire.specs.declared.fault.WireFault.{WireFault}
use Rattle.http_wire.specs.declared.request.Request.{Request}
use Rattle.http_wire.specs.declared.room.Room.{Room}
use Rattle.http_wire.specs.Requests as requests
use Rattle.http_wire.specs.Requests.{Next, Outcome}

-- a request, and whether its client waits for `100 Continue`
pub record Exchange : Type 0 where
  pub request : Request
  pub waits : Bool

-- how the requests of a text end
pub data End : Type 0 where
  -- behind a request that asks for close
  Asked : End
  -- behind as many requests as are answered
  Served : End
  -- by a refusal, and whether its client waits
  Refused : WireFault → Bool → End
  Ended : End
  Truncated : Bool → End

-- The text asks these one behind the other, and this text is left.
abbrev pub Asks : Room → List ℕ → List Exchange → List ℕ → Type 0
Asks room text [] left = left ≡ text
Asks room text (x ∷ xs) left = (rest : List ℕ) × Next room text (requests.Asked x.request x.waits rest) × Asks room rest xs left

-- what is asked behind a request, by whether it asks for close and whether it is the last that is answered
abbrev pub Behind : Bool → Bool → Type 0 → List Exchange → End → Type 0
Behind true last more xs end = (xs ≡ []) × (end ≡ Asked)
Behind false true more xs end = (xs ≡ []) × (end ≡ Served)
Behind false false more xs end = more

-- the end, where the text asks for nothing that is answered
abbrev pub EndsSo : Outcome → End → Type 0
EndsSo (requests.Asked r waits rest) end = ⊥
EndsSo (requests.Refused e waits) end = end ≡ Refused e waits
EndsSo requests.Ended end = end ≡ Ended
EndsSo (requests.Truncated waits) end = end ≡ Truncated waits

-- The requests of a text, of which at most so many are answered, and how they end.
abbrev pub Requests : Room → ℕ → List ℕ → List Exchange → End → Type 0
Requests room most text [] end = (o : Outcome) × Next room text o × EndsSo o end
Requests room most text (x ∷ xs) end =
    (rest : List ℕ) × Next room text (requests.Asked x.request x.waits rest)
    × Behind x.request.close (nat_le most 1) (Requests room (most - 1) rest xs end) xs end
