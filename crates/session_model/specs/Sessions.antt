-- A session: the requests of one connection, answered one after another (RFC 9112, section 9.3).
use Rattle.std.specs.Prelude.{◌≡◌, ◌⊎◌, ℕ, ◌+◌, ◌<◌, false, nat_le, List, ◌++◌, length, map, All, flat_map, Option, Some, None}
use Rattle.std.specs.Io.KnownBytes.{Appends}
use Rattle.settings.specs.declared.Settings.{Settings}
use Rattle.book_model.specs.Desk.{Caller}
use Rattle.http_wire.specs.Replies.{spelled}
use Rattle.http_wire.specs.Requests.{interim}
use Rattle.http_wire.specs.Series.{Exchange, Asks}
use Rattle.session_model.specs.declared.end.End.{End}
use Rattle.session_model.specs.declared.end.End.TheVariants as ends
use Rattle.session_model.specs.declared.sign.Sign.{Sign}
use Rattle.session_model.specs.Runs.{Done, Runs, Unanswered}
use Rattle.session_model.specs.Ends.{room_of, Turn}

-- the connection stays open behind the request
abbrev pub StaysOpen : Done → Type 0
StaysOpen d = (d.asked.request.close ≡ false) × (d.closes ≡ false)

-- what is written for it
abbrev pub written_for : Done → List ℕ
written_for d = interim d.asked.waits ++ spelled d.reply

-- The text asks for these requests, and this text is left; what is written for them comes to the sink.
abbrev pub AreAsked : Settings → Option (List ℕ) → Option (List ℕ) → List Done → Option (List ℕ) → Option (List ℕ) → Type 0
AreAsked s None out done left out_now = Unit {0}
AreAsked s (Some text) out done None out_now = ⊥
AreAsked s (Some text) out done (Some rest) out_now = Asks (room_of s) text (map (λ d. d.asked) done) rest × Appends out out_now (flat_map written_for done)

-- The requests so far, behind each of which the connection stays open, where so many more may be answered.
pub record SoFar (s : Settings) (more : ℕ) (old now : Caller) (text out left out_now : Option (List ℕ)) (points : List ℕ) (signs : List Sign) : Type 0 where
  pub done : List Done
  pub runs : Runs old done now
  pub open_ : All StaysOpen done
  pub count : length done + more ≡ s.requests
  pub points_are : points ≡ map (λ d. d.point) done
  pub signs_are : signs ≡ map (λ d. d.sign) done
  pub asked : AreAsked s text out done left out_now

-- The session: requests behind which the connection stays open, and then the turn that ends it; `rest` is what the source has left.
pub record Session (s : Settings) (old new : Caller) (text rest out out_now : Option (List ℕ)) (points : List ℕ) (signs : List Sign) (end : End) : Type 0 where
  pub more : ℕ
  pub some : 0 < more
  pub mid : Caller
  pub left_mid : Option (List ℕ)
  pub out_mid : Option (List ℕ)
  pub points_mid : List ℕ
  pub signs_mid : List Sign
  pub so_far : SoFar s more old mid text out left_mid out_mid points_mid signs_mid
  pub left : Option (List ℕ)
  pub ended : Turn s (nat_le more 1) mid new left_mid out_mid (Some end) rest left out_now points_mid points signs_mid signs

-- What a session is to its desk: requests that were carried out, one after another, with their points and signs, and behind them at most one for which there was no memory.
pub record IsRun (old new : Caller) (points : List ℕ) (signs : List Sign) : Type 0 where
  pub done : List Done
  pub mid : Caller
  pub runs : Runs old done mid
  pub points_are : points ≡ map (λ d. d.point) done
  pub signs_are : signs ≡ map (λ d. d.sign) done
  pub rest : (new ≡ mid) ⊎ ((x : Exchange) × Unanswered mid new x.request)

-- the sink failed
abbrev pub IsWriteFault : End → Type 0
IsWriteFault ends.Ended = ⊥
IsWriteFault ends.Asked = ⊥
IsWriteFault ends.Served = ⊥
IsWriteFault (ends.Refused fault) = ⊥
IsWriteFault ends.Truncated = ⊥
IsWriteFault ends.ReadFault = ⊥
IsWriteFault (ends.WriteFault n) = Unit {0}
IsWriteFault ends.Memory = ⊥
