-- What answering one request that was read comes to. No public clause cites this module.
use Rattle.std.specs.Prelude.{◌≡◌, ◌⊎◌, ℕ, Bool, ◌||◌, List, [], ◌∷◌, ◌++◌, Option, Some, None}
use Rattle.book_model.specs.Desk.{Caller}
use Rattle.http_wire.specs.declared.fault.WireFault.{WireFault}
use Rattle.http_wire.specs.declared.reply.Reply.{Reply}
use Rattle.http_wire.specs.declared.request.Request.{Request}
use Rattle.http_wire.specs.Replies.{spelled, no_memory}
use Rattle.session_model.specs.declared.end.End.{End}
use Rattle.session_model.specs.declared.end.End.TheVariants as ends
use Rattle.session_model.specs.declared.sign.Sign.{Sign}
use Rattle.session_model.specs.Ends.{Came, Carried, Failed, Happens, FailsBy, GoesOn, Writes}
use Rattle.session_model.specs.Replies.{wire_reply}
use Rattle.session_model.specs.Sessions.{IsWriteFault}

-- what came of a request that was read: it has a point, a sign and a reply, or there was no memory for it
pub data Fate : Type 0 where
  Answered : ℕ → Sign → Reply → Fate
  Unanswered : Fate

-- the same of the request, whose client waits or not, where the connection closes behind it or not
abbrev pub came_of : Request → Bool → Bool → Fate → Came
came_of q waits closes (Answered point sign reply) =
    Carried (record { asked = record { request = q; waits = waits }; closes = closes; point = point; sign = sign; reply = reply })
came_of q waits closes Unanswered = Failed (record { request = q; waits = waits })

abbrev pub fate_text : Fate → List ℕ
fate_text (Answered point sign reply) = spelled reply
fate_text Unanswered = spelled no_memory

abbrev pub fate_points : Fate → List ℕ
fate_points (Answered point sign reply) = point ∷ []
fate_points Unanswered = []

abbrev pub fate_signs : Fate → List Sign
fate_signs (Answered point sign reply) = sign ∷ []
fate_signs Unanswered = []

abbrev pub FateFits : Bool → Bool → Fate → Option End → Type 0
FateFits close last (Answered point sign reply) end = GoesOn close last end
FateFits close last Unanswered end = FailsBy end

-- a request that was read was answered, or there was no memory for it
pub record Serves (last : Bool) (old new : Caller) (q : Request) (out : Option (List ℕ)) (end : Option End) (out_now : Option (List ℕ)) (points points_now : List ℕ) (signs signs_now : List Sign) : Type 0 where
  pub fate : Fate
  pub happens : (waits : Bool) → Happens old new (came_of q waits (q.close || last) fate)
  pub fits : FateFits q.close last fate end
  pub writes : Writes out (fate_text fate) end out_now
  pub points_are : points_now ≡ points ++ fate_points fate
  pub signs_are : signs_now ≡ signs ++ fate_signs fate

-- the reply of a server without memory was written, or its front
abbrev pub Fails : Option (List ℕ) → End → Option (List ℕ) → Type 0
Fails out end out_now = FailsBy (Some end) × Writes out (spelled no_memory) (Some end) out_now

-- the reply to a request that can't be read was written, or its front
abbrev pub RefusesBy : WireFault → End → Type 0
RefusesBy fault ends.Ended = ⊥
RefusesBy fault ends.Asked = ⊥
RefusesBy fault ends.Served = ⊥
RefusesBy fault (ends.Refused e) = e ≡ fault
RefusesBy fault ends.Truncated = ⊥
RefusesBy fault ends.ReadFault = ⊥
RefusesBy fault (ends.WriteFault n) = Unit {0}
RefusesBy fault ends.Memory = ⊥

-- or there was no memory for it
abbrev pub RefusesSo : WireFault → Option (List ℕ) → End → Option (List ℕ) → Type 0
RefusesSo fault out end out_now =
    (RefusesBy fault end × Writes out (spelled (wire_reply fault)) (Some end) out_now) ⊎ Fails out end out_now

-- the sink failed
abbrev pub IsSomeFault : Option End → Type 0
IsSomeFault None = ⊥
IsSomeFault (Some end) = IsWriteFault end
