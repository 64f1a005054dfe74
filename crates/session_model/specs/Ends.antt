-- What one turn of a session reads and writes, and how it ends the session, if it does (RFC 9112, sections 9.3 and 9.6; the ends are our own).
use Rattle.std.specs.Prelude.{◌≡◌, ◌⊎◌, ℕ, ◌<◌, Bool, true, false, ◌||◌, List, [], ◌∷◌, ◌++◌, length, take, Option, Some, None}
use Rattle.std.specs.Io.KnownBytes.{Appends, prepend_known}
use Rattle.settings.specs.declared.Settings.{Settings}
use Rattle.book_model.specs.Desk.{Caller}
use Rattle.http_wire.specs.declared.fault.WireFault.{WireFault}
use Rattle.http_wire.specs.declared.room.Room.{Room}
use Rattle.http_wire.specs.Ends.{head_len, front}
use Rattle.http_wire.specs.Heads.{CutsInterim}
use Rattle.http_wire.specs.Replies.{spelled, no_memory}
use Rattle.http_wire.specs.Requests.{Next, Asked, Refused, Ended, Truncated, interim}
use Rattle.http_wire.specs.Series.{Exchange}
use Rattle.http_wire.specs.Wholes.{StopsBehindHead}
use Rattle.session_model.specs.declared.end.End.{End}
use Rattle.session_model.specs.declared.end.End.TheVariants as ends
use Rattle.session_model.specs.declared.sign.Sign.{Sign}
use Rattle.session_model.specs.Replies.{wire_reply}
use Rattle.session_model.specs.Runs.{Done, Carries, Unanswered}

-- what came of a request
pub data Came : Type 0 where
  -- it was carried out
  Carried : Done → Came
  -- it was read, and there was no memory for it
  Failed : Exchange → Came
  -- none was read as a whole
  Nothing : Came

-- ---- between two moments of the caller

abbrev pub Happens : Caller → Caller → Came → Type 0
Happens old new (Carried d) = Carries old new d
Happens old new (Failed x) = Unanswered old new x.request
Happens old new Nothing = new ≡ old

-- the point of a request that was carried out
abbrev pub points_of : Came → List ℕ
points_of (Carried d) = d.point ∷ []
points_of (Failed x) = []
points_of Nothing = []

abbrev pub signs_of : Came → List Sign
signs_of (Carried d) = d.sign ∷ []
signs_of (Failed x) = []
signs_of Nothing = []

-- ---- how the session goes on; `last` says that no further request is answered

-- behind a request that was carried out, which closes where it asks for that or is the last
abbrev pub GoesOn : Bool → Bool → Option End → Type 0
GoesOn close last None = (close ≡ false) × (last ≡ false)
GoesOn close last (Some ends.Ended) = ⊥
GoesOn close last (Some ends.Asked) = close ≡ true
GoesOn close last (Some ends.Served) = (close ≡ false) × (last ≡ true)
GoesOn close last (Some (ends.Refused fault)) = ⊥
GoesOn close last (Some ends.Truncated) = ⊥
GoesOn close last (Some ends.ReadFault) = ⊥
GoesOn close last (Some (ends.WriteFault n)) = Unit {0}
GoesOn close last (Some ends.Memory) = ⊥

-- where there was no memory for a request
abbrev pub FailsBy : Option End → Type 0
FailsBy None = ⊥
FailsBy (Some ends.Ended) = ⊥
FailsBy (Some ends.Asked) = ⊥
FailsBy (Some ends.Served) = ⊥
FailsBy (Some (ends.Refused fault)) = ⊥
FailsBy (Some ends.Truncated) = ⊥
FailsBy (Some ends.ReadFault) = ⊥
FailsBy (Some (ends.WriteFault n)) = Unit {0}
FailsBy (Some ends.Memory) = Unit {0}

-- where no request was read
abbrev pub StopsBy : Option End → Type 0
StopsBy None = ⊥
StopsBy (Some ends.Ended) = Unit {0}
StopsBy (Some ends.Asked) = ⊥
StopsBy (Some ends.Served) = ⊥
StopsBy (Some (ends.Refused fault)) = Unit {0}
StopsBy (Some ends.Truncated) = Unit {0}
StopsBy (Some ends.ReadFault) = Unit {0}
StopsBy (Some (ends.WriteFault n)) = Unit {0}
StopsBy (Some ends.Memory) = Unit {0}

abbrev pub Fits : Bool → Came → Option End → Type 0
Fits last (Carried d) end = (d.closes ≡ (d.asked.request.close || last)) × GoesOn d.asked.request.close last end
Fits last (Failed x) end = FailsBy end
Fits last Nothing end = StopsBy end

-- ---- bytes

abbrev pub room_of : Settings → Room
room_of s = record { body = s.body; stream = s.stream }

-- the text was written, or at a fault its first so many bytes
abbrev pub Writes : Option (List ℕ) → List ℕ → Option End → Option (List ℕ) → Type 0
Writes out text (Some (ends.WriteFault n)) out_now = (n < length text) × Appends out out_now (take n text)
Writes out text None out_now = Appends out out_now text
Writes out text (Some ends.Ended) out_now = Appends out out_now text
Writes out text (Some ends.Asked) out_now = Appends out out_now text
Writes out text (Some ends.Served) out_now = Appends out out_now text
Writes out text (Some (ends.Refused fault)) out_now = Appends out out_now text
Writes out text (Some ends.Truncated) out_now = Appends out out_now text
Writes out text (Some ends.ReadFault) out_now = Appends out out_now text
Writes out text (Some ends.Memory) out_now = Appends out out_now text

-- behind the interim, where its client waits
abbrev pub WritesBehind : Option (List ℕ) → Bool → List ℕ → Option End → Option (List ℕ) → Type 0
WritesBehind out waits text end out_now = (mid : Option (List ℕ)) × Appends out mid (interim waits) × Writes mid text end out_now

-- the text asks this, and this text is left
abbrev pub IsAsked : Settings → List ℕ → Exchange → Option (List ℕ) → Type 0
IsAsked s text x left = (rest : List ℕ) × Next (room_of s) text (Asked x.request x.waits rest) × (left ≡ Some rest)

-- the text has a request that is refused so, and this is written
abbrev pub WritesRefusal : Settings → List ℕ → Option (List ℕ) → WireFault → Option End → Option (List ℕ) → Type 0
WritesRefusal s text out fault end out_now =
    (waits : Bool) × Next (room_of s) text (Refused fault waits) × WritesBehind out waits (spelled (wire_reply fault)) end out_now

-- there was no memory to read a request, or to refuse it; the interim may stand before the reply
abbrev pub WritesFailure : Option (List ℕ) → Option End → Option (List ℕ) → Type 0
WritesFailure out end out_now = (waits : Bool) × WritesBehind out waits (spelled no_memory) end out_now

-- of the text the source gave no whole head, where this is what it has left
abbrev pub GaveNoHead : List ℕ → Option (List ℕ) → Type 0
GaveNoHead text rest = (given : List ℕ) × (prepend_known given rest ≡ Some text) × (head_len (front given) ≡ None)

-- what is written where no request was read; `rest` is what the source has left
abbrev pub Stops : Settings → List ℕ → Option (List ℕ) → Option End → Option (List ℕ) → Option (List ℕ) → Type 0
Stops s text out None rest out_now = ⊥
Stops s text out (Some ends.Ended) rest out_now = Next (room_of s) text Ended × (out_now ≡ out)
Stops s text out (Some ends.Asked) rest out_now = ⊥
Stops s text out (Some ends.Served) rest out_now = ⊥
Stops s text out (Some (ends.Refused fault)) rest out_now = WritesRefusal s text out fault (Some (ends.Refused fault)) out_now
Stops s text out (Some ends.Truncated) rest out_now = (waits : Bool) × Next (room_of s) text (Truncated waits) × Appends out out_now (interim waits)
Stops s text out (Some ends.ReadFault) rest out_now = (GaveNoHead text rest × (out_now ≡ out)) ⊎ StopsBehindHead (room_of s) text out out_now
Stops s text out (Some (ends.WriteFault n)) rest out_now =
    CutsInterim (room_of s) text out n out_now
    ⊎ (((fault : WireFault) × WritesRefusal s text out fault (Some (ends.WriteFault n)) out_now) ⊎ WritesFailure out (Some (ends.WriteFault n)) out_now)
Stops s text out (Some ends.Memory) rest out_now = WritesFailure out (Some ends.Memory) out_now

-- what the turn reads of a text, and what it writes
abbrev pub TellsOf : Settings → List ℕ → Option (List ℕ) → Came → Option End → Option (List ℕ) → Option (List ℕ) → Option (List ℕ) → Type 0
TellsOf s text out (Carried d) end rest left out_now = IsAsked s text d.asked left × WritesBehind out d.asked.waits (spelled d.reply) end out_now
TellsOf s text out (Failed x) end rest left out_now = IsAsked s text x left × WritesBehind out x.waits (spelled no_memory) end out_now
TellsOf s text out Nothing end rest left out_now = Stops s text out end rest out_now

-- the same where the source tells its bytes
abbrev pub Tells : Settings → Option (List ℕ) → Option (List ℕ) → Came → Option End → Option (List ℕ) → Option (List ℕ) → Option (List ℕ) → Type 0
Tells s None out came end rest left out_now = Unit {0}
Tells s (Some text) out came end rest left out_now = TellsOf s text out came end rest left out_now

-- ---- one turn

-- One turn of a session: between two moments of the caller, the text that is asked, what the source has left and what is left with what is held, what was written, the points and the signs.
pub record Turn (s : Settings) (last : Bool) (old new : Caller) (text out : Option (List ℕ)) (end : Option End) (rest left out_now : Option (List ℕ)) (points points_now : List ℕ) (signs signs_now : List Sign) : Type 0 where
  pub came : Came
  pub happens : Happens old new came
  pub fits : Fits last came end
  pub tells : Tells s text out came end rest left out_now
  pub points_are : points_now ≡ points ++ points_of came
  pub signs_are : signs_now ≡ signs ++ signs_of came
