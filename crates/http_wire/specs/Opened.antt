-- What a reader of a head answers.
use Rattle.std.specs.Prelude.{◌≡◌, ℕ, List, Option, Some, None}
use Rattle.httparse.specs.declared.spans.HeaderSpan.{HeaderSpan}
use Rattle.httparse.specs.declared.spans.RequestSpans.{RequestSpans}
use Rattle.httparse.specs.Grammar.{RequestHead}
use Rattle.httparse.specs.Spans.{IsRequestWithin, IsRequestAt}
use Rattle.http_wire.specs.declared.room.Room.{Room}
use Rattle.http_wire.specs.declared.opening.Opened.{Opened}
use Rattle.http_wire.specs.declared.opening.Opened.TheVariants as opened_as
use Rattle.http_wire.specs.Ends.{head_len, front, IsHead}
use Rattle.http_wire.specs.Requests.{Head, RefusedHead, EndedBefore, TruncatedHead, opened, Opens}

-- the spans are those of a head, which is the bytes as a whole
pub record IsHeadAt (bytes : List ℕ) (lines : List HeaderSpan) (spans : RequestSpans) : Type 0 where
  pub within : IsRequestWithin bytes lines spans
  pub head : RequestHead
  pub is : IsHead bytes (Some head)
  pub at : IsRequestAt bytes lines spans head

-- what the bytes of a head are judged to be
abbrev pub Judges : Room → List ℕ → Opened → Type 0
Judges room bytes (opened_as.Head r f w) = (h : RequestHead) × IsHead bytes (Some h) × ((rest : List ℕ) → opened room (Some h) rest ≡ Head r f w rest)
Judges room bytes (opened_as.Refused e) = (head : Option RequestHead) × IsHead bytes head × ((rest : List ℕ) → opened room head rest ≡ RefusedHead e)
Judges room bytes opened_as.Ended = ⊥
Judges room bytes opened_as.Truncated = ⊥
Judges room bytes opened_as.ReadFault = ⊥
Judges room bytes opened_as.Memory = Unit {0}

-- What the answer tells of a text. Behind a head, the text that is left is the one behind it; a read fault takes nothing, and no head ends
-- in what is held.
abbrev pub Tells : Room → List ℕ → Opened → List ℕ → Option (List ℕ) → Type 0
Tells room text (opened_as.Head r f w) held left = (rest : List ℕ) × (left ≡ Some rest) × Opens room text (Head r f w rest)
Tells room text (opened_as.Refused e) held left = Opens room text (RefusedHead e)
Tells room text opened_as.Ended held left = Opens room text EndedBefore
Tells room text opened_as.Truncated held left = Opens room text TruncatedHead
Tells room text opened_as.ReadFault held left = (left ≡ Some text) × (head_len (front held) ≡ None)
Tells room text opened_as.Memory held left = Unit {0}

-- The same where the source tells its bytes.
abbrev pub TellsOf : Room → Option (List ℕ) → Opened → List ℕ → Option (List ℕ) → Type 0
TellsOf room None o held left = Unit {0}
TellsOf room (Some text) o held left = Tells room text o held left
