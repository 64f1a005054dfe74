-- What signs owe to the counts of a caller (our own). So no reply can say that others were at work unless the book said so, and none can answer from what was never asked.
use Rattle.std.specs.Prelude.{◌≡◌, ℕ, ◌+◌, ◌≤◌, min}
use Rattle.book_model.specs.Desk.{Caller, saturating_sum}
use Rattle.session_model.specs.declared.sign.Sign.{Sign}
use Rattle.session_model.specs.declared.sign.Sign.TheVariants as signs

-- the count rose by at least so much, or stands at its last value
abbrev pub Raises : ℕ → ℕ → ℕ → Type 0
Raises n old new = min (old + n) 18446744073709551615 ≤ new

-- calls that were told of others' work, jobs that were handed in, and calls at all
pub record Rises (busy turns looks : ℕ) (old new : Caller) : Type 0 where
  pub busy_rose : Raises busy old.busy new.busy
  pub turns_rose : Raises turns old.turns new.turns
  pub looks_rose : Raises looks old.last.turned new.last.turned

-- a call that was told of others' work, for each reply that tells of it
abbrev pub busy_of : Sign → ℕ
busy_of signs.Plain = 0
busy_of signs.Looked = 0
busy_of (signs.Moved seen) = 1
busy_of (signs.Published snapshot upto) = 0
busy_of (signs.Building out took) = min out 1

-- a job that was handed in, for each turn
abbrev pub turns_of : Sign → ℕ
turns_of signs.Plain = 0
turns_of signs.Looked = 0
turns_of (signs.Moved seen) = 0
turns_of (signs.Published snapshot upto) = 0
turns_of (signs.Building out took) = took

-- a call, for each reply of a snapshot
abbrev pub looks_of : Sign → ℕ
looks_of signs.Plain = 0
looks_of signs.Looked = 1
looks_of (signs.Moved seen) = 0
looks_of (signs.Published snapshot upto) = 1
looks_of (signs.Building out took) = 0

-- the number of jobs that a building tells to be out
abbrev pub out_of : Sign → ℕ
out_of signs.Plain = 0
out_of signs.Looked = 0
out_of (signs.Moved seen) = 0
out_of (signs.Published snapshot upto) = 0
out_of (signs.Building out took) = out

-- The number is the one that the caller was told, and it was told no other.
abbrev pub OutsAre : Sign → Caller → Caller → Type 0
OutsAre signs.Plain old new = new.outs ≡ old.outs
OutsAre signs.Looked old new = new.outs ≡ old.outs
OutsAre (signs.Moved seen) old new = new.outs ≡ old.outs
OutsAre (signs.Published snapshot upto) old new = new.outs ≡ old.outs
OutsAre (signs.Building out took) old new = (1 ≤ out → new.outs ≡ saturating_sum old.outs out) × (out ≡ 0 → new.outs ≡ old.outs)

-- the counts show what the sign says
abbrev pub Counts : Sign → Caller → Caller → Type 0
Counts sign old new = Rises (busy_of sign) (turns_of sign) (looks_of sign) old new
