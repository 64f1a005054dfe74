-- The first bytes of ids as numbers that rise as the ids do (our own).
use Rattle.std.specs.Prelude.{◌≡◌, ℕ, zero, suc, ◌+◌, ◌*◌, ◌<◌, ◌≤◌, List, [], ◌∷◌, length, map, take, slice_get, IfSome}
use Rattle.std.specs.List.{AllByRecursion}
use Rattle.osv_record.specs.Advisories.{Advisory}
use Rattle.impact_job.specs.Order.{ids}

-- the first byte, 0 where there is none, and the bytes behind it
abbrev pub first_byte : List ℕ → ℕ
first_byte [] = 0
first_byte (b ∷ text) = b

abbrev pub behind : List ℕ → List ℕ
behind [] = []
behind (b ∷ text) = text

-- these digits in base 256, and behind them the first n bytes of a text
abbrev pub head_from : ℕ → ℕ → List ℕ → ℕ
head_from digits zero text = digits
head_from digits (suc n) text = head_from (digits * 256 + first_byte text) n (behind text)

-- the number that the first sixteen bytes of an id are
abbrev pub head : List ℕ → ℕ
head id = head_from 0 16 id

-- each of the first n members is a byte
abbrev pub BeginsWithBytes : ℕ → List ℕ → Type 0
BeginsWithBytes zero text = Unit {0}
BeginsWithBytes (suc n) text = (first_byte text < 256) × BeginsWithBytes n (behind text)

-- they are the heads of the advisories' ids
pub record IsIndexOf (heads : List ℕ) (advisories : List Advisory) : Type 0 where
  pub heads_are : heads ≡ map head (ids advisories)
  pub bytes : AllByRecursion (BeginsWithBytes 16) (ids advisories)

-- they are the heads of the first advisories, as many as there are of them
pub record AreFirst (heads : List ℕ) (advisories : List Advisory) : Type 0 where
  pub heads_are : heads ≡ map head (ids (take (length heads) advisories))
  pub bytes : AllByRecursion (BeginsWithBytes 16) (ids (take (length heads) advisories))
  pub within : length heads ≤ length advisories

-- it is the head of the advisory at a place, where there is one
abbrev pub IsHeadAt : ℕ → ℕ → List Advisory → Type 0
IsHeadAt number place advisories = IfSome (slice_get advisories place) (λ r. (number ≡ head r.id) × BeginsWithBytes 16 r.id)
