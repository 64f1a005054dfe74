-- Where the advisories of a list are in a later one (our own).
use Rattle.std.specs.Prelude.{◌≡◌, ℕ, ◌<◌, ◌≤◌, ◌⊎◌, ◌==◌, Bool, true, List, length, Some, slice_get}
use Rattle.std.specs.List.{list_any}
use Rattle.osv_record.specs.Advisories.{Advisory}
use Rattle.record_moves.specs.declared.moves.Moves.{Moves}

-- what stands for a place where an advisory is gone; no list is so long
abbrev pub gone : ℕ
gone = 4294967295

-- some place of the old list is this one in the new list
abbrev pub IsPlaceOfOld : List ℕ → ℕ → Type 0
IsPlaceOfOld moved j = (i : ℕ) × (slice_get moved i ≡ Some j)

abbrev pub is_among : List ℕ → ℕ → Bool
is_among places j = list_any (λ a. a == j) places

-- for each place in the old list the one in the new list, and the places of those that were added
pub record AreMoved (moved added : List ℕ) (old new : List Advisory) : Type 0 where
  pub size : length moved ≡ length old
  pub places : (i j : ℕ) → slice_get moved i ≡ Some j → (j < length new) ⊎ (j ≡ gone)
  -- an advisory that stays is the same
  pub same : (i j : ℕ) → slice_get moved i ≡ Some j → j < length new → slice_get old i ≡ slice_get new j
  -- each one stayed or was added, and what was added is there
  pub covered : (j : ℕ) → j < length new → IsPlaceOfOld moved j ⊎ (is_among added j ≡ true)
  pub within : (j : ℕ) → is_among added j ≡ true → j < length new

pub record IsMoved (moves : Moves) (old new : List Advisory) : Type 0 where
  pub count : moves.count ≡ length new
  pub low : moves.count ≤ gone
  pub are : AreMoved moves.moved.items moves.added.items old new
