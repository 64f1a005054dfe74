-- Advisories in the order of their ids, which is that of their bytes (our own).
use Rattle.std.specs.Prelude.{◌≡◌, ℕ, List, [], ◌∷◌, ◌++◌, map, Bool, Option, Some, None, IfSome, if◌then◌else◌}
use Rattle.std.specs.Option.{option_to_list}
use Rattle.std.specs.List.{AllByRecursion}
use Rattle.std.specs.List.Sorted.{IsStrictlySortedBy}
use Rattle.std.specs.Ordering.{nat_cmp, is_lt, is_eq}
use Rattle.std.specs.declared.cmp.Ordering.TheVariants.{Less}
use Rattle.std.specs.Cmp.Lexicographic.{slice_cmp}
use Rattle.osv_record.specs.Advisories.{Advisory}

abbrev pub ids : List Advisory → List (List ℕ)
ids advisories = map (λ (r : Advisory). r.id) advisories

-- each id is below the next one
abbrev pub Ascend : List Advisory → Type 0
Ascend advisories = IsStrictlySortedBy (slice_cmp nat_cmp) (ids advisories)

-- the advisories are those below an id, the one that has it, if any, and those above it
pub record IsSplit (id : List ℕ) (advisories below : List Advisory) (found : Option Advisory) (above : List Advisory) : Type 0 where
  pub whole : advisories ≡ below ++ (option_to_list found ++ above)
  pub under : AllByRecursion (λ k. slice_cmp nat_cmp k id ≡ Less) (ids below)
  pub same : IfSome found (λ r. r.id ≡ id)
  pub over : AllByRecursion (λ k. slice_cmp nat_cmp id k ≡ Less) (ids above)

abbrev pub is_below : List ℕ → Advisory → Bool
is_below id r = is_lt (slice_cmp nat_cmp r.id id)

abbrev pub is_at : List ℕ → Advisory → Bool
is_at id r = is_eq (slice_cmp nat_cmp r.id id)

-- the first one, where it has the id
abbrev pub first_of : List ℕ → List Advisory → Option Advisory
first_of id [] = None
first_of id (r ∷ rest) = if is_at id r then Some r else None

-- those after it
abbrev pub rest_of : List ℕ → List Advisory → List Advisory
rest_of id [] = []
rest_of id (r ∷ rest) = if is_at id r then rest else r ∷ rest
