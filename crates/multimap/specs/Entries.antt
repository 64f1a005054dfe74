-- Entries of a key and a value (our own).
use Rattle.std.specs.Prelude.{◌≡◌, List, length, map, filter}
use Rattle.std.specs.List.Sorted.{IsSorted}
use Rattle.std.specs.Ordering.{is_eq}
use Rattle.std.specs.declared.cmp.Ordering.{Ordering}

-- the values of the entries whose key is equal to this one, in the order of the entries
abbrev pub values_of : {K V : Type 0} → (K → K → Ordering) → List (K × V) → K → List V
values_of cmp entries key = map (λ e. e.1) (filter (λ e. is_eq (cmp e.0 key)) entries)

-- the keys ascend, and there is a value for each
pub record IsInOrder {K V : Type 0} (cmp : K → K → Ordering) (keys : List K) (values : List V) : Type 0 where
  pub ascending : IsSorted cmp keys
  pub size : length values ≡ length keys
