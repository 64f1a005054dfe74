-- The advisories that count among imports in order: the last of each id (our own).
use Rattle.std.specs.Prelude.{◌≡◌, ℕ, Bool, false, List, [], ◌∷◌, ◌++◌}
use Rattle.std.specs.List.{list_any}
use Rattle.std.specs.Str.{bytes_eq}
use Rattle.std.specs.Ordering.{nat_cmp, match_ordering}
use Rattle.std.specs.Cmp.Lexicographic.{slice_cmp}
use Rattle.osv_record.specs.Advisories.{Advisory}

-- the advisory at its place by the ids, in place of one with its id
abbrev pub placed : Advisory → List Advisory → List Advisory
placed r [] = r ∷ []
placed r (x ∷ xs) = match_ordering (slice_cmp nat_cmp r.id x.id) (r ∷ x ∷ xs) (r ∷ xs) (x ∷ placed r xs)

-- the imports, one after another, each in place of an earlier one of its id
abbrev pub records_from : List Advisory → List Advisory → List Advisory
records_from kept [] = kept
records_from kept (r ∷ later) = records_from (placed r kept) later

-- the last import of each id, ascending by id
abbrev pub records : List Advisory → List Advisory
records imports = records_from [] imports

-- some advisory has this id
abbrev pub has_id : List ℕ → List Advisory → Bool
has_id id imports = list_any (λ r. bytes_eq id r.id) imports

-- it stands among the imports, and no later one has its id
pub record IsLastOfItsId (imports : List Advisory) (r : Advisory) : Type 0 where
  pub before : List Advisory
  pub after : List Advisory
  pub stands : imports ≡ before ++ r ∷ after
  pub last : has_id r.id after ≡ false
