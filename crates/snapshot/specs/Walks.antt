-- Pages of one query, one after another (our own).
use Rattle.std.specs.Prelude.{◌≡◌, ℕ, List, [], ◌∷◌, Option, Some, None, MatchBool}
use Rattle.osv_prim.specs.declared.subject.Subject.{Subject}
use Rattle.osv_record.specs.Advisories.{Advisory}
use Rattle.history.specs.declared.past.Past.{Past}
use Rattle.snapshot.specs.Pages.{Page, page}

-- the id of the last advisory
abbrev pub last_id : List Advisory → Option (List ℕ)
last_id [] = None
last_id (r ∷ []) = Some r.id
last_id (r ∷ s ∷ rest) = last_id (s ∷ rest)

-- the pages of a query, the first of them above this id, and each later one above the last id of the one before; the last one alone says that there are no more
abbrev pub IsWalk : List Past → Subject → ℕ → Option (List ℕ) → List Page → Type 0
IsWalk p subject size after [] = ⊥
IsWalk p subject size after (g ∷ rest) = (g ≡ page p subject after size) × MatchBool g.more (IsWalk p subject size (last_id g.found) rest) (rest ≡ [])

abbrev pub found_in : Page → List Advisory
found_in g = g.found
