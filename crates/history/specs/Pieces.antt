-- The pieces of a build: a set of affected commits for each GIT range of the advisories that count, and what each has to do (our own).
use Rattle.std.specs.Prelude.{ℕ, ◌+◌, List, [], ◌∷◌, ◌++◌, length, map, drop, flat_map, unwrap_or, if◌then◌else◌}
use Rattle.osv_record.specs.Advisories.{Extent, Entry, Advisory, is_git}
use Rattle.history.specs.declared.past.Past.{Past}
use Rattle.history.specs.declared.piece_kind.PieceKind.{PieceKind}
use Rattle.history.specs.declared.piece_kind.PieceKind.TheVariants.{Fresh, Extend, Carry}
use Rattle.history.specs.Prefixes.{records}
use Rattle.history.specs.Lookups.{has_import, has_grow}

-- a GIT range of an advisory, with the indexes of its entry and of itself in that
pub record GitRange : Type 0 where
  pub advisory : Advisory
  pub entry : ℕ
  pub range : ℕ
  pub extent : Extent

-- the GIT ranges among an entry's ranges, the first of which has this index
abbrev pub ranges_from : Advisory → ℕ → ℕ → List Extent → List GitRange
ranges_from r entry range [] = []
ranges_from r entry range (x ∷ xs) =
    if is_git x.kind then record { advisory = r; entry = entry; range = range; extent = x } ∷ ranges_from r entry (range + 1) xs else ranges_from r entry (range + 1) xs

-- those of an advisory's entries, the first of which has this index
abbrev pub ranges_of_entries : Advisory → ℕ → List Entry → List GitRange
ranges_of_entries r entry [] = []
ranges_of_entries r entry (a ∷ rest) = ranges_from r entry 0 a.ranges ++ ranges_of_entries r (entry + 1) rest

-- the GIT ranges of an advisory, by entry and range
abbrev pub ranges_of : Advisory → List GitRange
ranges_of r = ranges_of_entries r 0 r.affected

-- the GIT ranges of the advisories that count, by id, entry and range
abbrev pub git_ranges_in : List Past → List GitRange
git_ranges_in p = flat_map ranges_of (records p)

-- the key of its repository; each GIT range has one
abbrev pub repo_of : GitRange → List ℕ
repo_of x = unwrap_or x.extent.repo []

-- what came of the advisory and of the repository decides: of the advisory, and the set is made anew; of the repository alone, and the set there is extended; of neither, and it stays
abbrev pub kind_of : List Past → GitRange → PieceKind
kind_of came x = if has_import came x.advisory.id then Fresh else (if has_grow came (repo_of x) then Extend else Carry)

-- the pieces of a build over the imports p that stands on the first of them, b
abbrev pub pieces : List Past → List Past → List (GitRange × PieceKind)
pieces b p = map (λ x. (x, kind_of (drop (length b) p) x)) (git_ranges_in p)
