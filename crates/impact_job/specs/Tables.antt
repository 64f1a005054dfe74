-- What tables, a prefix and a plan stand for (our own).
use Rattle.std.specs.Prelude.{◌≡◌, ◌≢◌, ℕ, List, [], ◌∷◌, ◌++◌, Bool, true, Option, IfSome, is_some, length, map, drop, if◌then◌else◌}
use Rattle.std.specs.List.{AllZip, list_any}
use Rattle.std.specs.Arc.{arc_value}
use Rattle.std.specs.Str.{bytes_eq}
use Rattle.std.specs.declared.sync.Arc.{Arc}
use mathlib.Core.List.{IsPrefix}
use Rattle.osv_record.specs.Advisories.{Advisory, git_ranges}
use Rattle.osv_prim.specs.declared.oid.CommitRow.{CommitRow}
use Rattle.evaluate.specs.Hits.{Repo}
use Rattle.history.specs.declared.past.Past.{Past}
use Rattle.history.specs.declared.piece_kind.PieceKind.TheVariants.{Carry}
use Rattle.history.specs.Prefixes.{advisories, records, graphs}
use Rattle.history.specs.Lookups.{has_grow}
use Rattle.history.specs.Pieces.{GitRange, ranges_of, git_ranges_in, kind_of}
use Rattle.impact_set.specs.Standing.{Known}
use Rattle.record_moves.specs.Moved.{IsMoved}
use Rattle.piece_work.specs.declared.piece.Piece as to_do
use Rattle.piece_work.specs.Pieces.{IsPieceOf}
use Rattle.piece_work.specs.Sets.{IsSetOf}
use Rattle.impact_job.specs.declared.tables.Tables.{Tables}
use Rattle.impact_job.specs.declared.tables.Todo.{Todo}
use Rattle.impact_job.specs.declared.tables.Todo.TheVariants.{Carried, Piece}
use Rattle.impact_job.specs.declared.tables.Plan.{Plan}
use Rattle.impact_job.specs.declared.tables.Filled.{Filled}
use Rattle.impact_job.specs.declared.prefix.Prefix.{Prefix}

-- the values that are shared
abbrev pub seen : {X Z : Type 0} → List (Arc X Z) → List X
seen xs = map (λ a. arc_value a) xs

-- repositories with the graphs that are shared
abbrev pub repos_seen : {Z : Type 0} → List (List ℕ × Arc (List CommitRow) Z) → List Repo
repos_seen repos = map (λ g. (g.0, arc_value g.1)) repos

-- the repositories with this graph in place of the one that the repository has, or at the end where it has none
abbrev pub with_graph : List Repo → List ℕ → List CommitRow → List Repo
with_graph [] key graph = (key, graph) ∷ []
with_graph (repo ∷ repos) key graph = if bytes_eq key repo.0 then (repo.0, graph) ∷ repos else repo ∷ with_graph repos key graph

-- the same for each of some graphs in turn
abbrev pub with_graphs : List Repo → List Repo → List Repo
with_graphs repos [] = repos
with_graphs repos (g ∷ later) = with_graphs (with_graph repos g.0 g.1) later

-- a repository is among these
abbrev pub has_repo : List Repo → List ℕ → Bool
has_repo repos key = list_any (λ repo. bytes_eq repo.0 key) repos

-- how many GIT ranges each advisory has
abbrev pub git_counts : List Advisory → List ℕ
git_counts advisories = map (λ (r : Advisory). git_ranges r.affected) advisories

-- the sets are those of an advisory's GIT ranges, by entry and range, on the graphs after these imports
abbrev pub AreSetsOf : {Z : Type 0} → List Past → Advisory → List (Arc Known Z) → Type 0
AreSetsOf p r sets = AllZip (IsSetOf p) (ranges_of r) (seen sets)

-- the tables are those of these imports
pub record StandsFor (tables : Tables) (p : List Past) : Type 0 where
  pub upto : tables.upto ≡ length p
  -- the import of each id that counts, ascending by id
  pub kept : seen (arc_value tables.records).items ≡ records p
  -- the repositories that have a Grow, each with its graph
  pub grown : repos_seen (arc_value tables.repos).items ≡ graphs p
  -- the sets of each advisory
  pub sets : AllZip (AreSetsOf p) (records p) tables.sets.items

-- the tables are those of the imports b, and what was added is what came after them in p
pub record IsPrefixOf (prefix : Prefix) (b p : List Past) : Type 0 where
  pub base : StandsFor (arc_value prefix.base) b
  pub came : List Past
  pub whole : p ≡ b ++ came
  pub added : seen prefix.added.items ≡ advisories came
  -- the graphs that repositories had after their Grows, put in place of what they had before
  pub grown : with_graphs (graphs b) (repos_seen prefix.grown.items) ≡ graphs p
  -- they are of the repositories that have a Grow there
  pub grew : (key : List ℕ) → has_repo (repos_seen prefix.grown.items) key ≡ has_grow came key
  pub upto : prefix.upto ≡ length p

abbrev pub plan_upto : Plan → ℕ
plan_upto plan = plan.upto

-- a piece of the build with this range, whose set is not carried on
pub record IsPieceFor (b p : List Past) (x : GitRange) (piece : to_do.Piece) : Type 0 where
  pub its_piece : IsPieceOf piece b p
  pub its_range : its_piece.range ≡ x
  pub not_carried : piece.kind ≢ Carry

-- it is what the build over the imports p which stands on the first of them, b, is to do for this range
abbrev pub IsTodoOf : List Past → List Past → GitRange → Todo → Type 0
IsTodoOf b p x (Carried set) = (kind_of (drop (length b) p) x ≡ Carry) × IsSetOf p x (arc_value set)
IsTodoOf b p x (Piece piece) = IsPieceFor b p x piece

-- the plan is that of a build over the imports p which stands on the first of them, b
pub record IsPlanOf (plan : Plan) (b p : List Past) : Type 0 where
  pub front : IsPrefix b p
  pub upto : plan.upto ≡ length p
  pub kept : seen (arc_value plan.records).items ≡ records p
  pub grown : repos_seen (arc_value plan.repos).items ≡ graphs p
  -- the advisories of the first imports are among them where it is said
  pub moved : IsMoved plan.moves (records b) (records p)
  -- how many GIT ranges each advisory has
  pub counts : plan.counts.items ≡ git_counts (records p)
  -- what is to be done for each GIT range, by advisory, entry and range
  pub todo : AllZip (IsTodoOf b p) (git_ranges_in p) plan.todo.items

-- the plan is that of some build
abbrev pub IsSomePlan : Plan → Type 0
IsSomePlan plan = (b : List Past) × ((p : List Past) × IsPlanOf plan b p)

-- the set that was made for a range is that of the range
abbrev pub IsMadeFor : {Z : Type 0} → List Past → GitRange → Option (Arc Known Z) → Type 0
IsMadeFor p x made = IfSome made (λ set. IsSetOf p x (arc_value set))

-- a set was made, unless one is carried on
abbrev pub HasSet : {Z : Type 0} → Todo → Option (Arc Known Z) → Type 0
HasSet (Carried set) made = Unit {0}
HasSet (Piece piece) made = is_some made ≡ true

-- the plan is that of a build over the imports p which stands on the first of them, b, and all its pieces are done
pub record IsFilledOf (filled : Filled) (b p : List Past) : Type 0 where
  pub plan : IsPlanOf (arc_value filled.plan) b p
  pub made : AllZip (IsMadeFor p) (git_ranges_in p) filled.made.items
  pub whole : AllZip HasSet (arc_value filled.plan).todo.items filled.made.items

abbrev pub filled_upto : Filled → ℕ
filled_upto filled = plan_upto (arc_value filled.plan)

-- the pieces of some build are done
abbrev pub IsSomeFilled : Filled → Type 0
IsSomeFilled filled = (b : List Past) × ((p : List Past) × IsFilledOf filled b p)
