-- What a walk over advisories knows that lists what a build is to do (our own).
use Rattle.std.specs.Prelude.{◌≡◌, ◌++◌, ℕ, List, [], Bool, true, false, Option, None, length, map, drop, is_some, MatchOption}
use Rattle.std.specs.List.{AllZip}
use Rattle.std.specs.Arc.{arc_value}
use Rattle.std.specs.declared.sync.Arc.{Arc}
use Rattle.std.specs.Borrow.{Bor}
use mathlib.Core.List.{IsPrefix}
use Rattle.osv_prim.specs.declared.oid.CommitRow.{CommitRow}
use Rattle.evaluate.specs.Hits.{Repo, graph_of}
use Rattle.history.specs.declared.past.Past.{Past}
use Rattle.history.specs.Prefixes.{graphs}
use Rattle.history.specs.Lookups.{has_grow}
use Rattle.history.specs.declared.piece_kind.PieceKind.TheVariants.{Carry}
use Rattle.history.specs.Pieces.{GitRange, git_ranges_in, kind_of}
use Rattle.impact_set.specs.Standing.{Known}
use Rattle.piece_work.specs.Sets.{IsSetOf}
use Rattle.piece_work.specs.Works.{IsReady}
use Rattle.impact_job.specs.declared.by_repo.Graphs.{Graphs}
use Rattle.impact_job.specs.declared.tables.Todo.{Todo}
use Rattle.impact_job.specs.declared.tables.Todo.TheVariants.{Carried, Piece}
use Rattle.impact_job.specs.Tables.{IsTodoOf}

-- the entries of a map of graphs by the keys of repositories
abbrev pub entries_seen : {Z : Type 0} → List (Bor (List ℕ) × Bor (Arc (List CommitRow) Z)) → List Repo
entries_seen entries = map (λ e. (e.0.now, arc_value e.1.now)) entries

-- the graphs are those of the imports p, and those that grew are of the repositories with a Grow after the first imports, b
pub record AreGraphsOf (known : Graphs) (b p : List Past) : Type 0 where
  pub front : IsPrefix b p
  pub all : entries_seen known.all.entries ≡ graphs p
  pub grown : (key : List ℕ) → is_some (graph_of (entries_seen known.grown.entries) key) ≡ has_grow (drop (length b) p) key
  pub none : arc_value known.none ≡ []

-- what is to be done is listed for each GIT range but for these last ones
pub record IsBegun (b p : List Past) (todo : List Todo) (later : List GitRange) : Type 0 where
  pub walked : List GitRange
  pub whole : walked ++ later ≡ git_ranges_in p
  pub done : AllZip (IsTodoOf b p) walked todo

-- where the advisory of the ranges came anew no set is there, else the set of each is
abbrev pub AreOld : Bool → List Past → List GitRange → List Known → Type 0
AreOld true b xs sets = sets ≡ []
AreOld false b xs sets = AllZip (IsSetOf b) xs sets

-- the same of one range
abbrev pub IsOld : Bool → List Past → GitRange → Option Known → Type 0
IsOld true b x set = set ≡ None
IsOld false b x set = MatchOption set ⊥ (IsSetOf b x)

-- neither the advisory of the range nor its repository came anew, and the set is that of the range
abbrev pub Stays : List Past → List Past → GitRange → Known → Type 0
Stays b p x set = (kind_of (drop (length b) p) x ≡ Carry) × IsSetOf p x set

-- a piece that is to be done can be done
abbrev pub CanBeDone : Todo → Type 0
CanBeDone (Carried set) = Unit {0}
CanBeDone (Piece piece) = IsReady piece
