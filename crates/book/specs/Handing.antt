-- How jobs of a book go out, and how they come back (our own).
use Rattle.std.specs.Prelude.{◌≡◌, ℕ, ◌+◌, List, length, slice_get, slice_set, Option, Some, None, Result, Ok, Err, IsSomeAnd, MatchOption}
use Rattle.osv_prim.specs.declared.memory.Memory.{Memory}
use Rattle.impact_set.specs.Standing.{Known}
use Rattle.piece_work.specs.Sets.{IsSetOf}
use Rattle.impact_job.specs.Tables.{plan_upto}
use Rattle.snapshot.specs.declared.job.Job.{Job}
use Rattle.snapshot.specs.declared.job.Place.TheVariants as places
use Rattle.snapshot.specs.declared.snapshot.Snapshot.{Snapshot}
use Rattle.snapshot.specs.Snapshots.{StandsFor}
use Rattle.history.specs.declared.past.Past.{Past}
use Rattle.history.specs.declared.past.Past.TheVariants.{Publish}
use Rattle.history.specs.Entries.{imports, newest}
use Rattle.history.specs.Pieces.{git_ranges_in}
use Rattle.book_model.specs.declared.answers.Progress.{Progress}
use Rattle.book_model.specs.declared.answers.Progress.TheVariants as progress
use Rattle.book_model.specs.State.{Kind, Piece, Free, OutTo, Done, State, first_free, opened, filled, moved, cells_in, with_entry, with_build}
use Rattle.book_model.specs.Steps.{GoesOut}
use Rattle.snapshot.specs.Jobs.{name, IsJob}
use Rattle.book.specs.Pieces.{Placed, cells_of, with_place, ArePiecesOf}
use Rattle.book.specs.Builds.{phase_of, stage_cells, stage_upto, build_with, open_build, IsStageOf}
use Rattle.book.specs.declared.build.Open.{Open}
use Rattle.book.specs.declared.build.Stage.{Stage}

-- ---- a stage

-- The job has this name, and is one for the imports of which this holds.
pub record IsJobOf (build upto : ℕ) (kind : Kind) (number : ℕ) (holds : List Past → List Past → Type 0) (job : Job) : Type 0 where
  pub called : name job ≡ record { build = build; upto = upto; kind = kind; number = number }
  pub is : (b p : List Past) → holds b p → IsJob job b p

-- The first free piece went out to the caller.
pub record PieceGoesOut (build by : ℕ) (old : Placed) (job : Job) (new : Placed) : Type 0 where
  pub number : ℕ
  pub free : first_free (cells_of old) ≡ Some number
  pub its : IsJobOf build (plan_upto old.plan) Piece number (ArePiecesOf old) job
  pub left : new ≡ with_place old number (places.Out by)

abbrev pub HandsPiece : ℕ → ℕ → Placed → Result (Option Job) Memory → Placed → Type 0
HandsPiece build by old (Ok None) new = (first_free (cells_of old) ≡ None) × (new ≡ old)
HandsPiece build by old (Ok (Some job)) new = PieceGoesOut build by old job new
HandsPiece build by old (Err memory) new = new ≡ old

-- It is the same build, at the same stage.
pub record StaysOpen (old new : Open) : Type 0 where
  pub upto : new.upto ≡ old.upto
  pub place : new.place ≡ old.place
  pub named : stage_upto new.stage ≡ stage_upto old.stage
  pub is : (b p : List Past) → IsStageOf old.stage b p → IsStageOf new.stage b p

-- The first free job of an open build, which stands on this snapshot, went out to the caller.
pub record OpenGoesOut (base : Snapshot) (build by : ℕ) (old : Open) (job : Job) (new : Open) : Type 0 where
  pub number : ℕ
  pub free : first_free (open_build old).cells ≡ Some number
  pub its : IsJobOf build (stage_upto old.stage) (phase_of old.stage) number (λ b p. StandsFor base b × IsStageOf old.stage b p) job
  pub left : open_build new ≡ moved (open_build old) number (OutTo by)
  pub stays : StaysOpen old new

abbrev pub HandsOutOf : Snapshot → ℕ → ℕ → Open → Result (Option Job) Memory → Open → Type 0
HandsOutOf base build by old (Ok None) new = (first_free (open_build old).cells ≡ None) × (new ≡ old)
HandsOutOf base build by old (Ok (Some job)) new = OpenGoesOut base build by old job new
HandsOutOf base build by old (Err memory) new = new ≡ old

-- The job with this number is free again.
pub record IsFreed (number : ℕ) (old new : Open) : Type 0 where
  pub build : open_build new ≡ moved (open_build old) number Free
  pub stays : StaysOpen old new

-- The stage is that of these pieces: the assembly as soon as all are done.
pub record IsStageFor (x : Placed) (stage : Stage) : Type 0 where
  pub build : (upto : ℕ) → build_with upto stage None ≡ filled upto (cells_of x)
  pub named : stage_upto stage ≡ plan_upto x.plan
  pub is : (b p : List Past) → ArePiecesOf x b p → IsStageOf stage b p

-- The piece with this number made this set.
pub record IsFilledBy (number : ℕ) (set : Known) (old new : Stage) : Type 0 where
  pub build : (upto : ℕ) → build_with upto new None ≡ filled upto (slice_set (stage_cells old None) number Done)
  pub named : stage_upto new ≡ stage_upto old
  pub is : (b p : List Past) → IsStageOf old b p → MatchOption (slice_get (git_ranges_in p) number) ⊥ (λ x. IsSetOf p x set) → IsStageOf new b p

-- ---- a book

-- a build over all imports was opened, and its first job went out to the caller
abbrev pub Opens : ℕ → State → Result Job Memory → State → Type 0
Opens by old (Ok job) new = GoesOut name IsJob by old (opened (length (imports old.history))) job new
Opens by old (Err memory) new = new ≡ old

-- the first free job of the build that is open went out to the caller, or there is none that is free
abbrev pub HandsOut : ℕ → State → Result (Option Job) Memory → State → Type 0
HandsOut by old (Ok None) new = (first_free (cells_in old.build) ≡ None) × (new ≡ old)
HandsOut by old (Ok (Some job)) new = IsSomeAnd old.build (λ b. GoesOut name IsJob by old b job new)
HandsOut by old (Err memory) new = new ≡ old

-- the first so many imports were published, and no build is open
abbrev pub PublishesAt : ℕ → ℕ → State → Progress → State → Type 0
PublishesAt by upto old progress.Going new = ⊥
PublishesAt by upto old (progress.Published entry snapshot) new = (entry ≡ length old.history) × (snapshot ≡ newest old.history + 1) × (new ≡ with_build (with_entry old (Publish by upto)) None)
