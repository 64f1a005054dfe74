-- Jobs that go out, and jobs that come back.
use Rattle.std.proofs.Common.{◌≡◌, ℕ, ◌+◌, ◌-◌, List, length, take, get_or, set, refl, sym, ap, subst, ◌∙◌, arith}
use Rattle.std.specs.Prelude.{Option, Some, None, IsSomeAnd}
use Rattle.history.specs.declared.past.Past.{Past}
use Rattle.history.specs.Entries.{History, imports, newest, snap}
use Rattle.book_model.specs.State.{Kind, Plan, Cell, Free, OutTo, Done, Build, State, holder, first_free, opened, moved, with_build}
use Rattle.book_model.specs.Jobs.{JobName, name_in, owner_in, StandsIn}
use Rattle.book_model.specs.Steps.{GoesOut, build_for, freed}
use Rattle.book_model.proofs.Owned.{owned}
use Rattle.impact_job.specs.declared.prefix.Prefix.{Prefix}
use Rattle.impact_job.specs.Tables.{IsPrefixOf}
use Rattle.snapshot.specs.declared.job.Job.{Job}
use Rattle.snapshot.specs.declared.snapshot.Snapshot.{Snapshot}
use Rattle.snapshot.specs.Snapshots.{StandsFor}
use Rattle.snapshot.specs.Jobs.{name, IsJob}
use Rattle.book.specs.declared.build.Open.{Open}
use Rattle.book.specs.Builds.{phase_of, open_build, IsStageOf, IsUnderWay}
use Rattle.book.specs.Handing.{IsJobOf, StaysOpen, OpenGoesOut, IsFreed}

-- what holds of a stage of a build holds of the next
pub stands-on : (P Q : List Past → List Past → Type 0) (build upto : ℕ) (h : History) → (P (snap h (build - 1)) (take upto (imports h)) → Q (snap h (build - 1)) (take upto (imports h))) → StandsIn P build upto h → StandsIn Q build upto h
stands-on P Q build upto h f s = record { within = s.within; stands = f s.stands }

-- the build that stays is under way
pub way-stays : (next : ℕ) (h : History) (old new : Open) → StaysOpen old new → IsUnderWay next h old.upto old.place old.stage → IsUnderWay next h new.upto new.place new.stage
way-stays next h old new s w =
    subst (λ (u : ℕ). IsUnderWay next h u new.place new.stage) (sym s.upto)
    (subst (λ (k : ℕ). IsUnderWay next h old.upto k new.stage) (sym s.place)
    (record {
      holds = stands-on (IsStageOf old.stage) (IsStageOf new.stage) next old.upto h (s.is (snap h (next - 1)) (take old.upto (imports h))) w.holds;
      named = s.named ∙ w.named;
      within = w.within;
      reached = w.reached;
    }))

abbrev named : ℕ → ℕ → Kind → ℕ → JobName
named build upto kind number = record { build = build; upto = upto; kind = kind; number = number }

-- a job went out to the caller
goes_from : (holds : List Past → List Past → Type 0) (by next : ℕ) (old new : State) (b : Build) (number : ℕ) (job : Job) → next ≡ newest old.history + 1 → first_free b.cells ≡ Some number → IsJobOf next b.upto b.phase number holds job
    → StandsIn holds next b.upto old.history → new ≡ with_build old (Some (moved b number (OutTo by))) → GoesOut name IsJob by old b job new
goes_from holds by next old new b number job is free j st left =
    let same : (name job).number ≡ number = ap (λ (x : JobName). x.number) j.called in
    record {
      free = free ∙ ap (λ (x : ℕ). Some x) (sym same);
      called = j.called ∙ ap (λ (x : ℕ). named x b.upto b.phase number) is ∙ ap (λ (x : ℕ). name_in old.history b x) (sym same);
      holds =
          subst (λ (x : JobName). StandsIn (IsJob job) x.build x.upto old.history) (sym j.called)
          (stands-on holds (IsJob job) next b.upto old.history (j.is (snap old.history (next - 1)) (take b.upto (imports old.history))) st);
      left = left ∙ ap (λ (x : ℕ). with_build old (Some (moved b x (OutTo by)))) (sym same);
    }

-- a job of an open build
pub goes_out : (base : Snapshot) (by next : ℕ) (old new : State) (o n : Open) (job : Job) → next ≡ newest old.history + 1 → StandsFor base (snap old.history (newest old.history)) → OpenGoesOut base next by o job n
    → IsUnderWay next old.history o.upto o.place o.stage → new ≡ with_build old (Some (open_build n)) → GoesOut name IsJob by old (open_build o) job new
goes_out base by next old new o n job is st g way left =
    let before : newest old.history ≡ next - 1 = omega (arith, is) in
    let on : StandsFor base (snap old.history (next - 1)) = subst (λ (s : ℕ). StandsFor base (snap old.history s)) before st in
    goes_from (λ (b p : List Past). StandsFor base b × IsStageOf o.stage b p) by next old new (open_build o) g.number job is g.free
    (subst (λ (u : ℕ). IsJobOf next u (phase_of o.stage) g.number (λ b p. StandsFor base b × IsStageOf o.stage b p) job) way.named g.its)
    (record { within = way.holds.within; stands = (on, way.holds.stands) })
    (left ∙ ap (λ (b : Build). with_build old (Some b)) g.left)

-- the plan of a build that was just opened
pub opens : (x : Prefix) (by next : ℕ) (old new : State) (job : Job) → next ≡ newest old.history + 1 → IsJobOf next x.upto Plan 0 (IsPrefixOf x) job → x.upto ≡ length (imports old.history) → StandsIn (IsPrefixOf x) next (length (imports old.history)) old.history
    → new ≡ with_build old (Some (moved (opened (length (imports old.history))) 0 (OutTo by))) → GoesOut name IsJob by old (opened (length (imports old.history))) job new
opens x by next old new job is j upto st left =
    goes_from (IsPrefixOf x) by next old new (opened (length (imports old.history))) 0 job is refl (subst (λ (u : ℕ). IsJobOf next u Plan 0 (IsPrefixOf x) job) upto j) st left

-- a job of the build that is open is one of the build that is wanted
pub for_some : (s : State) (o : Option Build) (P : Build → Type 0) → IsSomeAnd o P → P (build_for s o)
for_some s None P p = absurd p
for_some s (Some b) P p = p

-- ---- jobs that come back

-- a job that is out is one of the build that is open
pub record IsOut (o : Open) (next : ℕ) (job : JobName) (by : ℕ) : Type 0 where
  pub build : job.build ≡ next
  pub upto : job.upto ≡ o.upto
  pub kind : job.kind ≡ phase_of o.stage
  pub cell : holder (get_or (open_build o).cells job.number Done) ≡ Some by

pub out-of : (o : Open) (next : ℕ) (job : JobName) (by : ℕ) → owner_in (Some (open_build o)) next job ≡ Some by → IsOut o next job by
out-of o next job by out =
    let w = owned (Some (open_build o)) next job by out in
    let same : open_build o ≡ w.b = ap (λ (x : Option Build). build_in (open_build o) x) w.there in
    record {
      build = w.build;
      upto = w.upto ∙ ap (λ (x : Build). x.upto) (sym same);
      kind = w.kind ∙ ap (λ (x : Build). x.phase) (sym same);
      cell = subst (λ (x : Build). holder (get_or x.cells job.number Done) ≡ Some by) (sym same) w.cell;
    }
  where
    build_in : Build → Option Build → Build
    build_in d None = d
    build_in d (Some x) = x

-- the build with the job free
pub freed-is : (o n : Open) (job : JobName) → job.upto ≡ o.upto → job.kind ≡ phase_of o.stage → IsFreed job.number o n → open_build n ≡ freed job (open_build o).cells
freed-is o n job upto kind f =
    f.build ∙ ap (λ (u : ℕ). the_build u (phase_of o.stage) (set (open_build o).cells job.number Free)) (sym upto) ∙ ap (λ (k : Kind). the_build job.upto k (set (open_build o).cells job.number Free)) (sym kind)
  where
    the_build : ℕ → Kind → List Cell → Build
    the_build upto kind cells = record { upto = upto; phase = kind; cells = cells }
