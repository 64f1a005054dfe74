-- Every step keeps a sound state.
use Rattle.std.proofs.Common.{◌≡◌, ℕ, ◌+◌, ◌^◌, ◌<◌, ◌≤◌, Bool, true, false, cond, List, [], ◌∷◌, ◌++◌, length, drop, set, refl, sym, ap, subst, arith}
use mathlib.Core.List.{IsPrefix}
use Rattle.std.specs.Prelude.{Option, Some, None, Result, Ok, Err, IfSome, IsSomeAnd, All}
use Rattle.std.specs.List.{list_all, list_any}
use Rattle.std.proofs.lemmas.List.Elements.{All-push, All-set, All-weaker}
use Rattle.osv_prim.specs.declared.memory.Memory.{Memory}
use Rattle.osv_prim.specs.declared.oid.CommitRow.{CommitRow}
use Rattle.osv_prim.specs.Graphs as of_rows
use Rattle.osv_record.specs.Advisories.{Advisory}
use Rattle.turn_lock.specs.declared.note.Noted.{Noted}
use Rattle.history.specs.declared.past.Past.{Past}
use Rattle.history.specs.declared.past.Past.TheVariants.{Import, Grow, Publish}
use Rattle.history.specs.Entries.{History, caller, imports, newest, weight, entry_weight}
use Rattle.history.specs.Prefixes.{graph}
use Rattle.history.specs.Legality.{Marks, marks, marks_from, start, MayFollow, IsLegal, MayCome, Extends}
use Rattle.history.specs.Conditions.{IsOfVersion}
use Rattle.history.proofs.Entries.{marks_from-append, count_from, last_from, grows_from, start_in_order}
use Rattle.history.proofs.Legality.{legal-push}
use Rattle.history.proofs.Conditions.{version-now, new_rows, weight-push}
use Rattle.book_model.specs.declared.answers.CallersSpent.{CallersSpent}
use Rattle.book_model.specs.declared.answers.ImportFault.{ImportFault}
use Rattle.book_model.specs.declared.answers.ImportFault.TheVariants as import_faults
use Rattle.book_model.specs.declared.answers.GrowFault.{GrowFault}
use Rattle.book_model.specs.declared.answers.GrowFault.TheVariants as grow_faults
use Rattle.book_model.specs.declared.answers.Pulled.{Pulled}
use Rattle.book_model.specs.declared.answers.Pulled.TheVariants as pulled
use Rattle.book_model.specs.declared.answers.Taken.{Taken}
use Rattle.book_model.specs.declared.answers.Taken.TheVariants as taken
use Rattle.book_model.specs.declared.answers.Progress.{Progress}
use Rattle.book_model.specs.declared.answers.Progress.TheVariants as progress
use Rattle.book_model.specs.declared.answers.Strange.{Strange}
use Rattle.book_model.specs.State.{Kind, Plan, Piece, Assemble, Cell, Free, OutTo, Done, Build, State, is_out, is_done, first_free, opened, assembling, with_pieces, filled, moved, cells_in, published, with_entry, with_build, noted}
use Rattle.book_model.specs.Jobs.{JobName, Outcome, owner}
use Rattle.book_model.specs.Steps.{Enrols, HasRoom, Imports, grown_by, Grows, GoesOut, build_for, Pulls, Takes, IsStrange, GoesOn, Publishes, Finishes, freed, GivesBack}
use Rattle.book_model.specs.Sound.{IsOneJob, IsHeldBelow, IsOpen, IsSound}
use Rattle.book_model.proofs.Owned.{some_of, some_weaker, Owned, owned, held_at, free_at, undone-set, one-set, all_held-more, one_free, none_out}

-- ---- parts of a state

sound-same : (old new : State) → new ≡ old → IsSound old → IsSound new
sound-same old new e s = subst (λ (x : State). IsSound x) (sym e) s

sound-noted : (old : State) (kind : Noted) (by number : ℕ) (who : Option ℕ) → IsSound old → IsSound (noted old kind by number who)
sound-noted old kind by number who s = record { legal = s.legal; within = s.within; given = s.given; callers = s.callers; build = s.build }

sound-build : (old : State) (build : Option Build) → IsSound old → IfSome build (IsOpen old.history old.callers) → IsSound (with_build old build)
sound-build old build s o = record { legal = s.legal; within = s.within; given = s.given; callers = s.callers; build = o }

sound-entry : (old : State) (e : Past) → IsSound old → MayCome old.history e → HasRoom old e → caller e < old.callers → IfSome old.build (IsOpen (old.history ++ e ∷ []) old.callers) → IsSound (with_entry old e)
sound-entry old e s may room lt o =
    let w : weight (old.history ++ e ∷ []) ≡ weight old.history + entry_weight e = weight-push old.history e in
    record {
      legal = legal-push old.history e s.legal may;
      within = omega (arith, w, room);
      given = All-push (λ (x : Past). caller x < old.callers) old.history e s.given lt;
      callers = s.callers;
      build = o;
    }

-- ---- builds

marks-push : (h : History) (e : Past) → marks (h ++ e ∷ []) ≡ marks_from (marks h) (e ∷ [])
marks-push h e = marks_from-append start h (e ∷ [])

open-import : (h : History) (n by : ℕ) (r : Advisory) (b : Build) → IsOpen h n b → IsOpen (h ++ Import by r ∷ []) n b
open-import h n by r b o =
    record {
      may_come = subst (λ (m : Marks). MayFollow m (Publish 0 b.upto)) (sym (marks-push h (Import by r))) (o.may_come.0, omega (arith, o.may_come.1), o.may_come.2);
      undone = o.undone;
      one = o.one;
      held = o.held;
    }

open-grow : (h : History) (n by : ℕ) (key : List ℕ) (rows : List CommitRow) (b : Build) → IsOpen h n b → IsOpen (h ++ Grow by key rows ∷ []) n b
open-grow h n by key rows b o =
    record {
      may_come = subst (λ (m : Marks). MayFollow m (Publish 0 b.upto)) (sym (marks-push h (Grow by key rows))) (o.may_come.0, omega (arith, o.may_come.1), o.may_come.2);
      undone = o.undone;
      one = o.one;
      held = o.held;
    }

open-more : (h : History) (n m : ℕ) → n ≤ m → (b : Build) → IsOpen h n b → IsOpen h m b
open-more h n m le b o = record { may_come = o.may_come; undone = o.undone; one = o.one; held = all_held-more n m b.cells le o.held }

-- a build over all imports, where the newest snapshot has fewer
open-all : (h : History) (n goal : ℕ) → IsLegal h → published h < goal → goal ≤ length (imports h) → IsOpen h n (opened (length (imports h)))
open-all h n goal l lt le =
    let count : (marks h).count ≡ 0 + length (imports h) = count_from start h in
    let last : (marks h).last ≡ published h = last_from start h in
    let g = grows_from start h start_in_order l.published in
    record { may_come = (omega (arith, last, lt, le), omega (arith, count), omega (arith, g.order, count)); undone = refl; one = refl; held = one_free n }

open-moved : (h : History) (n by : ℕ) (b : Build) (number : ℕ) → IsOpen h n b → first_free b.cells ≡ Some number → by < n → IsOpen h n (moved b number (OutTo by))
open-moved h n by b number o free lt =
    record {
      may_come = o.may_come;
      undone = undone-set b.cells number (OutTo by) (free_at b.cells number free) refl;
      one = one-set b.phase b.cells number (OutTo by) o.one;
      held = All-set (IsHeldBelow n) b.cells number (OutTo by) lt o.held;
    }

filled_step : (h : History) (n upto : ℕ) (cells : List Cell) (t : Bool) → list_all is_done cells ≡ t → MayFollow (marks h) (Publish 0 upto) → All (IsHeldBelow n) cells → IsOpen h n (cond t (assembling upto) (with_pieces upto cells))
filled_step h n upto cells true e may held = record { may_come = may; undone = refl; one = refl; held = one_free n }
filled_step h n upto cells false e may held = record { may_come = may; undone = e; one = tt; held = held }

open-filled : (h : History) (n upto : ℕ) (cells : List Cell) → MayFollow (marks h) (Publish 0 upto) → All (IsHeldBelow n) cells → IsOpen h n (filled upto cells)
open-filled h n upto cells may held = filled_step h n upto cells (list_all is_done cells) refl may held

open-freed : (h : History) (n by : ℕ) (job : JobName) (b : Build) → job.upto ≡ b.upto → job.kind ≡ b.phase → job.number < length b.cells → IsOpen h n b → IsOpen h n (freed job b.cells)
open-freed h n by job b upto kind lt o =
    record {
      may_come = subst (λ (u : ℕ). MayFollow (marks h) (Publish 0 u)) (sym upto) o.may_come;
      undone = undone-set b.cells job.number Free lt refl;
      one = subst (λ (k : Kind). IsOneJob k (set b.cells job.number Free)) (sym kind) (one-set b.phase b.cells job.number Free o.one);
      held = All-set (IsHeldBelow n) b.cells job.number Free tt o.held;
    }

-- ---- the steps

pub enrols-sound : (old new : State) (answer : Result ℕ CallersSpent) → IsSound old → Enrols old answer new → IsSound new
enrols-sound old new (Ok number) s st =
    sound-same (record old { callers = old.callers + 1 }) new st.2
    (record {
      legal = s.legal;
      within = s.within;
      given = All-weaker (λ (e : Past). caller e < old.callers) (λ (e : Past). caller e < old.callers + 1) (λ e lt. let below : caller e < old.callers = lt in omega (arith, below)) old.history s.given;
      callers = omega (arith, st.1);
      build = some_weaker (IsOpen old.history old.callers) (IsOpen old.history (old.callers + 1)) old.build (open-more old.history old.callers (old.callers + 1) (omega arith)) s.build;
    })
enrols-sound old new (Err spent) s st = sound-same (noted old Noted.CallersSpent 0 (2 ^ 63) None) new st.1 (sound-noted old Noted.CallersSpent 0 (2 ^ 63) None s)

pub imports-sound : (by : ℕ) (advisory : Advisory) (old new : State) (answer : Result ℕ ImportFault) → by < old.callers → IsSound old → Imports by advisory old answer new → IsSound new
imports-sound by advisory old new (Ok place) lt s st =
    sound-same (with_entry old (Import by advisory)) new st.2
    (sound-entry old (Import by advisory) s (record { published = tt; grown = tt }) st.0 lt
    (some_weaker (IsOpen old.history old.callers) (IsOpen (old.history ++ Import by advisory ∷ []) old.callers) old.build (open-import old.history old.callers by advisory) s.build))
imports-sound by advisory old new (Err (import_faults.JournalFull used limit)) lt s st = sound-same old new st.1 s
imports-sound by advisory old new (Err import_faults.Memory) lt s st = sound-same old new st.1 s

pub grows-sound : (by : ℕ) (key : List ℕ) (version : ℕ) (rows : List CommitRow) (old new : State) (answer : Result ℕ GrowFault)
    → by < old.callers → of_rows.IsLegal rows → IsOfVersion key version rows old.history → IsSound old → Grows by key version rows old answer new → IsSound new
grows-sound by key version rows old new (Ok place) lt l v s st =
    let h : History = old.history in
    let now : IsPrefix (graph h key) rows = version-now key rows h (subst (λ (n : ℕ). IsOfVersion key n rows h) st.0 v) in
    let x : Extends (graph h key) (drop (length (graph h key)) rows) = new_rows (graph h key) rows l now in
    sound-same (with_entry old (grown_by by key rows h)) new st.1.2
    (sound-entry old (grown_by by key rows h) s (record { published = tt; grown = x }) st.1.0 lt
    (some_weaker (IsOpen h old.callers) (IsOpen (h ++ grown_by by key rows h ∷ []) old.callers) old.build (open-grow h old.callers by key (drop (length (graph h key)) rows)) s.build))
grows-sound by key version rows old new (Err (grow_faults.RepoMoved seen now)) lt l v s st = sound-same old new st.3 s
grows-sound by key version rows old new (Err (grow_faults.JournalFull used limit)) lt l v s st = sound-same old new st.2 s
grows-sound by key version rows old new (Err grow_faults.Memory) lt l v s st = sound-same old new st.2 s

goes-sound : {J : Type 0} (name : J → JobName) (is_job : J → List Past → List Past → Type 0) (by : ℕ) (old : State) (b : Build) (job : J) (new : State)
    → by < old.callers → IsSound old → IsOpen old.history old.callers b → GoesOut name is_job by old b job new → IsSound new
goes-sound name is_job by old b job new lt s o g =
    sound-same (with_build old (Some (moved b (name job).number (OutTo by)))) new g.left
    (sound-build old (Some (moved b (name job).number (OutTo by))) s (open-moved old.history old.callers by b (name job).number o g.free lt))

open-for : (old : State) (goal : ℕ) (build : Option Build) → IsLegal old.history → published old.history < goal → goal ≤ length (imports old.history) → IfSome build (IsOpen old.history old.callers) → IsOpen old.history old.callers (build_for old build)
open-for old goal None l lt le o = open-all old.history old.callers goal l lt le
open-for old goal (Some b) l lt le o = o

pub pulls-sound : {J : Type 0} (name : J → JobName) (is_job : J → List Past → List Past → Type 0) (by goal : ℕ) (old new : State) (answer : Result (Pulled J) Memory)
    → by < old.callers → goal ≤ length (imports old.history) → IsSound old → Pulls name is_job by goal old answer new → IsSound new
pulls-sound name is_job by goal old new (Ok (pulled.Reached snapshot upto)) lt le s st = sound-same old new st.3 s
pulls-sound name is_job by goal old new (Ok (pulled.Job job)) lt le s st =
    goes-sound name is_job by old (build_for old old.build) job new lt s (open-for old goal old.build s.legal st.0 le s.build) st.1
pulls-sound name is_job by goal old new (Ok (pulled.Out out)) lt le s st = sound-same (noted old Noted.Out by out None) new st.3 (sound-noted old Noted.Out by out None s)
pulls-sound name is_job by goal old new (Err memory) lt le s st = sound-same old new st s

takes_step : {J : Type 0} (name : J → JobName) (is_job : J → List Past → List Past → Type 0) (by : ℕ) (old new : State) (job : J) (build : Option Build)
    → by < old.callers → IsSound old → IfSome build (IsOpen old.history old.callers) → IsSomeAnd build (λ b. GoesOut name is_job by old b job new) → IsSound new
takes_step name is_job by old new job None lt s o g = absurd g
takes_step name is_job by old new job (Some b) lt s o g = goes-sound name is_job by old b job new lt s o g

pub takes-sound : {J : Type 0} (name : J → JobName) (is_job : J → List Past → List Past → Type 0) (by : ℕ) (old new : State) (answer : Result (Taken J) Memory)
    → by < old.callers → IsSound old → Takes name is_job by old answer new → IsSound new
takes-sound name is_job by old new (Ok (taken.Job job)) lt s st = takes_step name is_job by old new job old.build lt s s.build st
takes-sound name is_job by old new (Ok (taken.Nothing out)) lt s st = sound-same (noted old Noted.Nothing by out None) new st.2 (sound-noted old Noted.Nothing by out None s)
takes-sound name is_job by old new (Err memory) lt s st = sound-same old new st s

strange-sound : (by : ℕ) (job : JobName) (old new : State) (e : Strange) → IsSound old → IsStrange by job old e new → IsSound new
strange-sound by job old new e s st = sound-same (noted old Noted.Strange by job.build (owner old job)) new st.3 (sound-noted old Noted.Strange by job.build (owner old job) s)

open-owned : (old : State) (job : JobName) (by : ℕ) → IsSound old → (w : Owned old.build (newest old.history + 1) job by) → IsOpen old.history old.callers w.b
open-owned old job by s w = some_of (IsOpen old.history old.callers) old.build w.b w.there s.build

goes_on_step : (k : Kind) (by : ℕ) (done : Outcome) (old new : State) → list_any is_out done.cells ≡ false → IsSound old → Owned old.build (newest old.history + 1) done.job by → GoesOn k done old new → IsSound new
goes_on_step Plan by done old new free s w g =
    let o = open-owned old done.job by s w in
    let may : MayFollow (marks old.history) (Publish 0 done.job.upto) = subst (λ (u : ℕ). MayFollow (marks old.history) (Publish 0 u)) (sym w.upto) o.may_come in
    sound-same (with_build old (Some (filled done.job.upto done.cells))) new g
    (sound-build old (Some (filled done.job.upto done.cells)) s (open-filled old.history old.callers done.job.upto done.cells may (none_out old.callers done.cells free)))
goes_on_step Piece by done old new free s w g =
    let o = open-owned old done.job by s w in
    let may : MayFollow (marks old.history) (Publish 0 done.job.upto) = subst (λ (u : ℕ). MayFollow (marks old.history) (Publish 0 u)) (sym w.upto) o.may_come in
    let cells : cells_in old.build ≡ w.b.cells = ap cells_in w.there in
    let held : All (IsHeldBelow old.callers) (set (cells_in old.build) done.job.number Done) =
    subst (λ (cs : List Cell). All (IsHeldBelow old.callers) (set cs done.job.number Done)) (sym cells) (All-set (IsHeldBelow old.callers) w.b.cells done.job.number Done tt o.held) in
    sound-same (with_build old (Some (filled done.job.upto (set (cells_in old.build) done.job.number Done)))) new g
    (sound-build old (Some (filled done.job.upto (set (cells_in old.build) done.job.number Done))) s
    (open-filled old.history old.callers done.job.upto (set (cells_in old.build) done.job.number Done) may held))
goes_on_step Assemble by done old new free s w g = absurd g

publishes_step : (k : Kind) (by : ℕ) (done : Outcome) (old new : State) (entry snapshot : ℕ) → by < old.callers → IsSound old → Owned old.build (newest old.history + 1) done.job by → Publishes k by done old entry snapshot new → IsSound new
publishes_step Plan by done old new entry snapshot lt s w p = absurd p
publishes_step Piece by done old new entry snapshot lt s w p = absurd p
publishes_step Assemble by done old new entry snapshot lt s w p =
    let o = open-owned old done.job by s w in
    let e : Past = Publish by done.job.upto in
    let may : MayFollow (marks old.history) (Publish 0 done.job.upto) = subst (λ (u : ℕ). MayFollow (marks old.history) (Publish 0 u)) (sym w.upto) o.may_come in
    let room : HasRoom old (Publish by done.job.upto) = (let within : weight old.history ≤ old.settings.weight = s.within in omega (arith, within)) in
    let closed : IsSound (with_build old None) = sound-build old None s tt in
    sound-same (with_build (with_entry old (Publish by done.job.upto)) None) new p.2
    (sound-entry (with_build old None) (Publish by done.job.upto) closed (record { published = may; grown = tt }) room lt tt)

pub finishes-sound : (by : ℕ) (done : Outcome) (old new : State) (answer : Result Progress Strange)
    → by < old.callers → list_any is_out done.cells ≡ false → IsSound old → Finishes by done old answer new → IsSound new
finishes-sound by done old new (Ok progress.Going) lt free s st =
    goes_on_step done.job.kind by done old new free s (owned old.build (newest old.history + 1) done.job by st.0) st.1
finishes-sound by done old new (Ok (progress.Published entry snapshot)) lt free s st =
    publishes_step done.job.kind by done old new entry snapshot lt s (owned old.build (newest old.history + 1) done.job by st.0) st.1
finishes-sound by done old new (Err e) lt free s st = strange-sound by done.job old new e s st

pub gives_back-sound : {U : Type 0} (by : ℕ) (job : JobName) (old new : State) (answer : Result U Strange) → IsSound old → GivesBack by job old answer new → IsSound new
gives_back-sound by job old new (Ok done) s st =
    let w = owned old.build (newest old.history + 1) job by st.0 in
    let lt : job.number < length w.b.cells = held_at w.b.cells job.number by w.cell in
    let cells : cells_in old.build ≡ w.b.cells = ap cells_in w.there in
    let o = open-freed old.history old.callers by job w.b w.upto w.kind lt (open-owned old job by s w) in
    sound-same (with_build old (Some (freed job (cells_in old.build)))) new st.1
    (sound-build old (Some (freed job (cells_in old.build))) s (subst (λ (cs : List Cell). IsOpen old.history old.callers (freed job cs)) (sym cells) o))
gives_back-sound by job old new (Err e) s st = strange-sound by job old new e s st
