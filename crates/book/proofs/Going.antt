-- What calls leave of the build that is open.
use Rattle.std.proofs.Common.{◌≡◌, ℕ, ◌+◌, ◌-◌, ◌<◌, false, List, [], map, take, set, Global, refl, sym, ap, subst, ◌∙◌}
use Rattle.std.specs.Prelude.{Option, Some, None, Result, Ok, Err, MatchOption, slice_get}
use Rattle.std.specs.List.{list_any}
use Rattle.std.specs.Arc.{arc_value}
use Rattle.std.specs.declared.sync.Arc.{Arc}
use Rattle.osv_prim.specs.declared.memory.Memory.{Memory}
use Rattle.settings.specs.declared.Settings.{Settings}
use Rattle.turn_lock.specs.declared.note.Note.{Note}
use Rattle.history.specs.Entries.{History, imports, newest, snap}
use Rattle.history.specs.Pieces.{git_ranges_in}
use Rattle.impact_set.specs.Standing.{Known}
use Rattle.piece_work.specs.Sets.{IsSetOf}
use Rattle.impact_job.specs.declared.tables.Plan as plans
use Rattle.impact_job.specs.Tables.{IsPlanOf, plan_upto}
use Rattle.book_model.specs.declared.answers.Taken.TheVariants as taken
use Rattle.book_model.specs.declared.answers.Progress.TheVariants as progress
use Rattle.book_model.specs.State.{Plan, Piece, Cell, Done, Build, State, is_out, filled, cells_in, with_build}
use Rattle.book_model.specs.Jobs.{StandsIn, owner}
use Rattle.book_model.specs.Steps.{GoesOut, freed}
use Rattle.book_model.proofs.Sound.{takes-sound, finishes-sound, gives_back-sound}
use Rattle.snapshot.specs.declared.snapshot.Snapshot.{Snapshot}
use Rattle.snapshot.specs.declared.job.Job.{Job}
use Rattle.snapshot.specs.declared.job.Place.{Place}
use Rattle.snapshot.specs.Snapshots.{StandsFor}
use Rattle.snapshot.specs.Jobs.{only, piece, name, cell_of, planned_place, IsJob}
use Rattle.book.specs.declared.build.Open.{Open}
use Rattle.book.specs.declared.build.Part.{Part}
use Rattle.book.specs.declared.build.Stage.{Stage}
use Rattle.book.specs.declared.build.Stage.TheVariants as stages
use Rattle.book.specs.declared.ledger.Counts.{Counts}
use Rattle.book.specs.Builds.{number_of, name_of, phase_of, stage_cells, open_build, IsStageOf, IsUnderWay}
use Rattle.book.specs.Books.{state_of, IsBook}
use Rattle.book.specs.Handing.{HandsOutOf, HandsOut, IsFreed, IsStageFor, IsFilledBy}
use Rattle.book.proofs.Placing.{planned-pieces}
use Rattle.book.proofs.Handing.{stands-on, way-stays, goes_out, out-of, freed-is}
use Rattle.book.proofs.Books.{book-build, next-way}

-- pieces have no owner beside their places
pub piece-cells : (stage : Stage) (owner : Option ℕ) → Piece ≡ phase_of stage → stage_cells stage owner ≡ stage_cells stage None
piece-cells (stages.Plan prefix) owner e = absurd cc
piece-cells (stages.Pieces x) owner e = refl
piece-cells (stages.Assemble x) owner e = absurd cc

module _ {settings : Settings} {h : History} {callers : ℕ} {note : Note} {counts : Counts} {kept : List Snapshot} where
  -- a job went out, or none is free, or memory was wanting
  pub handed : (o n : Open) (base : Snapshot) (by : ℕ) (r : Result (Option Job) Memory) → by < callers → StandsFor base (snap h (newest h)) → HandsOutOf base (counts.newest + 1) by o r n → IsBook settings h callers (Some o) note counts kept
      → HandsOut by (state_of settings h callers (Some o) note) r (state_of settings h callers (Some n) note) × IsBook settings h callers (Some n) note counts kept
  handed o n base by (Ok None) lt st g b =
      ((g.0, ap (λ (x : Open). state_of settings h callers (Some x) note) g.1), subst (λ (x : Open). IsBook settings h callers (Some x) note counts kept) (sym g.1) b)
  handed o n base by (Ok (Some job)) lt st g b =
      let way : IsUnderWay (counts.newest + 1) h o.upto o.place o.stage = b.underway in
      let goes : GoesOut name IsJob by (state_of settings h callers (Some o) note) (open_build o) job (state_of settings h callers (Some n) note) =
      goes_out base by (counts.newest + 1) (state_of settings h callers (Some o) note) (state_of settings h callers (Some n) note) o n job (ap (λ (x : ℕ). x + 1) b.newest_is) st g way refl in (
        goes,
        book-build settings h callers (Some o) (Some n) note counts kept
            (takes-sound name IsJob by (state_of settings h callers (Some o) note) (state_of settings h callers (Some n) note) (Ok (taken.Job job)) lt b.sound goes) (way-stays (counts.newest + 1) h o n g.stays way) b,
      )
  handed o n base by (Err memory) lt st g b = (ap (λ (x : Open). state_of settings h callers (Some x) note) g, subst (λ (x : Open). IsBook settings h callers (Some x) note counts kept) (sym g) b)

  -- the plan was handed in
  planned : (o : Open) (by next upto : ℕ) (plan : Arc plans.Plan Global) (ps : List Place) (stage : Stage) → by < callers → owner (state_of settings h callers (Some o) note) (only next upto Plan) ≡ Some by → plan_upto (arc_value plan) ≡ upto
      → StandsIn (λ b p. IsPlanOf (arc_value plan) b p × (ps ≡ map planned_place (arc_value plan).todo.items)) next upto h → list_any is_out (map cell_of ps) ≡ false
      → IsStageFor (record { plan = arc_value plan; places = ps }) stage → IsBook settings h callers (Some o) note counts kept
      → (state_of settings h callers (Some (record { upto = upto; place = o.place; stage = stage; owner = None })) note ≡ with_build (state_of settings h callers (Some o) note) (Some (filled upto (map cell_of ps))))
      × IsBook settings h callers (Some (record { upto = upto; place = o.place; stage = stage; owner = None })) note counts kept
  planned o by next upto plan ps stage lt out named st free is b =
      let old : State = state_of settings h callers (Some o) note in
      let new : State = state_of settings h callers (Some (record { upto = upto; place = o.place; stage = stage; owner = None })) note in
      let left : state_of settings h callers (Some (record { upto = upto; place = o.place; stage = stage; owner = None })) note ≡ with_build (state_of settings h callers (Some o) note) (Some (filled upto (map cell_of ps))) =
      ap (λ (x : Build). with_build (state_of settings h callers (Some o) note) (Some x)) (is.build upto) in
      let holds : StandsIn (IsStageOf stage) next upto h =
      stands-on (λ b p. IsPlanOf (arc_value plan) b p × (ps ≡ map planned_place (arc_value plan).todo.items)) (IsStageOf stage) next upto h
      (λ d. is.is (snap h (next - 1)) (take upto (imports h)) (planned-pieces (arc_value plan) ps (snap h (next - 1)) (take upto (imports h)) d.0 d.1)) st in (
        left,
        book-build settings h callers (Some o) (Some (record { upto = upto; place = o.place; stage = stage; owner = None })) note counts kept
            (finishes-sound by (record { job = only next upto Plan; cells = map cell_of ps }) old new (Ok progress.Going) lt free b.sound (out, left))
            (next-way settings h callers o note counts kept by (only next upto Plan) stage (out-of o (newest h + 1) (only next upto Plan) by out) holds (is.named ∙ named) b) b,
      )

  -- a piece was handed in
  put : (o : Open) (by next upto number : ℕ) (known : Known) (stage : Stage) → by < callers → owner (state_of settings h callers (Some o) note) (piece next upto number) ≡ Some by
      → StandsIn (λ b p. MatchOption (slice_get (git_ranges_in p) number) ⊥ (λ x. IsSetOf p x known)) next upto h
      → IsFilledBy number known o.stage stage → IsBook settings h callers (Some o) note counts kept
      → (state_of settings h callers (Some (record { upto = o.upto; place = o.place; stage = stage; owner = None })) note ≡ with_build (state_of settings h callers (Some o) note) (Some (filled upto (set (open_build o).cells number Done))))
      × IsBook settings h callers (Some (record { upto = o.upto; place = o.place; stage = stage; owner = None })) note counts kept
  put o by next upto number known stage lt out st is b =
      let old : State = state_of settings h callers (Some o) note in
      let new : State = state_of settings h callers (Some (record { upto = o.upto; place = o.place; stage = stage; owner = None })) note in
      let w = out-of o (newest h + 1) (piece next upto number) by out in
      let way : IsUnderWay (counts.newest + 1) h o.upto o.place o.stage = b.underway in
      let cells : stage_cells o.stage None ≡ (open_build o).cells = sym (piece-cells o.stage o.owner w.kind) in
      let same : filled o.upto (set (stage_cells o.stage None) number Done) ≡ filled upto (set (open_build o).cells number Done) =
      ap (λ (cs : List Cell). filled o.upto (set cs number Done)) cells ∙ ap (λ (u : ℕ). filled u (set (open_build o).cells number Done)) (sym w.upto) in
      let left : state_of settings h callers (Some (record { upto = o.upto; place = o.place; stage = stage; owner = None })) note ≡ with_build (state_of settings h callers (Some o) note) (Some (filled upto (set (open_build o).cells number Done))) =
      ap (λ (x : Build). with_build (state_of settings h callers (Some o) note) (Some x)) (is.build o.upto ∙ same) in
      let made : StandsIn (λ b p. MatchOption (slice_get (git_ranges_in p) number) ⊥ (λ x. IsSetOf p x known)) (counts.newest + 1) o.upto h =
      subst (λ (n : ℕ). StandsIn (λ b p. MatchOption (slice_get (git_ranges_in p) number) ⊥ (λ x. IsSetOf p x known)) n o.upto h) (w.build ∙ ap (λ (n : ℕ). n + 1) (sym b.newest_is))
      (subst (λ (u : ℕ). StandsIn (λ b p. MatchOption (slice_get (git_ranges_in p) number) ⊥ (λ x. IsSetOf p x known)) next u h) w.upto st) in (
        left,
        book-build settings h callers (Some o) (Some (record { upto = o.upto; place = o.place; stage = stage; owner = None })) note counts kept
            (finishes-sound by (record { job = piece next upto number; cells = [] }) old new (Ok progress.Going) lt refl b.sound (out, left))
            (record {
              holds = record { within = way.holds.within; stands = is.is (snap h (counts.newest + 1 - 1)) (take o.upto (imports h)) way.holds.stands made.stands };
              named = is.named ∙ way.named;
              within = way.within;
              reached = way.reached;
            }) b,
      )

  -- a job was handed back
  freed-book : (o n : Open) (by next upto : ℕ) (part : Part) → owner (state_of settings h callers (Some o) note) (name_of next upto part) ≡ Some by → IsFreed (number_of part) o n → IsBook settings h callers (Some o) note counts kept
      → (state_of settings h callers (Some n) note ≡ with_build (state_of settings h callers (Some o) note) (Some (freed (name_of next upto part) (open_build o).cells))) × IsBook settings h callers (Some n) note counts kept
  freed-book o n by next upto part out f b =
      let old : State = state_of settings h callers (Some o) note in
      let new : State = state_of settings h callers (Some n) note in
      let w = out-of o (newest h + 1) (name_of next upto part) by out in
      let left : state_of settings h callers (Some n) note ≡ with_build (state_of settings h callers (Some o) note) (Some (freed (name_of next upto part) (open_build o).cells)) =
      ap (λ (x : Build). with_build (state_of settings h callers (Some o) note) (Some x)) (freed-is o n (name_of next upto part) w.upto w.kind f) in
      let back : (u : Unit {0}) → IsBook settings h callers (Some n) note counts kept =
      (λ u.
      book-build settings h callers (Some o) (Some n) note counts kept (gives_back-sound by (name_of next upto part) old new (Ok u) b.sound (out, left))
      (way-stays (counts.newest + 1) h o n f.stays b.underway) b) in
      (left, back tt)

-- ---- as the code has them

seen_build : {settings : Settings} {h : History} {callers : ℕ} {note : Note} (build : Option Open) (o : Open) (s : State) → state_of settings h callers build note ≡ s → build ≡ Some o
    → (P : State → Option Open → Type 0) → P (state_of settings h callers (Some o) note) (Some o) → P s build
seen_build {settings = settings} {h = h} {callers = callers} {note = note} build o s view there P p =
    subst (λ (x : State). P x build) view (subst (λ (q : Option Open). P (state_of settings h callers q note) q) (sym there) p)

module _ {settings : Settings} {h : History} {callers : ℕ} {build : Option Open} {note : Note} {counts : Counts} {kept : List Snapshot} where
  pub handed_book : (s : State) (o n : Open) (base : Snapshot) (by : ℕ) (r : Result (Option Job) Memory) → state_of settings h callers build note ≡ s → build ≡ Some o → by < s.callers → StandsFor base (snap s.history (newest s.history))
      → HandsOutOf base (counts.newest + 1) by o r n → IsBook settings h callers build note counts kept
      → HandsOut by s r (state_of settings h callers (Some n) note) × IsBook settings h callers (Some n) note counts kept
  handed_book s o n base by r view there lt st g b =
      seen_build build o s view there
      (λ (x : State) (q : Option Open). by < x.callers → StandsFor base (snap x.history (newest x.history)) → IsBook settings h callers q note counts kept → HandsOut by x r (state_of settings h callers (Some n) note) × IsBook settings h callers (Some n) note counts kept)
      (λ lt st b. handed o n base by r lt st g b) lt st b

  pub planned_book : (s : State) (o : Open) (by next upto : ℕ) (plan : Arc plans.Plan Global) (ps : List Place) (stage : Stage) → state_of settings h callers build note ≡ s → build ≡ Some o → by < s.callers → owner s (only next upto Plan) ≡ Some by → plan_upto (arc_value plan) ≡ upto
      → StandsIn (λ b p. IsPlanOf (arc_value plan) b p × (ps ≡ map planned_place (arc_value plan).todo.items)) next (plan_upto (arc_value plan)) s.history → list_any is_out (map cell_of ps) ≡ false
      → IsStageFor (record { plan = arc_value plan; places = ps }) stage → IsBook settings h callers build note counts kept
      → (state_of settings h callers (Some (record { upto = upto; place = o.place; stage = stage; owner = None })) note ≡ with_build s (Some (filled upto (map cell_of ps))))
      × IsBook settings h callers (Some (record { upto = upto; place = o.place; stage = stage; owner = None })) note counts kept
  planned_book s o by next upto plan ps stage view there lt out named st free is b =
      seen_build build o s view there
      (λ (x : State) (q : Option Open). by < x.callers → owner x (only next upto Plan) ≡ Some by → StandsIn (λ b p. IsPlanOf (arc_value plan) b p × (ps ≡ map planned_place (arc_value plan).todo.items)) next upto x.history → IsBook settings h callers q note counts kept
      → (state_of settings h callers (Some (record { upto = upto; place = o.place; stage = stage; owner = None })) note ≡ with_build x (Some (filled upto (map cell_of ps))))
      × IsBook settings h callers (Some (record { upto = upto; place = o.place; stage = stage; owner = None })) note counts kept)
      (λ lt out st b. planned o by next upto plan ps stage lt out named st free is b) lt out
      (subst (λ (u : ℕ). StandsIn (λ b p. IsPlanOf (arc_value plan) b p × (ps ≡ map planned_place (arc_value plan).todo.items)) next u s.history) named st) b

  pub put_book : (s : State) (o : Open) (by next upto number : ℕ) (known : Known) (stage : Stage) → state_of settings h callers build note ≡ s → build ≡ Some o → by < s.callers → owner s (piece next upto number) ≡ Some by
      → StandsIn (λ b p. MatchOption (slice_get (git_ranges_in p) number) ⊥ (λ x. IsSetOf p x known)) next upto s.history
      → IsFilledBy number known o.stage stage → IsBook settings h callers build note counts kept
      → (state_of settings h callers (Some (record { upto = o.upto; place = o.place; stage = stage; owner = None })) note ≡ with_build s (Some (filled upto (set (cells_in s.build) number Done))))
      × IsBook settings h callers (Some (record { upto = o.upto; place = o.place; stage = stage; owner = None })) note counts kept
  put_book s o by next upto number known stage view there lt out st is b =
      seen_build build o s view there
      (λ (x : State) (q : Option Open). by < x.callers → owner x (piece next upto number) ≡ Some by → StandsIn (λ b p. MatchOption (slice_get (git_ranges_in p) number) ⊥ (λ x. IsSetOf p x known)) next upto x.history → IsBook settings h callers q note counts kept
      → (state_of settings h callers (Some (record { upto = o.upto; place = o.place; stage = stage; owner = None })) note ≡ with_build x (Some (filled upto (set (cells_in x.build) number Done))))
      × IsBook settings h callers (Some (record { upto = o.upto; place = o.place; stage = stage; owner = None })) note counts kept)
      (λ lt out st b. put o by next upto number known stage lt out st is b) lt out st b

  pub freed_book : (s : State) (o n : Open) (by next upto : ℕ) (part : Part) → state_of settings h callers build note ≡ s → build ≡ Some o → owner s (name_of next upto part) ≡ Some by → IsFreed (number_of part) o n → IsBook settings h callers build note counts kept
      → (state_of settings h callers (Some n) note ≡ with_build s (Some (freed (name_of next upto part) (cells_in s.build)))) × IsBook settings h callers (Some n) note counts kept
  freed_book s o n by next upto part view there out f b =
      seen_build build o s view there
      (λ (x : State) (q : Option Open). owner x (name_of next upto part) ≡ Some by → IsBook settings h callers q note counts kept
      → (state_of settings h callers (Some n) note ≡ with_build x (Some (freed (name_of next upto part) (cells_in x.build)))) × IsBook settings h callers (Some n) note counts kept)
      (λ out b. freed-book o n by next upto part out f b) out b
