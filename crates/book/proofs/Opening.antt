-- A build that is opened, and one that is published.
use Rattle.std.proofs.Common.{◌≡◌, ℕ, ◌+◌, ◌-◌, ◌<◌, ◌≤◌, Bool, true, false, cond, List, [], ◌∷◌, ◌++◌, length, map, take, drop, get_or, Global, ltb-true, ltb-false, refl, sym, ap, subst, ◌∙◌, append_assoc, arith, length-append}
use Rattle.std.specs.Prelude.{Option, Some, None, Ok, nat_lt, IsNone, IfSome}
use Rattle.std.specs.Arc.{arc_value}
use Rattle.std.specs.declared.sync.Arc.{Arc}
use Rattle.std.proofs.Math.Seq.{take-length}
use Rattle.osv_prim.specs.declared.oid.CommitRow.{CommitRow}
use Rattle.osv_prim.specs.Graphs as of_rows
use Rattle.osv_record.specs.Advisories.{Advisory}
use Rattle.std.proofs.lemmas.List.{map-append, length-map, drop-map, take-map, length-drop, take-append-drop}
use Rattle.std.proofs.lemmas.Grind.{take_at_read}
use Rattle.settings.specs.declared.Settings.{Settings}
use Rattle.turn_lock.specs.declared.note.Note.{Note}
use Rattle.history.specs.declared.past.Past.{Past}
use Rattle.history.specs.declared.past.Past.TheVariants.{Import, Publish}
use Rattle.history.specs.Entries.{History, imports, newest, snap, weight, entry_weight, oldest_kept}
use Rattle.commit_graph.specs.Linked.{weight_of}
use Rattle.history.specs.Prefixes.{grows, graph}
use Rattle.history.specs.Conditions.{IsOfVersion}
use Rattle.book_model.specs.declared.answers.Kept.{Kept}
use Rattle.book_model.specs.declared.answers.Pulled.TheVariants as pulled
use Rattle.book_model.specs.State.{Plan, Assemble, OutTo, State, published, opened, moved, with_entry, with_build}
use Rattle.book_model.specs.Jobs.{StandsIn, owner}
use Rattle.book_model.specs.Steps.{HasRoom, IsFull, grown_by, GoesOut, Finds, FindsEach}
use Rattle.book_model.specs.Sound.{IsSound}
use Rattle.book_model.proofs.Sound.{imports-sound, grows-sound, pulls-sound}
use Rattle.snapshot.specs.declared.snapshot.Snapshot.{Snapshot}
use Rattle.snapshot.specs.declared.job.Job.{Job}
use Rattle.impact_job.specs.declared.prefix.Prefix.{Prefix}
use Rattle.impact_job.specs.Tables.{IsPrefixOf}
use Rattle.snapshot.specs.Snapshots.{StandsFor}
use Rattle.snapshot.specs.Jobs.{name, IsJob, only}
use Rattle.book.specs.declared.entry.Entry.{Entry}
use Rattle.book.specs.declared.build.Open.{Open}
use Rattle.book.specs.declared.build.Stage.TheVariants as stages
use Rattle.book.specs.declared.ledger.Counts.{Counts}
use Rattle.book.specs.Entries.{past, history_of, AreWhole}
use Rattle.book.specs.declared.entry.Entry.TheVariants as entries
use Rattle.book.specs.Builds.{build_of, IsUnderWay}
use Rattle.book.specs.Handing.{IsJobOf}
use Rattle.book.specs.Books.{state_of, values_of, trimmed, AreKept, IsBook}
use Rattle.book.proofs.Handing.{opens}
use Rattle.book.proofs.Keeping.{IsImport, import-is, grow-is, newest-publish, first_imports, kept-rest}
use Rattle.book.proofs.Growing.{whole-drop}
use Rattle.book.proofs.Repositories.{grow-exact}
use Rattle.book.proofs.Books.{book-build, book-entered, book-published, kept-published, opened-way}

-- ---- lists that are gone through

-- one entry more
pub later_step : (h : History) (es : List Entry) (i : ℕ) (d : Entry) → i < length es → (h ++ history_of (take i es)) ++ past (get_or es i d) ∷ [] ≡ h ++ history_of (take (i + 1) es)
later_step h es i d lt =
    let front : take (i + 1) es ≡ take i es ++ get_or es i d ∷ [] = (take_at_read es i d lt).1 in
    append_assoc h (history_of (take i es)) (past (get_or es i d) ∷ [])
    ∙ ap (λ (x : History). h ++ x) (sym (map-append past (take i es) (get_or es i d ∷ [])) ∙ ap (λ (xs : List Entry). map past xs) (sym front))

pub finds_push : {S : Type 0} (st : S → List Past → Type 0) (s : State) (ns : List ℕ) (fs : List (Kept S)) (n : ℕ) (f : Kept S) → FindsEach st s ns fs → Finds st s n f → FindsEach st s (ns ++ n ∷ []) (fs ++ f ∷ [])
finds_push st s [] [] n f h g = (g, tt)
finds_push st s [] (x ∷ fs) n f h g = absurd h
finds_push st s (k ∷ ns) [] n f h g = absurd h
finds_push st s (k ∷ ns) (x ∷ fs) n f h g = (h.0, finds_push st s ns fs n f h.1 g)

pub finds_step : {S : Type 0} (st : S → List Past → Type 0) (s : State) (ns : List ℕ) (i : ℕ) (fs : List (Kept S)) (f : Kept S) → i < length ns → FindsEach st s (take i ns) fs → Finds st s (get_or ns i 0) f → FindsEach st s (take (i + 1) ns) (fs ++ f ∷ [])
finds_step {S = S} st s ns i fs f lt h g =
    let front : take (i + 1) ns ≡ take i ns ++ get_or ns i 0 ∷ [] = (take_at_read ns i 0 lt).1 in
    subst (λ (xs : List ℕ). FindsEach st s xs (fs ++ f ∷ [])) (sym front) (finds_push st s (take i ns) fs (get_or ns i 0) f h g)

-- ---- a build that is opened

module _ {settings : Settings} {h : History} {callers : ℕ} {note : Note} {counts : Counts} {kept : List Snapshot} where
  pub opening : (by place : ℕ) (prefix : Arc Prefix Global) (job : Job) → by < callers → published h < length (imports h) → place ≡ length h → IsJobOf (counts.newest + 1) (arc_value prefix).upto Plan 0 (IsPrefixOf (arc_value prefix)) job
      → IsPrefixOf (arc_value prefix) (snap h (newest h)) (imports h) → IsBook settings h callers None note counts kept
      → (GoesOut name IsJob by (state_of settings h callers None note) (opened (length (imports h))) job (state_of settings h callers (Some (record { upto = counts.imports; place = place; stage = stages.Plan prefix; owner = Some by })) note))
      × IsBook settings h callers (Some (record { upto = counts.imports; place = place; stage = stages.Plan prefix; owner = Some by })) note counts kept
  opening by place prefix job lt more end j is b =
      let old : State = state_of settings h callers None note in
      let new : State = state_of settings h callers (Some (record { upto = counts.imports; place = place; stage = stages.Plan prefix; owner = Some by })) note in
      let stands : StandsIn (IsPrefixOf (arc_value prefix)) (counts.newest + 1) counts.imports h = opened-way settings h callers None note counts kept (arc_value prefix) more is b in
      let upto : (arc_value prefix).upto ≡ length (imports h) = is.upto in
      let way : IsUnderWay (counts.newest + 1) h counts.imports place (stages.Plan prefix) =
      record {
        holds = record { within = stands.within; stands = stands.stands };
        named = upto ∙ sym b.imported;
        within = omega (arith, end);
        reached = ap (λ (k : ℕ). length (imports (take k h))) end ∙ ap (λ (x : History). length (imports x)) (take-length h) ∙ sym b.imported;
      } in
      let goes : GoesOut name IsJob by (state_of settings h callers None note) (opened (length (imports h))) job (state_of settings h callers (Some (record { upto = counts.imports; place = place; stage = stages.Plan prefix; owner = Some by })) note) =
      opens (arc_value prefix) by (counts.newest + 1) old new job (ap (λ (n : ℕ). n + 1) b.newest_is) j upto
      (subst (λ (u : ℕ). StandsIn (IsPrefixOf (arc_value prefix)) (counts.newest + 1) u h) b.imported stands)
      (ap (λ (u : ℕ). with_build (state_of settings h callers None note) (Some (moved (opened u) 0 (OutTo by)))) b.imported) in (
        goes,
        book-build settings h callers None (Some (record { upto = counts.imports; place = place; stage = stages.Plan prefix; owner = Some by })) note counts kept
            (pulls-sound name IsJob by (length (imports h)) old new (Ok (pulled.Job job)) lt (omega arith) b.sound (more, goes)) way b,
      )

  -- ---- a build that is published

  trimmed_step : (t : Bool) (keep : ℕ) (x : Snapshot) (by upto : ℕ) → nat_lt keep (length (kept ++ x ∷ [])) ≡ t → (build : Option Open) → IsBook settings h callers build note counts kept → settings.keep ≡ keep → StandsFor x (take upto (imports h))
      → (length (cond t (drop 1 (kept ++ x ∷ [])) (kept ++ x ∷ [])) + oldest_kept settings.keep (h ++ Publish by upto ∷ []) ≡ counts.newest + 2)
      × AreKept (h ++ Publish by upto ∷ []) (oldest_kept settings.keep (h ++ Publish by upto ∷ [])) (cond t (drop 1 (kept ++ x ∷ [])) (kept ++ x ∷ []))
  trimmed_step true keep x by upto e build b same st =
      let long : length (kept ++ x ∷ []) ≡ length kept + 1 = length-append kept (x ∷ []) in
      let over : keep < length (kept ++ x ∷ []) = ltb-true keep (length (kept ++ x ∷ [])) e in
      let rest : length (drop 1 (kept ++ x ∷ [])) ≡ length (kept ++ x ∷ []) - 1 = length-drop 1 (kept ++ x ∷ []) in
      let news : newest (h ++ Publish by upto ∷ []) ≡ newest h + 1 = newest-publish h by upto in
      let next : oldest_kept settings.keep (h ++ Publish by upto ∷ []) ≡ oldest_kept settings.keep h + 1 = omega (arith, long, over, news, b.kept_count, b.newest_is, same) in (
        omega (arith, rest, long, next, b.kept_count),
        subst (λ (s : ℕ). AreKept (h ++ Publish by upto ∷ []) s (drop 1 (kept ++ x ∷ []))) (sym next)
            (kept-rest (h ++ Publish by upto ∷ []) (oldest_kept settings.keep h) (kept ++ x ∷ []) (kept-published settings h callers build note counts kept by upto x st b)),
      )
  trimmed_step false keep x by upto e build b same st =
      let long : length (kept ++ x ∷ []) ≡ length kept + 1 = length-append kept (x ∷ []) in
      let over : length (kept ++ x ∷ []) ≤ keep = ltb-false keep (length (kept ++ x ∷ [])) e in
      let news : newest (h ++ Publish by upto ∷ []) ≡ newest h + 1 = newest-publish h by upto in
      let next : oldest_kept settings.keep (h ++ Publish by upto ∷ []) ≡ oldest_kept settings.keep h = omega (arith, long, over, news, b.kept_count, b.newest_is, same) in (
        omega (arith, long, next, b.kept_count),
        subst (λ (s : ℕ). AreKept (h ++ Publish by upto ∷ []) s (kept ++ x ∷ [])) (sym next) (kept-published settings h callers build note counts kept by upto x st b),
      )

  pub publishing : (by next upto : ℕ) (o : Open) (x : Snapshot) → by < callers → owner (state_of settings h callers (Some o) note) (only next upto Assemble) ≡ Some by → StandsIn (λ base p. StandsFor x p) next upto h
      → IsBook settings h callers (Some o) note counts kept
      → IsBook settings (h ++ Publish by upto ∷ []) callers None note (record { imports = counts.imports; used = counts.used; newest = counts.newest + 1; published = upto; after = o.place }) (trimmed settings.keep (kept ++ x ∷ []))
  publishing by next upto o x lt out st b =
      let t = trimmed_step (nat_lt settings.keep (length (kept ++ x ∷ []))) settings.keep x by upto refl (Some o) b refl st.stands in
      book-published settings h callers o note counts kept (trimmed settings.keep (kept ++ x ∷ [])) by next upto x lt out st b t.0 t.1

-- ---- as the code has them

pub finds_pushed : {S : Type 0} (st : S → List Past → Type 0) (s : State) (ns : List ℕ) (i : ℕ) (fs now : List (Kept S)) (f : Kept S) → i < length ns → now ≡ fs ++ f ∷ [] → FindsEach st s (take i ns) fs → Finds st s (get_or ns i 0) f → FindsEach st s (take (i + 1) ns) now
finds_pushed {S = S} st s ns i fs now f lt is h g = subst (λ (xs : List (Kept S)). FindsEach st s (take (i + 1) ns) xs) (sym is) (finds_step st s ns i fs f lt h g)

-- the prefix over the newest snapshot and the entries that came since
pub prefix_way : {settings : Settings} {callers : ℕ} {build : Option Open} {note : Note} {counts : Counts} {kept : List Snapshot} (es all : List Entry) (x : Prefix) (base : Snapshot)
    → all ≡ es → IsBook settings (history_of es) callers build note counts kept → AreWhole [] es → StandsFor base (snap (history_of es) (newest (history_of es)))
    → ((h : History) → StandsFor base (imports h) → AreWhole h (take (length all - counts.after) (drop counts.after all)) → IsPrefixOf x (imports h) (imports (h ++ history_of (take (length all - counts.after) (drop counts.after all)))))
    → IsPrefixOf x (snap (history_of es) (newest (history_of es))) (imports (history_of es))
prefix_way {counts = counts} es all x base is b whole st over =
    let h : History = history_of (take counts.after es) in
    let long : length (drop counts.after all) ≡ length all - counts.after = length-drop counts.after all in
    let later : take (length all - counts.after) (drop counts.after all) ≡ drop counts.after es =
    ap (λ (n : ℕ). take n (drop counts.after all)) (sym long) ∙ take-length (drop counts.after all) ∙ ap (λ (xs : List Entry). drop counts.after xs) is in
    let before : snap (history_of es) (newest (history_of es)) ≡ imports (history_of (take counts.after es)) =
    first_imports (history_of es) counts.after (published (history_of es)) (b.reached ∙ b.published_is) ∙ ap imports (take-map past counts.after es) in
    let both : history_of (take counts.after es) ++ history_of (drop counts.after es) ≡ history_of es =
    sym (map-append past (take counts.after es) (drop counts.after es)) ∙ ap (λ (xs : List Entry). map past xs) (take-append-drop counts.after es) in
    let rest : AreWhole (history_of (take counts.after es)) (take (length all - counts.after) (drop counts.after all)) =
    subst (λ (xs : List Entry). AreWhole (history_of (take counts.after es)) xs) (sym later) (whole-drop [] es counts.after whole) in
    let made = over (history_of (take counts.after es)) (subst (λ (p : List Past). StandsFor base p) before st) rest in
    subst (λ (p : List Past). IsPrefixOf x p (imports (history_of es))) (sym before)
    (subst (λ (y : History). IsPrefixOf x (imports (history_of (take counts.after es))) (imports y)) (ap (λ (xs : List Entry). history_of (take counts.after es) ++ history_of xs) later ∙ both) made)

open_step : (settings : Settings) (callers : ℕ) (note : Note) (counts : Counts) (kept : List Snapshot) (es : List Entry) (by place : ℕ) (prefix : Arc Prefix Global) (job : Job)
    → place ≡ length es → IsJobOf (counts.newest + 1) (arc_value prefix).upto Plan 0 (IsPrefixOf (arc_value prefix)) job
    → IsPrefixOf (arc_value prefix) (snap (history_of es) (newest (history_of es))) (imports (history_of es))
    → (build : Option Open) → IsBook settings (history_of es) callers build note counts kept → IsNone (build_of build) → by < callers → published (history_of es) < length (imports (history_of es))
    → GoesOut name IsJob by (state_of settings (history_of es) callers build note) (opened (length (imports (history_of es)))) job (state_of settings (history_of es) callers (Some (record { upto = counts.imports; place = place; stage = stages.Plan prefix; owner = Some by })) note)
    × IsBook settings (history_of es) callers (Some (record { upto = counts.imports; place = place; stage = stages.Plan prefix; owner = Some by })) note counts kept
open_step settings callers note counts kept es by place prefix job end j is None b none lt more =
    opening by place prefix job lt more (end ∙ sym (length-map es past)) j is b
open_step settings callers note counts kept es by place prefix job end j is (Some o) b none lt more = absurd cc

module _ {settings : Settings} {callers : ℕ} {build : Option Open} {note : Note} {counts : Counts} (es : List Entry) where
  pub open_book : {kept : List Snapshot} (s : State) (now : List Entry) (by place : ℕ) (prefix : Arc Prefix Global) (job : Job) → state_of settings (history_of es) callers build note ≡ s → now ≡ es → place ≡ length now
      → IsJobOf (counts.newest + 1) (arc_value prefix).upto Plan 0 (IsPrefixOf (arc_value prefix)) job → IsPrefixOf (arc_value prefix) (snap s.history (newest s.history)) (imports s.history)
      → IsBook settings (history_of es) callers build note counts kept → IsNone s.build → by < s.callers → published s.history < length (imports s.history)
      → GoesOut name IsJob by s (opened (length (imports s.history))) job (state_of settings (history_of now) callers (Some (record { upto = counts.imports; place = place; stage = stages.Plan prefix; owner = Some by })) note)
      × IsBook settings (history_of now) callers (Some (record { upto = counts.imports; place = place; stage = stages.Plan prefix; owner = Some by })) note counts kept
  open_book {kept = kept} s now by place prefix job view same end j made b =
      let is : IsPrefixOf (arc_value prefix) (snap (history_of es) (newest (history_of es))) (imports (history_of es)) =
      subst (λ (x : State). IsPrefixOf (arc_value prefix) (snap x.history (newest x.history)) (imports x.history)) (sym view) made in
      let at : (place ≡ length es) → IsNone (build_of build) → by < callers → published (history_of es) < length (imports (history_of es))
      → GoesOut name IsJob by (state_of settings (history_of es) callers build note) (opened (length (imports (history_of es)))) job (state_of settings (history_of es) callers (Some (record { upto = counts.imports; place = place; stage = stages.Plan prefix; owner = Some by })) note)
      × IsBook settings (history_of es) callers (Some (record { upto = counts.imports; place = place; stage = stages.Plan prefix; owner = Some by })) note counts kept =
      (λ end' none lt more. open_step settings callers note counts kept es by place prefix job end' j is build b none lt more) in
      let seen : IsNone s.build → by < s.callers → published s.history < length (imports s.history)
      → GoesOut name IsJob by s (opened (length (imports s.history))) job (state_of settings (history_of es) callers (Some (record { upto = counts.imports; place = place; stage = stages.Plan prefix; owner = Some by })) note)
      × IsBook settings (history_of es) callers (Some (record { upto = counts.imports; place = place; stage = stages.Plan prefix; owner = Some by })) note counts kept =
      subst (λ (x : State). IsNone x.build → by < x.callers → published x.history < length (imports x.history)
      → GoesOut name IsJob by x (opened (length (imports x.history))) job (state_of settings (history_of es) callers (Some (record { upto = counts.imports; place = place; stage = stages.Plan prefix; owner = Some by })) note)
      × IsBook settings (history_of es) callers (Some (record { upto = counts.imports; place = place; stage = stages.Plan prefix; owner = Some by })) note counts kept) view (at (end ∙ ap (λ (xs : List Entry). length xs) same)) in
      subst (λ (xs : List Entry). IsNone s.build → by < s.callers → published s.history < length (imports s.history)
      → GoesOut name IsJob by s (opened (length (imports s.history))) job (state_of settings (history_of xs) callers (Some (record { upto = counts.imports; place = place; stage = stages.Plan prefix; owner = Some by })) note)
      × IsBook settings (history_of xs) callers (Some (record { upto = counts.imports; place = place; stage = stages.Plan prefix; owner = Some by })) note counts kept) (sym same) seen

  -- ---- an import

  pub import_full : {kept : List Snapshot} (s : State) (e : Past) (w : ℕ) → state_of settings (history_of es) callers build note ≡ s → w ≤ entry_weight e → settings.weight - counts.used < w → IsBook settings (history_of es) callers build note counts kept
      → IsFull s e counts.used settings.weight
  import_full s e w view le over b =
      subst (λ (x : State). IsFull x e counts.used settings.weight) view (let used : counts.used ≡ weight (history_of es) = b.used in (omega (arith, used, le, over), used, refl))

  pub import_room : {kept : List Snapshot} (s : State) (e : Past) (w : ℕ) → state_of settings (history_of es) callers build note ≡ s → w ≡ entry_weight e → w ≤ settings.weight - counts.used → IsBook settings (history_of es) callers build note counts kept
      → HasRoom s e
  import_room s e w view is room b =
      subst (λ (x : State). HasRoom x e) view
      (let used : counts.used ≡ weight (history_of es) = b.used in let within : weight (history_of es) ≤ settings.weight = b.sound.within in omega (arith, used, is, room, within))

  -- the sound state with one import more
  entered_book : {kept : List Snapshot} (now : List Entry) (e : Past) (w : ℕ) → IsImport e → w ≡ entry_weight e → w ≤ settings.weight - counts.used → history_of now ≡ history_of es ++ e ∷ []
      → (HasRoom (state_of settings (history_of es) callers build note) e → IsSound (state_of settings (history_of es ++ e ∷ []) callers build note)) → IsBook settings (history_of es) callers build note counts kept
      → IsBook settings (history_of now) callers build note (record { imports = counts.imports + 1; used = counts.used + w; newest = counts.newest; published = counts.published; after = counts.after }) kept
  entered_book {kept = kept} now e w i is room same sound b =
      subst (λ (x : History). IsBook settings x callers build note (record { imports = counts.imports + 1; used = counts.used + w; newest = counts.newest; published = counts.published; after = counts.after }) kept) (sym same)
      (book-entered settings (history_of es) callers build note counts kept e w i (sound (import_room (state_of settings (history_of es) callers build note) e w refl is room b)) is b)

  pub import_book : {kept : List Snapshot} (s : State) (now : List Entry) (by w : ℕ) (r : Advisory) → state_of settings (history_of es) callers build note ≡ s → w ≡ entry_weight (Import by r) → w ≤ settings.weight - counts.used
      → history_of now ≡ history_of es ++ Import by r ∷ [] → by < s.callers → IsBook settings (history_of es) callers build note counts kept
      → IsBook settings (history_of now) callers build note (record { imports = counts.imports + 1; used = counts.used + w; newest = counts.newest; published = counts.published; after = counts.after }) kept
  import_book s now by w r view is room same lt b =
      let below : by < callers = subst (λ (x : State). by < x.callers) (sym view) lt in
      let old : State = state_of settings (history_of es) callers build note in
      let new : State = state_of settings (history_of es ++ Import by r ∷ []) callers build note in
      entered_book now (Import by r) w (import-is by r) is room same (λ has. imports-sound by r (state_of settings (history_of es) callers build note) (state_of settings (history_of es ++ Import by r ∷ []) callers build note) (Ok (length (history_of es))) below b.sound (has, refl, refl)) b

  -- where a Grow has room, its version is the number of Grows and its weight the one that was found
  pub grow_room : {kept : List Snapshot} (s : State) (by : ℕ) (key : List ℕ) (version n : ℕ) (rows g : List CommitRow) (before w : ℕ) → state_of settings (history_of es) callers build note ≡ s
      → version ≡ n → n ≡ grows s.history key → IsOfVersion key version rows s.history → g ≡ rows → before ≡ weight_of (graph s.history key)
      → (before ≤ 4294967296 → w ≤ 4294967296 → w ≡ 64 + length key + (weight_of g - before)) → w ≤ settings.weight - counts.used → IsBook settings (history_of es) callers build note counts kept
      → (version ≡ grows s.history key) × (w ≡ entry_weight (grown_by by key rows s.history)) × HasRoom s (grown_by by key rows s.history)
  grow_room s by key version n rows g before w view is count of_version same at exact room b =
      let now : version ≡ grows s.history key = is ∙ count in
      let found : before ≤ 4294967296 → w ≤ 4294967296 → w ≡ 64 + length key + (weight_of rows - before) =
      (λ small less. exact small less ∙ ap (λ (x : List CommitRow). 64 + length key + (weight_of x - before)) same) in
      let weighs : w ≡ entry_weight (grown_by by key rows s.history) =
      grow-exact es s.history by key version rows (ap (λ (x : State). x.history) view) (is ∙ count) of_version before w at found room b in
      (now, weighs, import_room s (grown_by by key rows s.history) w view weighs room b)

  pub grow_book : {kept : List Snapshot} (s : State) (now : List Entry) (by : ℕ) (key : List ℕ) (version : ℕ) (rows : List CommitRow) (w : ℕ) → state_of settings (history_of es) callers build note ≡ s
      → version ≡ grows s.history key → IsOfVersion key version rows s.history → of_rows.IsLegal rows → w ≡ entry_weight (grown_by by key rows s.history) → w ≤ settings.weight - counts.used
      → history_of now ≡ history_of es ++ grown_by by key rows s.history ∷ [] → by < s.callers → IsBook settings (history_of es) callers build note counts kept
      → IsBook settings (history_of now) callers build note (record { imports = counts.imports + 1; used = counts.used + w; newest = counts.newest; published = counts.published; after = counts.after }) kept
  grow_book {kept = kept} s now by key version rows w view =
      subst (λ (x : State). version ≡ grows x.history key → IsOfVersion key version rows x.history → of_rows.IsLegal rows → w ≡ entry_weight (grown_by by key rows x.history) → w ≤ settings.weight - counts.used
      → history_of now ≡ history_of es ++ grown_by by key rows x.history ∷ [] → by < x.callers → IsBook settings (history_of es) callers build note counts kept
      → IsBook settings (history_of now) callers build note (record { imports = counts.imports + 1; used = counts.used + w; newest = counts.newest; published = counts.published; after = counts.after }) kept) view
      (λ same_version of_version legal is room same lt b.
      entered_book now (grown_by by key rows (history_of es)) w (grow-is by key (drop (length (graph (history_of es) key)) rows)) is room same
      (λ has. grows-sound by key version rows (state_of settings (history_of es) callers build note) (state_of settings (history_of es ++ grown_by by key rows (history_of es) ∷ []) callers build note) (Ok (length (history_of es))) lt legal of_version b.sound (same_version, (has, refl, refl))) b)

-- one entry more
pub pushed_history : (now mid es : List Entry) (e : Entry) → now ≡ mid ++ e ∷ [] → mid ≡ es → history_of now ≡ history_of es ++ past e ∷ []
pushed_history now mid es e is same = ap (λ (xs : List Entry). map past xs) is ∙ ap (λ (xs : List Entry). map past (xs ++ e ∷ [])) same ∙ map-append past es (e ∷ [])

pub if_some : (o : Option Open) (n m : ℕ) → n < m → IfSome o (λ x. n < m)
if_some None n m lt = tt
if_some (Some x) n m lt = lt

-- what an import answers
pub import_returns : (settings : Settings) (callers : ℕ) (build : Option Open) (note : Note) (es : List Entry) (s : State) (now : List Entry) (place : ℕ) (e : Past) → state_of settings (history_of es) callers build note ≡ s → weight s.history + entry_weight e ≤ s.settings.weight
    → history_of now ≡ history_of es ++ e ∷ [] → place ≡ length es → (weight s.history + entry_weight e ≤ s.settings.weight) × (place ≡ length s.history) × (state_of settings (history_of now) callers build note ≡ with_entry s e)
import_returns settings callers build note es s now place e view room same end = (
  room,
  end ∙ sym (length-map es past) ∙ ap (λ (x : State). length x.history) view,
  ap (λ (h : History). state_of settings h callers build note) same ∙ ap (λ (x : State). with_entry x e) view,
)

-- ---- a publication

trimmed_cases : {X Y : Type 0} (f : X → Y) (xs : List X) (t : Bool) → map f (cond t (drop 1 xs) xs) ≡ cond t (drop 1 (map f xs)) (map f xs)
trimmed_cases f xs true = sym (drop-map f 1 xs)
trimmed_cases f xs false = refl

trimmed-map : {X Y : Type 0} (f : X → Y) (keep : ℕ) (xs : List X) → map f (trimmed keep xs) ≡ trimmed keep (map f xs)
trimmed-map f keep xs =
    trimmed_cases f xs (nat_lt keep (length xs)) ∙ ap (λ (n : ℕ). cond (nat_lt keep n) (drop 1 (map f xs)) (map f xs)) (sym (length-map xs f))

pub publish_book : {settings : Settings} {callers : ℕ} {build : Option Open} {note : Note} {counts : Counts} {Z : Type 0} (es : List Entry) (shared : List (Arc Snapshot Z)) (s : State) (now : List Entry) (left : Option Open) (kept_now : List (Arc Snapshot Z)) (o : Open) (x : Arc Snapshot Z) (by next upto : ℕ)
    → state_of settings (history_of es) callers build note ≡ s → build ≡ Some o → left ≡ None → now ≡ es ++ entries.Publish by upto ∷ [] → kept_now ≡ trimmed settings.keep (shared ++ x ∷ [])
    → by < s.callers → owner s (only next upto Assemble) ≡ Some by → StandsIn (λ base p. StandsFor (arc_value x) p) next upto s.history → IsBook settings (history_of es) callers build note counts (values_of shared)
    → IsBook settings (history_of now) callers left note (record { imports = counts.imports; used = counts.used; newest = counts.newest + 1; published = upto; after = o.place }) (values_of kept_now)
publish_book {settings = settings} {callers = callers} {build = build} {note = note} {counts = counts} {Z = Z} es shared s now left kept_now o x by next upto view there gone pushed trim lt out st b =
    let new : Counts = record { imports = counts.imports; used = counts.used; newest = counts.newest + 1; published = upto; after = o.place } in
    let state : state_of settings (history_of es) callers (Some o) note ≡ s = ap (λ (q : Option Open). state_of settings (history_of es) callers q note) (sym there) ∙ view in
    let below : by < callers = subst (λ (y : State). by < y.callers) (sym state) lt in
    let mine : owner (state_of settings (history_of es) callers (Some o) note) (only next upto Assemble) ≡ Some by = subst (λ (y : State). owner y (only next upto Assemble) ≡ Some by) (sym state) out in
    let stands : StandsIn (λ base p. StandsFor (arc_value x) p) next upto (history_of es) = subst (λ (y : State). StandsIn (λ base p. StandsFor (arc_value x) p) next upto y.history) (sym state) st in
    let whole : history_of es ++ Publish by upto ∷ [] ≡ history_of now = sym (map-append past es (entries.Publish by upto ∷ [])) ∙ ap (λ (xs : List Entry). map past xs) (sym pushed) in
    let values : trimmed settings.keep (values_of shared ++ arc_value x ∷ []) ≡ values_of kept_now =
    ap (λ (xs : List Snapshot). trimmed settings.keep xs) (sym (map-append (λ (a : Arc Snapshot Z). arc_value a) shared (x ∷ [])))
    ∙ sym (trimmed-map (λ (a : Arc Snapshot Z). arc_value a) settings.keep (shared ++ x ∷ [])) ∙ ap (λ (xs : List (Arc Snapshot Z)). values_of xs) (sym trim) in
    let was : IsBook settings (history_of es) callers (Some o) note counts (values_of shared) = subst (λ (q : Option Open). IsBook settings (history_of es) callers q note counts (values_of shared)) there b in
    let done = publishing by next upto o (arc_value x) below mine stands was in
    subst (λ (q : Option Open). IsBook settings (history_of now) callers q note (record { imports = counts.imports; used = counts.used; newest = counts.newest + 1; published = upto; after = o.place }) (values_of kept_now)) (sym gone)
    (subst (λ (h : History). IsBook settings h callers None note (record { imports = counts.imports; used = counts.used; newest = counts.newest + 1; published = upto; after = o.place }) (values_of kept_now)) whole
    (subst (λ (ks : List Snapshot). IsBook settings (history_of es ++ Publish by upto ∷ []) callers None note (record { imports = counts.imports; used = counts.used; newest = counts.newest + 1; published = upto; after = o.place }) ks) values done))
