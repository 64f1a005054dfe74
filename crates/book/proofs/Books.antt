-- What each step leaves of what a book keeps.
use Rattle.std.proofs.Common.{◌≡◌, ℕ, ◌+◌, ◌-◌, ◌*◌, ◌^◌, ◌<◌, ◌≤◌, List, [], ◌∷◌, ◌++◌, length, take, refl, sym, ap, subst, ◌∙◌, arith, length-append}
use Rattle.std.specs.Prelude.{Option, Some, None, Ok, IfSome}
use Rattle.std.proofs.Math.Seq.{take-length}
use Rattle.std.proofs.lemmas.List.Elements.{All-nil}
use Rattle.settings.specs.declared.Settings.{Settings}
use Rattle.turn_lock.specs.declared.note.Note.{Note}
use Rattle.history.specs.declared.past.Past.{Past}
use Rattle.history.specs.declared.past.Past.TheVariants.{Publish}
use Rattle.history.specs.Entries.{History, caller, imports, newest, upto_of, snap, weight, entry_weight, oldest_kept}
use Rattle.history.proofs.Entries.{imports-append, count-le-weight, few}
use Rattle.history.proofs.Legality.{legal-empty}
use Rattle.history.proofs.Conditions.{weight-push}
use Rattle.book_model.specs.declared.answers.Progress.TheVariants as progress
use Rattle.book_model.specs.State.{Assemble, Build, first_note, published}
use Rattle.book_model.specs.Jobs.{JobName, StandsIn, owner}
use Rattle.book_model.specs.Sound.{IsSound}
use Rattle.book_model.proofs.Owned.{some_weaker, owned}
use Rattle.book_model.proofs.Sound.{enrols-sound, finishes-sound}
use Rattle.book_model.proofs.Lasting.{stands-lasts}
use Rattle.snapshot.specs.declared.snapshot.Snapshot.{Snapshot}
use Rattle.snapshot.specs.Snapshots.{StandsFor}
use Rattle.impact_job.specs.declared.prefix.Prefix.{Prefix}
use Rattle.impact_job.specs.Tables.{IsPrefixOf}
use Rattle.snapshot.specs.Jobs.{only}
use Rattle.book.specs.declared.build.Open.{Open}
use Rattle.book.specs.declared.build.Stage.{Stage}
use Rattle.book.specs.declared.ledger.Counts.{Counts}
use Rattle.book.specs.Builds.{stage_upto, build_of, IsStageOf, IsUnderWay}
use Rattle.book.specs.Books.{state_of, AreKept, SuitsBook, IsBook}
use Rattle.book.proofs.Handing.{IsOut}
use Rattle.book.proofs.Keeping.{IsImport, newest-import, published-import, imports-publish, newest-publish, published-publish, front-stays, kept-lasts, kept-push}

-- ---- parts of a build

abbrev upto_in : Option Build → ℕ
upto_in None = 0
upto_in (Some q) = q.upto

-- ---- a new book

pub book-new : (settings : Settings) (empty : Snapshot) → SuitsBook settings → StandsFor empty [] → IsBook settings [] 0 None first_note (record { imports = 0; used = 0; newest = 0; published = 0; after = 0 }) (empty ∷ [])
book-new settings empty suits st =
    let keep : 1 ≤ settings.keep = suits.keep.0 in
    let oldest : oldest_kept settings.keep [] ≡ 0 = omega (arith, keep) in
    record {
      sound = record { legal = legal-empty; within = omega arith; given = All-nil (λ (e : Past). caller e < 0); callers = omega arith; build = tt };
      suits = suits;
      imported = refl;
      used = refl;
      newest_is = refl;
      published_is = refl;
      after = omega arith;
      reached = refl;
      kept_are = subst (λ (s : ℕ). AreKept [] s (empty ∷ [])) (sym oldest) (st, tt);
      kept_count = omega (arith, keep);
      underway = tt;
    }

-- ---- numbers

-- how many imports and snapshots there may be
pub few_in_book : (settings : Settings) (h : History) (callers : ℕ) (build : Option Open) (note : Note) (counts : Counts) (kept : List Snapshot)
    → IsBook settings h callers build note counts kept → (counts.newest ≤ counts.imports) × (64 * counts.imports ≤ counts.used) × (counts.used ≤ settings.weight) × (settings.weight ≤ 4294967296)
few_in_book settings h callers build note counts kept b =
    let f : newest h ≤ length (imports h) = few h b.sound.legal.published in
    let w : 64 * length (imports h) ≤ weight h = count-le-weight h in
    let within : weight h ≤ settings.weight = b.sound.within in
    (omega (arith, f, b.newest_is, b.imported), omega (arith, w, b.imported, b.used), omega (arith, within, b.used), b.suits.weight)

-- some snapshot is kept, and no more than the settings say
pub kept_in_book : (settings : Settings) (h : History) (callers : ℕ) (build : Option Open) (note : Note) (counts : Counts) (kept : List Snapshot)
    → IsBook settings h callers build note counts kept → (1 ≤ length kept) × (length kept ≤ settings.keep)
kept_in_book settings h callers build note counts kept b =
    let keep : 1 ≤ settings.keep = b.suits.keep.0 in
    (omega (arith, b.kept_count, b.newest_is, keep), omega (arith, b.kept_count, b.newest_is, keep))

-- ---- steps that leave the history

pub book-noted : (settings : Settings) (h : History) (callers : ℕ) (build : Option Open) (old new : Note) (counts : Counts) (kept : List Snapshot) → IsBook settings h callers build old counts kept → IsBook settings h callers build new counts kept
book-noted settings h callers build old new counts kept b =
    record {
      sound = record { legal = b.sound.legal; within = b.sound.within; given = b.sound.given; callers = b.sound.callers; build = b.sound.build };
      suits = b.suits;
      imported = b.imported;
      used = b.used;
      newest_is = b.newest_is;
      published_is = b.published_is;
      after = b.after;
      reached = b.reached;
      kept_are = b.kept_are;
      kept_count = b.kept_count;
      underway = b.underway;
    }

pub book-enrolled : (settings : Settings) (h : History) (callers : ℕ) (build : Option Open) (note : Note) (counts : Counts) (kept : List Snapshot) → callers < 2 ^ 63 → IsBook settings h callers build note counts kept → IsBook settings h (callers + 1) build note counts kept
book-enrolled settings h callers build note counts kept lt b =
    record {
      sound = enrols-sound (state_of settings h callers build note) (state_of settings h (callers + 1) build note) (Ok callers) b.sound (refl, lt, refl);
      suits = b.suits;
      imported = b.imported;
      used = b.used;
      newest_is = b.newest_is;
      published_is = b.published_is;
      after = b.after;
      reached = b.reached;
      kept_are = b.kept_are;
      kept_count = b.kept_count;
      underway = b.underway;
    }

-- another build, whose state is sound
pub book-build : (settings : Settings) (h : History) (callers : ℕ) (old new : Option Open) (note : Note) (counts : Counts) (kept : List Snapshot)
    → IsSound (state_of settings h callers new note) → IfSome new (λ o. IsUnderWay (counts.newest + 1) h o.upto o.place o.stage)
    → IsBook settings h callers old note counts kept → IsBook settings h callers new note counts kept
book-build settings h callers old new note counts kept sound way b =
    record {
      sound = sound;
      suits = b.suits;
      imported = b.imported;
      used = b.used;
      newest_is = b.newest_is;
      published_is = b.published_is;
      after = b.after;
      reached = b.reached;
      kept_are = b.kept_are;
      kept_count = b.kept_count;
      underway = way;
    }

-- ---- an import, of an advisory or of rows

way-lasts : (next : ℕ) (h more : History) (o : Open) → IsUnderWay next h o.upto o.place o.stage → IsUnderWay next (h ++ more) o.upto o.place o.stage
way-lasts next h more o w =
    let longer : length (h ++ more) ≡ length h + length more = length-append h more in
    record {
      holds = stands-lasts (IsStageOf o.stage) next o.upto h (h ++ more) (more, refl) w.holds;
      named = w.named;
      within = omega (arith, longer, w.within);
      reached = front-stays h more o.place w.within ∙ w.reached;
    }

pub book-entered : (settings : Settings) (h : History) (callers : ℕ) (build : Option Open) (note : Note) (counts : Counts) (kept : List Snapshot) (e : Past) (w : ℕ)
    → IsImport e → IsSound (state_of settings (h ++ e ∷ []) callers build note) → w ≡ entry_weight e → IsBook settings h callers build note counts kept
    → IsBook settings (h ++ e ∷ []) callers build note (record { imports = counts.imports + 1; used = counts.used + w; newest = counts.newest; published = counts.published; after = counts.after }) kept
book-entered settings h callers build note counts kept e w i sound is b =
    let count : length (imports (h ++ e ∷ [])) ≡ length (imports h) + 1 =
    ap (λ (xs : List Past). length xs) (imports-append h (e ∷ [])) ∙ length-append (imports h) (imports (e ∷ [])) ∙ ap (λ (xs : List Past). length (imports h) + length xs) i.imported in
    let weighs : weight (h ++ e ∷ []) ≡ weight h + entry_weight e = weight-push h e in
    let news : newest (h ++ e ∷ []) ≡ newest h = newest-import h e i in
    let longer : length (h ++ e ∷ []) ≡ length h + 1 = length-append h (e ∷ []) in
    let oldest : oldest_kept settings.keep (h ++ e ∷ []) ≡ oldest_kept settings.keep h = ap (λ (n : ℕ). n + 1 - settings.keep) news in
    record {
      sound = sound;
      suits = b.suits;
      imported = omega (arith, count, b.imported);
      used = omega (arith, weighs, b.used, is);
      newest_is = b.newest_is ∙ sym news;
      published_is = b.published_is ∙ sym (published-import h e i);
      after = omega (arith, longer, b.after);
      reached = front-stays h (e ∷ []) counts.after b.after ∙ b.reached;
      kept_are =
          subst (λ (s : ℕ). AreKept (h ++ e ∷ []) s kept) (sym oldest)
          (kept-lasts h (e ∷ []) (oldest_kept settings.keep h) kept b.sound.legal (omega (arith, b.kept_count, b.newest_is)) b.kept_are);
      kept_count = omega (arith, b.kept_count, oldest);
      underway = some_weaker (λ (o : Open). IsUnderWay (counts.newest + 1) h o.upto o.place o.stage) (λ (o : Open). IsUnderWay (counts.newest + 1) (h ++ e ∷ []) o.upto o.place o.stage) build (way-lasts (counts.newest + 1) h (e ∷ [])) b.underway;
    }

-- ---- a publication

-- the snapshots with a new one
pub kept-published : (settings : Settings) (h : History) (callers : ℕ) (build : Option Open) (note : Note) (counts : Counts) (kept : List Snapshot) (by upto : ℕ) (x : Snapshot)
    → StandsFor x (take upto (imports h)) → IsBook settings h callers build note counts kept
    → AreKept (h ++ Publish by upto ∷ []) (oldest_kept settings.keep h) (kept ++ x ∷ [])
kept-published settings h callers build note counts kept by upto x st b =
    let more : History = Publish by upto ∷ [] in
    let last : snap (h ++ Publish by upto ∷ []) (newest h + 1) ≡ take upto (imports h) =
    ap (λ (n : ℕ). snap (h ++ Publish by upto ∷ []) n) (sym (newest-publish h by upto))
    ∙ ap (λ (n : ℕ). take n (imports (h ++ Publish by upto ∷ []))) (published-publish h by upto) ∙ ap (λ (xs : List Past). take upto xs) (imports-publish h by upto) in
    kept-push (h ++ Publish by upto ∷ []) (oldest_kept settings.keep h) (newest h + 1) kept x (omega (arith, b.kept_count, b.newest_is))
    (kept-lasts h (Publish by upto ∷ []) (oldest_kept settings.keep h) kept b.sound.legal (omega (arith, b.kept_count, b.newest_is)) b.kept_are)
    (subst (λ (p : List Past). StandsFor x p) (sym last) st)

pub book-published : (settings : Settings) (h : History) (callers : ℕ) (o : Open) (note : Note) (counts : Counts) (kept left : List Snapshot) (by next upto : ℕ) (x : Snapshot)
    → by < callers → owner (state_of settings h callers (Some o) note) (only next upto Assemble) ≡ Some by → StandsIn (λ base p. StandsFor x p) next upto h
    → IsBook settings h callers (Some o) note counts kept
    → length left + oldest_kept settings.keep (h ++ Publish by upto ∷ []) ≡ counts.newest + 2
    → AreKept (h ++ Publish by upto ∷ []) (oldest_kept settings.keep (h ++ Publish by upto ∷ [])) left
    → IsBook settings (h ++ Publish by upto ∷ []) callers None note (record { imports = counts.imports; used = counts.used; newest = counts.newest + 1; published = upto; after = o.place }) left
book-published settings h callers o note counts kept left by next upto x lt out st b count are =
    let w = owned (build_of (Some o)) (newest h + 1) (only next upto Assemble) by out in
    let same : upto ≡ o.upto = w.upto ∙ sym (ap (λ (q : Option Build). upto_in q) w.there) in
    let way : IsUnderWay (counts.newest + 1) h o.upto o.place o.stage = b.underway in
    let weighs : weight (h ++ Publish by upto ∷ []) ≡ weight h + 0 = weight-push h (Publish by upto) in
    let longer : length (h ++ Publish by upto ∷ []) ≡ length h + 1 = length-append h (Publish by upto ∷ []) in
    record {
      sound = finishes-sound by (record { job = only next upto Assemble; cells = [] }) (state_of settings h callers (Some o) note) (state_of settings (h ++ Publish by upto ∷ []) callers None note)
          (Ok (progress.Published (length h) (newest h + 1))) lt refl b.sound (out, (refl, refl, refl));
      suits = b.suits;
      imported = b.imported ∙ sym (ap (λ (xs : List Past). length xs) (imports-publish h by upto));
      used = omega (arith, weighs, b.used);
      newest_is = omega (arith, newest-publish h by upto, b.newest_is);
      published_is = sym (published-publish h by upto);
      after = omega (arith, longer, way.within);
      reached = front-stays h (Publish by upto ∷ []) o.place way.within ∙ way.reached ∙ sym same;
      kept_are = are;
      kept_count = omega (arith, count);
      underway = tt;
    }

-- ---- builds

-- the prefix of a build over all imports
pub opened-way : (settings : Settings) (h : History) (callers : ℕ) (build : Option Open) (note : Note) (counts : Counts) (kept : List Snapshot) (x : Prefix)
    → published h < length (imports h) → IsPrefixOf x (snap h (newest h)) (imports h)
    → IsBook settings h callers build note counts kept → StandsIn (IsPrefixOf x) (counts.newest + 1) counts.imports h
opened-way settings h callers build note counts kept x more is b =
    let base : counts.newest + 1 - 1 ≡ newest h = omega (arith, b.newest_is) in
    let whole : take counts.imports (imports h) ≡ imports h = ap (λ (n : ℕ). take n (imports h)) b.imported ∙ take-length (imports h) in
    record {
      within = record {
        positive = omega arith;
        published = omega (arith, base);
        came = omega (arith, b.imported);
        reaches = subst (λ (s : ℕ). upto_of h s ≤ counts.imports) (sym base) (let lt : published h < length (imports h) = more in omega (arith, lt, b.imported));
      };
      stands =
          subst (λ (s : ℕ). IsPrefixOf x (snap h s) (take counts.imports (imports h))) (sym base)
          (subst (λ (p : List Past). IsPrefixOf x (snap h (newest h)) p) (sym whole) is);
    }

-- the next stage of the build that is open
pub next-way : (settings : Settings) (h : History) (callers : ℕ) (o : Open) (note : Note) (counts : Counts) (kept : List Snapshot) (by : ℕ) (job : JobName) (stage : Stage)
    → IsOut o (newest h + 1) job by → StandsIn (IsStageOf stage) job.build job.upto h → stage_upto stage ≡ job.upto
    → IsBook settings h callers (Some o) note counts kept → IsUnderWay (counts.newest + 1) h job.upto o.place stage
next-way settings h callers o note counts kept by job stage w st named b =
    let next : job.build ≡ counts.newest + 1 = w.build ∙ ap (λ (n : ℕ). n + 1) (sym b.newest_is) in
    let way : IsUnderWay (counts.newest + 1) h o.upto o.place o.stage = b.underway in
    record {
      holds = subst (λ (n : ℕ). StandsIn (IsStageOf stage) n job.upto h) next st;
      named = named;
      within = way.within;
      reached = way.reached ∙ sym w.upto;
    }
