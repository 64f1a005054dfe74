-- What an event with a repository comes to for a session.
use Rattle.std.proofs.Common.{◌≡◌, ◌≢◌, inl, inr, ℕ, ◌+◌, ◌<◌, ◌≤◌, List, [], ◌∷◌, ◌++◌, length, take, drop, sym, ap, subst, ◌∙◌, arith}
use Rattle.std.specs.Prelude.{Option, Result, Ok, Err}
use Rattle.std.proofs.lemmas.Bool.{cases_lt}
use Rattle.std.proofs.Math.Seq.{drop-append_seam, take-append_seam}
use mathlib.Core.List.{IsPrefix}
use Rattle.osv_prim.specs.declared.memory.Memory.{Memory}
use Rattle.osv_prim.specs.declared.oid.CommitRow.{CommitRow}
use Rattle.settings.specs.declared.Settings.{Settings}
use Rattle.history.specs.declared.past.Past.{Past}
use Rattle.history.specs.declared.past.Past.TheVariants.{Grow}
use Rattle.history.specs.Entries.{History, weight, entry_weight}
use Rattle.history.specs.Prefixes.{grows, graph}
use Rattle.history.specs.Legality.{AreGrownFrom, Extends}
use Rattle.history.specs.Conditions.{IsOfVersion}
use Rattle.history.proofs.Conditions.{version-lasts, version-now}
use Rattle.history.proofs.Legality.{grown_from-rest, graph-extended}
use Rattle.book_model.specs.declared.answers.GrowFault.{GrowFault}
use Rattle.book_model.specs.declared.answers.GrowFault.TheVariants as grow_faults
use Rattle.book_model.specs.State.{Build, State}
use Rattle.book_model.specs.Steps.{ShowsRepo, grown_by, Grows}
use Rattle.book_model.specs.Desk.{Caller, IsEvent, CountsStay, CountsMoved, CountsGrow}
use Rattle.book_model.proofs.Growing.{grows-keeps}
use Rattle.book_model.proofs.Own.{grow-adds}
use Rattle.session_model.specs.Answers.{AddsEntry}
use Rattle.desk_calls.specs.Growing.{RepoIs, Grown, LacksRoom, Moved, GrownIs}
use Rattle.desk_calls.proofs.Alone.{if-some, finds, only-own, same-build, apart-same-build}
use Rattle.desk_calls.proofs.Events.{goes, turned-up, one-call, still, quiet, own-entry, own-front}

pub repo-is : {G : Type 0} (rows : G → List CommitRow) (key : List ℕ) (answer : Result (ℕ × G) Memory) (old new : Caller) → IsEvent (λ s t. ShowsRepo rows key s answer t) old new → CountsStay old new → RepoIs rows old key answer new
repo-is rows key (Ok found) old new v k =
    let same : new.front ≡ v.found.history = v.front ∙ ap (λ (s : State). s.history) v.acts.2 in
    record {
      quiet = quiet (λ s t. ShowsRepo rows key s (Ok found) t) old new v v.acts.2 k;
      count_is = v.acts.0 ∙ ap (λ (h : History). grows h key) (sym same);
      rows_are = v.acts.1 ∙ ap (λ (h : History). graph h key) (sym same);
    }
repo-is rows key (Err e) old new v k = quiet (λ s t. ShowsRepo rows key s (Err e) t) old new v v.acts k

-- ---- growth

grown : (key : List ℕ) (version : ℕ) (rows : List CommitRow) (place : ℕ) (old new : Caller) → IsOfVersion key version rows old.front → IsEvent (λ s t. Grows old.me key version rows s (Ok place) t) old new → CountsStay old new
    → Grown old key version rows place new
grown key version rows place old new c v k =
    let h : History = v.found.history in
    let g : List CommitRow = graph h key in
    let e : Past = grown_by old.me key rows h in
    let added : v.left.history ≡ h ++ e ∷ [] = ap (λ (s : State). s.history) v.acts.1.2 in
    let now : new.front ≡ h ++ e ∷ [] = v.front ∙ added in
    let before : take place new.front ≡ h = ap (λ (x : History). take place x) now ∙ ap (λ (n : ℕ). take n (h ++ e ∷ [])) v.acts.1.1 ∙ take-append_seam h (e ∷ []) in
    let later : IsOfVersion key version rows h = version-lasts key version rows old.front h v.begins c in
    let begins : IsPrefix g rows = version-now key rows h (subst (λ (n : ℕ). IsOfVersion key n rows h) v.acts.0 later) in
    let rest : drop (length g) rows ≡ begins.0 = ap (λ (xs : List CommitRow). drop (length g) xs) (sym begins.1) ∙ drop-append_seam g begins.0 in
    let extends : Extends g (drop (length g) rows) = (grown_from-rest [] h (e ∷ []) (subst (λ (x : History). AreGrownFrom [] x) added v.sound_left.legal.grown)).0 in
    let a = grow-adds key version rows place old new v in
    let heavy : weight new.front ≡ weight v.left.history = ap weight v.front in
    let kept_settings : v.left.settings.weight ≡ v.found.settings.weight = ap (λ (s : State). s.settings.weight) v.acts.1.2 in
    let limit_then : v.found.settings.weight ≡ old.settings.weight = ap (λ (s : Settings). s.weight) v.same_settings in
    let within : weight v.left.history ≤ v.left.settings.weight = v.sound_left.within in
    let same : new.alone ≡ old.alone = same-build (λ s t. Grows old.me key version rows s (Ok place) t) old new v (ap (λ (s : State). s.build) v.acts.1.2) in
    record {
      goes = goes (λ s t. Grows old.me key version rows s (Ok place) t) old new v (own-front e place old new a);
      rises = one-call (λ s t. Grows old.me key version rows s (Ok place) t) old new v k;
      outs = k.outs;
      version_is = v.acts.0 ∙ ap (λ (x : History). grows x key) (sym before);
      whole = ap (λ (x : History). graph x key) now ∙ graph-extended h old.me key (drop (length g) rows) extends ∙ ap (λ (xs : List CommitRow). g ++ xs) rest ∙ begins.1;
      adds = subst (λ (x : History). AddsEntry old.me (Grow old.me key (drop (length (graph x key)) rows)) place old.front new.front) (sym before) (own-entry e place old new a);
      within = omega (arith, heavy, kept_settings, limit_then, within);
      apart = apart-same-build old new (only-own (λ s t. Grows old.me key version rows s (Ok place) t) old new v (grows-keeps old.me key version rows v.found v.left (Ok place) v.acts)) same;
      alone = λ alone. same ∙ alone;
    }

lacks-room : (key : List ℕ) (version : ℕ) (rows : List CommitRow) (used limit : ℕ) (old new : Caller) → IsEvent (λ s t. Grows old.me key version rows s (Err (grow_faults.JournalFull used limit)) t) old new → CountsStay old new
    → LacksRoom old key version rows used limit new
lacks-room key version rows used limit old new v k =
    let h : History = v.found.history in
    let same : new.front ≡ h = v.front ∙ ap (λ (s : State). s.history) v.acts.2 in
    let limit_then : v.found.settings.weight ≡ old.settings.weight = ap (λ (s : Settings). s.weight) v.same_settings in
    let passed : v.found.settings.weight < weight h + entry_weight (grown_by old.me key rows h) = v.acts.1.0 in
    let then : weight new.front + entry_weight (grown_by old.me key rows new.front) ≡ weight h + entry_weight (grown_by old.me key rows h) = ap (λ (x : History). weight x + entry_weight (grown_by old.me key rows x)) same in
    record {
      quiet = quiet (λ s t. Grows old.me key version rows s (Err (grow_faults.JournalFull used limit)) t) old new v v.acts.2 k;
      version_is = v.acts.0 ∙ ap (λ (x : History). grows x key) (sym same);
      used_is = v.acts.1.1 ∙ ap weight (sym same);
      limit_is = v.acts.1.2 ∙ limit_then;
      passes = omega (arith, passed, then, limit_then);
    }

below : (n m : ℕ) → n ≤ m → n ≢ m → n < m
below n m le other = elim (cases_lt n m) [
  | inl lt ↦ lt
  | inr ge ↦ absurd (other (omega (arith, le, ge)))
]

moved : (key : List ℕ) (version : ℕ) (rows : List CommitRow) (seen now : ℕ) (old new : Caller) → IsOfVersion key version rows old.front → IsEvent (λ s t. Grows old.me key version rows s (Err (grow_faults.RepoMoved seen now)) t) old new → CountsMoved old new
    → Moved old key version seen now new
moved key version rows seen now old new c v k =
    let h : History = v.found.history in
    let same : new.front ≡ h = v.front ∙ ap (λ (s : State). s.history) v.acts.3 in
    let later : IsOfVersion key version rows h = version-lasts key version rows old.front h v.begins c in
    record {
      still = still (λ s t. Grows old.me key version rows s (Err (grow_faults.RepoMoved seen now)) t) old new v
          (grows-keeps old.me key version rows v.found v.left (Err (grow_faults.RepoMoved seen now)) v.acts) (ap (λ (s : State). s.history) v.acts.3) (ap (λ (s : State). s.build) v.acts.3);
      rises = record {
        busy_rose = omega (arith, k.busy);
        turns_rose = omega (arith, k.turns);
        looks_rose = turned-up (λ s t. Grows old.me key version rows s (Err (grow_faults.RepoMoved seen now)) t) old new v;
      };
      outs = k.outs;
      seen_is = v.acts.1;
      now_is = v.acts.2 ∙ ap (λ (x : History). grows x key) (sym same);
      later = subst (λ (n : ℕ). version < n) (sym v.acts.2) (below version (grows h key) later.there v.acts.0);
      others = if-some (λ (b : Option Build). version ≢ grows old.front key) old.alone (λ build e is.
          v.acts.0 (is ∙ ap (λ (x : History). grows x key) (sym (finds (λ s t. Grows old.me key version rows s (Err (grow_faults.RepoMoved seen now)) t) old new build e v).1)));
    }

pub grown-is : (key : List ℕ) (version : ℕ) (rows : List CommitRow) (answer : Result ℕ GrowFault) (old new : Caller) → IsOfVersion key version rows old.front → IsEvent (λ s t. Grows old.me key version rows s answer t) old new → CountsGrow answer old new
    → GrownIs old key version rows answer new
grown-is key version rows (Ok place) old new c v k = grown key version rows place old new c v k
grown-is key version rows (Err (grow_faults.RepoMoved seen now)) old new c v k = moved key version rows seen now old new c v k
grown-is key version rows (Err (grow_faults.JournalFull used limit)) old new c v k = lacks-room key version rows used limit old new v k
grown-is key version rows (Err grow_faults.Memory) old new c v k = quiet (λ s t. Grows old.me key version rows s (Err grow_faults.Memory) t) old new v v.acts.2 k
