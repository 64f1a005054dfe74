-- Which snapshot answers, from what a number finds.
use Rattle.std.proofs.Common.{◌≡◌, ℕ, ◌≤◌, ◌<◌, Bool, true, false, cond, ltb, List, Option, Some, None, sym, subst, ap, ◌∙◌, arith}
use Rattle.std.specs.Prelude.{Result, Ok, Err, IfOk}
use Rattle.std.proofs.lemmas.Bool.Decides.{nat_tests}
use Rattle.history.specs.Entries.{History, newest}
use Rattle.book_model.specs.Desk.{Caller}
use Rattle.reply_json.specs.declared.refusal.Refusal.TheVariants as refusals
use Rattle.osv_prim.specs.declared.memory.Memory.{Memory}
use Rattle.http_wire.specs.declared.reply.Reply.{Reply}
use Rattle.query_json.specs.declared.query.Query.{Query}
use Rattle.session_model.specs.declared.sign.Sign.TheVariants as signs
use Rattle.session_model.specs.Replies.{refusal_reply}
use Rattle.session_model.specs.Looks.{snapshot_for, named_snapshot, batch_reply, pages_reply, answers_to}
use Rattle.desk_calls.specs.Calls.{Quiet}
use Rattle.desk_answers.specs.Shown.{IsShown, ShownFor, ShowsAs}
use Rattle.desk_answers.specs.declared.find.Shown.{Shown}
use Rattle.desk_answers.specs.declared.find.Shown.TheVariants as shown
use Rattle.desk_answers.specs.declared.reply.Answered.{Answered}

there-yet : (keep : ℕ) (h : History) (least : ℕ) (named : Option ℕ) → least ≤ newest h → snapshot_for keep h least named ≡ named_snapshot None keep h named
there-yet keep h least named le = let t : ltb (newest h) least ≡ false = grind (arith, nat_tests) in ap (λ (b : Bool). cond b (Err (refusals.SnapshotNotYet least (newest h))) (named_snapshot None keep h named)) t

shown_as : (old new : Caller) (least number : ℕ) (x : Shown) → Quiet old new → snapshot_for old.settings.keep new.front least (Some number) ≡ named_snapshot None old.settings.keep new.front (Some number)
    → IsShown new.front (named_snapshot None old.settings.keep new.front (Some number)) x → ShownFor old least (Some number) (Ok x) new
shown_as old new least number (shown.Here n snapshot) k e s = (k, (e ∙ s.0, s.1))
shown_as old new least number (shown.Not refusal) k e s = (k, e ∙ s)

pub shown-kept : (old new : Caller) (least now number : ℕ) (x : Shown) → Quiet old new → now ≡ newest new.front → least ≤ now → IsShown new.front (named_snapshot None old.settings.keep new.front (Some number)) x
    → ShownFor old least (Some number) (Ok x) new
shown-kept old new least now number x k e le s =
    let le_now : least ≤ newest new.front = subst (λ (m : ℕ). least ≤ m) e le in
    shown_as old new least number x k (there-yet old.settings.keep new.front least (Some number) le_now) s

-- a batch asks for a snapshot that is not there yet
not_yet : (old new : Caller) (closes : Bool) (size least : ℕ) (queries : List Query) → newest new.front < least
    → batch_reply old.settings.keep size closes new.front least queries ≡ refusal_reply closes (refusals.SnapshotNotYet least (newest new.front))
not_yet old new closes size least queries lt =
    let t : ltb (newest new.front) least ≡ true = grind (arith, nat_tests) in
    ap (λ (b : Bool). cond b (refusal_reply closes (refusals.SnapshotNotYet least (newest new.front))) (pages_reply closes (newest new.front) (answers_to old.settings.keep size new.front queries))) t

pub shows-not-yet : (old new : Caller) (closes : Bool) (size least now : ℕ) (queries : List Query) (r : Result Answered Memory) → Quiet old new → now ≡ newest new.front → now < least
    → IfOk r (λ a. (a.sign ≡ signs.Looked) × (a.reply ≡ refusal_reply closes (refusals.SnapshotNotYet least now)))
    → ShowsAs old new (batch_reply old.settings.keep size closes new.front least queries) r
shows-not-yet old new closes size least now queries (Ok a) k e lt s =
    let at : newest new.front < least = subst (λ (m : ℕ). m < least) e lt in
    (k, s.0, s.1 ∙ ap (λ (m : ℕ). refusal_reply closes (refusals.SnapshotNotYet least m)) e ∙ sym (not_yet old new closes size least queries at))
shows-not-yet old new closes size least now queries (Err m) k e lt s = k.still
