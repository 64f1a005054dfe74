-- What handlers come to, before it is told as an answer of their route. No public clause cites this module.
use Rattle.std.specs.Prelude.{◌≡◌, ◌⊎◌, ℕ, Bool, List, [], Option, Some, Result, Ok, Err}
use Rattle.std.specs.Arc.{arc_value}
use Rattle.std.specs.declared.sync.Arc.{Arc}
use Rattle.osv_prim.specs.declared.memory.Memory.{Memory}
use Rattle.osv_record.specs.Advisories.{Advisory}
use Rattle.history.specs.Entries.{History, snap}
use Rattle.book_model.specs.declared.answers.Kept.{Kept}
use Rattle.book_model.specs.Desk.{Caller}
use Rattle.http_wire.specs.declared.reply.Reply.{Reply}
use Rattle.reply_json.specs.declared.refusal.Refusal.{Refusal}
use Rattle.reply_json.specs.declared.refusal.Refusal.TheVariants as refusals
use Rattle.reply_json.specs.Bodies.{entry_body, published_body, building_body}
use Rattle.snapshot.specs.declared.snapshot.Snapshot.{Snapshot}
use Rattle.snapshot.specs.Snapshots.{StandsFor}
use Rattle.session_model.specs.declared.sign.Sign.{Sign}
use Rattle.session_model.specs.declared.sign.Sign.TheVariants as signs
use Rattle.session_model.specs.Looks.{named_snapshot, snapshot_for}
use Rattle.session_model.specs.Replies.{done_reply, refusal_reply}
use Rattle.desk_calls.specs.Calls.{Still, Quiet, Entered, Full, Finds}
use Rattle.desk_answers.specs.declared.find.Shown.{Shown}
use Rattle.desk_answers.specs.declared.find.Shown.TheVariants as shown
use Rattle.desk_answers.specs.declared.reply.Answered.{Answered}

-- ---- looks

-- the snapshot that answers, or why none does
abbrev pub IsShown : History → Result ℕ Refusal → Shown → Type 0
IsShown h answer (shown.Here number snapshot) = (answer ≡ Ok number) × StandsFor (arc_value snapshot) (snap h number)
IsShown h answer (shown.Not refusal) = answer ≡ Err refusal

-- what a number finds, as a query is told
abbrev pub IsShownAs : {Z : Type 0} → Option ℕ → ℕ → Kept (Arc Snapshot Z) → Shown → Type 0
IsShownAs index number found x = (keep : ℕ) (h : History) → Finds keep h number found → IsShown h (named_snapshot index keep h (Some number)) x

abbrev pub ShownFor : Caller → ℕ → Option ℕ → Result Shown Memory → Caller → Type 0
ShownFor old least named (Ok x) new = Quiet old new × IsShown new.front (snapshot_for old.settings.keep new.front least named) x
ShownFor old least named (Err e) new = Still old new

-- the reply that a look at the book shows
abbrev pub ShowsAs : Caller → Caller → Reply → Result Answered Memory → Type 0
ShowsAs old new reply (Ok a) = Quiet old new × (a.sign ≡ signs.Looked) × (a.reply ≡ reply)
ShowsAs old new reply (Err e) = Still old new

-- ---- imports

-- the reply to an advisory that was entered, or had no room
abbrev pub EntersAs : Caller → Caller → Bool → Advisory → Answered → Type 0
EntersAs old new closes r a =
    ((place : ℕ) × Entered old r place new × (a.sign ≡ signs.Plain) × (a.reply ≡ done_reply closes (entry_body place)))
    ⊎ ((used : ℕ) × (limit : ℕ) × Full old r used limit new × (a.sign ≡ signs.Plain) × (a.reply ≡ refusal_reply closes (refusals.JournalFull used limit)))

abbrev pub ImportsAs : Caller → Caller → Bool → Advisory → Result Answered Memory → Type 0
ImportsAs old new closes r (Ok a) = EntersAs old new closes r a
ImportsAs old new closes r (Err e) = Still old new

-- ---- publications

abbrev pub sign_body : Sign → List ℕ
sign_body signs.Plain = []
sign_body signs.Looked = []
sign_body (signs.Moved seen) = []
sign_body (signs.Published snapshot upto) = published_body snapshot upto
sign_body (signs.Building out took) = building_body out took
