-- The pages of a batch, one after another. No public clause cites this module.
use Rattle.std.specs.Prelude.{◌≡◌, ℕ, List, map, Option, Some, None, Result, Ok, Err}
use Rattle.std.specs.List.{enumerate_from}
use Rattle.std.specs.Borrow.{Bor}
use Rattle.std.specs.Arc.{arc_value}
use Rattle.std.specs.declared.sync.Arc.{Arc}
use Rattle.osv_prim.specs.Results.{each, onto}
use Rattle.query_json.specs.declared.query.Query.{Query}
use Rattle.history.specs.Entries.{History, newest, snap}
use Rattle.book_model.specs.declared.answers.Kept.{Kept}
use Rattle.book_model.specs.declared.answers.Newest.{Newest}
use Rattle.reply_json.specs.declared.refusal.Refusal.{Refusal}
use Rattle.reply_json.specs.Answers.{Answer}
use Rattle.snapshot.specs.declared.snapshot.Snapshot.{Snapshot}
use Rattle.snapshot.specs.Snapshots.{StandsFor}
use Rattle.session_model.specs.Looks.{answer_at, answers_to, named_by}
use Rattle.desk_calls.specs.Calls.{FindsAll}

abbrev pub number_or : Option ℕ → ℕ
number_or None = 0
number_or (Some number) = number

-- the snapshot that a query names, or 0
abbrev pub number_in : Query → ℕ
number_in q = number_or (named_by q.page)

-- the newest snapshot of the history, with its number
abbrev pub IsNewest : {Z : Type 0} → History → Newest (Arc Snapshot Z) → Type 0
IsNewest h now = (now.number ≡ newest h) × StandsFor (arc_value now.snapshot) (snap h (newest h))

-- what the numbers of the queries find
abbrev pub AreFound : {Z : Type 0} → ℕ → History → List Query → Newest (Arc Snapshot Z) → List (Kept (Arc Snapshot Z)) → Type 0
AreFound keep h queries now found = IsNewest h now × FindsAll keep h (map number_in queries) found

-- the pages so far, and then those of the queries that are left, from this index on
abbrev pub ArePages : {Z : Type 0} → ℕ → List Query → Newest (Arc Snapshot Z) → List (Kept (Arc Snapshot Z)) → List Answer → ℕ → List Query → List (Kept (Arc Snapshot Z)) → Type 0
ArePages size queries now found pages index rest left =
    (keep : ℕ) (h : History) → AreFound keep h queries now found
    → (onto pages (each (answer_at keep size h) (enumerate_from index rest)) ≡ answers_to keep size h queries) × FindsAll keep h (map number_in rest) left

-- the snapshot that answers, with its number, or why none does
abbrev pub ShownAt : History → Result ℕ Refusal → Result (ℕ × Bor Snapshot) Refusal → Type 0
ShownAt h answer (Ok x) = (answer ≡ Ok x.0) × StandsFor x.1.now (snap h x.0)
ShownAt h answer (Err refusal) = answer ≡ Err refusal
