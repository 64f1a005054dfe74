-- What the growth of a repository comes to, before it is told as an answer. No public clause cites this module.
use Rattle.std.specs.Prelude.{◌≡◌, ◌⊎◌, ℕ, Bool, List, length, Result, Ok, Err}
use Rattle.osv_prim.specs.declared.memory.Memory.{Memory}
use Rattle.osv_prim.specs.declared.oid.CommitRow.{CommitRow}
use Rattle.commit_graph.specs.declared.fault.GraphFault.{GraphFault}
use Rattle.commit_graph.specs.Extended.{extended}
use Rattle.history.specs.Prefixes.{graph}
use Rattle.book_model.specs.Desk.{Caller}
use Rattle.reply_json.specs.declared.refusal.Refusal.TheVariants as refusals
use Rattle.reply_json.specs.Bodies.{commits_body}
use Rattle.session_model.specs.declared.route.Route.TheVariants as routes
use Rattle.session_model.specs.declared.sign.Sign.TheVariants as signs
use Rattle.session_model.specs.Replies.{done_reply, refusal_reply}
use Rattle.session_model.specs.Runs.{UnansweredAt}
use Rattle.desk_calls.specs.Calls.{Still, Quiet}
use Rattle.desk_calls.specs.Growing.{Shown, Grown, LacksRoom, Moved}
use Rattle.desk_answers.specs.declared.reply.Answered.{Answered}

-- the graph became the repository's
pub record TellsGrown (old new : Caller) (closes : Bool) (key : List ℕ) (version : ℕ) (whole : List CommitRow) (a : Answered) : Type 0 where
  pub place : ℕ
  pub grown : Grown old key version whole place new
  pub sign : a.sign ≡ signs.Plain
  pub reply : a.reply ≡ done_reply closes (commits_body place (length whole))

-- there was no room for what it lacks
pub record TellsFull (old new : Caller) (closes : Bool) (key : List ℕ) (version : ℕ) (whole : List CommitRow) (a : Answered) : Type 0 where
  pub used : ℕ
  pub limit : ℕ
  pub lacks : LacksRoom old key version whole used limit new
  pub sign : a.sign ≡ signs.Plain
  pub reply : a.reply ≡ refusal_reply closes (refusals.JournalFull used limit)

-- others had grown it
pub record TellsMoved (old new : Caller) (closes : Bool) (key : List ℕ) (version : ℕ) (a : Answered) : Type 0 where
  pub seen : ℕ
  pub now : ℕ
  pub moved : Moved old key version seen now new
  pub sign : a.sign ≡ signs.Moved seen
  pub reply : a.reply ≡ refusal_reply closes (refusals.RepoMoved seen now)

abbrev pub GrowsAs : Caller → Caller → Bool → List ℕ → ℕ → List CommitRow → Result Answered Memory → Type 0
GrowsAs old new closes key version whole (Ok a) = TellsGrown old new closes key version whole a ⊎ (TellsFull old new closes key version whole a ⊎ TellsMoved old new closes key version a)
GrowsAs old new closes key version whole (Err e) = Still old new

-- the rows don't fit its graph
pub record Misfits (old new : Caller) (closes : Bool) (key : List ℕ) (most : ℕ) (rows : List CommitRow) (a : Answered) : Type 0 where
  pub fault : GraphFault
  pub quiet : Quiet old new
  pub refused : extended (graph new.front key) most rows ≡ Err fault
  pub sign : a.sign ≡ signs.Looked
  pub reply : a.reply ≡ refusal_reply closes (refusals.BadGraph fault)

-- they do, and then it grew, or not
pub record Joined (old new : Caller) (closes : Bool) (key : List ℕ) (most : ℕ) (rows : List CommitRow) (a : Answered) : Type 0 where
  pub mid : Caller
  pub version : ℕ
  pub whole : List CommitRow
  pub shown : Shown old key version (graph mid.front key) mid
  pub joins : extended (graph mid.front key) most rows ≡ Ok whole
  pub grows : TellsGrown mid new closes key version whole a ⊎ (TellsFull mid new closes key version whole a ⊎ TellsMoved mid new closes key version a)

abbrev pub JoinsAs : Caller → Caller → Bool → List ℕ → ℕ → List CommitRow → Result Answered Memory → Type 0
JoinsAs old new closes key most rows (Ok a) = Misfits old new closes key most rows a ⊎ Joined old new closes key most rows a
JoinsAs old new closes key most rows (Err e) = UnansweredAt old new routes.Repo
