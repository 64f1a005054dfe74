-- What a repository's graph, and its growth, come to for a session (our own).
use Rattle.std.specs.Prelude.{◌≡◌, ◌≢◌, ℕ, ◌+◌, ◌<◌, ◌≤◌, List, length, take, drop, Result, Ok, Err, IfSome}
use Rattle.osv_prim.specs.declared.memory.Memory.{Memory}
use Rattle.osv_prim.specs.declared.oid.CommitRow.{CommitRow}
use Rattle.history.specs.declared.past.Past.TheVariants.{Grow}
use Rattle.history.specs.Entries.{weight, entry_weight}
use Rattle.history.specs.Prefixes.{grows, graph}
use Rattle.book_model.specs.declared.answers.GrowFault.{GrowFault}
use Rattle.book_model.specs.declared.answers.GrowFault.TheVariants as grow_faults
use Rattle.book_model.specs.Desk.{Caller}
use Rattle.session_model.specs.Alone.{IsAlone, StaysApart}
use Rattle.session_model.specs.Answers.{AddsEntry}
use Rattle.session_model.specs.Counts.{Rises}
use Rattle.session_model.specs.Runs.{Goes}
use Rattle.desk_calls.specs.Calls.{Still, Quiet}

-- how many Grows it has, and its graph
pub record Shown (old : Caller) (key : List ℕ) (count : ℕ) (rows : List CommitRow) (new : Caller) : Type 0 where
  pub quiet : Quiet old new
  pub count_is : count ≡ grows new.front key
  pub rows_are : rows ≡ graph new.front key

-- the same of an answer, where `rows` are those that a value of G has
abbrev pub RepoIs : {G : Type 0} → (G → List CommitRow) → Caller → List ℕ → Result (ℕ × G) Memory → Caller → Type 0
RepoIs rows old key (Ok found) new = Shown old key found.0 (rows found.1) new
RepoIs rows old key (Err e) new = Quiet old new

-- the graph is its graph now, by one entry with the rows that it lacked
pub record Grown (old : Caller) (key : List ℕ) (version : ℕ) (rows : List CommitRow) (place : ℕ) (new : Caller) : Type 0 where
  pub goes : Goes old new
  pub rises : Rises 0 0 1 old new
  pub outs : new.outs ≡ old.outs
  pub version_is : version ≡ grows (take place new.front) key
  pub whole : graph new.front key ≡ rows
  pub adds : AddsEntry old.me (Grow old.me key (drop (length (graph (take place new.front) key)) rows)) place old.front new.front
  pub within : weight new.front ≤ old.settings.weight
  pub apart : StaysApart old new
  pub alone : IsAlone old → IsAlone new

-- there is no room for the rows that it lacks
pub record LacksRoom (old : Caller) (key : List ℕ) (version : ℕ) (rows : List CommitRow) (used limit : ℕ) (new : Caller) : Type 0 where
  pub quiet : Quiet old new
  pub version_is : version ≡ grows new.front key
  pub used_is : used ≡ weight new.front
  pub limit_is : limit ≡ old.settings.weight
  pub passes : old.settings.weight < weight new.front + entry_weight (Grow old.me key (drop (length (graph new.front key)) rows))

-- it grew behind the version that the graph was made over, which no caller does to itself
pub record Moved (old : Caller) (key : List ℕ) (version seen now : ℕ) (new : Caller) : Type 0 where
  pub still : Still old new
  pub rises : Rises 1 0 1 old new
  pub outs : new.outs ≡ old.outs
  pub seen_is : seen ≡ version
  pub now_is : now ≡ grows new.front key
  pub later : version < now
  pub others : IfSome old.alone (λ b. version ≢ grows old.front key)

abbrev pub GrownIs : Caller → List ℕ → ℕ → List CommitRow → Result ℕ GrowFault → Caller → Type 0
GrownIs old key version rows (Ok place) new = Grown old key version rows place new
GrownIs old key version rows (Err (grow_faults.RepoMoved seen now)) new = Moved old key version seen now new
GrownIs old key version rows (Err (grow_faults.JournalFull used limit)) new = LacksRoom old key version rows used limit new
GrownIs old key version rows (Err grow_faults.Memory) new = Quiet old new
