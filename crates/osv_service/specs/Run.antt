-- What a run does to its source and its sink (our own).
use Rattle.std.specs.Prelude.{◌≡◌, ◌≢◌, ◌⊎◌, ℕ, List, take, Option, IfSome, Result, Ok, Err, codes}
use Rattle.std.specs.Io.KnownBytes.{Appends, Keeps, IsAtEnd}
use Rattle.edge_io.specs.Causes.{Rose}
use Rattle.line_input.specs.declared.stop.ReadStop.{ReadStop}
use Rattle.line_input.specs.declared.stop.ReadStop.TheVariants.{Source, Memory}
use Rattle.ask.specs.Asked.{asked}
use Rattle.ask.specs.Checked.{checked}
use Rattle.ask.specs.Outputs.{within}
use Rattle.ask.specs.declared.output.Output.{Output}
use Rattle.command_line.specs.declared.command.Command.{Command}
use Rattle.command_line.specs.declared.command.Command.TheVariants.{Ask, Check, Replay, Serve, Drill}
use Rattle.drill.specs.Drilled.{drilled}
use Rattle.settings.specs.declared.Settings.{Settings}
use Rattle.book_model.specs.Desk.{Caller}
use Rattle.desks.specs.Alone.{new_caller}
use Rattle.session_model.specs.declared.end.End.{End}
use Rattle.session_model.specs.declared.end.End.TheVariants as ends
use Rattle.session_model.specs.declared.sign.Sign.{Sign}
use Rattle.session_model.specs.Sessions.{Session}

abbrev pub usage : List ℕ
usage = codes "usage: osv_service ask [--input N] ECOSYSTEM NAME [VERSION]\n       osv_service ask [--input N] --commit OID [ECOSYSTEM NAME]\n       osv_service check [--input N]\n       osv_service replay [SETTINGS]\n       osv_service drill SEED SIZE\n       osv_service serve [SETTINGS] [--lanes N] [--helpers N] ADDRESS\n"

-- a front of the text was written, all of it or less
abbrev pub WritesFront : Option (List ℕ) → Option (List ℕ) → List ℕ → Type 0
WritesFront old new text = (n : ℕ) × Appends old new (take n text)

-- A text and the status that it goes with, or the sink's fault, or want of memory and nothing.
pub record Prints (text : List ℕ) (its status : ℕ) (held_old held_new : Option (List ℕ)) (sink_before sink_now : ℕ) : Type 0 where
  pub answers : (status ≡ its) ⊎ (status ≡ 4) ⊎ (status ≡ 6)
  pub whole : status ≡ its → Appends held_old held_new text
  pub sink_fault : status ≡ 4 → Rose sink_before sink_now
  pub front : status ≡ 4 → WritesFront held_old held_new text
  pub no_memory : status ≡ 6 → Keeps held_old held_new

-- where the words are no command: the usage text and 2
abbrev pub Declines : ℕ → Option (List ℕ) → Option (List ℕ) → ℕ → ℕ → Type 0
Declines status held_old held_new sink_before sink_now = Prints usage 2 status held_old held_new sink_before sink_now

-- what the source has left and its count of faults are as before
abbrev pub Untouched : Option (List ℕ) → Option (List ℕ) → ℕ → ℕ → Type 0
Untouched left_old left_new source_before source_now = (left_new ≡ left_old) × (source_now ≡ source_before)

-- The answer to all that the source had left, or a fault of the source or the sink, or want of memory.
pub record Answers (answer : List ℕ → Output) (status : ℕ) (left_old left_new held_old held_new : Option (List ℕ)) (source_before source_now sink_before sink_now : ℕ) : Type 0 where
  pub answers : (status ≡ 0) ⊎ (status ≡ 5) ⊎ (status ≡ 3) ⊎ (status ≡ 4) ⊎ (status ≡ 6)
  pub whole : (status ≡ 0) ⊎ (status ≡ 5) → IfSome left_old (λ input. (status ≡ (answer input).status) × Appends held_old held_new (answer input).bytes)
  pub end : status ≡ 0 → IsAtEnd left_new
  pub source_fault : status ≡ 3 → Rose source_before source_now
  pub nothing : status ≡ 3 → Keeps held_old held_new
  pub sink_fault : status ≡ 4 → Rose sink_before sink_now
  pub front : status ≡ 4 → IfSome left_old (λ input. WritesFront held_old held_new (answer input).bytes)
  pub no_memory : status ≡ 6 → Keeps held_old held_new

-- the status behind a session
abbrev pub status_behind : End → ℕ
status_behind ends.Ended = 0
status_behind ends.Asked = 0
status_behind ends.Served = 5
status_behind (ends.Refused e) = 5
status_behind ends.Truncated = 5
status_behind ends.ReadFault = 3
status_behind (ends.WriteFault n) = 4
status_behind ends.Memory = 6

-- The input was answered as one session over a book of its own, which began with no entry: the status is by its end, and a fault comes only where one rose.
pub record Replays (settings : Settings) (status : ℕ) (left_old left_new held_old held_new : Option (List ℕ)) (source_before source_now sink_before sink_now : ℕ) : Type 0 where
  pub end : End
  pub same : status ≡ status_behind end
  pub points : List ℕ
  pub signs : List Sign
  pub behind : Caller
  pub session : Session settings (new_caller settings) behind left_old left_new held_old held_new points signs end
  pub source_fault : status ≡ 3 → Rose source_before source_now
  pub sink_fault : status ≡ 4 → Rose sink_before sink_now

-- want of memory before anything was read or written
abbrev pub FailsFirst : ℕ → Option (List ℕ) → Option (List ℕ) → Option (List ℕ) → Option (List ℕ) → ℕ → ℕ → Type 0
FailsFirst status left_old left_new held_old held_new source_before source_now =
    (status ≡ 6) × Keeps held_old held_new × Untouched left_old left_new source_before source_now

-- what each command does; `serve` is none of a source and a sink, and declined
abbrev pub Does : Command → ℕ → Option (List ℕ) → Option (List ℕ) → Option (List ℕ) → Option (List ℕ) → ℕ → ℕ → ℕ → ℕ → Type 0
Does (Ask subject limit) status left_old left_new held_old held_new source_before source_now sink_before sink_now =
    Answers (within limit (asked subject)) status left_old left_new held_old held_new source_before source_now sink_before sink_now
Does (Check limit) status left_old left_new held_old held_new source_before source_now sink_before sink_now =
    Answers (within limit checked) status left_old left_new held_old held_new source_before source_now sink_before sink_now
Does (Replay settings) status left_old left_new held_old held_new source_before source_now sink_before sink_now =
    Replays settings status left_old left_new held_old held_new source_before source_now sink_before sink_now
    ⊎ FailsFirst status left_old left_new held_old held_new source_before source_now
Does (Serve settings lanes helpers address) status left_old left_new held_old held_new source_before source_now sink_before sink_now =
    Declines status held_old held_new sink_before sink_now × Untouched left_old left_new source_before source_now
Does (Drill seed size) status left_old left_new held_old held_new source_before source_now sink_before sink_now =
    Prints (drilled seed size) 0 status held_old held_new sink_before sink_now × Untouched left_old left_new source_before source_now

-- the output was written, or a front of it
pub record Writes (o : Output) (status : ℕ) (held_old held_new : Option (List ℕ)) (sink_before sink_now : ℕ) : Type 0 where
  pub whole : status ≢ 4 → Appends held_old held_new o.bytes
  pub same : status ≢ 4 → status ≡ o.status
  pub front : WritesFront held_old held_new o.bytes
  pub fault : status ≡ 4 → Rose sink_before sink_now

-- the end of a command: its output was written, or there is none
abbrev pub Ends : Result Output ReadStop → ℕ → Option (List ℕ) → Option (List ℕ) → ℕ → ℕ → Type 0
Ends (Ok o) status held_old held_new sink_before sink_now = Writes o status held_old held_new sink_before sink_now
Ends (Err Source) status held_old held_new sink_before sink_now = (status ≡ 3) × Keeps held_old held_new
Ends (Err Memory) status held_old held_new sink_before sink_now = (status ≡ 6) × Keeps held_old held_new
