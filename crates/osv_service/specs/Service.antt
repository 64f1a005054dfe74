-- What `serve` does to its listener (our own).
use Rattle.std.specs.Prelude.{◌≡◌, ◌⊎◌, ℕ, Option, Some, None}
use Rattle.edge_io.specs.Causes.{Rose}
use Rattle.command_line.specs.declared.command.Command.{Command}
use Rattle.command_line.specs.declared.command.Command.TheVariants.{Ask, Check, Replay, Serve, Drill}
use Rattle.serving.specs.Serving.{HasEnded}

-- the words are those of `serve`
abbrev pub IsService : Option Command → Type 0
IsService None = ⊥
IsService (Some (Ask subject input)) = ⊥
IsService (Some (Check input)) = ⊥
IsService (Some (Replay settings)) = ⊥
IsService (Some (Drill seed size)) = ⊥
IsService (Some (Serve settings lanes helpers address)) = Unit {0}

-- All lanes ended, or the words were none of `serve`, or the address could not be opened, or memory was missing.
pub record ServesBy (command : Option Command) (status faults_old faults_new closed_old closed_new : ℕ) : Type 0 where
  pub answers : (status ≡ 0) ⊎ (status ≡ 2) ⊎ (status ≡ 3) ⊎ (status ≡ 6)
  pub others : (IsService command → ⊥) → (status ≡ 2) ⊎ (status ≡ 6)
  pub service : status ≡ 2 → IsService command → ⊥
  pub untouched : (IsService command → ⊥) → (faults_new ≡ faults_old) × (closed_new ≡ closed_old)
  pub unopened : status ≡ 3 → Rose faults_old faults_new
  pub ended : status ≡ 0 → HasEnded faults_old faults_new closed_old closed_new
