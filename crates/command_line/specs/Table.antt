-- The commands and options of the command line (our own).
use Rattle.std.specs.Prelude.{ℕ, List, [], ◌∷◌, Option, Some, None, if◌then◌else◌, codes}
use Rattle.std.specs.Str.{bytes_eq}
use Rattle.settings.specs.declared.TheConstants.{MAX_BODY_BYTES, MAX_COMMITS, MAX_INPUT_BYTES, MAX_KEEP, MAX_PAGE, MAX_REQUESTS, MAX_STREAM_BYTES, MAX_WEIGHT, MIN_WEIGHT}
use Rattle.command_line.specs.declared.command.TheConstants.{MAX_HELPERS, MAX_LANES}
use Rattle.command_line.specs.declared.table.CommandName.{CommandName}
use Rattle.command_line.specs.declared.table.CommandName.TheVariants.{Ask, Check, Replay, Serve, Drill}
use Rattle.command_line.specs.declared.table.OptionName.{OptionName}
use Rattle.command_line.specs.declared.table.OptionName.TheVariants.{Commit, Input, Keep, Page, Weight, Commits, Body, Stream, Requests, ServeRequests, Lanes, Helpers}
use Rattle.command_line.specs.declared.table.OptionRow.{OptionRow}
use Rattle.command_line.specs.declared.table.Takes.{Takes}
use Rattle.command_line.specs.declared.table.Takes.TheVariants.{Text, Number}

-- how an option is spelled, and the value that it is used with
pub record Row : Type 0 where
  pub spelling : List ℕ
  pub takes : Takes

abbrev pub row : List ℕ → Takes → Row
row spelling takes = record { spelling = spelling; takes = takes }

abbrev pub row_in : OptionRow → Row
row_in r = row r.spelling.now r.takes

-- a number has its least value, its greatest, and what stands where the option is not used
abbrev pub option_row : OptionName → Row
option_row Commit = row (codes "commit") Text
option_row Input = row (codes "input") (Number 1 MAX_INPUT_BYTES MAX_INPUT_BYTES)
option_row Keep = row (codes "keep") (Number 1 MAX_KEEP 8)
option_row Page = row (codes "page") (Number 1 MAX_PAGE 100)
option_row Weight = row (codes "weight") (Number MIN_WEIGHT MAX_WEIGHT 1073741824)
option_row Commits = row (codes "commits") (Number 1 MAX_COMMITS MAX_COMMITS)
option_row Body = row (codes "body") (Number 1 MAX_BODY_BYTES MAX_BODY_BYTES)
option_row Stream = row (codes "stream") (Number 1 MAX_STREAM_BYTES MAX_STREAM_BYTES)
option_row Requests = row (codes "requests") (Number 1 MAX_REQUESTS MAX_REQUESTS)
option_row ServeRequests = row (codes "requests") (Number 1 MAX_REQUESTS 1000)
option_row Lanes = row (codes "lanes") (Number 1 MAX_LANES 4)
option_row Helpers = row (codes "helpers") (Number 0 MAX_HELPERS 2)

-- the options that a command takes
abbrev pub options_of : CommandName → List OptionName
options_of Ask = Input ∷ Commit ∷ []
options_of Check = Input ∷ []
options_of Replay = Keep ∷ Page ∷ Weight ∷ Commits ∷ Body ∷ Stream ∷ Requests ∷ []
options_of Serve = Keep ∷ Page ∷ Weight ∷ Commits ∷ Body ∷ Stream ∷ ServeRequests ∷ Lanes ∷ Helpers ∷ []
options_of Drill = []

-- the command that a word names
abbrev pub command_named : List ℕ → Option CommandName
command_named word =
    if bytes_eq word (codes "ask") then Some Ask
    else (if bytes_eq word (codes "check") then Some Check
    else (if bytes_eq word (codes "replay") then Some Replay
    else (if bytes_eq word (codes "serve") then Some Serve
    else (if bytes_eq word (codes "drill") then Some Drill else None))))
