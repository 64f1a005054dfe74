-- Which words behind a command's name are in the grammar, and what they say: the reading of `clap`, by our table. Options are
-- written as in the GNU C library's manual, "Argument Syntax": `--name value` or `--name=value`, and `--` ends the options.
use Rattle.std.specs.Prelude.{true, List, [], ◌∷◌, fold, Option, Some, None, codes}
use Rattle.clap.specs.Words.{App, Row, Rule, Text, fault_of, matches_of, new_app, new_rule, with_rule}
use Rattle.clap.specs.Simple.{on_top}
use Rattle.clap.specs.Kinds.{Kinds}
use Rattle.clap.specs.declared.builder.action.ArgAction.TheVariants.{Set, Append}
use Rattle.command_line.specs.Table as table
use Rattle.command_line.specs.Table.{option_row, options_of}
use Rattle.command_line.specs.declared.table.CommandName.{CommandName}
use Rattle.command_line.specs.declared.table.OptionName.{OptionName}

-- any number of operands
abbrev pub operands_rule : Rule
operands_rule = record (new_rule (codes "operands")) { action = Some Append }

-- an option with one value, at most once
abbrev pub option_rule : table.Row → Rule
option_rule o = record (new_rule o.spelling) { long = Some o.spelling; action = Some Set }

-- a command with operands alone, with no program's name before them, no help and no version
abbrev pub bare : App
bare =
    with_rule (on_top (λ s. record s { no_binary_name = true; disable_help_flag = true; disable_version_flag = true })
    (new_app (codes "osv_service"))) operands_rule

abbrev pub with_option : App → OptionName → App
with_option app o = with_rule app (option_rule (option_row o))

-- the command of `clap` for one of ours: operands, and the options that it takes
abbrev pub app : CommandName → App
app name = fold with_option bare (options_of name)

-- the value, where there is no fault
abbrev pub unless : {T : Type 0} → Kinds → T → Option T
unless [] value = Some value
unless (fault ∷ faults) value = None

-- what `clap` finds in the words behind a command's name, or none where it finds a fault in them
abbrev pub given : CommandName → List Text → Option (List Row)
given name words = unless (fault_of (app name) words) (matches_of (app name) words)
