-- The commands that the words of the command line may be (our own).
use Rattle.std.specs.Prelude.{ℕ, ◌&&◌, Bool, true, false, nat_lt, List, [], ◌∷◌, length, map, Option, Some, None, option_map, option_and_then, unwrap_or, if◌then◌else◌, codes}
use Rattle.std.specs.Option.{option_map_or}
use Rattle.std.specs.Borrow.{Bor}
use Rattle.clap.specs.Words.{Row, Text, all_of, first_of}
use Rattle.osv_prim.specs.declared.package.PackageKey.{PackageKey}
use Rattle.osv_prim.specs.declared.subject.Subject.{Subject}
use Rattle.osv_prim.specs.declared.subject.Subject.TheVariants.{Package, Commit, CommitIn}
use Rattle.osv_prim.specs.Numerals.{u64_in}
use Rattle.osv_prim.specs.Oids.{oid_of}
use Rattle.osv_prim.specs.Packages.{normal_name}
use Rattle.settings.specs.Ranges.{AreInRange, IsBetween}
use Rattle.settings.specs.declared.Settings.{Settings}
use Rattle.settings.specs.declared.TheConstants.{MAX_INPUT_BYTES}
use Rattle.command_line.specs.declared.number.TheConstants.{MAX_DIGITS}
use Rattle.command_line.specs.declared.command.TheConstants.{MAX_DRILL, MAX_HELPERS, MAX_LANES, MIN_DRILL}
use Rattle.command_line.specs.declared.command.Command.{Command}
use Rattle.command_line.specs.declared.command.Command.TheVariants as of
use Rattle.command_line.specs.declared.table.CommandName.{CommandName}
use Rattle.command_line.specs.declared.table.CommandName.TheVariants.{Ask, Check, Replay, Serve, Drill}
use Rattle.command_line.specs.declared.table.OptionName.{OptionName}
use Rattle.command_line.specs.declared.table.OptionName.TheVariants.{Input, Keep, Page, Weight, Commits, Body, Stream, Requests, ServeRequests, Lanes, Helpers}
use Rattle.command_line.specs.declared.table.Takes.{Takes}
use Rattle.command_line.specs.declared.table.Takes.TheVariants.{Number}
use Rattle.command_line.specs.Table as table
use Rattle.command_line.specs.Table.{command_named, option_row}
use Rattle.command_line.specs.Grammar.{given}

-- ---- numbers

-- the value of an option of a number, or what stands where the option is not used
abbrev pub number_as : Takes → Option Text → Option ℕ
number_as (Number least most default) value = option_map_or (u64_in MAX_DIGITS least most) value (Some default)
number_as _ value = None

-- the number is in the option's range
abbrev pub IsNumberOf : Takes → ℕ → Type 0
IsNumberOf (Number least most default) n = IsBetween least most n
IsNumberOf _ n = ⊥

-- the default is in the range
abbrev pub IsOrdered : Takes → Type 0
IsOrdered (Number least most default) = IsBetween least most default
IsOrdered _ = Unit {0}

abbrev pub number_by : table.Row → List Row → Option ℕ
number_by o rows = number_as o.takes (first_of o.spelling rows)

-- the number of an option, or none where its value is no number in its range
abbrev pub number_of : OptionName → List Row → Option ℕ
number_of o = number_by (option_row o)

-- the settings, where those that no option says are the defaults; that of the requests is the option's of the command
abbrev pub settings_of : OptionName → List Row → Option Settings
settings_of asked rows =
    option_and_then (λ keep. option_and_then (λ page. option_and_then (λ weight. option_and_then (λ commits. option_and_then (λ body. option_and_then (λ stream. option_map (λ requests.
    record { weight = weight; body = body; stream = stream; requests = requests; keep = keep; page = page; commits = commits })
    (number_of asked rows)) (number_of Stream rows)) (number_of Body rows)) (number_of Commits rows)) (number_of Weight rows)) (number_of Page rows)) (number_of Keep rows)

-- ---- operands

abbrev pub operands : List Row → List Text
operands rows = unwrap_or (all_of (codes "operands") rows) []

-- what the code is given of them
abbrev pub listed : Option (Bor (List (Bor Text))) → List Text
listed texts = unwrap_or (option_map (λ ts. map (λ t. t.now) ts.now) texts) []

-- there is none
abbrev pub is_bare : List Text → Bool
is_bare [] = true
is_bare (w ∷ ws) = false

-- neither is empty
abbrev pub are_full : Text → Text → Bool
are_full e n = nat_lt 0 (length e) && nat_lt 0 (length n)

-- the package of an ecosystem and a name that are not empty
abbrev pub package_of : Text → Text → Option PackageKey
package_of e n = if are_full e n then Some (record { ecosystem = e; name = normal_name e n }) else None

-- ECOSYSTEM NAME [VERSION]
abbrev pub package_asked : List Text → Option Subject
package_asked (e ∷ n ∷ []) = option_map (λ p. Package p None) (package_of e n)
package_asked (e ∷ n ∷ v ∷ []) = option_map (λ p. Package p (Some v)) (package_of e n)
package_asked _ = None

-- [ECOSYSTEM NAME], of a commit
abbrev pub commit_asked : List ℕ → List Text → Option Subject
commit_asked oid [] = Some (Commit oid)
commit_asked oid (e ∷ n ∷ []) = option_map (λ p. CommitIn oid p) (package_of e n)
commit_asked oid _ = None

-- what `ask` asks for: the commit of `--commit`, or else a package
abbrev pub subject_of : List Row → Option Subject
subject_of rows =
    option_map_or (λ text. option_and_then (λ oid. commit_asked oid (operands rows)) (oid_of text))
    (first_of (codes "commit") rows) (package_asked (operands rows))

-- ADDRESS, which is not empty
abbrev pub address_of : List Text → Option Text
address_of (a ∷ []) = if nat_lt 0 (length a) then Some a else None
address_of _ = None

-- SEED SIZE
abbrev pub drill_asked : List Text → Option Command
drill_asked (seed ∷ size ∷ []) = option_and_then (λ s. option_map (λ n. of.Drill s n) (u64_in MAX_DIGITS MIN_DRILL MAX_DRILL size)) (u64_in MAX_DIGITS 0 18446744073709551615 seed)
drill_asked _ = None

-- ---- commands

-- [--input N] ECOSYSTEM NAME [VERSION], or [--input N] --commit OID [ECOSYSTEM NAME]
abbrev pub ask_of : List Row → Option Command
ask_of rows = option_and_then (λ input. option_map (λ subject. of.Ask subject input) (subject_of rows)) (number_of Input rows)

-- [--input N]
abbrev pub check_of : List Row → Option Command
check_of rows = option_and_then (λ input. if is_bare (operands rows) then Some (of.Check input) else None) (number_of Input rows)

-- [--keep N] [--page N] [--weight N] [--commits N] [--body N] [--stream N] [--requests N]
abbrev pub replay_of : List Row → Option Command
replay_of rows = option_and_then (λ settings. if is_bare (operands rows) then Some (of.Replay settings) else None) (settings_of Requests rows)

-- the options of `replay`, [--lanes N] [--helpers N] ADDRESS
abbrev pub serve_of : List Row → Option Command
serve_of rows =
    option_and_then (λ settings. option_and_then (λ lanes. option_and_then (λ helpers. option_map (λ address.
    of.Serve settings lanes helpers address)
    (address_of (operands rows))) (number_of Helpers rows)) (number_of Lanes rows)) (settings_of ServeRequests rows)

-- SEED SIZE
abbrev pub drill_of : List Row → Option Command
drill_of rows = drill_asked (operands rows)

-- the command of what `clap` finds
abbrev pub command_of : CommandName → List Row → Option Command
command_of Ask rows = ask_of rows
command_of Check rows = check_of rows
command_of Replay rows = replay_of rows
command_of Serve rows = serve_of rows
command_of Drill rows = drill_of rows

-- the command that the words are, or none where they are outside the grammar
abbrev pub command : List Text → Option Command
command [] = None
command (first ∷ behind) = option_and_then (λ name. option_and_then (command_of name) (given name behind)) (command_named first)

-- each number of a command is in its range
abbrev pub IsInRange : Command → Type 0
IsInRange (of.Ask subject input) = IsBetween 1 MAX_INPUT_BYTES input
IsInRange (of.Check input) = IsBetween 1 MAX_INPUT_BYTES input
IsInRange (of.Replay settings) = AreInRange settings
IsInRange (of.Serve settings lanes helpers address) = AreInRange settings × IsBetween 1 MAX_LANES lanes × IsBetween 0 MAX_HELPERS helpers
IsInRange (of.Drill seed size) = IsBetween MIN_DRILL MAX_DRILL size
