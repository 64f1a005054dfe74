use Rattle.std.proofs.Common.{refl}
use Rattle.clap.proofs.OnLiterals.{clap_on_literals}
use Rattle.osv_prim.specs.Digits.{number}
use Rattle.command_line.proofs.laws.words_that_are_commands.Goals as goal

pub returns : goal.returns
unfolding clap_on_literals number
returns c = record { plain = refl; behind_two_dashes = refl; in_two_words = refl; no_options = refl; a_drill = refl; all_options = refl; an_address = refl; lanes_and_helpers = refl }
