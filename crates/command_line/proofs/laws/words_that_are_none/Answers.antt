use Rattle.std.proofs.Common.{refl}
use Rattle.clap.proofs.OnLiterals.{clap_on_literals}
use Rattle.osv_prim.specs.Digits.{number}
use Rattle.command_line.proofs.laws.words_that_are_none.Goals as goal

pub returns : goal.returns
unfolding clap_on_literals number
returns c = record {
  twice = refl;
  without_value = refl;
  below_its_range = refl;
  above_the_stream = refl;
  below_its_least = refl;
  above_its_range = refl;
  of_another_command = refl;
  an_operand = refl;
  a_greater_drill = refl;
  no_size = refl;
  no_operands = refl;
  no_lane = refl;
  too_many_helpers = refl;
  an_empty_address = refl;
  two_addresses = refl;
}
