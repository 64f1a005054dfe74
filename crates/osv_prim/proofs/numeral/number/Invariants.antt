use Rattle.std.proofs.Common.{◌≡◌, ◌<◌, ◌^◌, length, true}
use Rattle.osv_prim.specs.Digits.{all_digits}
use Rattle.osv_prim.proofs.Numerals.{spelled}
use Rattle.osv_prim.proofs.numeral.number.Given as goal

abbrev pub invariant-loop-rest : goal.invariant-loop-rest
invariant-loop-rest l = record {
  digits : all_digits l.rest ≡ true;
  bound : l.number < 2 ^ 64;
  so_far : spelled l.number l.rest ≡ spelled 0 l.digits;
}

abbrev pub decreases-loop-rest : goal.decreases-loop-rest
decreases-loop-rest l = length l.rest
