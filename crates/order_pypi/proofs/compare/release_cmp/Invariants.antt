use Rattle.std.proofs.Common.{◌≡◌, ◌+◌, length, true}
use Rattle.std.specs.List.{list_all}
use Rattle.order_pypi.specs.Key.{release_cmp, release_numbers}
use Rattle.order_pypi.specs.Reading.{is_release_byte}
use Rattle.order_pypi.proofs.compare.release_cmp.Given as goal

abbrev pub invariant-loop-a_rest : goal.invariant-loop-a_rest
invariant-loop-a_rest l = record {
  left : list_all is_release_byte l.a_rest ≡ true;
  right : list_all is_release_byte l.b_rest ≡ true;
  same : release_cmp (release_numbers l.a_rest) (release_numbers l.b_rest) ≡ release_cmp (release_numbers l.a) (release_numbers l.b);
}

abbrev pub decreases-loop-a_rest : goal.decreases-loop-a_rest
decreases-loop-a_rest l = length l.a_rest + length l.b_rest
