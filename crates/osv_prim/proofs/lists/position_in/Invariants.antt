use Rattle.std.proofs.Common.{◌≡◌, ◌+◌, length}
use Rattle.std.specs.List.{position_from}
use Rattle.std.specs.Str.{bytes_eq}
use Rattle.osv_prim.specs.Lists.{pieces, IsCut}
use Rattle.osv_prim.proofs.lists.position_in.Given as goal

abbrev pub invariant-loop-rest : goal.invariant-loop-rest
invariant-loop-rest l = record {
  cut : IsCut l.start l.rest (length l.bytes);
  count : l.index + length l.rest ≡ length l.ends;
  so_far : position_from (bytes_eq l.text) l.index (pieces l.start l.rest l.bytes) ≡ position_from (bytes_eq l.text) 0 (pieces 0 l.ends l.bytes);
}

abbrev pub decreases-loop-rest : goal.decreases-loop-rest
decreases-loop-rest l = length l.rest
