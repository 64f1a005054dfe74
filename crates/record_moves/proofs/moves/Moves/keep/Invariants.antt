use Rattle.std.proofs.Common.{◌≡◌, ◌++◌, List, length}
use Rattle.osv_record.specs.Advisories.{Advisory}
use Rattle.record_moves.specs.Moved.{IsMoved}
use Rattle.record_moves.proofs.moves.Moves.keep.Given as goal

abbrev pub invariant-loop : goal.invariant-loop
invariant-loop l = (old new same : List Advisory) → IsMoved l.fn.self old new → length same ≡ l.counter → IsMoved l.self (old ++ same) (new ++ same)
