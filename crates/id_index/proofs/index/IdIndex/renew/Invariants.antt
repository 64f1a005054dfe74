use Rattle.std.proofs.Common.{List, map}
use Rattle.std.specs.Arc.{arc_value}
use Rattle.osv_record.specs.Advisories.{Advisory}
use Rattle.record_moves.specs.Moved.{IsMoved}
use Rattle.id_index.specs.Heads.{AreFirst, IsIndexOf}
use Rattle.id_index.proofs.index.IdIndex.renew.Given as goal

abbrev pub invariant-loop-index : goal.invariant-loop-index
invariant-loop-index l =
    let all = map (λ a. arc_value a) l.records in
    (old : List Advisory) → IsMoved l.moves old all → IsIndexOf l.fn.self old → AreFirst l.heads.items all
