use Rattle.order_debian.proofs.Weighing.{front_shorter, front_cut}
use Rattle.order_debian.proofs.part.first_turn.Goals as goal

pub slice_bounds-result-count : goal.slice_bounds-result-count
slice_bounds-result-count c = rw c.behind_front-number.ensures (front_shorter c.args.part.now)

pub returns-clause-front : goal.returns-clause-front
returns-clause-front c = rw c.behind_front-number.ensures (front_cut c.args.part.now)
