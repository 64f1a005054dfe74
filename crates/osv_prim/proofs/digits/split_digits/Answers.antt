use Rattle.osv_prim.proofs.Runs.{behind_shorter, front_cut, front_numeric}
use Rattle.osv_prim.proofs.digits.split_digits.Goals as goal

pub slice_bounds-result-count : goal.slice_bounds-result-count
slice_bounds-result-count c = rw c.behind_digits-rest.ensures (behind_shorter c.args.text.now)

pub returns-clause-run : goal.returns-clause-run
returns-clause-run c = rw c.behind_digits-rest.ensures (front_cut c.args.text.now)

pub returns-clause-numeric : goal.returns-clause-numeric
returns-clause-numeric c = rw (c.behind_digits-rest.ensures, front_cut c.args.text.now) (front_numeric c.args.text.now)

pub returns-clause-shorter : goal.returns-clause-shorter
returns-clause-shorter c = rw c.behind_digits-rest.ensures (behind_shorter c.args.text.now)
