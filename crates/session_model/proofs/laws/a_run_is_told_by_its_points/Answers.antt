use Rattle.session_model.proofs.Runs.{run-points, runs-last, runs-goes}
use Rattle.session_model.proofs.laws.a_run_is_told_by_its_points.Goals as goal

pub returns-clause-points : goal.returns-clause-points
returns-clause-points c = run-points

pub returns-clause-last : goal.returns-clause-last
returns-clause-last c = runs-last

pub returns-clause-goes : goal.returns-clause-goes
returns-clause-goes c = runs-goes
