use Rattle.session_model.proofs.Counting.{run-counts, run-outs}
use Rattle.session_model.proofs.laws.signs_are_counted.Goals as goal

pub returns-clause-rises : goal.returns-clause-rises
returns-clause-rises c = run-counts

pub returns-clause-outs : goal.returns-clause-outs
returns-clause-outs c = run-outs
