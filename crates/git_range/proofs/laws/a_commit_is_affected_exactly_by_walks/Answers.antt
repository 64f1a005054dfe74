use Rattle.git_range.proofs.Affecting.{affected_by_walks}
use Rattle.git_range.proofs.laws.a_commit_is_affected_exactly_by_walks.Goals as goal

pub returns : goal.returns
returns c = affected_by_walks
