use Rattle.history.proofs.Conditions.{version-lasts, within-lasts, base-lasts, snap-lasts, first-lasts, version-now, new_rows, weight-push}
use Rattle.history.proofs.laws.conditions_last.Goals as goal

pub returns-clause-version : goal.returns-clause-version
returns-clause-version c = version-lasts

pub returns-clause-within : goal.returns-clause-within
returns-clause-within c = within-lasts

pub returns-clause-base : goal.returns-clause-base
returns-clause-base c = base-lasts

pub returns-clause-snap : goal.returns-clause-snap
returns-clause-snap c = snap-lasts

pub returns-clause-first : goal.returns-clause-first
returns-clause-first c = first-lasts

pub returns-clause-now : goal.returns-clause-now
returns-clause-now c = version-now

pub returns-clause-new_rows : goal.returns-clause-new_rows
returns-clause-new_rows c = new_rows

pub returns-clause-weight : goal.returns-clause-weight
returns-clause-weight c = weight-push
