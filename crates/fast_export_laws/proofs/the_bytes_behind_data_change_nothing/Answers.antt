use Rattle.fast_export_laws.proofs.Messages.{at_first, follows, only_data, free}
use Rattle.fast_export_laws.proofs.the_bytes_behind_data_change_nothing.Goals as goal

pub returns-clause-begins : goal.returns-clause-begins
returns-clause-begins c = at_first

pub returns-clause-follow : goal.returns-clause-follow
returns-clause-follow c = follows

pub returns-clause-data : goal.returns-clause-data
returns-clause-data c = only_data

pub returns-clause-free : goal.returns-clause-free
returns-clause-free c = free
