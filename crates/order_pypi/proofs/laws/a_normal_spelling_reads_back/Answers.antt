use Rattle.order_pypi.proofs.Spellings.{is_read, reads_back}
use Rattle.order_pypi.proofs.laws.a_normal_spelling_reads_back.Goals as goal

pub returns-clause-version : goal.returns-clause-version
returns-clause-version c = is_read

pub returns-clause-parts : goal.returns-clause-parts
returns-clause-parts c = reads_back
