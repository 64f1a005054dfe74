use Rattle.osv_record.specs.Imports.{records}
use Rattle.evaluate.proofs.Ascending.{records-ascending, is_sorted}
use Rattle.evaluate.proofs.Latest.{last-from_contains, mem-from_last, contains-from_mem}
use Rattle.evaluate.proofs.laws.the_last_import_of_each_id_counts.Goals as goal

pub returns-clause-ascending : goal.returns-clause-ascending
returns-clause-ascending c = λ imports. is_sorted (records imports) (records-ascending _ imports tt)

pub returns-clause-exactly : goal.returns-clause-exactly
returns-clause-exactly c = λ imports r. (last-from_contains imports r, λ l. contains-from_mem (records imports) r (mem-from_last imports r l))
