use Rattle.evaluate.specs.Hits.{is_hit}
use Rattle.evaluate.proofs.Ascending.{is_sorted}
use Rattle.history.specs.Prefixes.{records, graphs}
use Rattle.snapshot.specs.Pages.{hits_above}
use Rattle.snapshot.proofs.Pages.{all_without_id}
use Rattle.snapshot.proofs.Joining.{joined, above-ascend, not_empty}
use Rattle.snapshot.proofs.laws.pages_join.Goals as goal

pub returns-clause-walk : goal.returns-clause-walk
returns-clause-walk c = λ p subject size one after pages w. joined p subject size one after pages w

pub returns-clause-all : goal.returns-clause-all
returns-clause-all c = λ p subject. all_without_id (is_hit (graphs p) subject) (records p)

pub returns-clause-ascending : goal.returns-clause-ascending
returns-clause-ascending c = λ p subject after. is_sorted (hits_above p subject after) (above-ascend p subject after)

pub returns-clause-not_empty : goal.returns-clause-not_empty
returns-clause-not_empty c = λ p subject size one after more. not_empty p subject size one after more
