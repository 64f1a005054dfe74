use Rattle.std.proofs.Common.{is_eq, sym, ap, ◌∙◌}
use Rattle.std.specs.Map.{remove_entry}
use Rattle.std.specs.BTreeMap.{insert_entry}
use Rattle.osv_record.specs.Advisories.{Advisory}
use Rattle.evaluate.specs.Kept.{KeepsEntries, may_hit}
use Rattle.evaluate.proofs.Ascending.{by_id}
use Rattle.evaluate.proofs.ById.{part_inserted, part_taken_out}
use Rattle.evaluate.proofs.git_imports.GitImports.import.Goals as goal

pub returns-in_ok-insert-clause-ok : goal.returns-in_ok-insert-clause-ok
unfolding KeepsEntries
returns-in_ok-insert-clause-ok c = λ imports so_far.
    c.in_ok-insert.ensures.entries
    ∙ ap (λ (r : Advisory). insert_entry by_id c.args.self.now.entries.entries r.id r.affected) c.advisory.view_is
    ∙ part_inserted may_hit imports c.args.advisory (λ r. r.affected) c.args.self.now.entries.entries (sym c.may_hit.ensures ∙ c.if-may_hit.true) so_far

pub returns-else-may_hit-clause-ok : goal.returns-else-may_hit-clause-ok
unfolding KeepsEntries
returns-else-may_hit-clause-ok c = λ imports so_far.
    c.remove.ensures.entries
    ∙ ap (λ (r : Advisory). remove_entry (λ k. is_eq (by_id r.id k)) c.args.self.now.entries.entries) c.advisory.view_is
    ∙ part_taken_out may_hit imports c.args.advisory (λ r. r.affected) c.args.self.now.entries.entries (sym c.may_hit.ensures ∙ c.if-may_hit.false) so_far
