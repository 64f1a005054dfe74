use Rattle.std.specs.Arc.{arc_value}
use Rattle.std.proofs.Common.{List, ℕ, map, is_eq, sym, ap, ◌∙◌}
use Rattle.std.specs.Set.{remove_key}
use Rattle.std.specs.BTreeSet.{insert_key}
use Rattle.osv_record.specs.Advisories.{Advisory}
use Rattle.evaluate.specs.Kept.{HoldsHits}
use Rattle.evaluate.proofs.Ascending.{by_id}
use Rattle.evaluate.proofs.ById.{id_inserted, id_taken_out}
use Rattle.evaluate.proofs.hit_ids.HitIds.import.Goals as goal

pub returns-in_ok-insert-clause-ok : goal.returns-in_ok-insert-clause-ok
unfolding HoldsHits
returns-in_ok-insert-clause-ok g c = λ imports so_far.
    c.in_ok-insert.ensures.keys
    ∙ ap (λ (i : List ℕ). insert_key by_id c.args.self.now.ids.keys i) (ap (λ (r : Advisory). r.id) c.advisory.view_is)
    ∙ id_inserted c.args.self.now.ids.keys imports c.args.advisory (map (λ g. (g.0, arc_value g.1)) c.args.repos.now) c.args.subject.now (sym c.in_ok-is_hit.ensures.hit ∙ c.if-branch.true) so_far

pub returns-else-branch-clause-ok : goal.returns-else-branch-clause-ok
unfolding HoldsHits
returns-else-branch-clause-ok g c = λ imports so_far.
    c.remove.ensures.keys
    ∙ ap (λ (i : List ℕ). remove_key (λ k. is_eq (by_id i k)) c.args.self.now.ids.keys) (ap (λ (r : Advisory). r.id) c.advisory.view_is)
    ∙ id_taken_out c.args.self.now.ids.keys imports c.args.advisory (map (λ g. (g.0, arc_value g.1)) c.args.repos.now) c.args.subject.now (sym c.in_ok-is_hit.ensures.hit ∙ c.if-branch.false) so_far
