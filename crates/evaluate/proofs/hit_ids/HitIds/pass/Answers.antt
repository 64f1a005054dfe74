use Rattle.std.proofs.Common.{List, ℕ, is_eq, sym, ap, ◌∙◌}
use Rattle.std.specs.Set.{remove_key}
use Rattle.evaluate.specs.Kept.{HoldsHits}
use Rattle.evaluate.proofs.Ascending.{by_id}
use Rattle.evaluate.proofs.ById.{id_taken_out}
use Rattle.evaluate.proofs.hit_ids.HitIds.pass.Goals as goal

pub returns : goal.returns
unfolding HoldsHits
returns c = λ repos subject imports advisory same miss so_far.
    c.remove.ensures.keys
    ∙ ap (λ (i : List ℕ). remove_key (λ k. is_eq (by_id i k)) c.args.self.now.ids.keys) (sym same)
    ∙ id_taken_out c.args.self.now.ids.keys imports advisory repos subject miss so_far
