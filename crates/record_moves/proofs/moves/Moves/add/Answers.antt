use Rattle.std.proofs.Common.{◌++◌, ◌∷◌, [], ◌+◌, ℕ, List, sym, ap, subst, ◌∙◌, arith}
use Rattle.std.proofs.lemmas.List.{length-append}
use Rattle.record_moves.specs.Moved.{AreMoved}
use Rattle.record_moves.proofs.Steps.{one-added}
use Rattle.record_moves.proofs.moves.Moves.add.Goals as goal

pub returns : goal.returns
returns c old new r m =
    record {
      count = c.in_ok-next.ensures.next ∙ ap (λ (n : ℕ). n + 1) m.count ∙ sym (length-append new (r ∷ []));
      low = c.in_ok-next.ensures.low;
      are = subst (λ (xs : List ℕ). AreMoved c.args.self.now.moved.items xs old (new ++ r ∷ [])) (sym c.in_ok-push.ensures.items) (one-added c.args.self.now.moved.items c.args.self.now.added.items old new m.are r c.args.self.now.count m.count (omega (arith, c.in_ok-next.ensures.next, c.in_ok-next.ensures.low)));
    }
