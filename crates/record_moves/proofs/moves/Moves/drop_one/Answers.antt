use Rattle.std.proofs.Common.{◌++◌, ◌∷◌, [], ℕ, List, sym, subst, arith}
use Rattle.record_moves.specs.Moved.{AreMoved}
use Rattle.record_moves.proofs.Steps.{dropped}
use Rattle.record_moves.proofs.moves.Moves.drop_one.Goals as goal

pub returns : goal.returns
returns c old new r m =
    record {
      count = m.count;
      low = m.low;
      are = subst (λ (xs : List ℕ). AreMoved xs c.args.self.now.added.items (old ++ r ∷ []) new) (sym c.in_ok-push.ensures.items) (dropped c.args.self.now.moved.items c.args.self.now.added.items old new m.are r (omega (arith, m.low, m.count)));
    }
