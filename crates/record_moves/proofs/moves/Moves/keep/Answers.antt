use Rattle.std.proofs.Common.{◌++◌, ◌∷◌, [], List, sym, subst, append-nil, arith}
use Rattle.osv_record.specs.Advisories.{Advisory}
use Rattle.record_moves.specs.Moved.{IsMoved}
use Rattle.record_moves.proofs.Steps.{last-parted, none-long, behind}
use Rattle.record_moves.proofs.moves.Moves.keep.Goals as goal

pub loop-init : goal.loop-init
loop-init c old new same m long =
    subst (λ (xs : List Advisory). IsMoved c.args.self.now (old ++ xs) (new ++ xs)) (sym (none-long same long))
    (subst (λ (xs : List Advisory). IsMoved c.args.self.now xs (new ++ [])) (sym (append-nil old)) (subst (λ (xs : List Advisory). IsMoved c.args.self.now old xs) (sym (append-nil new)) m))

pub loop-preserved : goal.loop-preserved
loop-preserved c old new same m long =
    let parted = last-parted same c.loop.counter long in
    let before = c.loop.invariant old new parted.first m parted.count in
    subst (λ (xs : List Advisory). IsMoved c.keep_one.new.self xs (new ++ same)) (behind old same c.loop.counter parted)
    (subst (λ (xs : List Advisory). IsMoved c.keep_one.new.self ((old ++ parted.first) ++ parted.last ∷ []) xs) (behind new same c.loop.counter parted) (c.in_ok-keep_one.ensures (old ++ parted.first) (new ++ parted.first) parted.last before))

pub returns : goal.returns
returns c old new same m long = c.loop.invariant old new same m (omega (arith, long, c.loop-test.false, c.loop.auto.counter-end))
