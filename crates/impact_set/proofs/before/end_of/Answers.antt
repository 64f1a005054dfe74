use Rattle.std.proofs.Common.{◌≡◌, ◌+◌, ◌-◌, length, get_or, refl, ap, ◌∙◌, arith}
use Rattle.impact_set.specs.Passing.{has_number}
use Rattle.impact_set.proofs.Naming.{below-last, has-last}
use Rattle.impact_set.proofs.before.end_of.Goals as goal

pub returns-clause-above : goal.returns-clause-above
returns-clause-above c = below-last c.args.numbers.now c.requires (length c.args.numbers.now) refl (omega arith)

pub returns-clause-last : goal.returns-clause-last
returns-clause-last c some =
    let numbers = c.args.numbers.now in
    let last = get_or numbers (length numbers - 1) 0 in
    let back : last + 1 - 1 ≡ last = omega arith in
    ap (has_number numbers) back ∙ has-last numbers (length numbers) refl (omega arith)
