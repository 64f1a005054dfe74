use Rattle.std.proofs.Common.{◌<◌, ◌/◌, not, ◌&&◌, eqb, Bool, List, false, length, get_or, ap, ◌∙◌, arith}
use Rattle.impact_set.proofs.Setting.{length-bits, unset-bits, unset-at}
use Rattle.impact_set.proofs.bits.Bits.unset.Goals as goal

pub index_mut-requires : goal.index_mut-requires
index_mut-requires c = omega (arith, c.requires, c.self.invariant.size, length-bits c.self.inside.count c.self.inside.words.items, ap (λ (xs : List Bool). length xs) c.self.view_is)

pub invariant_of-self : goal.invariant_of-self
invariant_of-self c =
    let words = c.self.inside.words.items in
    let n = c.args.number in
    let low : n < c.self.inside.count = omega (arith, c.requires, length-bits c.self.inside.count c.self.inside.words.items, ap (λ (xs : List Bool). length xs) c.self.view_is) in
    let within : n / 64 < length words = omega (arith, c.self.invariant.size) in
    unset-bits words n c.index_mut.result.now within c.index_mut.ensures.value c.self.inside.count c.self.invariant

pub returns-clause-each : goal.returns-clause-each
returns-clause-each c k =
    let words = c.self.inside.words.items in
    let n = c.args.number in
    let low : n < c.self.inside.count = omega (arith, c.requires, length-bits c.self.inside.count c.self.inside.words.items, ap (λ (xs : List Bool). length xs) c.self.view_is) in
    let within : n / 64 < length words = omega (arith, c.self.invariant.size) in
    unset-at words n c.index_mut.result.now within c.index_mut.ensures.value c.self.inside.count c.self.invariant k
    ∙ ap (λ (xs : List Bool). get_or xs k false && not (eqb k n)) c.self.view_is
