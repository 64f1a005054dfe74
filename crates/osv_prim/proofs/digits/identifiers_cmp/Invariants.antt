use Rattle.std.proofs.Common.{◌≡◌, length}
use Rattle.osv_prim.specs.Digits.{identifier_weights, identifiers_cmp}
use Rattle.osv_prim.proofs.digits.identifiers_cmp.Given as goal

abbrev pub invariant-parts : goal.invariant-parts
invariant-parts l = identifiers_cmp (identifier_weights l.numbers_below l.a_rest) (identifier_weights l.numbers_below l.b_rest) ≡ identifiers_cmp (identifier_weights l.numbers_below l.a) (identifier_weights l.numbers_below l.b)

abbrev pub decreases-parts : goal.decreases-parts
decreases-parts l = length l.a_rest
