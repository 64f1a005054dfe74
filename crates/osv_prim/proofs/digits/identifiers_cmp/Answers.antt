use Rattle.std.proofs.Common.{◌∙◌, sym, ap, List, ℕ, Bor}
use Rattle.std.specs.Option.{option_map}
use Rattle.osv_prim.proofs.Identifiers.{decides, tied, more, fewer, next_shorter}
use Rattle.osv_prim.proofs.digits.identifiers_cmp.Goals as goal

pub returns-in_default : goal.returns-in_default
returns-in_default c =
    decides c.args.numbers_below c.parts.a_rest.now c.parts.b_rest.now _ _ c.identifier_cmp.result c.cut_first-x.ensures.first c.cut_first-y.ensures.first c.identifier_cmp.ensures c.in_default.not-Equal
    ∙ c.parts.invariant

pub parts-smaller : goal.parts-smaller
parts-smaller c =
    next_shorter c.parts.a_rest.now c.in-Some-Some.a_after.now (sym c.cut_first-x.ensures.rest ∙ ap (option_map (λ (r : Bor (List ℕ)). r.now)) c.in-Some-Some.is-0)

pub parts-preserved : goal.parts-preserved
parts-preserved c =
    let t = tied c.args.numbers_below c.parts.a_rest.now c.parts.b_rest.now _ _ c.identifier_cmp.result _ _ c.cut_first-x.ensures.first c.cut_first-y.ensures.first c.identifier_cmp.ensures c.in-Equal.is c.cut_first-x.ensures.rest c.cut_first-y.ensures.rest in
    rw (c.in-Some-Some.is-0, c.in-Some-Some.is-1) at t ∙ c.parts.invariant

pub returns-in-Some-None : goal.returns-in-Some-None
returns-in-Some-None c =
    let t = tied c.args.numbers_below c.parts.a_rest.now c.parts.b_rest.now _ _ c.identifier_cmp.result _ _ c.cut_first-x.ensures.first c.cut_first-y.ensures.first c.identifier_cmp.ensures c.in-Equal.is c.cut_first-x.ensures.rest c.cut_first-y.ensures.rest in
    sym (more c.args.numbers_below c.in-Some-None.field-0-0.now) ∙ rw (c.in-Some-None.is-0, c.in-Some-None.is-1) at t ∙ c.parts.invariant

pub returns-in-None-Some : goal.returns-in-None-Some
returns-in-None-Some c =
    let t = tied c.args.numbers_below c.parts.a_rest.now c.parts.b_rest.now _ _ c.identifier_cmp.result _ _ c.cut_first-x.ensures.first c.cut_first-y.ensures.first c.identifier_cmp.ensures c.in-Equal.is c.cut_first-x.ensures.rest c.cut_first-y.ensures.rest in
    sym (fewer c.args.numbers_below c.in-None-Some.field-0-1.now) ∙ rw (c.in-None-Some.is-0, c.in-None-Some.is-1) at t ∙ c.parts.invariant

pub returns-in-None-None : goal.returns-in-None-None
returns-in-None-None c =
    let t = tied c.args.numbers_below c.parts.a_rest.now c.parts.b_rest.now _ _ c.identifier_cmp.result _ _ c.cut_first-x.ensures.first c.cut_first-y.ensures.first c.identifier_cmp.ensures c.in-Equal.is c.cut_first-x.ensures.rest c.cut_first-y.ensures.rest in
    rw (c.in-None-None.is-0, c.in-None-None.is-1) at t ∙ c.parts.invariant
