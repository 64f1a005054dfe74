use Rattle.std.proofs.Common.{◌≡◌, ◌+◌, drop, get_or, map, true, false, refl, sym, ap, ◌∙◌, arith, true≢false}
use Rattle.std.proofs.lemmas.List.{drop_all, length-map}
use Rattle.json.specs.Tape.{node_token}
use Rattle.json.specs.declared.tape.Node.TheVariants.{Object}
use Rattle.json_view.proofs.Depths.{suits, suits-stop, suits-step, within_from_suits, suits_from_within}
use Rattle.json_view.proofs.Places.{token_here}
use Rattle.json_view.proofs.limits.is_within.Goals as goal

pub returns-in_default : goal.returns-in_default
returns-in_default c j same =
    let ns = c.nodes-node-items.result.now in
    let all = map node_token ns in
    let i = c.loop-node.node-index in
    let first = token_here all ns i (Object 0) refl c.loop-node-test.true in
    let stops = suits-stop c.loop-node.depth (node_token (get_or ns i (Object 0))) (drop (i + 1) all) (sym c.depth_after.ensures ∙ c.in_default.is) in
    let fails : suits 0 all ≡ false = sym c.loop-node.invariant ∙ ap (suits c.loop-node.depth) first ∙ stops in
    (λ e. absurd (true≢false (sym e)), λ h. absurd (true≢false (sym (suits_from_within all j (c.nodes-node-items.ensures.tokens ∙ same) h.0 h.1) ∙ fails)))

pub loop-node-preserved : goal.loop-node-preserved
loop-node-preserved c =
    let ns = c.nodes-node-items.result.now in
    let all = map node_token ns in
    let i = c.loop-node.node-index in
    let first = token_here all ns i (Object 0) refl c.loop-node-test.true in
    let steps = suits-step c.loop-node.depth c.in-Some.next (node_token (get_or ns i (Object 0))) (drop (i + 1) all) (sym c.depth_after.ensures ∙ c.in-Some.is) in
    sym (ap (suits c.loop-node.depth) first ∙ steps) ∙ c.loop-node.invariant

pub returns : goal.returns
returns c j same =
    let ns = c.nodes-node-items.result.now in
    let all = map node_token ns in
    let passes : suits 0 all ≡ true = sym c.loop-node.invariant ∙ ap (suits c.loop-node.depth) (drop_all c.loop-node.node-index all (omega (arith, length-map ns node_token, c.loop-node-test.false))) in
    (λ _. within_from_suits all j (c.nodes-node-items.ensures.tokens ∙ same) passes, λ _. refl)
