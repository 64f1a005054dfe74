use Rattle.std.proofs.Common.{subst, arith}
use Rattle.std.proofs.lemmas.List.{drop_all}
use Rattle.json.specs.Find.{BeginsWith}
use Rattle.json.specs.declared.tape.Node.TheVariants.{Object}
use Rattle.json.proofs.Found.{not_empty}
use Rattle.json_view.proofs.Places.{token_here, as_long}
use Rattle.json_view.proofs.walk.node_at.Goals as goal

pub returns-then-at-nodes-clause-value : goal.returns-then-at-nodes-clause-value
returns-then-at-nodes-clause-value c j begins = token_here c.args.tape.now c.nodes-nodes.result.now c.args.at (Object 0) c.nodes-nodes.ensures.tokens (omega arith)

pub returns-then-at-nodes-clause-within : goal.returns-then-at-nodes-clause-within
returns-then-at-nodes-clause-within c j begins =
    let long = as_long c.args.tape.now c.nodes-nodes.result.now c.nodes-nodes.ensures.tokens in
    (omega (arith, long), omega (arith, long))

pub returns-else-at-nodes-clause-value : goal.returns-else-at-nodes-clause-value
returns-else-at-nodes-clause-value c j begins =
    let long = as_long c.args.tape.now c.nodes-nodes.result.now c.nodes-nodes.ensures.tokens in
    absurd (not_empty j (subst (λ ts. BeginsWith ts j) (drop_all c.args.at c.args.tape.now (omega (arith, long))) begins))

pub returns-else-at-nodes-clause-within : goal.returns-else-at-nodes-clause-within
returns-else-at-nodes-clause-within c j begins =
    let long = as_long c.args.tape.now c.nodes-nodes.result.now c.nodes-nodes.ensures.tokens in
    absurd (not_empty j (subst (λ ts. BeginsWith ts j) (drop_all c.args.at c.args.tape.now (omega (arith, long))) begins))
