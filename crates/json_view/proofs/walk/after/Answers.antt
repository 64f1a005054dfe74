use Rattle.std.proofs.Common.{get_or, sym, ap, ◌∙◌, arith}
use Rattle.json.specs.Json.{value}
use Rattle.json.specs.declared.tape.Node.TheVariants.{Object}
use Rattle.json_view.proofs.Places.{token_here, as_long, one_token, passes, by_link}
use Rattle.json_view.proofs.walk.after.Goals as goal

pub returns-in_default : goal.returns-in_default
returns-in_default c =
    let all = c.args.tape.now in
    let ns = c.nodes.result.now in
    let i = c.args.at in
    let n = get_or ns i (Object 0) in
    let same = c.nodes.ensures.tokens in
    record {
      value = λ depth j rest e. one_token n _ j depth rest (λ a z. grind arith) (λ a z. grind arith) (ap (value depth) (sym (token_here all ns i (Object 0) same (omega (arith, as_long all ns same, c.requires)))) ∙ e);
      later = omega arith;
    }

pub returns-in-Object-clause-value : goal.returns-in-Object-clause-value
returns-in-Object-clause-value c depth j rest e =
    let all = c.args.tape.now in
    let ns = c.nodes.result.now in
    let i = c.args.at in
    let within = as_long all ns c.nodes.ensures.tokens in
    by_link all i c.in-Object.end depth j rest (passes all ns i c.in-Object.end (omega (arith, within, c.requires)) c.nodes.ensures.links c.in-Object.is) e

pub returns-in-Object-clause-later : goal.returns-in-Object-clause-later
returns-in-Object-clause-later c =
    let within = as_long c.args.tape.now c.nodes.result.now c.nodes.ensures.tokens in
    (passes c.args.tape.now c.nodes.result.now c.args.at c.in-Object.end (omega (arith, within, c.requires)) c.nodes.ensures.links c.in-Object.is).2

pub returns-in-Object-2-clause-value : goal.returns-in-Object-2-clause-value
returns-in-Object-2-clause-value c depth j rest e =
    let all = c.args.tape.now in
    let ns = c.nodes.result.now in
    let i = c.args.at in
    let within = as_long all ns c.nodes.ensures.tokens in
    by_link all i c.in-Object.end depth j rest (passes all ns i c.in-Object.end (omega (arith, within, c.requires)) c.nodes.ensures.links c.in-Object.is) e

pub returns-in-Object-2-clause-later : goal.returns-in-Object-2-clause-later
returns-in-Object-2-clause-later c =
    let within = as_long c.args.tape.now c.nodes.result.now c.nodes.ensures.tokens in
    (passes c.args.tape.now c.nodes.result.now c.args.at c.in-Object.end (omega (arith, within, c.requires)) c.nodes.ensures.links c.in-Object.is).2
