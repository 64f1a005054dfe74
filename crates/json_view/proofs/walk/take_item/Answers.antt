use Rattle.std.proofs.Common.{◌≡◌, ◌+◌, ◌∷◌, drop, get_or, refl, ap, ◌∙◌, subst, arith}
use Rattle.std.proofs.lemmas.List.{drop_all}
use Rattle.json.specs.Token.{end_array}
use Rattle.json.specs.Json.{after_end_array}
use Rattle.json.specs.Tape.{node_token}
use Rattle.json.specs.Find.{InItems}
use Rattle.json.specs.declared.tape.Node.TheVariants.{Object}
use Rattle.json.proofs.Found.{items_close, items_go_on, items_need_tokens}
use Rattle.json_view.proofs.Places.{token_here, as_long, no_close}
use Rattle.json_view.proofs.walk.take_item.Goals as goal

pub returns-then-here-nodes-clause-value : goal.returns-then-here-nodes-clause-value
returns-then-here-nodes-clause-value c js given =
    let long = as_long c.args.tape.now c.nodes-nodes.result.now c.nodes-nodes.ensures.tokens in
    absurd (items_need_tokens js (subst (λ ts. InItems ts js) (drop_all c.args.at.now c.args.tape.now (omega (arith, long))) given))

pub returns-in-EndArray-clause-value : goal.returns-in-EndArray-clause-value
returns-in-EndArray-clause-value c js given =
    let all = c.args.tape.now in
    let i = c.args.at.now in
    let closing : drop i all ≡ end_array ∷ drop (i + 1) all =
    token_here all c.nodes-nodes.result.now i (Object 0) c.nodes-nodes.ensures.tokens (omega arith) ∙ ap (λ n. node_token n ∷ drop (i + 1) all) c.in-EndArray.is in
    items_close _ js (subst (λ ts. InItems ts js) closing given)

pub returns : goal.returns
returns c =
    let all = c.args.tape.now in
    let ns = c.nodes-nodes.result.now in
    let i = c.args.at.now in
    record {
      value = λ js given.
          let going = ap after_end_array (token_here all ns i (Object 0) c.nodes-nodes.ensures.tokens (omega arith)) ∙ no_close (get_or ns i (Object 0)) _ (λ e. grind arith) in
          let f = items_go_on (drop i all) js going given in
          (f.1, f.3, f.5, (f.0, f.2, f.4), subst (λ ts. InItems ts f.3) (c.after.ensures.value f.0 f.1 f.2 f.4) f.6);
      later = (c.after.ensures.later, omega (arith, as_long all ns c.nodes-nodes.ensures.tokens), omega (arith, as_long all ns c.nodes-nodes.ensures.tokens));
      here = refl;
    }
