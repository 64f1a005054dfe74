use Rattle.std.proofs.Common.{◌≡◌, ◌+◌, ◌∷◌, drop, get_or, ap, ◌∙◌, subst, arith}
use Rattle.std.proofs.lemmas.List.{length-drop}
use Rattle.json.specs.Token.{key}
use Rattle.json.specs.Tape.{node_token}
use Rattle.json.specs.Find.{InMembers}
use Rattle.json.specs.declared.tape.Node.TheVariants.{Object}
use Rattle.json.proofs.Found.{members_short, members_close, members_go_on}
use Rattle.json_view.proofs.Places.{token_here, as_long, no_key}
use Rattle.json_view.proofs.walk.take_member.Goals as goal

pub returns-then-here-saturating_sub-clause-value : goal.returns-then-here-saturating_sub-clause-value
returns-then-here-saturating_sub-clause-value c ms given =
    let all = c.args.tape.now in
    let i = c.args.at.now in
    let long = as_long all c.nodes-nodes.result.now c.nodes-nodes.ensures.tokens in
    members_short (drop i all) ms (omega (arith, length-drop i all, long)) given

pub returns-in_default : goal.returns-in_default
returns-in_default c =
    let all = c.args.tape.now in
    let ns = c.nodes-nodes.result.now in
    let i = c.args.at.now in
    let n = get_or ns i (Object 0) in
    record {
      value = λ ms given. members_close (node_token n) _ ms (no_key n (λ s e. grind arith)) (subst (λ ts. InMembers ts ms) (token_here all ns i (Object 0) c.nodes-nodes.ensures.tokens (omega arith)) given);
      later = tt;
    }

pub returns-clause-value : goal.returns-clause-value
returns-clause-value c ms given =
    let all = c.args.tape.now in
    let i = c.args.at.now in
    let k = c.in-Key.key.now in
    let named : drop i all ≡ key k ∷ drop (i + 1) all = token_here all c.nodes-nodes.result.now i (Object 0) c.nodes-nodes.ensures.tokens (omega arith) ∙ ap (λ n. node_token n ∷ drop (i + 1) all) c.in-Key.is in
    let f = members_go_on k (drop (i + 1) all) ms (subst (λ ts. InMembers ts ms) named given) in
    (f.1, f.3, f.5, (f.0, f.2, f.4), subst (λ ts. InMembers ts f.3) (c.after.ensures.value f.0 f.1 f.2 f.4) f.6)
