use Rattle.std.proofs.Common.{sym, ap, subst, arith}
use Rattle.serde_json.specs.Find.{as_str}
use Rattle.json_view.specs.Trees.{shown_reading}
use Rattle.json_view.proofs.Places.{IsNodeAt, text_at, no_text_at}
use Rattle.json_view.proofs.node.Node.as_str.Goals as goal

pub returns-in-String : goal.returns-in-String
returns-in-String c =
    let n = c.args.self.now in
    sym (ap (λ o. as_str (shown_reading o)) (text_at n.tape.now n.at c.in-String.text n.begins (subst (IsNodeAt n.tape.now n.at) c.in-String.is c.node_at.ensures.value)))

pub returns-in_default : goal.returns-in_default
returns-in_default c =
    let n = c.args.self.now in
    sym (no_text_at n.tape.now n.at c.node_at.result (λ s e. grind arith) n.begins c.node_at.ensures.value)
