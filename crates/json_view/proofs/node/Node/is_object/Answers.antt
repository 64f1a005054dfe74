use Rattle.std.proofs.Common.{ap, subst, arith}
use Rattle.serde_json.specs.Find.{as_object}
use Rattle.json_view.specs.Trees.{shown_reading}
use Rattle.json_view.proofs.Places.{IsNodeAt, object_at, no_object_at}
use Rattle.json_view.proofs.node.Node.is_object.Goals as goal

pub returns-in-Object : goal.returns-in-Object
returns-in-Object c =
    let n = c.args.self.now in
    let o = object_at n.tape.now n.at c.in-Object.field-0 n.begins (subst (IsNodeAt n.tape.now n.at) c.in-Object.is c.node_at.ensures.value) in
    let is = ap (λ r. as_object (shown_reading r)) o.1 in
    rw is search

pub returns-in_default : goal.returns-in_default
returns-in_default c =
    let n = c.args.self.now in
    let is = no_object_at n.tape.now n.at c.node_at.result (λ a e. grind arith) n.begins c.node_at.ensures.value in
    rw is search
