use Rattle.std.proofs.Common.{◌∷◌, ◌+◌, drop, Some, sym, ap, ◌∙◌, subst, arith}
use Rattle.json.specs.Token.{begin_array}
use Rattle.json.specs.Json as tree
use Rattle.json_view.specs.Json.{as_list}
use Rattle.json_view.specs.Trees.{shown_reading, shown_elements}
use Rattle.json_view.proofs.Places.{IsNodeAt, read, reads, is_read, in_array, array_at, no_array_at}
use Rattle.json_view.proofs.node.Node.elements.Goals as goal

pub overflow_add-result : goal.overflow_add-result
overflow_add-result c =
    let n = c.args.self.now in
    let r = read (drop n.at n.tape.now) n.begins in
    let within = c.node_at.ensures.within r.0 r.2 in
    omega (arith, within.0, within.1)

pub invariant_of-result : goal.invariant_of-result
invariant_of-result c =
    let n = c.args.self.now in
    let a = array_at n.tape.now n.at c.in-Array.field-0 n.begins (subst (IsNodeAt n.tape.now n.at) c.in-Array.is c.node_at.ensures.value) in
    record { begins = is_read (begin_array ∷ drop (n.at + 1) n.tape.now) (tree.array a.0) (in_array (drop (n.at + 1) n.tape.now) a.0 a.2) }

pub returns-in-Array : goal.returns-in-Array
returns-in-Array c =
    let n = c.args.self.now in
    let a = array_at n.tape.now n.at c.in-Array.field-0 n.begins (subst (IsNodeAt n.tape.now n.at) c.in-Array.is c.node_at.ensures.value) in
    ap (λ o. Some (shown_elements o)) (reads (begin_array ∷ drop (n.at + 1) n.tape.now) (tree.array a.0) (in_array (drop (n.at + 1) n.tape.now) a.0 a.2))
    ∙ sym (ap (λ o. as_list (shown_reading o)) a.1)

pub returns-in_default : goal.returns-in_default
returns-in_default c =
    let n = c.args.self.now in
    sym (no_array_at n.tape.now n.at c.node_at.result (λ a e. grind arith) n.begins c.node_at.ensures.value)
