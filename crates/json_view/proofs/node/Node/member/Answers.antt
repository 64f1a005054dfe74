use Rattle.std.proofs.Common.{drop, Some, sym, ap, ◌∙◌, subst, arith}
use Rattle.json.specs.Find.{BeginsWith}
use Rattle.json_view.specs.Json.{named}
use Rattle.json_view.specs.Trees.{shown_reading}
use Rattle.json_view.proofs.Places.{IsNodeAt, read, reads, is_read, object_at, no_object_at, not_null_here, a_null}
use Rattle.json_view.proofs.Shown.{no_member, named_none, named_null, named_some}
use Rattle.json_view.proofs.node.Node.member.Goals as goal

pub returns-in_default : goal.returns-in_default
returns-in_default c =
    let n = c.args.self.now in
    sym (no_member c.args.name.now (shown_reading _) (no_object_at n.tape.now n.at c.node_at.result (λ a e. grind arith) n.begins c.node_at.ensures.value))

pub overflow_add-self : goal.overflow_add-self
overflow_add-self c =
    let n = c.args.self.now in
    let r = read (drop n.at n.tape.now) n.begins in
    let within = c.node_at.ensures.within r.0 r.2 in
    omega (arith, within.0, within.1)

pub returns-in_default-last_named : goal.returns-in_default-last_named
returns-in_default-last_named c =
    let n = c.args.self.now in
    let o = object_at n.tape.now n.at c.in-Object.field-0 n.begins (subst (IsNodeAt n.tape.now n.at) c.in-Object.is c.node_at.ensures.value) in
    sym (ap (λ r. named c.args.name.now (shown_reading r)) o.1 ∙ named_none c.args.name.now o.0 (c.in_default-last_named.ensures o.0 o.2))

pub returns-in-Null : goal.returns-in-Null
returns-in-Null c =
    let n = c.args.self.now in
    let o = object_at n.tape.now n.at c.in-Object.field-0 n.begins (subst (IsNodeAt n.tape.now n.at) c.in-Object.is c.node_at.ensures.value) in
    let f = c.in-Some.ensures o.0 o.2 in
    let null_is = a_null _ f.0 (subst (λ ts. BeginsWith ts f.0) (c.in-Null.ensures.value f.0 f.2) f.2) in
    sym (ap (λ r. named c.args.name.now (shown_reading r)) o.1 ∙ named_null c.args.name.now o.0 f.0 f.1 null_is)

pub invariant_of-result : goal.invariant_of-result
invariant_of-result c =
    let n = c.args.self.now in
    let o = object_at n.tape.now n.at c.in-Object.field-0 n.begins (subst (IsNodeAt n.tape.now n.at) c.in-Object.is c.node_at.ensures.value) in
    let f = c.in-Some.ensures o.0 o.2 in
    record { begins = is_read _ f.0 f.2 }

pub returns : goal.returns
returns c =
    let n = c.args.self.now in
    let o = object_at n.tape.now n.at c.in-Object.field-0 n.begins (subst (IsNodeAt n.tape.now n.at) c.in-Object.is c.node_at.ensures.value) in
    let f = c.in-Some.ensures o.0 o.2 in
    let there = not_null_here c.node_at-2.result _ f.0 c.in_default-node_at.not-Null (subst (λ ts. BeginsWith ts f.0) (c.node_at-2.ensures.value f.0 f.2) f.2) in
    ap (λ r. Some (shown_reading r)) (reads _ f.0 f.2) ∙ sym (ap (λ r. named c.args.name.now (shown_reading r)) o.1 ∙ named_some c.args.name.now o.0 f.0 f.1 there)
