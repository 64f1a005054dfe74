use Rattle.std.proofs.Common.{◌≡◌, ◌≤◌, List, sym, ap, ◌∙◌, arith}
use Rattle.std.proofs.Math.Nat.{min-eq_left}
use Rattle.std.specs.HashMap.{get}
use Rattle.std.specs.Str.{bytes_eq}
use Rattle.osv_prim.specs.declared.oid.CommitRow.{CommitRow}
use Rattle.commit_graph.specs.Linked.{weight_of}
use Rattle.history.specs.Prefixes.{graph}
use Rattle.book_model.specs.State.{State}
use Rattle.book.specs.Entries.{history_of}
use Rattle.book.proofs.Numbers.{graph_small}
use Rattle.book.proofs.Repositories.{one_kept}
use Rattle.book.proofs.ledger.Book.standing.Goals as goal

pub returns-in-Some-clause-weight : goal.returns-in-Some-clause-weight
returns-in-Some-clause-weight c =
    let kept = one_kept (history_of c.self.inside.entries.items) c.args.self.now.history c.args.key.now (get bytes_eq c.self.inside.repos) c.in-Some.repo.now (ap (λ (s : State). s.history) c.self.view_is) c.self.invariant.3
    (sym c.in-Some.ensures.value) in
    let is : weight_of c.deref-in-Some.result.now ≡ weight_of (graph c.args.self.now.history c.args.key.now) = ap (λ (g : List CommitRow). weight_of g) (c.deref-in-Some.ensures ∙ kept.1) in
    let small : weight_of (graph c.args.self.now.history c.args.key.now) ≤ 4294967296 = graph_small c.args.self.now c.args.key.now c.self.view_is c.self.invariant.0 in
    c.weight.ensures ∙ min-eq_left (omega (arith, is, small)) ∙ is
