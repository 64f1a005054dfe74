use Rattle.std.proofs.Common.{◌<◌, ℕ, List, ◌∷◌, [], ◌++◌, length, take, is_some, sym, ap, ◌∙◌}
use Rattle.std.proofs.lemmas.Bool.{and_from}
use Rattle.std.proofs.lemmas.List.{map_push, take_more}
use Rattle.std.proofs.lemmas.List.Elements.{All-push}
use Rattle.std.proofs.lemmas.List.Folds.{list_all_at, list_all_more}
use Rattle.osv_prim.specs.Graphs.{has, id_at}
use Rattle.commit_graph.proofs.Rows.{found}
use Rattle.commit_graph.proofs.graph.Graph.find_all.Goals as goal

pub returns-in-None-clause-all : goal.returns-in-None-clause-all
returns-in-None-clause-all c =
    let unknown = ap (has c.args.self.now) (sym c.oid-item.is) ∙ sym c.number_of.ensures.found ∙ ap is_some c.in-None.is in
    sym (list_all_at (has c.args.self.now) c.args.oids.now c.loop-oid.oid-index c.oid-item.result c.loop-oid-test.true unknown)

pub loop-oid-preserved : goal.loop-oid-preserved
loop-oid-preserved c =
    let at = found c.args.self.now c.oid-item.result c.in-Some.number (sym c.number_of.ensures.number ∙ c.in-Some.is) in
    let known = ap (has c.args.self.now) (sym c.oid-item.is) ∙ sym c.number_of.ensures.found ∙ ap is_some c.in-Some.is in
    record {
      known =
          list_all_more (has c.args.self.now) c.args.oids.now c.loop-oid.oid-index c.oid-item.result c.loop-oid-test.true
          ∙ and_from _ _ c.loop-oid.invariant.known known;
      named =
          rw c.in_ok-push-in-Some.ensures.items
          (map_push (id_at c.args.self.now) c.loop-oid.numbers.items c.in-Some.number
          ∙ ap (λ (xs : List (List ℕ)). xs ++ id_at c.args.self.now c.in-Some.number ∷ []) c.loop-oid.invariant.named
          ∙ ap (λ (x : List ℕ). take c.loop-oid.oid-index c.args.oids.now ++ x ∷ []) (at.1 ∙ c.oid-item.is)
          ∙ sym (take_more c.args.oids.now c.loop-oid.oid-index c.oid-item.result c.loop-oid-test.true));
      below =
          rw c.in_ok-push-in-Some.ensures.items
          (All-push (λ n. n < length c.args.self.now) c.loop-oid.numbers.items c.in-Some.number c.loop-oid.invariant.below at.0);
    }
