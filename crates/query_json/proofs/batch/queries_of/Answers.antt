use Rattle.std.proofs.Common.{◌≡◌, ◌+◌, List, length, sym, subst, ap, arith}
use Rattle.std.specs.List.{enumerate_from}
use Rattle.serde_json.specs.Data.{Data}
use Rattle.osv_prim.specs.Results.{onto}
use Rattle.osv_prim.proofs.Each.{reads_on}
use Rattle.json_view.specs.Views.{element_values, node_value}
use Rattle.query_json.specs.Batches.{numbered_query, queries_from}
use Rattle.query_json.proofs.batch.queries_of.Goals as goal

pub loop-node-preserved : goal.loop-node-preserved
loop-node-preserved c =
    let total = queries_from 0 (element_values c.args.elements) in
    let index = c.loop-node.index in
    let left = element_values c.next.new.self in
    let here = subst (λ (ds : List Data). onto c.loop-node.queries (queries_from index ds) ≡ total) c.in-Some.ensures.some c.loop-node.invariant.0 in
    let length_here = ap (λ (ds : List Data). length ds) c.in-Some.ensures.some in (
      subst (λ qs. onto qs (queries_from (index + 1) left) ≡ total) (sym c.in_ok-push.ensures.ok)
          (reads_on numbered_query c.loop-node.queries (index, node_value c.in-Some.node) (enumerate_from (index + 1) left) c.in_ok-query_at.field-0 total c.in_ok-query_at.ensures here),
      omega (arith, length_here, c.loop-node.invariant.1),
    )
