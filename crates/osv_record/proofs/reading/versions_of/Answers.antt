use Rattle.std.proofs.Common.{◌≡◌, ◌∷◌, ◌++◌, [], ℕ, List, sym, ap, subst, ◌∙◌}
use Rattle.serde_json.specs.Data.{Data}
use Rattle.osv_prim.specs.Results.{each, onto}
use Rattle.osv_prim.proofs.Each.{reads_on}
use Rattle.json_view.specs.Views.{element_values, node_value}
use Rattle.osv_record.specs.Reading.{version_of}
use Rattle.osv_record.proofs.reading.versions_of.Goals as goal

pub loop-node-preserved : goal.loop-node-preserved
loop-node-preserved c =
    let total = each version_of (element_values c.args.elements) in
    let here = subst (λ (ds : List Data). onto c.loop-node.versions (each version_of ds) ≡ total) c.in-Some.ensures.some c.loop-node.invariant in
    let longer = c.in_ok-push.ensures.ok ∙ ap (λ (text : List ℕ). c.loop-node.versions ++ text ∷ []) c.as_bytes.ensures.value in
    subst (λ (vs : List (List ℕ)). onto vs (each version_of (element_values c.next.new.self)) ≡ total) (sym longer)
    (reads_on version_of c.loop-node.versions (node_value c.in-Some.node) (element_values c.next.new.self) c.in_ok-version_of.field-0.now total c.in_ok-version_of.ensures here)
