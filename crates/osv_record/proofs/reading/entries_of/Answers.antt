use Rattle.std.proofs.Common.{◌≡◌, List, sym, subst}
use Rattle.serde_json.specs.Data.{Data}
use Rattle.osv_prim.specs.Results.{each, onto}
use Rattle.osv_prim.proofs.Each.{reads_on}
use Rattle.json_view.specs.Views.{element_values, node_value}
use Rattle.osv_record.specs.Reading.{entry_of}
use Rattle.osv_record.proofs.reading.entries_of.Goals as goal

pub loop-node-preserved : goal.loop-node-preserved
loop-node-preserved c =
    let total = each entry_of (element_values c.args.elements) in
    let here = subst (λ (ds : List Data). onto c.loop-node.entries (each entry_of ds) ≡ total) c.in-Some.ensures.some c.loop-node.invariant in
    subst (λ vs. onto vs (each entry_of (element_values c.next.new.self)) ≡ total) (sym c.in_ok-push.ensures.ok)
    (reads_on entry_of c.loop-node.entries (node_value c.in-Some.node) (element_values c.next.new.self) c.in_ok-entry_of.field-0 total c.in_ok-entry_of.ensures here)
