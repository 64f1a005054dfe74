use Rattle.std.proofs.Common.{List, ℕ, Option, map, take, ap, ◌∙◌}
use Rattle.std.specs.Arc.{arc_value}
use Rattle.osv_prim.specs.declared.oid.CommitRow.{CommitRow}
use Rattle.osv_prim.specs.Graphs.{number_of}
use Rattle.set_hits.specs.Places.{Place, places_of, with_place}
use Rattle.set_hits.proofs.Placing.{one_place}
use Rattle.set_hits.proofs.places.places_of.Goals as goal

pub loop-key-preserved : goal.loop-key-preserved
loop-key-preserved c =
    let so_far : List Place = places_of (map (λ g. (g.0, arc_value g.1)) (take c.loop-key.key-index c.args.repos.now)) c.args.commit.now in
    c.in_ok-put.ensures
    ∙ ap (λ (ps : List Place). with_place ps c.loop-key-item.result.0 c.number_of.result) c.loop-key.invariant
    ∙ ap (λ (o : Option ℕ). with_place so_far c.loop-key-item.result.0 o) (c.number_of.ensures.number ∙ ap (λ (g : List CommitRow). number_of g c.args.commit.now) c.deref.ensures)
    ∙ one_place (λ g. (g.0, arc_value g.1)) c.args.repos.now c.loop-key.key-index c.loop-key-item.result c.args.commit.now c.loop-key-test.true c.loop-key-item.is
