use Rattle.std.proofs.Common.{◌≡◌, ℕ, List, length, Option, ap, sym, ◌∙◌, arith}
use Rattle.std.specs.Arc.{arc_value}
use Rattle.std.specs.Option.{option_map_or}
use Rattle.osv_prim.specs.Graphs.{id_at, is_named}
use Rattle.osv_prim.specs.declared.event.Event.{Event}
use Rattle.osv_prim.specs.declared.event.EventKind.TheVariants.{Limit}
use Rattle.osv_prim.specs.declared.oid.CommitRow.{CommitRow}
use Rattle.osv_record.specs.Advisories.{Advisory}
use Rattle.impact_set.specs.Standing.{Known}
use Rattle.piece_work.specs.Works.{events_at, events_of, old_count}
use Rattle.piece_work.proofs.piece.work.Goals as goal

pub returns-in-Extend-Some-clause-few : goal.returns-in-Extend-Some-clause-few
returns-in-Extend-Some-clause-few g c is none =
    let count : old_count c.args.piece.now ≡ length c.deref-in-Extend-Some.result.now.reached =
    ap (λ (o : Option _). option_map_or (λ (x : _). length (arc_value {X = Known} x).reached) o 0) c.in-Extend-Some.is-1 ∙ ap (λ (k : Known). length k.reached) (sym c.deref-in-Extend-Some.ensures)
    in
    let graph = c.deref-in-Extend-Some-2.ensures in
    let long = ap (λ (xs : List CommitRow). length xs) graph in
    let events : c.events_at-events.result.now ≡ events_of c.args.piece.now =
    c.events_at-events.ensures ∙ ap (λ (r : Advisory). events_at r c.args.piece.now.entry c.args.piece.now.range) c.deref.ensures
    in
    omega (
      arith,
      count,
      long,
      c.extended.ensures.few (λ k le lt.
          ap (λ (es : List Event). is_named Limit es (id_at c.deref-in-Extend-Some-2.result.now k)) events
          ∙ ap (λ (xs : List CommitRow). is_named Limit (events_of c.args.piece.now) (id_at xs k)) graph
          ∙ none k (omega (arith, count, le)) (omega (arith, long, lt))),
    )
