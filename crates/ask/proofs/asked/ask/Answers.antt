use Rattle.std.proofs.Common.{◌∙◌, refl, ap}
use Rattle.ask.specs.Asked.{ids_output}
use Rattle.ask.proofs.Answering.{answers_ids, answers_stop}
use Rattle.ask.proofs.asked.ask.Goals as goal

pub returns-in-Ok-clause-answer : goal.returns-in-Ok-clause-answer
returns-in-Ok-clause-answer g c =
    let r = c.new-reader in
    answers_ids c.args.subject.now c.args.limit (g.S.Source.left c.args.source.now) (g.S.Source.left c.hit_ids.new.source) r.result c.in_ok-ids_output-in-Ok.field-0 c.in-Ok.ids.items r.ensures.stands r.ensures.limit c.in-Ok.ensures.ids
    (c.in-Ok.ensures.end refl (r.ensures.end _)) (c.in_ok-ids_output-in-Ok.ensures ∙ ap ids_output c.as_slice.ensures.value)

pub returns-clause-answer : goal.returns-clause-answer
returns-clause-answer g c =
    let r = c.new-reader in
    answers_stop c.args.subject.now c.args.limit (g.S.Source.left c.args.source.now) (g.S.Source.left c.hit_ids.new.source) (g.S.Source.left c.told.new.source) r.result c.hit_ids.new.reader c.in-Err.stop c.told.result r.ensures.stands
    r.ensures.limit c.in-Err.ensures.limit c.in-Err.ensures.stops c.told.ensures.told c.told.ensures.status
