use Rattle.std.proofs.Common.{◌≡◌, rules}
use Rattle.std.specs.Prelude.{Ok}
use Rattle.std.specs.Arc.{arc_value}
use Rattle.osv_record.specs.Reading.{advisory}
use Rattle.desk_answers.proofs.Importing.{import-entered}
use Rattle.desk_answers.proofs.import.import.Goals as goal

pub returns-in-Ok-new : goal.returns-in-Ok-new
returns-in-Ok-new g c =
    let read : advisory c.args.request.body ≡ Ok (arc_value c.in-Ok-new.advisory) = search rules in
    import-entered (g.D.Desk.caller c.args.desk.now) (g.D.Desk.caller c.enter.new.desk) c.args.closes c.args.request (arc_value c.in-Ok-new.advisory) c.enter.result read c.enter.ensures
