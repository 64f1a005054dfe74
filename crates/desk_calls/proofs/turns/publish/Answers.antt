use Rattle.desk_calls.proofs.Publishing.{published-behind, alone-behind}
use Rattle.desk_calls.proofs.turns.publish.Goals as goal

pub returns : goal.returns
returns g c = record {
  published = published-behind (g.D.Desk.caller c.args.desk.now) (g.D.Desk.caller c.count_of-goal.new.desk) (g.D.Desk.caller c.publish_to.new.desk) c.count_of-goal.result c.publish_to.result c.count_of-goal.ensures c.publish_to.ensures.published;
  alone = alone-behind (g.D.Desk.caller c.args.desk.now) (g.D.Desk.caller c.count_of-goal.new.desk) (g.D.Desk.caller c.publish_to.new.desk) c.count_of-goal.result c.publish_to.result c.count_of-goal.ensures c.publish_to.ensures.alone;
}
