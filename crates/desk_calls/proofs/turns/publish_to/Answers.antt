use Rattle.std.proofs.Common.{arith, rules, subst}
use Rattle.session_model.proofs.Runs.{goes-refl}
use Rattle.session_model.proofs.Counting.{rises-none}
use Rattle.desk_calls.specs.declared.turns.Turned.{Turned}
use Rattle.desk_calls.specs.Publishing.{Turns}
use Rattle.desk_calls.proofs.Publishing.{going-start, going-on, reached-ends, reached-alone, out-ends, never-out, stopped, stopped-alone, all-taken, never-taken}
use Rattle.desk_calls.proofs.turns.publish_to.Goals as goal

pub loop-took-init : goal.loop-took-init
loop-took-init g c =
    let old = g.D.Desk.caller c.args.desk.now in
    record { going = going-start old c.args.goal c.requires c.point-known.ensures.known (goes-refl old c.point-known.ensures.known.legal) (rises-none old); within = omega arith }

pub one_turn-requires : goal.one_turn-requires
one_turn-requires g c = (search rules, c.loop-took.invariant.going.so_far.goal_came)

pub loop-took-preserved : goal.loop-took-preserved
loop-took-preserved g c =
    let mid = g.D.Desk.caller c.loop-took.desk in
    let new = g.D.Desk.caller c.one_turn.new.desk in
    record {
      going = going-on (g.D.Desk.caller c.args.desk.now) mid new c.args.goal c.loop-took.took c.loop-took.invariant.going
          (subst (λ (t : Turned). Turns mid c.args.goal t new) c.in-Ok-Finished.field-0-is c.in-Ok-Finished.ensures);
      within = omega arith;
    }

pub returns-in-Ok-Reached : goal.returns-in-Ok-Reached
returns-in-Ok-Reached g c =
    let old = g.D.Desk.caller c.args.desk.now in
    let mid = g.D.Desk.caller c.loop-took.desk in
    let new = g.D.Desk.caller c.one_turn.new.desk in
    let reached = subst (λ (t : Turned). Turns mid c.args.goal t new) c.in-Ok-Reached.field-0-is c.in-Ok-Reached.ensures in
    record {
      published = reached-ends old mid new c.args.goal c.loop-took.took c.in-Ok-Reached.snapshot c.in-Ok-Reached.upto c.loop-took.invariant.going reached;
      alone = reached-alone old mid new c.args.goal c.loop-took.took c.in-Ok-Reached.snapshot c.in-Ok-Reached.upto c.loop-took.invariant.going reached;
    }

pub returns-in-Ok-Out : goal.returns-in-Ok-Out
returns-in-Ok-Out g c =
    let old = g.D.Desk.caller c.args.desk.now in
    let mid = g.D.Desk.caller c.loop-took.desk in
    let new = g.D.Desk.caller c.one_turn.new.desk in
    let out = subst (λ (t : Turned). Turns mid c.args.goal t new) c.in-Ok-Out.field-0-is c.in-Ok-Out.ensures in
    record {
      published = out-ends old mid new c.args.goal c.loop-took.took c.in-Ok-Out.out c.loop-took.invariant.within c.loop-took.invariant.going out;
      alone = λ alone all. absurd (never-out old mid new c.args.goal c.loop-took.took c.in-Ok-Out.out c.loop-took.invariant.going out alone all);
    }

pub returns-in-Err : goal.returns-in-Err
returns-in-Err g c =
    let old = g.D.Desk.caller c.args.desk.now in
    let mid = g.D.Desk.caller c.loop-took.desk in
    let new = g.D.Desk.caller c.one_turn.new.desk in
    record {
      published = stopped old mid new c.args.goal c.loop-took.took c.loop-took.invariant.going c.in-Err.ensures;
      alone = stopped-alone old mid new c.args.goal c.loop-took.took c.in-Err.field-0 c.loop-took.invariant.going c.in-Err.ensures;
    }

pub returns : goal.returns
returns g c =
    let old = g.D.Desk.caller c.args.desk.now in
    let now = g.D.Desk.caller c.loop-took.desk in
    record {
      published = all-taken old now c.args.goal c.loop-took.took c.loop-took.invariant.within (omega arith) c.loop-took.invariant.going;
      alone = λ alone all. absurd (never-taken old now c.args.goal c.loop-took.took (omega arith) c.loop-took.invariant.going alone all);
    }
