use Rattle.std.specs.Arc.{arc_value}
use Rattle.book.proofs.Staging.{pieces-go, plan-goes, assembly-goes, unowned}
use Rattle.book.proofs.build.Open.hand_out.Goals as goal

pub returns-in-Pieces : goal.returns-in-Pieces
returns-in-Pieces c = pieces-go (arc_value c.args.base.now) c.args.build c.args.by c.args.self.now c.in-Pieces.pieces c.hand_out.new.self c.hand_out.result c.in-Pieces.is c.hand_out.ensures

pub returns-in_ok-job-in-Plan : goal.returns-in_ok-job-in-Plan
returns-in_ok-job-in-Plan c =
    plan-goes (arc_value c.args.base.now) c.args.build c.args.by c.args.self.now c.in-Plan.prefix c.in_ok-job-in-Plan.job c.in-Plan.is (unowned c.args.self.now.owner c.is_some.result c.is_some.ensures c.if-is_some.false) c.in_ok-job-in-Plan.ensures

pub returns-in_ok-job-in-Assemble : goal.returns-in_ok-job-in-Assemble
returns-in_ok-job-in-Assemble c =
    assembly-goes (arc_value c.args.base.now) c.args.build c.args.by c.args.self.now c.in-Assemble.pieces c.in_ok-job-in-Assemble.job c.in-Assemble.is (unowned c.args.self.now.owner c.is_some-in-Assemble.result c.is_some-in-Assemble.ensures c.if-is_some-2.false)
    c.in_ok-job-in-Assemble.ensures
