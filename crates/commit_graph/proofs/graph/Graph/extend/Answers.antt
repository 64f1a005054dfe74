use Rattle.std.proofs.Common.{ap, arith, ◌∙◌}
use Rattle.std.proofs.lemmas.List.{take_all}
use Rattle.std.proofs.lemmas.Result.{err_from_is_err_and}
use Rattle.osv_prim.specs.Graphs.{joined}
use Rattle.commit_graph.proofs.Extended.{is_extended, is_refused}
use Rattle.commit_graph.proofs.Faulty.{joined_more, still_sound, first_fault}
use Rattle.commit_graph.proofs.graph.Graph.extend.Goals as goal

pub returns-in_err-graph-2-clause-fault : goal.returns-in_err-graph-2-clause-fault
returns-in_err-graph-2-clause-fault g c =
    let p = err_from_is_err_and c.from_residual-in_err-graph-2.result c.from_residual-in_err-graph-2.ensures.1 in
    rw (p.1, p.2)
    (λ other. first_fault c.args.self.now c.args.most c.args.rows.now c.loop-index.index c.index-rows-index.result c.loop-index-test.true c.index-rows-index.is
    c.loop-index.graph c.in_err-graph-2.field-0.0 c.loop-index.invariant.so_far (c.in_err-graph-2.ensures.fault other) c.loop-index.invariant.sound)

pub returns-in_err-graph-2-clause-refused : goal.returns-in_err-graph-2-clause-refused
returns-in_err-graph-2-clause-refused g c =
    let p = err_from_is_err_and c.from_residual-in_err-graph-2.result c.from_residual-in_err-graph-2.ensures.1 in
    rw (p.1, p.2)
    (λ other. is_refused c.args.self.now c.args.most c.args.rows.now c.in_err-graph-2.field-0.0
    (first_fault c.args.self.now c.args.most c.args.rows.now c.loop-index.index c.index-rows-index.result c.loop-index-test.true c.index-rows-index.is
    c.loop-index.graph c.in_err-graph-2.field-0.0 c.loop-index.invariant.so_far (c.in_err-graph-2.ensures.fault other) c.loop-index.invariant.sound))

pub returns-clause-value : goal.returns-clause-value
returns-clause-value g c =
    is_extended c.args.self.now c.args.most c.args.rows.now c.in_ok-graph-3.graph
    (c.in_ok-graph-3.ensures ∙ c.loop-index.invariant.so_far ∙ ap (joined c.args.self.now) (take_all c.loop-index.index c.args.rows.now (omega (arith, c.loop-index-test.false))))
    (λ index lt. c.loop-index.invariant.sound index (omega (arith, lt, c.loop-index-test.false)))

pub loop-index-preserved : goal.loop-index-preserved
loop-index-preserved g c =
    record {
      so_far =
          c.in_ok-graph-2.ensures.joined
          ∙ joined_more c.args.self.now c.args.most c.args.rows.now c.loop-index.index c.index-rows-index.result c.loop-index-test.true c.index-rows-index.is c.loop-index.graph c.loop-index.invariant.so_far;
      sound =
          still_sound c.args.self.now c.args.most c.args.rows.now c.loop-index.index c.index-rows-index.result c.loop-index-test.true c.index-rows-index.is
          c.loop-index.graph c.loop-index.invariant.so_far c.in_ok-graph-2.ensures.sound c.loop-index.invariant.sound;
      steps = omega (arith, c.in_ok-graph-2.ensures.steps, c.loop-index.invariant.steps);
      records = c.in_ok-graph-2.ensures.records ∙ c.loop-index.invariant.records;
    }
