use Rattle.std.proofs.Common.{Option, subst}
use Rattle.std.proofs.lemmas.Result.{err_from_is_err_and}
use Rattle.fast_export.specs.declared.reader.Reader.{Reader}
use Rattle.ask.specs.Stops.{FeedsStream}
use Rattle.ask.proofs.Streaming.{graph_stops}
use Rattle.ask.proofs.commits.graph_behind.Goals as goal

pub returns-in_err-graph_of-in-Some-clause-stops : goal.returns-in_err-graph_of-in-Some-clause-stops
returns-in_err-graph_of-in-Some-clause-stops g c =
    let limit = c.args.reader.now.limit in
    let p = err_from_is_err_and c.from_residual-in_err-graph_of-in-Some.result c.from_residual-in_err-graph_of-in-Some.ensures.1 in
    rw (p.1, p.2) (λ text total h.
    graph_stops text total limit c.in-Some.stream c.in_err-graph_of-in-Some.field-0.0
    (subst (λ (s : Option Reader). FeedsStream text total limit s) c.in-Some.is (c.in_ok-stream.ensures.feeds text total h)) (c.in_err-graph_of-in-Some.ensures text))

pub returns-in_ok-graph_of-in-Some-clause-graph : goal.returns-in_ok-graph_of-in-Some-clause-graph
returns-in_ok-graph_of-in-Some-clause-graph g c = λ text total h.
    let limit = c.args.reader.now.limit in
    let f = subst (λ (s : Option Reader). FeedsStream text total limit s) c.in-Some.is (c.in_ok-stream.ensures.feeds text total h) in
    (c.in_ok-graph_of-in-Some.ensures text f.0, f.1)
