use Rattle.std.proofs.Common.{◌∙◌}
use Rattle.std.proofs.lemmas.List.{take_rest}
use Rattle.http_wire.proofs.Judging.{path-at, query-at, path-none, query-none}
use Rattle.http_wire.proofs.asking.split_target.Goals as goal

pub returns-in-Some-clause-path : goal.returns-in-Some-clause-path
returns-in-Some-clause-path c = path-at c.args.target.now _ c.in-Some.ensures

pub returns-in-Some-clause-query : goal.returns-in-Some-clause-query
returns-in-Some-clause-query c = take_rest c.args.target.now _ ∙ query-at c.args.target.now _ c.in-Some.ensures

pub returns-in-None-clause-path : goal.returns-in-None-clause-path
returns-in-None-clause-path c = path-none c.args.target.now c.in-None.ensures

pub returns-in-None-clause-query : goal.returns-in-None-clause-query
returns-in-None-clause-query c = query-none c.args.target.now c.in-None.ensures
