use Rattle.std.proofs.Common.{◌∙◌, ◌+◌, ap, Some}
use Rattle.osv_prim.proofs.Dots.{cuts_none, cuts_some, rest_is}
use Rattle.osv_prim.proofs.digits.cut_first.Goals as goal

pub returns-in-None-clause-first : goal.returns-in-None-clause-first
returns-in-None-clause-first c = (cuts_none c.args.text.now c.first_dot.result c.first_dot.ensures.place c.in-None.is).0

pub returns-in-None-clause-rest : goal.returns-in-None-clause-rest
returns-in-None-clause-rest c = (cuts_none c.args.text.now c.first_dot.result c.first_dot.ensures.place c.in-None.is).1

pub returns-in-Some-clause-first : goal.returns-in-Some-clause-first
returns-in-Some-clause-first c = (cuts_some c.args.text.now c.first_dot.result c.in-Some.dot c.first_dot.ensures.place c.in-Some.is).0

pub returns-in-Some-clause-rest : goal.returns-in-Some-clause-rest
returns-in-Some-clause-rest c = ap Some (rest_is c.args.text.now (c.in-Some.dot + 1)) ∙ (cuts_some c.args.text.now c.first_dot.result c.in-Some.dot c.first_dot.ensures.place c.in-Some.is).1
