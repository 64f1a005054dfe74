use Rattle.line_input.proofs.Searching.{at_place, nowhere}
use Rattle.line_input.proofs.reader.line_end.Goals as goal

pub returns-in-Some-clause-some : goal.returns-in-Some-clause-some
returns-in-Some-clause-some c =
    at_place c.args.text.now c.args.searched c.requires.none c.in-Some.at c.requires.within c.in-Some.ensures.0.high c.in-Some.ensures.0.before c.in-Some.ensures.1

pub returns-in-None-clause-none : goal.returns-in-None-clause-none
returns-in-None-clause-none c = nowhere c.args.text.now c.args.searched c.requires.none c.requires.within c.in-None.ensures
