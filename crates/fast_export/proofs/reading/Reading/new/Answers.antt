use Rattle.fast_export.proofs.Ends.{starts}
use Rattle.fast_export.proofs.reading.Reading.new.Goals as goal

pub returns-clause-starts : goal.returns-clause-starts
returns-clause-starts c = λ text. rw c.new.ensures.most (starts c.args.most c.new.result.parts.now _ c.new-2.result.items text c.new.ensures.parts c.new.ensures.facts c.new-2.ensures.items)
