use Rattle.std.proofs.Common.{refl}
use Rattle.line_input.proofs.Standing.{held_otherwise}
use Rattle.line_input.proofs.reader.LineReader.settle.Goals as goal

pub returns-clause-holds : goal.returns-clause-holds
returns-clause-holds c = λ rest total left h. held_otherwise rest total c.args.self.now _ left c.consume.ensures refl refl h
