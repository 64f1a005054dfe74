use Rattle.std.proofs.Common.{Ok, ap, subst, arith}
use Rattle.line_input.specs.Reader.{Advances}
use Rattle.line_input.specs.declared.reader.Next.{Next}
use Rattle.line_input.proofs.Standing.{gives}
use Rattle.line_input.proofs.reader.LineReader.next.Goals as goal

pub returns-then-self-gt0-clause-line : goal.returns-then-self-gt0-clause-line
returns-then-self-gt0-clause-line g c = λ input s.
    let i = c.lines.invariant.stands input s in
    let left = g.S.Source.left c.advance.new.source in
    gives input c.args.self.now c.lines.self c.advance.new.self left i.1 (c.in_ok-other.ensures.further (ap Ok c.in-Here.is)) (omega (arith, c.if-self-gt0.true))
    (subst (λ (n : Next). Advances input c.lines.self c.advance.new.self left (Ok n)) c.in-Here.is (c.in_ok-other.ensures.advances input i.0))
