use Rattle.std.proofs.Common.{◌∙◌, ℕ, List, Ok, subst, arith}
use Rattle.line_input.specs.Lines.{numbered}
use Rattle.line_input.specs.Reader.{GivesLine}
use Rattle.line_input.specs.declared.reader.Next.{Next}
use Rattle.ask.specs.Asked.{TakesLine}
use Rattle.ask.proofs.Reading.{has_read_line}
use Rattle.ask.proofs.hits.import_lines.Goals as goal

pub lines-preserved : goal.lines-preserved
lines-preserved g c =
    let i = c.lines.invariant in
    let n = c.in_ok-next.ensures in
    let old = c.lines.reader in
    let new = c.next.new.self in
    let left = g.S.Source.left c.next.new.source in
    record {
      limit = n.limit ∙ i.limit;
      read = λ input s.
          let h = i.read input s in
          let line = subst (λ (x : Next). GivesLine input old new left (Ok x)) c.in-Here.is (n.line input h.0) in (
            line.stands,
            has_read_line c.args.subject.now input (numbered 1 input) old new left c.lines.found c.take_line.new.found line h.1
                (subst (λ (l : ℕ × List ℕ). TakesLine c.args.subject.now l c.lines.found c.take_line.new.found) c.line.ensures c.in_ok-take_line.ensures.ok),
          );
      ends = λ k. (n.at_end (i.ends k)).0;
      later = omega (arith, i.later, n.later);
    }
