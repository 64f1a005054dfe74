use Rattle.std.proofs.Common.{◌∙◌, Ok, ap, refl, subst, arith}
use Rattle.line_input.specs.Reader.{GivesLine}
use Rattle.line_input.specs.declared.reader.Next.{Next}
use Rattle.ask.specs.Checked.{AddsVerdict}
use Rattle.ask.proofs.CheckedLines.{checked_at_end, checks_more, checks_none}
use Rattle.ask.proofs.checked.check.Goals as goal

pub lines-init : goal.lines-init
lines-init g c = record {
  limit = c.new-reader.ensures.limit;
  checked = λ input is. checks_none input c.new-reader.result (g.S.Source.left c.args.source.now) _ c.new-reader.ensures.stands is c.new-reader.ensures.passed c.new.ensures.items refl;
  ends = c.new-reader.ensures.end _;
  later = omega arith;
}

pub lines-preserved : goal.lines-preserved
lines-preserved g c =
    let i = c.lines.invariant in
    let n = c.in_ok-next.ensures in
    let left = g.S.Source.left c.next.new.source in
    record {
      limit = n.limit ∙ i.limit;
      checked = λ input is.
          let h = i.checked input is in
          checks_more input c.lines.reader c.next.new.self (g.S.Source.left c.lines.source) left c.lines.verdicts c.add_verdict.new.verdicts h
          (subst (λ (x : Next). GivesLine input c.lines.reader c.next.new.self left (Ok x)) c.in-Here.is (n.line input h.stands))
          (subst (λ (l : _). AddsVerdict l c.lines.verdicts c.add_verdict.new.verdicts) c.line.ensures c.in_ok-add_verdict-in-Here.ensures);
      ends = (n.at_end i.ends).0;
      later = omega (arith, i.later, n.later);
    }

pub returns-in-End-clause-answer : goal.returns-in-End-clause-answer
returns-in-End-clause-answer g c =
    let i = c.lines.invariant in
    let n = c.in_ok-next.ensures in
    let left = g.S.Source.left c.next.new.source in
    checked_at_end (g.S.Source.left c.args.source.now) left c.args.limit c.lines.reader c.next.new.self (g.S.Source.left c.lines.source) c.lines.verdicts c.output_of.result i.checked
    (λ input s. subst (λ (x : Next). GivesLine input c.lines.reader c.next.new.self left (Ok x)) c.in-End.is (n.line input s)) i.limit ((n.at_end i.ends).1 (ap Ok c.in-End.is)) c.output_of.ensures
