use Rattle.std.proofs.Common.{◌∙◌, ℕ, List, Bor, Ok, option_map, sym, ap, subst, arith}
use Rattle.line_input.specs.Lines.{numbered}
use Rattle.line_input.specs.Reader.{GivesLine}
use Rattle.line_input.specs.declared.reader.Next.{Next}
use Rattle.ask.specs.Parts.{url_of}
use Rattle.ask.specs.Stops.{KeepsLine}
use Rattle.ask.proofs.Dividing.{divided_line}
use Rattle.ask.proofs.parts.read_parts.Goals as goal

pub lines-preserved : goal.lines-preserved
lines-preserved g c =
    let i = c.lines.invariant in
    let n = c.in_ok-next.ensures in
    let old = c.lines.reader in
    let new = c.next.new.self in
    let left = g.S.Source.left c.next.new.source in
    record {
      limit = n.limit ∙ i.limit;
      divided = λ input s.
          let h = i.divided input s in
          let line = subst (λ (x : Next). GivesLine input old new left (Ok x)) c.in-Here.is (n.line input h.0) in (
            line.stands,
            divided_line input (numbered 1 input) old new left c.lines.kept c.keep_line.new.kept line
                (ap (λ (l : ℕ × List ℕ). url_of l.1) (sym c.line-line.ensures) ∙ sym c.url_of.ensures ∙ ap (option_map (λ (u : Bor (List ℕ)). u.now)) c.in_default.is) h.1
                (subst (λ (l : ℕ × List ℕ). KeepsLine l c.lines.kept c.keep_line.new.kept) c.line-line.ensures c.in_ok-keep_line.ensures.ok),
          );
      ends = λ k. (n.at_end (i.ends k)).0;
      later = omega (arith, i.later, n.later);
    }
