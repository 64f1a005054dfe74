use Rattle.std.proofs.Common.{◌∙◌, Ok, ap, arith}
use Rattle.line_input.proofs.reader.LineReader.ends_within.Goals as goal

pub pieces-preserved : goal.pieces-preserved
pieces-preserved g c = record {
  limit = c.in_ok-piece.ensures.limit ∙ c.pieces.invariant.limit;
  holds = λ rest total h.
      let here = c.pieces.invariant.holds rest total h in
      let after = (c.in_ok-piece.ensures.piece here.0 total here.1).here (ap Ok c.in-Here.is) in
      (after.0, after.2);
  later = omega (arith, c.pieces.invariant.later, c.in_ok-piece.ensures.later);
}

pub returns-in-End-clause-within : goal.returns-in-End-clause-within
returns-in-End-clause-within g c = λ rest total h.
    let here = c.pieces.invariant.holds rest total h in
    omega (arith, ((c.in_ok-piece.ensures.piece here.0 total here.1).end (ap Ok c.in-End.is)).1, c.pieces.invariant.limit)

pub returns-in-TooLarge-clause-within : goal.returns-in-TooLarge-clause-within
returns-in-TooLarge-clause-within g c = λ rest total h.
    let here = c.pieces.invariant.holds rest total h in
    omega (arith, (c.in_ok-piece.ensures.piece here.0 total here.1).too_large (ap Ok c.in-TooLarge.is), c.pieces.invariant.limit)
