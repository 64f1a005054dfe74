use Rattle.std.proofs.Common.{◌∙◌, ◌++◌, ℕ, List, Ok, length, ap, subst, arith}
use Rattle.line_input.specs.Reader.{GivesPiece}
use Rattle.line_input.specs.declared.reader.Next.{Next}
use Rattle.fast_export.specs.Reads.{Reads}
use Rattle.settings.specs.declared.TheConstants.{MAX_COMMITS}
use Rattle.ask.proofs.Streaming.{fed_all, fed_more}
use Rattle.ask.proofs.commits.read_stream.Goals as goal

pub feed-requires : goal.feed-requires
feed-requires g c =
    let n = c.in_ok-piece.ensures in
    omega (arith, c.pieces.invariant.count, n.count (ap Ok c.in-Here.is), n.bound, ap (λ (l : ℕ × List ℕ). length l.1) c.line.ensures)

pub pieces-preserved : goal.pieces-preserved
pieces-preserved g c =
    let i = c.pieces.invariant in
    let n = c.in_ok-piece.ensures in
    let old = c.pieces.reader in
    let new = c.piece.new.self in
    let left = g.S.Source.left c.piece.new.source in
    let piece = ap (λ (l : ℕ × List ℕ). l.1) c.line.ensures in
    record {
      limit = n.limit ∙ i.limit;
      fed = λ text total h.
          let f = i.fed text total h in
          fed_more text total old new (g.S.Source.left c.pieces.source) left c.pieces.stream c.feed.new.self f
          (subst (λ (x : Next). GivesPiece f.rest total old new left (Ok x)) c.in-Here.is (n.piece f.rest total f.holds))
          (λ e. subst (λ (xs : List ℕ). Reads MAX_COMMITS (f.fed ++ xs) c.feed.new.self) piece (c.feed.ensures.reads MAX_COMMITS f.fed e));
      count = omega (arith, i.count, n.count (ap Ok c.in-Here.is), ap length piece, c.feed.ensures.count);
      ends = λ k. (n.at_end (i.ends k)).0;
      later = omega (arith, i.later, n.later);
    }

pub returns-in-End-clause-feeds : goal.returns-in-End-clause-feeds
returns-in-End-clause-feeds g c = λ text total h.
    let i = c.pieces.invariant in
    let f = i.fed text total h in
    let left = g.S.Source.left c.piece.new.source in
    let e =
    fed_all text total c.pieces.reader c.piece.new.self (g.S.Source.left c.pieces.source) left c.pieces.stream f
    (subst (λ (x : Next). GivesPiece f.rest total c.pieces.reader c.piece.new.self left (Ok x)) c.in-End.is (c.in_ok-piece.ensures.piece f.rest total f.holds)) in
    (e.0, omega (arith, e.1, i.limit))

pub returns-in-TooLarge-clause-feeds : goal.returns-in-TooLarge-clause-feeds
returns-in-TooLarge-clause-feeds g c = λ text total h.
    let i = c.pieces.invariant in
    let f = i.fed text total h in
    omega (arith, (c.in_ok-piece.ensures.piece f.rest total f.holds).too_large (ap Ok c.in-TooLarge.is), i.limit)
