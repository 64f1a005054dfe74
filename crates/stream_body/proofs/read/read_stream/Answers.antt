use Rattle.std.proofs.Common.{◌≡◌, ◌≤◌, ◌<◌, ◌+◌, ℕ, List, ◌++◌, length, refl, ap, subst, arith}
use Rattle.std.specs.Io.KnownBytes.{prepend_known}
use Rattle.fast_export.specs.Reads.{Reads}
use Rattle.stream_body.proofs.Streaming.{so_far-more}
use Rattle.stream_body.proofs.read.read_stream.Goals as goal

pub parts-preserved-in-BadLine-1 : goal.parts-preserved-in-BadLine-1
parts-preserved-in-BadLine-1 g c =
    let i = c.parts.invariant in
    let part = c.read_part.new.part.items in
    let same : c.as_slice.result.now ≡ part = c.as_slice.ensures.value in
    record {
      read = (
        i.read.0 ++ part,
        so_far-more c.args.rest c.parts.rest c.read_part.new.rest (prepend_known c.args.held.now (g.S.Source.left c.args.source.now)) (prepend_known c.parts.held (g.S.Source.left c.parts.source))
            (prepend_known c.read_part.new.held (g.S.Source.left c.read_part.new.source)) i.read.0 part i.read.1 c.in-More.ensures.gives,
        subst (λ (l : List ℕ). Reads c.args.most (i.read.0 ++ l) c.feed.new.self) same (c.feed.ensures.reads c.args.most i.read.0 i.read.2),
      );
      count = omega (arith, i.count, c.in-More.ensures.less refl, c.feed.ensures.count, ap length same);
      room = c.read_part.ensures.room;
      later = omega (arith, i.later, c.read_part.ensures.later);
    }

pub parts-preserved : goal.parts-preserved
parts-preserved g c =
    let i = c.parts.invariant in
    let part = c.read_part.new.part.items in
    let same : c.as_slice.result.now ≡ part = c.as_slice.ensures.value in
    record {
      read = (
        i.read.0 ++ part,
        so_far-more c.args.rest c.parts.rest c.read_part.new.rest (prepend_known c.args.held.now (g.S.Source.left c.args.source.now)) (prepend_known c.parts.held (g.S.Source.left c.parts.source))
            (prepend_known c.read_part.new.held (g.S.Source.left c.read_part.new.source)) i.read.0 part i.read.1 c.in-More.ensures.gives,
        subst (λ (l : List ℕ). Reads c.args.most (i.read.0 ++ l) c.feed.new.self) same (c.feed.ensures.reads c.args.most i.read.0 i.read.2),
      );
      count = omega (arith, i.count, c.in-More.ensures.less refl, c.feed.ensures.count, ap length same);
      room = c.read_part.ensures.room;
      later = omega (arith, i.later, c.read_part.ensures.later);
    }
