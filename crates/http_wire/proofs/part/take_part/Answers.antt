use Rattle.std.proofs.Common.{◌<◌, ◌≤◌, min, arith}
use Rattle.http_wire.proofs.Sized.{gives-done, gives-bytes, gives-ended, gives-fault}
use Rattle.http_wire.proofs.ChunkMoves.{chunk-gives, chunk-ends}
use Rattle.http_wire.proofs.part.take_part.Goals as goal

pub returns-then-left-eq0-clause-gives : goal.returns-then-left-eq0-clause-gives
returns-then-left-eq0-clause-gives g c = rw c.in-Bytes.is (gives-done c.args.rest.now.limit _ _ _ _ c.if-left-eq0.true)

pub returns-in-Bytes-take_bytes-clause-gives : goal.returns-in-Bytes-take_bytes-clause-gives
returns-in-Bytes-take_bytes-clause-gives g c =
    rw c.in-Bytes.is (gives-bytes c.args.rest.now.limit c.in-Bytes.left _ _ _ _ _ _ (omega (arith, c.most_of.ensures)) c.in-Bytes-take_bytes.ensures.took)

pub returns-in-Ended-clause-gives : goal.returns-in-Ended-clause-gives
returns-in-Ended-clause-gives g c =
    let some : 0 < c.in-Bytes.left = omega arith in
    rw c.in-Bytes.is (gives-ended c.args.rest.now.limit c.in-Bytes.left c.most_of.result _ _ _ _ _ c.in-Ended.ensures.took some)

pub returns-in-Bytes-take_bytes-2-clause-gives : goal.returns-in-Bytes-take_bytes-2-clause-gives
returns-in-Bytes-take_bytes-2-clause-gives g c =
    rw c.in-Chunk.is (chunk-gives c.args.rest.now.limit c.in-Chunk.left _ _ _ _ _ _ _ (omega (arith, c.most_of-in-Chunk.ensures)) c.in-Bytes-take_bytes-2.ensures.took)

pub returns-in-Ended-take_bytes-clause-gives : goal.returns-in-Ended-take_bytes-clause-gives
returns-in-Ended-take_bytes-clause-gives g c = rw c.in-Chunk.is (chunk-ends c.args.rest.now.limit _ c.most_of-in-Chunk.result _ _ _ _ _ _ c.in-Ended-take_bytes.ensures.took)
