use Rattle.fast_export.proofs.Fed.{fed_ok, fed_err}
use Rattle.fast_export.proofs.reader.Reader.feed.Goals as goal

pub returns-in-Ok-clause-ok : goal.returns-in-Ok-clause-ok
returns-in-Ok-clause-ok c = λ most fed reads.
    let follows = rw c.in_default.is at reads in
    fed_ok most fed c.args.piece.now c.args.self.now.reading c.feed.new.self follows c.in-Ok.ensures.ok

pub returns-in-Err-clause-err : goal.returns-in-Err-clause-err
returns-in-Err-clause-err c = λ ne most fed reads.
    let follows = rw c.in_default.is at reads in
    fed_err most fed c.args.piece.now c.args.self.now.reading _ follows c.in-Err.ensures.err ne
