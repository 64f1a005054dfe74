use Rattle.std.proofs.Common.{ℕ, List, [], length, sym, ap, ◌∙◌}
use Rattle.std.proofs.lemmas.List.{append-nil}
use Rattle.fast_export.specs.Stream.{stream, answer}
use Rattle.fast_export.proofs.reader.Reader.finish.Goals as goal

pub returns-in-Some-clause-err : goal.returns-in-Some-clause-err
returns-in-Some-clause-err c = λ ne most fed reads.
    let bad = rw c.in-Some.is at reads in
    ap (answer (length fed)) (ap (λ (t : List ℕ). stream t most) (sym (append-nil fed)) ∙ bad ne [])
