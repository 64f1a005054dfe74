use Rattle.std.proofs.Common.{List, ℕ, ◌++◌, sym, ap, ◌∙◌}
use Rattle.std.proofs.lemmas.List.{append-nil}
use Rattle.http_wire.proofs.head_line.put_snapshot.Goals as goal

pub returns-in-Some-clause-line : goal.returns-in-Some-clause-line
returns-in-Some-clause-line c = rw c.in-Some.is (c.put_number.ensures.line ∙ ap (λ (l : List ℕ). c.args.out.now ++ l) (sym (append-nil _)))
