use Rattle.std.proofs.Common.{ℕ, List, ◌++◌, drop, sym, ap, ◌∙◌, append-nil}
use Rattle.repo_index.specs.Index.{Noted, all_seen}
use Rattle.repo_index.proofs.Noting.{beside-none}
use Rattle.repo_index.proofs.noted.note.Goals as goal

pub returns-in_default : goal.returns-in_default
returns-in_default c =
    let noted : List Noted = all_seen c.loop-number.noted.items in
    let rest : List ℕ = drop c.loop-number.number-index c.args.numbers.now in
    sym (c.loop-number.invariant ∙ ap (λ (es : List Noted). noted ++ es) (beside-none c.args.index rest c.loop-number.rest.now c.in_default.ensures.cases) ∙ append-nil noted)
