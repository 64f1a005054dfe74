use Rattle.std.proofs.Common.{◌+◌, ◌++◌, ◌∷◌, List, ℕ, take, sym, ap, ◌∙◌}
use Rattle.std.proofs.lemmas.List.{take_rest}
use Rattle.fast_export.proofs.Cuts.{cut_none, cut_some}
use Rattle.fast_export.proofs.cut.next_line.Goals as goal

pub returns-in-Some : goal.returns-in-Some
returns-in-Some c =
    let text = c.args.text.now in
    let end = c.in-Some.end in
    let found = cut_some text end c.in-Some.ensures in
    (found.1, found.2 ∙ ap (λ (l : List ℕ). take end text ++ 10 ∷ l) (sym (take_rest text (end + 1))))

pub returns-in-None : goal.returns-in-None
returns-in-None c = cut_none c.args.text.now c.in-None.ensures
