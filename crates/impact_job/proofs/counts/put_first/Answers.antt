use Rattle.std.proofs.Common.{ℕ, List, ◌++◌, take, drop, ap, sym, subst, ◌∙◌}
use Rattle.std.specs.List.{AllZip}
use Rattle.impact_job.specs.Tables.{AreSetsOf}
use Rattle.impact_job.proofs.Grouping.{zip-take, zip-drop}
use Rattle.impact_job.proofs.Counting.{by-sets}
use Rattle.impact_job.proofs.counts.put_first.Goals as goal

pub returns : goal.returns
returns c = λ b rs more many z.
    let own : AllZip (AreSetsOf b) rs c.parted.result.0.now =
    subst (λ vs. AllZip (AreSetsOf b) rs vs) (sym c.parted.ensures.first) (subst (λ (n : ℕ). AllZip (AreSetsOf b) rs (take n c.args.sets.now)) many (zip-take (AreSetsOf b) rs more c.args.sets.now z))
    in
    let later : AllZip (AreSetsOf b) more c.parted.result.1.now =
    subst (λ vs. AllZip (AreSetsOf b) more vs) (sym c.parted.ensures.later) (subst (λ (n : ℕ). AllZip (AreSetsOf b) more (drop n c.args.sets.now)) many (zip-drop (AreSetsOf b) rs more c.args.sets.now z))
    in
    (c.in_ok-put_each.ensures ∙ ap (λ (ns : List ℕ). c.args.counts.now.items ++ ns) (by-sets b rs c.parted.result.0.now own), later)
