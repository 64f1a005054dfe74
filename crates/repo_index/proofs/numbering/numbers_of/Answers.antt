use Rattle.std.proofs.Common.{ℕ, List, sym, subst, ◌∙◌}
use Rattle.std.specs.Prelude.{IfSome}
use Rattle.std.proofs.lemmas.Result.{IfOk-weaker}
use Rattle.repo_index.specs.Numbers.{AreNumbersOf}
use Rattle.repo_index.proofs.numbering.numbers_of.Goals as goal

pub returns-in-Some-clause-numbers : goal.returns-in-Some-clause-numbers
returns-in-Some-clause-numbers c = λ p sets kept.
    let own = subst (λ o. IfSome o (λ own. AreNumbersOf c.args.keys.now c.args.advisory.now own.now)) c.in-Some.is kept in
    IfOk-weaker c.copy_of.result _ _ (λ copy same. subst (λ (ns : List ℕ). AreNumbersOf c.args.keys.now c.args.advisory.now ns) (sym (same ∙ c.as_slice.ensures)) own) c.copy_of.ensures
