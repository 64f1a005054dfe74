use Rattle.std.proofs.Common.{ℕ, List, [], ◌∷◌, ◌++◌, sym, ap, subst, ◌∙◌, append-nil}
use Rattle.std.specs.Prelude.{option_to_list}
use Rattle.osv_record.specs.Advisories.{Extent}
use Rattle.impact_job.proofs.Walking.{zip-push}
use Rattle.repo_index.specs.Numbers.{AreNumbers, IsNumberOf}
use Rattle.repo_index.proofs.Keeping.{numbers-kept}
use Rattle.repo_index.proofs.numbering.read_range.Goals as goal

pub returns-in-None-clause-numbers : goal.returns-in-None-clause-numbers
returns-in-None-clause-numbers c = λ before are.
    let none = ap (λ (x : Extent). option_to_list x.repo) (sym c.range.view_is) ∙ ap option_to_list c.in-None.is in
    subst (λ (ks : List (List ℕ)). AreNumbers c.args.keys.now ks c.args.own.now.items) (sym (ap (λ (ks : List (List ℕ)). before ++ ks) none ∙ append-nil before)) are

pub returns-in_ok-push-in-Some-clause-numbers : goal.returns-in_ok-push-in-Some-clause-numbers
returns-in_ok-push-in-Some-clause-numbers c = λ before are.
    let key = c.in-Some.key in
    let number = c.in_ok-number-in-Some.number in
    let given = c.in_ok-number-in-Some.ensures in
    let one = ap (λ (x : Extent). option_to_list x.repo) (sym c.range.view_is) ∙ ap option_to_list c.in-Some.is in
    let new = c.number_or_add.new.self in
    let more = zip-push (IsNumberOf new) before c.args.own.now.items key number (numbers-kept c.args.keys.now new given.kept before c.args.own.now.items are) given.number in
    subst (λ (ns : List ℕ). AreNumbers new (before ++ option_to_list c.args.range.now.repo) ns) (sym c.in_ok-push-in-Some.ensures.items)
    (subst (λ (ks : List (List ℕ)). AreNumbers new (before ++ ks) (c.args.own.now.items ++ number ∷ [])) (sym one) more)
