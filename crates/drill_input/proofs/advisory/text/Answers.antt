use Rattle.std.proofs.Common.{◌≡◌, ℕ, List, ◌++◌, ap, ◌∙◌}
use Rattle.drill_input.specs.Advisories.{git_part, id_part, name_part, text, version_part}
use Rattle.drill_input.proofs.Pushing.{four}
use Rattle.drill_input.proofs.advisory.text.Goals as goal

pub returns : goal.returns
unfolding text
returns c =
    four c.into_bytes-text.result.items c.push.new.out.items c.push-2.new.out.items c.push_git.new.out.items (id_part c.args.number) (name_part c.args.picks.now.name)
    (version_part c.args.picks.now.minor) (git_part c.args.picks.now) (ap (λ v. v.items) c.into_bytes-text.ensures.value ∙ c.in_ok-id_part.ensures)
    (c.in_ok-push.ensures ∙ ap (λ (xs : List ℕ). c.into_bytes-text.result.items ++ xs) (c.as_bytes.ensures.value ∙ c.in_ok-name_part.ensures))
    (c.in_ok-push-2.ensures ∙ ap (λ (xs : List ℕ). c.push.new.out.items ++ xs) (c.as_bytes-2.ensures.value ∙ c.in_ok-version_part.ensures)) c.in_ok-push_git.ensures
