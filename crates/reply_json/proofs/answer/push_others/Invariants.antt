use Rattle.std.proofs.Common.{◌≡◌, ◌++◌, length}
use Rattle.std.specs.Prelude.{map, flat_map}
use Rattle.std.specs.Arc.{arc_value}
use Rattle.reply_json.specs.Answers.{advisory_text, behind_comma}
use Rattle.reply_json.proofs.answer.push_others.Given as goal

abbrev pub invariant-loop-rest : goal.invariant-loop-rest
invariant-loop-rest l =
    l.out.items ++ flat_map behind_comma (map (advisory_text l.form) (map (λ a. arc_value a.now) l.rest))
    ≡ l.initial.out.items ++ flat_map behind_comma (map (advisory_text l.form) (map (λ a. arc_value a.now) l.initial.rest))

abbrev pub decreases-loop-rest : goal.decreases-loop-rest
decreases-loop-rest l = length l.rest
