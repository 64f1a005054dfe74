use Rattle.std.proofs.Common.{◌≡◌, ◌++◌, length}
use Rattle.std.specs.Prelude.{map, flat_map}
use Rattle.reply_json.specs.Answers.{answer_in, behind_comma, page_text}
use Rattle.reply_json.specs.declared.answer.Form.TheVariants.{Brief}
use Rattle.reply_json.proofs.answer.push_other_pages.Given as goal

abbrev pub invariant-loop-rest : goal.invariant-loop-rest
invariant-loop-rest l =
    l.out.items ++ flat_map behind_comma (map (page_text Brief) (map answer_in l.rest))
    ≡ l.initial.out.items ++ flat_map behind_comma (map (page_text Brief) (map answer_in l.initial.rest))

abbrev pub decreases-loop-rest : goal.decreases-loop-rest
decreases-loop-rest l = length l.rest
