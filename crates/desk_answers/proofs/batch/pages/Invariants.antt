use Rattle.std.proofs.Common.{◌≡◌, ◌+◌, length}
use Rattle.std.specs.Prelude.{map}
use Rattle.reply_json.specs.Answers.{answer_in}
use Rattle.desk_answers.specs.Batches.{ArePages}
use Rattle.desk_answers.proofs.batch.pages.Given as goal

abbrev pub invariant-loop-rest : goal.invariant-loop-rest
invariant-loop-rest g l = record {
  so_far : ArePages l.size l.queries l.newest l.found (map answer_in l.pages.items) l.index l.rest l.left;
  count : l.index + length l.rest ≡ length l.queries;
}

abbrev pub decreases-loop-rest : goal.decreases-loop-rest
decreases-loop-rest g l = length l.rest
