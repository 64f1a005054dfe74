use Rattle.schedule.proofs.Alike.{same-answers}
use Rattle.schedule.proofs.laws.a_history_answers.Goals as goal

pub returns : goal.returns
returns c one other s u m n answers more p q = same-answers m n
