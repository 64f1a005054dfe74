use Rattle.std.proofs.Common.{[], sym}
use Rattle.form_index.proofs.Placing.{none-at}
use Rattle.form_index.proofs.parts.forms_in.Goals as goal

pub returns-in-None : goal.returns-in-None
returns-in-None c = sym (none-at c.args.part.now c.args.place [] (sym c.in-None.ensures))
