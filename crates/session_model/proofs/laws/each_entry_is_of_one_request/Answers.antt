use Rattle.session_model.proofs.Owned.{own-entries}
use Rattle.session_model.proofs.laws.each_entry_is_of_one_request.Goals as goal

pub returns : goal.returns
returns c = own-entries
