use Rattle.book_model.proofs.Own.{import-adds, publish-adds}
use Rattle.book_model.proofs.laws.calls_add_what_they_answer.Goals as goal

pub returns-clause-import : goal.returns-clause-import
returns-clause-import c = import-adds

pub returns-clause-publish : goal.returns-clause-publish
returns-clause-publish c = publish-adds
