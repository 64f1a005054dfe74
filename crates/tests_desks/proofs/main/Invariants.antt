use Rattle.tests_desks.proofs.main.Given as goal

abbrev pub ghosts-answer_all-L-Ledger : goal.ghosts-answer_all-L-Ledger
ghosts-answer_all-L-Ledger g a = record { name = a.blank.name; parts = a.blank.parts }

abbrev pub ghosts-answer_all-M-Ledger : goal.ghosts-answer_all-M-Ledger
ghosts-answer_all-M-Ledger g a = record { name = a.other.name; parts = a.other.parts }
