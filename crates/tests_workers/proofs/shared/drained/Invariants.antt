use Rattle.tests_workers.proofs.shared.drained.Given as goal

abbrev pub ghosts-drained_in : goal.ghosts-drained_in
ghosts-drained_in g a = record { name = a.blank.name; parts = a.blank.parts }
