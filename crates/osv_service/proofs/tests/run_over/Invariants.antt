use Rattle.osv_service.proofs.tests.run_over.Given as goal

abbrev pub ghosts-with_steps : goal.ghosts-with_steps
ghosts-with_steps a = record { name = a.blank.name; parts = a.blank.parts }
