use Rattle.serving.proofs.shared.run_helper.Given as goal

abbrev pub ghosts-help_counted : goal.ghosts-help_counted
ghosts-help_counted g a = record { name = a.blank.name; parts = a.blank.parts }
