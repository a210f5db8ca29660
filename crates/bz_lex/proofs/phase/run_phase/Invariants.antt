use Rattle.bz_lex.proofs.phase.run_phase.Given as goal

abbrev pub ghosts-turns : goal.ghosts-turns
ghosts-turns a = record { name = a.blank.name; parts = a.blank.parts }
