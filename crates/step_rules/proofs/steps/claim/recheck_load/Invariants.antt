use Rattle.step_rules.proofs.steps.claim.recheck_load.Given as goal

abbrev pub ghosts-recheck_told : goal.ghosts-recheck_told
ghosts-recheck_told a = record { claim = a.claim; seen = a.seen }
