use Rattle.step_rules.proofs.seat.Seat.stand.Given as goal

abbrev pub ghosts-stand_told : goal.ghosts-stand_told
ghosts-stand_told g a = record { call = a.call; reply = a.reply }
