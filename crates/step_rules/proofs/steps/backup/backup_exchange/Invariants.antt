use Rattle.seat_history.specs.declared.reply.Reply.TheVariants.{Done}
use Rattle.step_rules.proofs.steps.backup.backup_exchange.Given as goal

abbrev pub ghosts-exchange_told : goal.ghosts-exchange_told
ghosts-exchange_told a = record { call = a.call; reply = Done }
