use Rattle.flow_tally.proofs.OutcomeComplete.{has_run}
use Rattle.flow_tally.proofs.program.exit_code.Goals as goal

pub returns-clause-ended : goal.returns-clause-ended
returns-clause-ended g c = (
  c.run_with.result.status,
  c.run_with.result.closed,
  c.exit_code.ensures,
  record { run = has_run _ _ _ _ _ c.run_with.ensures.says; memory = c.run_with.ensures.memory },
  c.run_with.ensures.untouched,
  c.run_with.ensures.message,
)
