use Rattle.flow_tally.proofs.Bounds.{asked_is_within}
use Rattle.flow_tally.proofs.OutcomeOne.{one_outcome}
use Rattle.flow_tally.proofs.OutcomeSome.{some_outcome}
use Rattle.flow_tally.proofs.laws.one_status_is_determined.Goals as goal

pub returns-clause-some : goal.returns-clause-some
returns-clause-some c = some_outcome

pub returns-clause-within : goal.returns-clause-within
returns-clause-within c = asked_is_within

pub returns-clause-one : goal.returns-clause-one
returns-clause-one c = one_outcome
