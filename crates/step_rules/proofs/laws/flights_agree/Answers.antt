use Rattle.step_rules.proofs.Keeps.Agreeing.{flight_agrees}
use Rattle.step_rules.proofs.laws.flights_agree.Goals as goal

pub returns : goal.returns
returns c = flight_agrees
