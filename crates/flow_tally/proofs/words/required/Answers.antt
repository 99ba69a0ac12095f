use Rattle.flow_tally.proofs.Rules.{required_rule_is}
use Rattle.flow_tally.proofs.words.required.Goals as goal

pub returns-clause-rule : goal.returns-clause-rule
returns-clause-rule c = required_rule_is c.new.result c.required.result c.new.ensures.rule c.required.ensures
