use Rattle.flow_tally.proofs.Rules.{files_rule_is}
use Rattle.flow_tally.proofs.words.files.Goals as goal

pub returns-clause-rule : goal.returns-clause-rule
returns-clause-rule c = files_rule_is c.new.result c.required.result c.num_args.result c.new.ensures.rule c.required.ensures c.num_args.ensures.0 c.num_args.ensures.1
