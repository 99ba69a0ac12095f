use Rattle.chain_links.proofs.Finishing.{replaces}
use Rattle.chain_links.proofs.Following.{last_held, unannounced_last}
use Rattle.chain_links.proofs.links.copy_replaced.Goals as goal

pub fill-requires-clause-held : goal.fill-requires-clause-held
fill-requires-clause-held c = last_held c.in-Some.ensures.copied

pub fill-requires-clause-unannounced : goal.fill-requires-clause-unannounced
fill-requires-clause-unannounced c = unannounced_last c.in-Some.ensures.copied c.copy_to.new.seat c.in-Some.ensures.copied.only

pub returns-in-Some-clause-replaced : goal.returns-in-Some-clause-replaced
returns-in-Some-clause-replaced c = replaces c.in-Some.ensures.copied c.args.val c.valued.result c.requires.within c.valued.ensures c.fill.ensures.filled c.fill.ensures.law
