use Rattle.chain_links.proofs.Putting.{is_put, taken_unannounced}
use Rattle.node_pool.proofs.Taken.{taken_held}
use Rattle.chain_links.proofs.fronts.put.Goals as goal

pub fill-requires-clause-held : goal.fill-requires-clause-held
fill-requires-clause-held c = taken_held c.take-node.ensures.taken

pub fill-requires-clause-unannounced : goal.fill-requires-clause-unannounced
fill-requires-clause-unannounced c = taken_unannounced c.requires.law c.take-node.ensures.taken

pub returns-clause-put : goal.returns-clause-put
returns-clause-put c = is_put c.take-node.ensures.taken c.fill.ensures.filled
