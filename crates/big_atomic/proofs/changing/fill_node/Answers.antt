use Rattle.std.proofs.Common.{rules}
use Rattle.big_atomic.proofs.Preparing.{holds_filled}
use Rattle.node_pool.proofs.Taken.{taken_held}
use Rattle.big_atomic.proofs.changing.fill_node.Goals as goal

pub fill-requires-clause-held : goal.fill-requires-clause-held
fill-requires-clause-held c = taken_held c.take-node.ensures.taken

pub returns-clause-filled : goal.returns-clause-filled
returns-clause-filled c = holds_filled (record { takes = c.take-node.ensures.taken; fills = c.fill.ensures.filled }) c.args.rec c.words_of.ensures (search rules) c.requires.law c.fill.ensures.law
