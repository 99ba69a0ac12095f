use Rattle.big_atomic.proofs.InlineReads.{read_ours}
use Rattle.big_atomic.proofs.tests.copies.copy_of.Goals as goal

pub returns : goal.returns
returns g c = record { ours = read_ours c.read_inline.ensures.only c.requires.ours }
