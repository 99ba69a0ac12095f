use Rattle.std.proofs.Common.{arith}
use Rattle.big_atomic.proofs.Deciding.{past_ours}
use Rattle.big_atomic.proofs.Refusing.{may_refuse, refused}
use Rattle.big_atomic.proofs.swaps.refuse.Goals as goal

pub release-requires : goal.release-requires
release-requires g c = record { ours = past_ours c.requires.past.2.at.past; unlocked = λ e. absurd (omega arith) }

pub stand-requires-clause-may : goal.stand-requires-clause-may
stand-requires-clause-may g c = may_refuse c.requires.past.1 c.requires.past.2 c.release.ensures.released

pub returns : goal.returns
returns g c = record { ends = λ b once o. refused once o c.release.ensures.released c.stand.ensures.seat c.stand.ensures.law }
