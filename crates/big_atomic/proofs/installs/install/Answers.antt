use Rattle.big_atomic.proofs.Ending.{released_stands}
use Rattle.big_atomic.proofs.Installed.{has_moved, missed_ours}
use Rattle.hazard_claims.specs.declared.claims.Claim.TheVariants.{Own}
use Rattle.big_atomic.proofs.installs.install.Goals as goal

-- no held node is announced any more
pub put_back_all-requires-clause-ours : goal.put_back_all-requires-clause-ours
put_back_all-requires-clause-ours c = missed_ours c.args.call c.in-Moved.ensures.tried c.requires.ours

pub put_back_all-requires-clause-unannounced : goal.put_back_all-requires-clause-unannounced
put_back_all-requires-clause-unannounced c n held y at =
    let m = c.in-Moved.ensures.tried in released_stands Own m.exchanged c.try_install-answer.new.seat n y m.ends at

pub returns-clause-installs : goal.returns-clause-installs
returns-clause-installs c = has_moved c.in-Moved.ensures.tried c.put_back_all.ensures.free
