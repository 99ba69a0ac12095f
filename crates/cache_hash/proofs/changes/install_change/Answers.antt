use Rattle.big_atomic.proofs.Ending.{walk_ours}
use Rattle.big_atomic.proofs.Installed.{installed_ours}
use Rattle.cache_hash.proofs.Making.{copied_begun, copied_ours, copied_unlocked, gave_up_turn, has_front, lost_turn, made, make_back, make_free, make_place, own_front, own_installed}
use Rattle.cache_hash.proofs.changes.install_change.Goals as goal

pub copy_front-requires-clause-back : goal.copy_front-requires-clause-back
copy_front-requires-clause-back c = make_back c.requires.past.1

pub copy_front-requires-clause-unchanged : goal.copy_front-requires-clause-unchanged
copy_front-requires-clause-unchanged c = c.requires.past.1.chain.unchanged

pub copy_front-requires-clause-place : goal.copy_front-requires-clause-place
copy_front-requires-clause-place c = make_place c.requires.past.1

pub copy_front-requires-clause-free : goal.copy_front-requires-clause-free
copy_front-requires-clause-free c = make_free c.requires.past.1

pub returns-in_default : goal.returns-in_default
returns-in_default c = record { turned = λ b m. gave_up_turn m c.in_default.ensures.copied }

pub install-installed-requires-clause-may : goal.install-installed-requires-clause-may
install-installed-requires-clause-may c = rw c.call_of-call.ensures (has_front c.requires.past.1 c.in-Ready.ensures.copied c.in-Ready.ensures.law).prepared.may

pub install-installed-requires-clause-front : goal.install-installed-requires-clause-front
install-installed-requires-clause-front c = rw c.call_of-call.ensures
    (has_front c.requires.past.1 c.in-Ready.ensures.copied c.in-Ready.ensures.law).prepared.front

pub install-installed-requires-clause-found : goal.install-installed-requires-clause-found
install-installed-requires-clause-found c = (has_front c.requires.past.1 c.in-Ready.ensures.copied c.in-Ready.ensures.law).prepared.near

pub install-installed-requires-clause-noted : goal.install-installed-requires-clause-noted
install-installed-requires-clause-noted c = rw c.call_of-call.ensures
    (has_front c.requires.past.1 c.in-Ready.ensures.copied c.in-Ready.ensures.law).prepared.noted

pub install-installed-requires-clause-begun : goal.install-installed-requires-clause-begun
install-installed-requires-clause-begun c = copied_begun (has_front c.requires.past.1 c.in-Ready.ensures.copied c.in-Ready.ensures.law)

pub install-installed-requires-clause-unlocked : goal.install-installed-requires-clause-unlocked
install-installed-requires-clause-unlocked c = copied_unlocked (has_front c.requires.past.1 c.in-Ready.ensures.copied c.in-Ready.ensures.law)

pub returns-in_default-installed : goal.returns-in_default-installed
returns-in_default-installed c = record {
  turned = λ b m. lost_turn (has_front m c.in-Ready.ensures.copied c.in-Ready.ensures.law) c.in_default-installed.ensures.installs c.in_default-installed.ensures.law;
}

pub clear_walk-requires : goal.clear_walk-requires
clear_walk-requires c = record {
  ours = installed_ours c.in-Installed.ensures.installs (copied_ours (has_front c.requires.past.1 c.in-Ready.ensures.copied c.in-Ready.ensures.law));
}

pub release-requires-clause-ours : goal.release-requires-clause-ours
release-requires-clause-ours c = walk_ours c.install-installed.new.seat c.clear_walk.new.seat c.clear_walk.ensures.cleared
    (installed_ours c.in-Installed.ensures.installs (copied_ours (has_front c.requires.past.1 c.in-Ready.ensures.copied c.in-Ready.ensures.law)))

pub returns : goal.returns
returns c = record {
  turned = λ b m.
      let h = has_front m c.in-Ready.ensures.copied c.in-Ready.ensures.law in
      let ends = made (own_front h) (own_installed h c.call_of-call.ensures c.in-Installed.ensures.installs) c.clear_walk.ensures.cleared c.release.ensures.released c.release.ensures.law in
      (ends.0, (c.args.asked.change, ends.1));
}
