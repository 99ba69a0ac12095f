use Rattle.cache_hash.proofs.Making.{copied_begun, copied_ours, copied_unlocked, has_front, make_back, make_free, make_place}
use Rattle.cache_hash.proofs.tests.stops.copy_until.Goals as goal

pub copy_front-requires-clause-back : goal.copy_front-requires-clause-back
copy_front-requires-clause-back c = make_back c.requires.past.1

pub copy_front-requires-clause-unchanged : goal.copy_front-requires-clause-unchanged
copy_front-requires-clause-unchanged c = c.requires.past.1.chain.unchanged

pub copy_front-requires-clause-place : goal.copy_front-requires-clause-place
copy_front-requires-clause-place c = make_place c.requires.past.1

pub copy_front-requires-clause-free : goal.copy_front-requires-clause-free
copy_front-requires-clause-free c = make_free c.requires.past.1

pub install_until-requires : goal.install_until-requires
install_until-requires c =
    let h = has_front c.requires.past.1 c.in-Ready.ensures.copied c.in-Ready.ensures.law in
    rw c.call_of-call.ensures (record {
      ours = copied_ours h;
      may = h.prepared.may;
      front = h.prepared.front;
      noted = h.prepared.noted;
      found = h.prepared.near;
      begun = copied_begun h;
      unlocked = copied_unlocked h;
    })
