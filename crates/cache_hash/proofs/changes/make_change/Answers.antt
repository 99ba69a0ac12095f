use Rattle.std.proofs.Common.{arith}
use Rattle.cache_hash.proofs.Turning.{ends_from, enough_there, room_made, room_seen, too_few}
use Rattle.cache_hash.proofs.changes.make_change.Goals as goal

pub tell-requires : goal.tell-requires
tell-requires c = record {
  past = (c.requires.past.0, too_few (room_made c.requires.past.1 c.make_room-made.ensures.room c.make_room-made.ensures.law) c.free-free.result c.free-free.ensures c.if-free-need.true);
}

pub returns-then-free-need : goal.returns-then-free-need
returns-then-free-need c = record {
  turned = λ b p.
      let ends = c.tell.ensures.ends b
      (too_few (room_made p c.make_room-made.ensures.room c.make_room-made.ensures.law) c.free-free.result c.free-free.ensures c.if-free-need.true) in
      (ends.0, (c.args.asked.change, ends.1));
}

pub install_change-requires : goal.install_change-requires
install_change-requires c = record {
  past = (c.requires.past.0, enough_there (room_made c.requires.past.1 c.make_room-made.ensures.room c.make_room-made.ensures.law) (omega (arith, c.if-free-need.false, c.free-free.ensures)));
}

pub returns : goal.returns
returns c = record {
  turned = λ b p. ends_from b c.args.asked.cell c.install_change.result c.args.seat.now c.make_room-made.new.seat
      c.install_change.new.seat (room_seen c.make_room-made.ensures.room)
      (c.install_change.ensures.turned b (enough_there (room_made p c.make_room-made.ensures.room c.make_room-made.ensures.law) (omega (arith, c.if-free-need.false, c.free-free.ensures))));
}
