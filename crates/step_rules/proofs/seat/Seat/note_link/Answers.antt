use Rattle.std.proofs.Common.{◌<◌, length, sym, subst, arith}
use Rattle.step_rules.proofs.Ties.Tied.{few, tied_notes, within_room}
use Rattle.step_rules.specs.SeatData.{SeatData}
use Rattle.step_rules.proofs.seat.Seat.note_link.Goals as goal

pub push_reserved-requires : goal.push_reserved-requires
push_reserved-requires c = let s = c.self.inside in let t = c.self.invariant.0 in let l = t.long in let r = t.room_noted in
    let held = subst (λ (d : SeatData). length d.noted < length d.holding) (sym c.self.view_is) c.requires.held in
    omega (arith, within_room s.first s.inner.me.0 t.sound)

pub invariant_of-self : goal.invariant_of-self
invariant_of-self c = let s = c.self.inside in let i = c.self.invariant in let push = c.push_reserved.ensures in
    let l = i.0.long in let held = subst (λ (d : SeatData). length d.noted < length d.holding) (sym c.self.view_is) c.requires.held in (
      tied_notes s c.push_reserved.new.self i.0 (omega (arith, few s.inner.me.0 i.0.sound, push.len)) push.capacity,
      i.1,
      i.2,
      i.3,
      i.4,
      i.5,
    )
