use Rattle.std.proofs.Common.{◌≡◌, true, sym, ap, ◌∙◌, subst, arith}
use Rattle.std.proofs.lemmas.Bool.{false≢true}
use Rattle.step_rules.proofs.Numbers.Bags.{was_there}
use Rattle.step_rules.proofs.Ties.Tied.{is_free, lawful, moved_length, moved_times, tied_lists, within_room}
use Rattle.step_rules.specs.SeatData.{SeatData}
use Rattle.step_rules.specs.World.{has, nodes_of}
use Rattle.step_rules.proofs.seat.Seat.hold.Goals as goal

pub take_out-requires : goal.take_out-requires
take_out-requires c = let s = c.self.inside in record {
  there = is_free c.args.node (nodes_of s.inner.me.0.own) s.free.items s.holding.items (c.self.invariant.0.lists c.args.node)
      (subst (λ (d : SeatData). has (nodes_of d.view.own) c.args.node ≡ true) (sym c.self.view_is) c.requires.own)
      (ap (λ l. has l c.args.node) (sym c.deref.ensures.value) ∙ (sym c.holds.ensures ∙ c.if-holds.false));
}

pub push_reserved-requires : goal.push_reserved-requires
push_reserved-requires c = let s = c.self.inside in let t = c.self.invariant.0 in let l = t.long in let r = t.room_holding in let w = c.take_out.ensures.without.length in
    omega (arith, within_room s.first s.inner.me.0 t.sound)

pub invariant_of-self : goal.invariant_of-self
invariant_of-self c = let s = c.self.inside in let i = c.self.invariant in let out = c.take_out.ensures in let push = c.push_reserved.ensures in
    let free' = c.take_out.new.list.items in let holding' = c.push_reserved.new.self.items in (
      tied_lists s c.take_out.new.list c.push_reserved.new.self i.0 (λ m h. i.0.own_free m (was_there c.args.node m s.free.items free' out.without h))
          (moved_times c.args.node s.free.items free' s.holding.items holding' out.without push.items)
          (moved_length c.args.node s.free.items free' s.holding.items holding' out.without push.items)
          out.capacity push.capacity
          (λ is. false≢true (sym c.requires.used ∙ (ap (λ (d : SeatData). d.fresh) (sym c.self.view_is) ∙ is))),
      i.1,
      i.2,
      i.3,
      i.4,
      i.5,
    )

pub returns-clause-law : goal.returns-clause-law
returns-clause-law c = lawful (record c.self.inside { free = c.take_out.new.list; holding = c.push_reserved.new.self }) (invariant_of-self c)
