use Rattle.std.proofs.Common.{◌≡◌, ℕ, true, [], ◌∷◌, sym, ap, ◌∙◌, subst, arith, ⊎_elim}
use Rattle.std.proofs.lemmas.Bool.{false≢true}
use Rattle.step_rules.proofs.Numbers.Bags.{one_there}
use Rattle.step_rules.proofs.Numbers.Sets.{has-append}
use Rattle.step_rules.proofs.Ties.Tied.{lawful, moved_length, moved_times, tied_lists, within_room}
use Rattle.step_rules.specs.SeatData.{SeatData}
use Rattle.step_rules.specs.Steps.{IsUnannounced}
use Rattle.step_rules.specs.World.{has}
use Rattle.step_rules.proofs.seat.Seat.unhold.Goals as goal

pub push_reserved-requires : goal.push_reserved-requires
push_reserved-requires c = let s = c.self.inside in let t = c.self.invariant.0 in let l = t.long in let r = t.room_free in let w = c.take_out.ensures.without.length in
    omega (arith, within_room s.first s.inner.me.0 t.sound)

pub invariant_of-self : goal.invariant_of-self
invariant_of-self c = let s = c.self.inside in let i = c.self.invariant in let out = c.take_out.ensures in let push = c.push_reserved.ensures in
    let free' = c.push_reserved.new.self.items in let holding' = c.take_out.new.list.items in (
      tied_lists s c.push_reserved.new.self c.take_out.new.list i.0
          (λ m h. ⊎_elim
          (i.0.own_free m)
          (λ e. subst (λ (z : ℕ × SeatData). IsUnannounced z.0 z.1.view) (λ k. (one_there c.args.node m e k, sym c.self.view_is k)) c.requires.unannounced)
          (has-append s.free.items (c.args.node ∷ []) m (subst (λ l. has l m ≡ true) push.items h)))
          (λ m. let t = moved_times c.args.node s.holding.items holding' s.free.items free' out.without push.items m in omega arith)
          (let l = moved_length c.args.node s.holding.items holding' s.free.items free' out.without push.items in omega arith)
          push.capacity out.capacity
          (λ is. false≢true (ap (λ l. has l c.args.node) (sym (i.0.fresh is).holding) ∙ subst (λ (d : SeatData). has d.holding c.args.node ≡ true) (sym c.self.view_is) c.requires.held)),
      i.1,
      i.2,
      i.3,
      i.4,
      i.5,
    )

pub returns-clause-law : goal.returns-clause-law
returns-clause-law c = lawful (record c.self.inside { free = c.push_reserved.new.self; holding = c.take_out.new.list }) (invariant_of-self c)
