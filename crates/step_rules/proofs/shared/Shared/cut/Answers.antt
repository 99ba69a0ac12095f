use Rattle.std.proofs.Common.{◌≡◌, ◌<◌, [], true, length, ℕ, List, ◌+◌, ◌-◌, false, ◌++◌, refl, ap, sym, subst, ◌∙◌, arith, replicate, take, drop}
use Rattle.std.proofs.lemmas.List.{length-drop, take_all}
use Rattle.atomic_table.specs.Table.{Me}
use Rattle.seat_history.specs.declared.call.Call.{Call}
use Rattle.step_rules.specs.SeatData.{ObjectData, SeatData}
use Rattle.step_rules.specs.Steps.{cut}
use Rattle.step_rules.specs.Views.{left_view, number, right_view}
use Rattle.step_rules.specs.declared.layout.TheConstants.{CLAIMS}
use Rattle.step_rules.specs.declared.plan.Plan.{Plan}
use Rattle.step_rules.specs.declared.seat.Seat.TheInside.{Inside}
use Rattle.step_rules.specs.declared.view.View.{View}
use Rattle.step_rules.proofs.Keeps.Splits.{splits}
use Rattle.step_rules.proofs.Rely.Owed.{meets}
use Rattle.step_rules.proofs.Numbers.Sets.{has_first}
use Rattle.step_rules.proofs.World.Sizes.{some_word}
use Rattle.step_rules.proofs.Ties.Splitting.{cut_at, free_length, left_new, right_fresh, right_least, right_length, share_room}
use Rattle.step_rules.proofs.Ties.Tied.{IsWhole, lawful, new_whole}
use Rattle.step_rules.proofs.shared.Shared.cut.Goals as goal

pub split_seat-inner-requires : goal.split_seat-inner-requires
split_seat-inner-requires c =
    let k = c.self.invariant in
    let m = meets c.seat.view_is c.self.view_is c.requires.ours k.2 k.3 in
    let s = c.seat.inside in
    let tied = c.seat.invariant.0 in (
      m.table,
      subst (λ (n : ℕ). 0 < n) (sym k.3) (some_word c.self.inside.plan k.0),
      splits c.self.inside.table.shared.key s.inner.id s.inner.me.0 s.free.items s.holding.items m.key_is tied.sound.some_number
          (tied.fresh (ap (λ (z : SeatData). z.fresh) c.seat.view_is ∙ c.requires.fresh)),
    )

take_rest : (k : ℕ) (xs : List ℕ) → take (length xs - k) (drop k xs) ≡ drop k xs
take_rest k xs = take_all (length xs - k) (drop k xs) (omega (arith, length-drop k xs))

module _ (c : goal.After-truncate) where
  ours : c.seat.inside.inner.me.0.plan ≡ c.self.inside.plan
  ours = ap (λ (z : SeatData). z.view.plan) c.seat.view_is ∙ (c.requires.ours.plan ∙ sym (ap (λ (o : ObjectData). o.plan) c.self.view_is))

  unused : c.seat.inside.fresh ≡ true
  unused = ap (λ (z : SeatData). z.fresh) c.seat.view_is ∙ c.requires.fresh

  more : 1 < length c.seat.inside.inner.me.0.numbers
  more = subst (λ (z : SeatData). 1 < length z.view.numbers) (sym c.seat.view_is) c.requires.more

  share : c.seat.inside.inner.me.0.plan.share ≡ c.args.self.now.plan.share
  share = ap (λ (p : Plan). p.share) (ours ∙ ap (λ (o : ObjectData). o.plan) c.self.view_is)

  removed : c.seat.inside.inner.me.0.plan.removes ≡ c.args.self.now.plan.removes
  removed = ap (λ (p : Plan). p.removes) (ours ∙ ap (λ (o : ObjectData). o.plan) c.self.view_is)

  seats : c.seat.inside.inner.me.0.plan.seats ≡ c.args.self.now.plan.seats
  seats = ap (λ (p : Plan). p.seats) (ours ∙ ap (λ (o : ObjectData). o.plan) c.self.view_is)

  whole : length c.seat.inside.free.items ≡ cut_at c.seat.inside.inner.me.0 + c.seat.inside.inner.me.0.plan.share
  whole = free_length c.seat.inside c.seat.invariant.0 unused more

  kept : c.len.result - c.self.inside.plan.share ≡ cut_at c.seat.inside.inner.me.0
  kept = omega (arith, c.len.ensures, c.seat.inside.free.ok.0, whole, ap (λ (p : Plan). p.share) ours)

  kept_free : c.truncate.new.self.items ≡ take (cut_at c.seat.inside.inner.me.0) c.seat.inside.free.items
  kept_free = c.truncate.ensures.items ∙ ap (λ n. take n c.seat.inside.free.items) kept

  made_free : c.extend_from_slice.new.self.items ≡ drop (cut_at c.seat.inside.inner.me.0) c.seat.inside.free.items
  made_free = c.in-Ok.ensures.items ∙ ((λ i. c.requires.empty.0 i ++ take_rest (c.len.result - c.self.inside.plan.share) c.deref.result.now i) ∙ (λ i. drop (kept i) (c.deref.ensures.value i)))

  abbrev left : Me Call View
  left = (left_view c.seat.inside.inner.me.0, [])

  abbrev right : Me Call View
  right = (right_view c.seat.inside.inner.me.0, [])

  kept_me : c.settle.new.inner.me ≡ left
  kept_me = c.settle.ensures.same.2 ∙ (c.split_seat-inner.ensures.2 ∙ (λ i. (left_view c.seat.inside.inner.me.0, c.seat.invariant.0.slots i)))

  made_me : c.settle-2.new.inner.me ≡ right
  made_me = c.settle-2.ensures.same.2 ∙ c.split_seat-inner.ensures.4

  new_least : c.seat.inside.least + (c.seat.inside.numbers - 1) ≡ number c.seat.inside.inner.me.0 + (length c.seat.inside.inner.me.0.numbers - 1)
  new_least = (λ i. c.seat.invariant.1 i + (c.seat.invariant.0.numbers i - 1))

  -- the new seat
  abbrev made : Inside
  made = let s = c.seat.inside in let p = c.self.inside.plan in record {
    inner = c.settle-2.new.inner;
    least = s.least + (s.numbers - 1);
    numbers = 1;
    first = false;
    fresh = true;
    holds_record = false;
    changes = p.changes;
    removes = p.removes;
    free = c.extend_from_slice.new.self;
    holding = c.args.holding;
    retired = c.args.retired;
    noted = c.args.noted;
    claims = replicate CLAIMS 0;
    scan_next = 0;
    scan_old = 0;
    scan_found = c.args.scan_found;
  }

pub overflow_add-result : goal.overflow_add-result
overflow_add-result c = let s = c.seat.inside in let w = c.settle-2.new.inner.me.0 in let sound = c.settle-2.ensures.sound in
    let low : number w < w.plan.seats = sound.below (number w) (has_first w.numbers sound.some_number) in
    let few = sound.plan.seats.1 in
    let same : c.seat.inside.least + (c.seat.inside.numbers - 1) ≡ number w =
    new_least c ∙ (right_least s c.seat.invariant.0 (unused c) (more c) ∙ sym (ap (λ (m : Me Call View). number m.0) (made_me c))) in
    omega arith

pub invariant_of-seat : goal.invariant_of-seat
invariant_of-seat c = let s = c.seat.inside in
    subst (λ (p : Plan). IsWhole
    (record s { inner = c.settle.new.inner; numbers = s.numbers - 1; changes = s.changes - p.changes; removes = s.removes - p.removes; free = c.truncate.new.self })) (ours c)
    (new_whole _ (left_view s.inner.me.0) (kept_me c) c.settle.ensures.sound
    (left_new s c.seat.invariant.0 (unused c) (more c) c.settle.new.inner c.truncate.new.self c.seat.invariant (kept_free c) c.truncate.ensures.capacity))

pub invariant_of-result : goal.invariant_of-result
invariant_of-result c = let s = c.seat.inside in let p = c.self.inside.plan in let room = c.requires.room in
    let share_is = share_room s c.seat.invariant.0 (unused c) (more c) in new_whole (made c) (right_view s.inner.me.0) (made_me c) c.settle-2.ensures.sound (record {
      fresh = right_fresh s c.seat.invariant.0 (unused c) (more c) c.extend_from_slice.new.self.items c.args.holding.items (made_free c) c.requires.empty.1;
      numbers = sym (right_length s c.seat.invariant.0 (unused c) (more c));
      least = new_least c ∙ right_least s c.seat.invariant.0 (unused c) (more c);
      no_record = refl;
      changes = ap (λ (q : Plan). q.changes) (sym (ours c));
      removes = ap (λ (q : Plan). q.removes) (sym (ours c));
      retired = c.requires.empty.2;
      few_noted = omega (arith, ap (length {A = ℕ}) c.requires.empty.3);
      claims = refl;
      scan_next = refl;
      scan_old = refl;
      scan_found = c.requires.empty.4;
      room_free = omega (arith, share_is, room.0, c.extend_from_slice.ensures.capacity, share c, removed c);
      room_holding = omega (arith, share_is, room.1, share c, removed c);
      room_retired = omega (arith, share_is, room.2, share c, removed c);
      room_noted = omega (arith, share_is, room.3, share c, removed c);
      room_found = omega (arith, room.4, seats c);
    })

pub returns : goal.returns
returns c = record {
  split = record {
    left = (λ i. record {
      object = (c.settle.ensures.same.0 ∙ c.split_seat-inner.ensures.0) i;
      view =
          (kept_me c i).0;
      free = kept_free c i;
      holding = c.seat.inside.holding.items;
      noted = c.seat.inside.noted.items;
      first = c.seat.inside.first;
      fresh = c.seat.inside.fresh;
    })
        ∙ ap (λ (s : SeatData). record s { view = left_view s.view; free = take (cut s) s.free }) c.seat.view_is;
    right = (λ i. record {
      object = (c.settle-2.ensures.same.0 ∙ c.split_seat-inner.ensures.3) i;
      view =
          (made_me c i).0;
      free = made_free c i;
      holding = c.requires.empty.1 i;
      noted = c.requires.empty.3 i;
      first = false;
      fresh = true;
    })
        ∙ ap (λ (s : SeatData). record { object = s.object; view = right_view s.view; free = drop (cut s) s.free; holding = []; noted = []; first = false; fresh = true }) c.seat.view_is;
  };
  law = let s = c.seat.inside in let p = c.self.inside.plan in (
    lawful (record s { inner = c.settle.new.inner; numbers = s.numbers - 1; changes = s.changes - p.changes; removes = s.removes - p.removes; free = c.truncate.new.self }) (invariant_of-seat c),
    lawful (made c) (invariant_of-result c),
  );
}
