-- The lists and numbers of a seat that took in another.
use Rattle.std.proofs.Common.{◌≡◌, ◌∙◌, ℕ, ◌+◌, ◌*◌, ◌≤◌, Bool, true, false, not, ◌&&◌, eqb, map, suc, zero, List, [], ◌∷◌, ◌++◌, None, length, cond, ltb}
use Rattle.std.proofs.Common.{ap, refl, sym, subst, arith}
use Rattle.std.proofs.Common.{is_some, length-append, mul-le-mul_left, vec_capacity, Vec, Global}
use Rattle.std.proofs.lemmas.Bool.{and_parts, eqb-true, false≢true}
use Rattle.std.proofs.lemmas.List.{append-nil}
use mathlib.Core.Option.{some-injective}
use Rattle.atomic_table.specs.Table.{Me}
use Rattle.seat_history.specs.declared.call.Call.{Call}
use Rattle.seat_history.specs.declared.entry.Entry.{Entry}
use Rattle.step_rules.proofs.Numbers.Bags.{times-append}
use Rattle.step_rules.proofs.Line.Lawfuls.{held_else, held_from-append, others_from}
use Rattle.step_rules.proofs.Line.Records.{held_longer}
use Rattle.step_rules.proofs.Numbers.Sets.{at_most_below, has_first, nodes_of-append, once_apart, first_number}
use Rattle.step_rules.proofs.World.Silent.{Quiet, none_announced}
use Rattle.step_rules.proofs.Ties.Tied.{IsWhole, TiesAt, WholeAt, data_of, scan_stays, within_room}
use Rattle.step_rules.specs.Bags.{times}
use Rattle.step_rules.specs.History.{GoesOn}
use Rattle.step_rules.specs.Lawful.{held_by}
use Rattle.step_rules.specs.SeatData.{SeatData, all_zero, claim_words, holds_record, is_empty, is_quiet, room_of}
use Rattle.step_rules.specs.Sound.{Sound}
use Rattle.step_rules.specs.Views.{joined_view, longer, number, shorter}
use Rattle.step_rules.specs.World.{nodes_of}
use Rattle.step_rules.specs.declared.seat.Seat.TheInside.{Inside}
use Rattle.step_rules.specs.declared.view.Claim.{Claim}
use Rattle.step_rules.specs.declared.view.View.{View}

-- what two seats had seen is in the longer part, where it goes on from the shorter
pub longer_on : (a b : List Entry) → GoesOn (shorter a b) (longer a b) → GoesOn a (longer a b) × GoesOn b (longer a b)
longer_on a b = go (ltb (length a) (length b))
  where
    go : (t : Bool) → GoesOn (cond t a b) (cond t b a) → GoesOn a (cond t b a) × GoesOn b (cond t b a)
    go true on = (on, ([], sym (append-nil b)))
    go false on = (([], sym (append-nil a)), on)

pub quiet_lists : (seat : SeatData) → is_quiet seat ≡ true → seat.holding ≡ []
quiet_lists seat quiet = none_held seat.holding
    (and_parts (is_empty seat.holding) (all_zero (claim_words seat.view)) (and_parts (not (holds_record seat.view)) (is_empty seat.holding && all_zero (claim_words seat.view)) quiet).1).0
  where
    none_held : (held : List ℕ) → is_empty held ≡ true → held ≡ []
    none_held [] e = refl
    none_held (x ∷ held) e = absurd (false≢true e)

zero_words : (claims : List Claim) → all_zero (map (λ (x : Claim). x.word) claims) ≡ true → Quiet claims
zero_words [] zeros c x at = absurd cc
zero_words (y ∷ claims) zeros zero x at = ap (λ (z : Claim). z.word) (sym (some-injective y x at))
    ∙ eqb-true y.word 0 (and_parts (eqb y.word 0) (all_zero (map (λ (z : Claim). z.word) claims)) zeros).0
zero_words (y ∷ claims) zeros (suc c) x at = zero_words claims (and_parts (eqb y.word 0) (all_zero (map (λ (z : Claim). z.word) claims)) zeros).1 c x at

-- a quiet seat's claims name no node
pub quiet_claims : (seat : SeatData) → is_quiet seat ≡ true → Quiet seat.view.claims
quiet_claims seat quiet = zero_words seat.view.claims
    (and_parts (is_empty seat.holding) (all_zero (claim_words seat.view)) (and_parts (not (holds_record seat.view)) (is_empty seat.holding && all_zero (claim_words seat.view)) quiet).1).1

-- the first seat s took in the seat o, which held no node; s was quiet
pub record Merged (s o : Inside) (after : Me Call View) : Type 0 where
  pub ours : IsWhole s
  pub theirs : IsWhole o
  pub is : after ≡ (joined_view s.inner.me.0 o.inner.me.0, s.inner.me.1)
  pub sound : Sound after.0
  pub first : s.first ≡ true
  pub none : o.holding.items ≡ []
  pub quiet : Quiet s.inner.me.0.claims

pub merged : (s o : Inside) {old from : SeatData} {after between : Me Call View} → IsWhole s → IsWhole o → data_of s ≡ old → data_of o ≡ from → old.first ≡ true
    → (is_quiet old ≡ true) × (is_quiet from ≡ true)
    → after ≡ between → between ≡ (joined_view s.inner.me.0 o.inner.me.0, s.inner.me.1) → Sound after.0 → Merged s o after
merged s o {from = from} ours theirs is_old is_from first quiet same is sound = record {
  ours = ours;
  theirs = theirs;
  is = same ∙ is;
  sound = sound;
  first = ap (λ (z : SeatData). z.first) is_old ∙ first;
  none = ap (λ (z : SeatData). z.holding) is_from ∙ quiet_lists from quiet.1;
  quiet = quiet_claims (data_of s) (ap is_quiet is_old ∙ quiet.0);
}

module _ {s o : Inside} {after : Me Call View} (m : Merged s o after) where
  abbrev v : View
  v = s.inner.me.0

  abbrev w : View
  w = o.inner.me.0

  abbrev joined : View
  joined = joined_view v w

  sound_joined : Sound joined
  sound_joined = subst (λ (e : Me Call View). Sound e.0) m.is m.sound

  -- both have seen first parts of what is seen now
  pub seen_parts : GoesOn v.seen joined.seen × GoesOn w.seen joined.seen
  seen_parts = longer_on v.seen w.seen sound_joined.earlier

  same_number : number joined ≡ number v
  same_number = first_number v.numbers w.numbers m.ours.0.sound.some_number

  count_joined : s.numbers + o.numbers ≡ length joined.numbers
  count_joined = omega (arith, m.ours.0.numbers, m.theirs.0.numbers, length-append v.numbers w.numbers)

  pub count_few : s.numbers + o.numbers ≤ joined.plan.seats
  count_few = omega (arith, count_joined, at_most_below joined.numbers joined.plan.seats sound_joined.once sound_joined.below)

  pub removes_few : s.removes + o.removes ≤ joined.plan.removes * joined.plan.seats
  removes_few = omega
      (arith, m.ours.3, m.theirs.3, sound_joined.stock.removed, mul-le-mul_left joined.plan.removes (at_most_below joined.numbers joined.plan.seats sound_joined.once sound_joined.below))

  -- the other's stands are under other numbers
  pub record_same : holds_record joined ≡ holds_record v
  record_same = ap (λ x. is_some (held_by joined.seen x joined.stands)) same_number
      ∙ ap is_some (held_from-append joined.seen (number v) None v.stands w.stands
      ∙ (held_else joined.seen (number v) (held_by joined.seen (number v) v.stands) w.stands
      (others_from (number v) m.theirs.0.sound.lawful
      (λ h. once_apart v.numbers w.numbers (number v) sound_joined.once (has_first v.numbers m.ours.0.sound.some_number) h))
      ∙ held_longer v seen_parts.0.0 joined.seen m.ours.0.sound.lawful seen_parts.0.1))

  own_times : (n : ℕ) → times n (nodes_of joined.own) ≡ times n (nodes_of v.own) + times n (nodes_of w.own)
  own_times n = ap (times n) (nodes_of-append v.own w.own) ∙ times-append n (nodes_of v.own) (nodes_of w.own)

  -- the first seat's lists have room for the nodes of all numbers
  room_is : room_of s.first joined ≡ room_of s.first v
  room_is = ap (λ b. room_of b joined) m.first ∙ sym (ap (λ b. room_of b v) m.first)

  stock_room : (length v.own + length w.own) + (length v.retired + length w.retired) ≤ room_of s.first v
  stock_room = let r = within_room s.first joined sound_joined in omega (arith, room_is, length-append v.own w.own, length-append v.retired w.retired)

  pub free_room : length s.free.items + length o.free.items ≤ vec_capacity s.free
  free_room = omega (arith, stock_room, m.ours.0.long, m.theirs.0.long, m.ours.0.room_free)

  pub retired_room : length s.retired.items + length o.retired.items ≤ vec_capacity s.retired
  retired_room = omega (arith, stock_room, ap (length {A = ℕ}) m.ours.4, ap (length {A = ℕ}) m.theirs.4, m.ours.0.room_retired)

  -- the lists of the two in a row
  module _ (free retired : Vec ℕ Global) (is_free : free.items ≡ s.free.items ++ o.free.items) (is_retired : retired.items ≡ s.retired.items ++ o.retired.items)
      (more_free : vec_capacity s.free ≤ vec_capacity free) (more_retired : vec_capacity s.retired ≤ vec_capacity retired) where
    abbrev both : Inside
    both = record s { numbers = s.numbers + o.numbers; fresh = false; changes = s.changes + o.changes; removes = s.removes + o.removes; free = free; retired = retired }

    joined_ties : TiesAt both (joined, s.inner.me.1)
    joined_ties = let t = m.ours.0 in let u = m.theirs.0 in record {
      slots = t.slots;
      sound = sound_joined;
      numbers = count_joined;
      holds = t.holds ∙ sym record_same;
      lists = λ n. omega (arith, t.lists n, u.lists n, ap (times n) m.none, own_times n, ap (times n) is_free, times-append n s.free.items o.free.items);
      long = omega (arith, t.long, u.long, ap (length {A = ℕ}) m.none, length-append v.own w.own, ap (length {A = ℕ}) is_free, length-append s.free.items o.free.items);
      claims = t.claims;
      own_free = none_announced free.items joined m.quiet;
      room_free = omega (arith, room_is, t.room_free, more_free);
      room_holding = omega (arith, room_is, t.room_holding);
      room_retired = omega (arith, room_is, t.room_retired, more_retired);
      room_noted = omega (arith, room_is, t.room_noted);
      few_noted = t.few_noted;
      fresh = λ no. absurd (false≢true no);
    }

    pub whole_joined : WholeAt both after
    whole_joined = subst (WholeAt both) (sym m.is) (
      joined_ties,
      m.ours.1 ∙ sym same_number,
      (λ i. m.ours.2 i + m.theirs.2 i),
      (λ i. m.ours.3 i + m.theirs.3 i),
      is_retired ∙ (λ i. m.ours.4 i ++ m.theirs.4 i),
      scan_stays joined w.retired m.ours.5 refl refl refl,
    )
