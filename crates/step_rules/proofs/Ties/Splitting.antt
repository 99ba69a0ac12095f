-- The lists and numbers of the two seats after a split.
use Rattle.std.proofs.Common.{map, ◌≡◌, ◌∙◌, ℕ, ◌+◌, ◌-◌, ◌*◌, ◌<◌, ◌≤◌, Bool, true, false, suc, zero, List, [], ◌∷◌, ◌++◌, Vec, Global, vec_capacity}
use Rattle.std.proofs.Common.{length, take, drop, get_or, cond}
use Rattle.std.proofs.Common.{ap, refl, sym, arith, is_some, mul-le-mul_left, mul-suc}
use Rattle.std.proofs.Math.Seq.{drop-append_seam, take-append_seam}
use Rattle.std.proofs.lemmas.List.{length-take-le}
use Rattle.atomic_table.specs.declared.shared.Seat.{Seat}
use Rattle.seat_history.specs.declared.call.Call.{Call}
use Rattle.step_rules.proofs.Numbers.Ranges.{count_parts}
use Rattle.step_rules.proofs.Numbers.Sets.{length-count_up, length-nodes_of}
use Rattle.step_rules.proofs.Ties.Tied.{IsNew, IsWhole, Ties}
use Rattle.step_rules.specs.Lawful.{held_by}
use Rattle.step_rules.proofs.Line.Stocks.{stock_unused}
use Rattle.step_rules.specs.SeatData.{IsFresh, room_of}
use Rattle.step_rules.specs.declared.seat.Seat.TheInside.{Inside}
use Rattle.step_rules.specs.Views.{count_up, left_view, number, right_view}
use Rattle.step_rules.specs.World.{nodes_of}
use Rattle.step_rules.specs.declared.view.Claim.{Claim}
use Rattle.step_rules.specs.declared.view.Held.{Held}
use Rattle.step_rules.specs.declared.view.Scan.{Scan}
use Rattle.step_rules.specs.declared.view.View.{View}

-- where the seat's nodes are cut
abbrev pub cut_at : View → ℕ
cut_at v = v.plan.share * (length v.numbers - 1)

nodes_of-take : (k : ℕ) (xs : List Held) → nodes_of (take k xs) ≡ take k (nodes_of xs)
nodes_of-take zero xs = refl
nodes_of-take (suc k) [] = refl
nodes_of-take (suc k) (x ∷ xs) = ap (λ l. x.node ∷ l) (nodes_of-take k xs)

nodes_of-drop : (k : ℕ) (xs : List Held) → nodes_of (drop k xs) ≡ drop k (nodes_of xs)
nodes_of-drop zero xs = refl
nodes_of-drop (suc k) [] = refl
nodes_of-drop (suc k) (x ∷ xs) = nodes_of-drop k xs

take_count : (m n : ℕ) → take n (count_up m (n + 1)) ≡ count_up m n
take_count m n = ap (take n) (count_parts m n 1) ∙ (ap (λ k. take k (count_up m n ++ count_up (m + n) 1)) (sym (length-count_up m n)) ∙ take-append_seam (count_up m n) (count_up (m + n) 1))

drop_count : (m n : ℕ) → drop n (count_up m (n + 1)) ≡ (m + n) ∷ []
drop_count m n = ap (drop n) (count_parts m n 1) ∙ (ap (λ k. drop k (count_up m n ++ count_up (m + n) 1)) (sym (length-count_up m n)) ∙ drop-append_seam (count_up m n) (count_up (m + n) 1))

nothing : (xs : List ℕ) → length xs ≡ 0 → xs ≡ []
nothing [] e = refl
nothing (x ∷ xs) e = absurd (omega arith)

-- a seat that made no step but splits, and holds more than one number
module _ (s : Inside) (tied : Ties s) (unused : s.fresh ≡ true) (more : 1 < length s.inner.me.0.numbers) where
  abbrev v : View
  v = s.inner.me.0

  abbrev last : ℕ
  last = length v.numbers - 1

  pub fresh : IsFresh v s.free.items s.holding.items
  fresh = tied.fresh unused

  one : length v.numbers ≡ last + 1
  one = omega arith

  all : v.numbers ≡ count_up (number v) (last + 1)
  all = fresh.numbers ∙ (λ i. count_up (number v) (one i))

  pub left_numbers : take last v.numbers ≡ count_up (number v) last
  left_numbers = ap (take last) all ∙ take_count (number v) last

  pub right_numbers : drop last v.numbers ≡ (number v + last) ∷ []
  right_numbers = ap (drop last) all ∙ drop_count (number v) last

  pub left_length : length (take last v.numbers) ≡ last
  left_length = length-take-le last v.numbers (omega arith)

  pub left_least : number v ≡ number (left_view v)
  left_least = sym (ap (λ l. get_or l 0 0) left_numbers ∙ first_of (number v) last (omega arith))
    where
      first_of : (m n : ℕ) → 0 < n → get_or (count_up m n) 0 0 ≡ m
      first_of m zero lt = absurd (omega arith)
      first_of m (suc n) lt = refl

  pub right_least : number v + last ≡ number (right_view v)
  right_least = sym (ap (λ l. get_or l 0 0) right_numbers)

  one_less : (n : ℕ) → n * length v.numbers ≡ n * last + n
  one_less n = ap (λ l. n * l) (let e = one in omega arith) ∙ mul-suc n last

  -- all nodes are free
  pub free_length : length s.free.items ≡ cut_at v + v.plan.share
  free_length = let s = stock_unused v.plan (length v.numbers) v.seen v.stands (length v.own + length v.retired) v.removes fresh.stands tied.sound.stock in
      omega (arith, ap (length {A = ℕ}) fresh.free, length-nodes_of v.own, ap (length {A = ℕ}) fresh.retired, one_less v.plan.share)

  record_none : (x : ℕ) → is_some (held_by v.seen x v.stands) ≡ false
  record_none x = ap (λ l. is_some (held_by v.seen x l)) fresh.stands

  left_free : take (cut_at v) s.free.items ≡ nodes_of (take (cut_at v) v.own)
  left_free = ap (take (cut_at v)) fresh.free ∙ sym (nodes_of-take (cut_at v) v.own)

  right_free : drop (cut_at v) s.free.items ≡ nodes_of (drop (cut_at v) v.own)
  right_free = ap (drop (cut_at v)) fresh.free ∙ sym (nodes_of-drop (cut_at v) v.own)

  pub right_length : length (drop last v.numbers) ≡ 1
  right_length = ap (length {A = ℕ}) right_numbers

  room_less : (b : Bool) → v.plan.share * cond b v.plan.seats (length (take last v.numbers)) + v.plan.removes * cond b v.plan.seats (length (take last v.numbers))
      ≤ v.plan.share * cond b v.plan.seats (length v.numbers) + v.plan.removes * cond b v.plan.seats (length v.numbers)
  room_less true = omega arith
  room_less false = let l : length (take last v.numbers) ≤ length v.numbers = omega (arith, left_length) in let a = mul-le-mul_left v.plan.share l in
      let b = mul-le-mul_left v.plan.removes l in omega arith

  pub share_room : room_of false (right_view v) ≡ v.plan.share + v.plan.removes
  share_room = omega (arith, ap (λ n. v.plan.share * n) right_length, ap (λ n. v.plan.removes * n) right_length)

  -- a part of the seat, which made no step either
  part_fresh : (ns : List ℕ) (own : List Held) (changes removes : ℕ) (free holding : List ℕ) → ns ≡ count_up (get_or ns 0 0) (length ns) → free ≡ nodes_of own → holding ≡ []
      → changes ≡ v.plan.changes * length ns → removes ≡ v.plan.removes * length ns → IsFresh (record v { numbers = ns; own = own; changes = changes; removes = removes }) free holding
  part_fresh ns own changes removes free holding numbers nodes none is_changes is_removes = record {
    numbers = numbers;
    free = nodes;
    holding = none;
    retired = fresh.retired;
    seen = fresh.seen;
    stands = fresh.stands;
    trail = fresh.trail;
    claims = fresh.claims;
    scan = fresh.scan;
    changes = is_changes;
    removes = is_removes;
  }

  -- the seat that was cut
  pub left_new : (inner : Seat Call View) (free : Vec ℕ Global) → IsWhole s → free.items ≡ take (cut_at v) s.free.items → vec_capacity free ≡ vec_capacity s.free
      → IsNew (record s { inner = inner; numbers = s.numbers - 1; changes = s.changes - v.plan.changes; removes = s.removes - v.plan.removes; free = free }) (left_view v)
  left_new inner free whole cut same_room = let scan = whole.5 in let none = ap length fresh.retired in record {
    fresh = part_fresh (take last v.numbers) (take (cut_at v) v.own) (v.plan.changes * last) (v.plan.removes * last) free.items s.holding.items
        (left_numbers ∙ (λ i. count_up (left_least i) (sym left_length i))) (cut ∙ left_free) fresh.holding (ap (λ n. v.plan.changes * n) (sym left_length))
        (ap (λ n. v.plan.removes * n) (sym left_length));
    numbers = omega (arith, left_length, tied.numbers);
    least = whole.1 ∙ left_least;
    no_record = tied.holds ∙ record_none (number v);
    changes = omega (arith, whole.2, fresh.changes, one_less v.plan.changes);
    removes = omega (arith, whole.3, fresh.removes, one_less v.plan.removes);
    retired = whole.4 ∙ fresh.retired;
    few_noted = tied.few_noted;
    claims = tied.claims ∙ ap (map (λ (x : Claim). x.word)) fresh.claims;
    scan_next = scan.next_is ∙ ap (λ (z : Scan). z.next) fresh.scan;
    scan_old = let within = scan.old_within in omega arith;
    scan_found = nothing s.scan_found.items (scan.long ∙ ap (λ (z : Scan). length z.found) fresh.scan);
    room_free = omega (arith, room_less s.first, tied.room_free, same_room);
    room_holding = omega (arith, room_less s.first, tied.room_holding);
    room_retired = omega (arith, room_less s.first, tied.room_retired);
    room_noted = omega (arith, room_less s.first, tied.room_noted);
    room_found = scan.room;
  }

  -- the new seat
  pub right_fresh : (free holding : List ℕ) → free ≡ drop (cut_at v) s.free.items → holding ≡ [] → IsFresh (right_view v) free holding
  right_fresh free holding cut none = part_fresh (drop last v.numbers) (drop (cut_at v) v.own) v.plan.changes v.plan.removes free holding
      (right_numbers ∙ (λ i. count_up (right_least i) (sym right_length i)))
      (cut ∙ right_free) none (omega (arith, ap (λ n. v.plan.changes * n) right_length)) (omega (arith, ap (λ n. v.plan.removes * n) right_length))
