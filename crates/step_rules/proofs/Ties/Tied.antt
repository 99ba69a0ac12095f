-- What ties a seat's own numbers and lists to its view, and what its steps leave of it.
use Rattle.std.proofs.Common.{◌≡◌, ◌≢◌, ℕ, ◌+◌, ◌*◌, ◌/◌, ◌^◌, ◌<◌, ◌≤◌, Bool, true, false, List, [], ◌∷◌, ◌++◌, Vec, Global, vec_capacity, is_some}
use Rattle.std.proofs.Common.{length, length-append, map, cond, get_or, set}
use Rattle.std.proofs.Common.{take, replicate, append-nil, mul-le-mul_left, refl, sym, ap, ◌∙◌, ⊎_elim, inl, subst, arith}
use Rattle.std.proofs.Math.Seq.{map-set_same}
use Rattle.std.proofs.lemmas.Bool.{cases_eq, false≢true}
use Rattle.std.proofs.lemmas.List.{map-set, take-append-le}
use Rattle.std.proofs.lemmas.Nat.{mul-le}
use mathlib.Core.Option.{some}
use lib.ListN.{get_elem?}
use Rattle.atomic_table.proofs.Lists.{at_set}
use Rattle.atomic_table.specs.Table.{Me}
use Rattle.atomic_table.specs.declared.shared.Seat.{Seat}
use Rattle.seat_history.specs.declared.call.Call.{Call}
use Rattle.seat_history.specs.declared.entry.Entry.{Entry}
use Rattle.seat_history.specs.declared.reply.Reply.{Reply}
use Rattle.step_rules.proofs.Rely.Advance.{tells_else}
use Rattle.step_rules.proofs.Numbers.Bags.{has_times, one_list, times-append, times_has, times_none}
use Rattle.step_rules.proofs.Keeps.Claiming.{announced_word}
use Rattle.step_rules.proofs.Keeps.Stores.{stored_nodes}
use Rattle.step_rules.proofs.Ties.Pools.{is_own}
use Rattle.step_rules.proofs.Line.Records.{held_longer, stood_holds}
use Rattle.step_rules.proofs.World.Silent.{Quiet, no_claims_quiet, none_announced}
use Rattle.step_rules.proofs.Line.Stocks.{stock_within}
use Rattle.step_rules.proofs.Numbers.Sets.{at_has, at_most_below, has_first, length-nodes_of}
use Rattle.step_rules.specs.Holding.{holds_after}
use Rattle.step_rules.specs.Bags.{IsWithout, times}
use Rattle.step_rules.specs.Claims.{BACK, OWN, On, Tells, WALK}
use Rattle.step_rules.specs.Kinds.Backup.{Looks, MayExchange}
use Rattle.step_rules.specs.Kinds.Claiming.{Rechecks}
use Rattle.step_rules.specs.Kinds.Walking.{WalkRechecks}
use Rattle.step_rules.specs.Lawful.{held_by}
use Rattle.step_rules.specs.Layout.{cells, nodes}
use Rattle.step_rules.specs.SeatData.{IsFresh, IsScan, IsSeat, IsTied, NoneAnnounced, SeatData, claim_words, holds_record, room_of}
use Rattle.step_rules.specs.Sound.{Sound}
use Rattle.step_rules.specs.Steps.{IsOwn}
use Rattle.step_rules.specs.Views.{announced, announced_view, claim_of, claimed_view, cleared_view, loaded_view, looked_view, number, silent, standing, stood_view, stored_view, walked_claim}
use Rattle.step_rules.specs.Views.{walked_view}
use Rattle.step_rules.specs.World.{has, nodes_of}
use Rattle.step_rules.specs.declared.layout.TheConstants.{CLAIMS}
use Rattle.step_rules.specs.declared.plan.Plan.{Plan}
use Rattle.step_rules.specs.declared.seat.Seat.TheInside.{Inside}
use Rattle.step_rules.specs.declared.view.Claim.{Claim}
use Rattle.step_rules.specs.declared.view.Kind.{Kind}
use Rattle.step_rules.specs.declared.view.Kind.TheVariants.{Recheck}
use Rattle.step_rules.specs.declared.view.Scan.{Scan}
use Rattle.step_rules.specs.declared.view.View.{View}

-- the share of the numbers held is no more than that of all
pub within_room : (first : Bool) (v : View) → Sound v → length v.own + length v.retired ≤ room_of first v
within_room false v sound = stock_within sound.stock
within_room true v sound =
    let s = stock_within sound.stock in
    let l = at_most_below v.numbers v.plan.seats sound.once sound.below in
    let m = mul-le-mul_left v.plan.share l in let r = mul-le-mul_left v.plan.removes l in omega arith

-- how many nodes a seat can have
pub few : (v : View) → Sound v → length v.own + length v.retired ≤ 335544320
few v sound = let s = stock_within sound.stock in
    let l = at_most_below v.numbers v.plan.seats sound.once sound.below in let p = sound.plan in let q = p.seats in let r = p.share in let d = p.removes in
    let m : v.plan.share * length v.numbers ≤ 4194304 * 64 = mul-le v.plan.share (length v.numbers) 4194304 64 (omega arith) (omega arith) in
    let n : v.plan.removes * length v.numbers ≤ 1048576 * 64 = mul-le v.plan.removes (length v.numbers) 1048576 64 (omega arith) (omega arith) in omega arith

-- a node goes from one list to the other
pub moved_times : (n : ℕ) (xs xs' ys ys' : List ℕ) → IsWithout n xs xs' → ys' ≡ ys ++ n ∷ [] → (m : ℕ) → times m xs' + times m ys' ≡ times m xs + times m ys
moved_times n xs xs' ys ys' w more m = let t = w.times m in let e = ap (times m) more in omega (arith, times-append m ys (n ∷ []))

pub moved_length : (n : ℕ) (xs xs' ys ys' : List ℕ) → IsWithout n xs xs' → ys' ≡ ys ++ n ∷ [] → length xs' + length ys' ≡ length xs + length ys
moved_length n xs xs' ys ys' w more = let l = w.length in let e = ap (length {A = ℕ}) more in omega (arith, length-append ys (n ∷ []))

-- an own node that isn't held is free
pub is_free : (n : ℕ) (own free holding : List ℕ) → times n free + times n holding ≡ times n own → has own n ≡ true → has holding n ≡ false → has free n ≡ true
is_free n own free holding all there not_held = has_times n free (omega (arith, times_has n own there, times_none n holding not_held))

-- a held node is an own one
pub own_held : (n : ℕ) (own free holding : List ℕ) → times n free + times n holding ≡ times n own → has holding n ≡ true → has own n ≡ true
own_held n own free holding all there = has_times n own (omega (arith, times_has n holding there))

-- an own node is there
pub own_there : (n : ℕ) (v : View) → Sound v → has (nodes_of v.own) n ≡ true → n < nodes v.plan
own_there n v sound own = let f = at_has v.own n own in subst (λ m. m < nodes v.plan) f.3 (sound.node f.0 f.1 f.2).there

-- no free node is announced: by the same claims, or where one claim is another now
pub own_free_still : (free : List ℕ) (v w : View) → NoneAnnounced free v → w.claims ≡ v.claims → NoneAnnounced free w
own_free_still free v w none same = subst (λ (l : List Claim). (n : ℕ) → has free n ≡ true → (y : Claim) → get_elem? l OWN ≡ some y → ¬ On y n) (sym same) none

own_free_set : (free : List ℕ) (v w : View) (c : ℕ) (x : Claim) → NoneAnnounced free v → w.claims ≡ set v.claims c x → ((n : ℕ) → OWN ≡ c → has free n ≡ true → ¬ On x n)
    → NoneAnnounced free w
own_free_set free v w c x none is apart n h y at on = ⊎_elim
    (λ (q : (OWN ≡ c) × (x ≡ y)). apart n q.0 h (subst (λ z. On z n) (sym q.1) on))
    (λ (q : (OWN ≢ c) × (get_elem? v.claims OWN ≡ some y)). none n h y q.1 on)
    (at_set v.claims c OWN x y (subst (λ l. get_elem? l OWN ≡ some y) is at))

-- a scan that a step doesn't touch; nodes that are retired meanwhile come after the old ones
pub scan_stays : {v : View} {next old : ℕ} {found : List ℕ} {d : ℕ} (w : View) (more : List ℕ) → IsScan v next old found d → w.plan ≡ v.plan → w.retired ≡ v.retired ++ more
    → w.scan ≡ v.scan
    → IsScan w next old found d
scan_stays {v = v} {old = old} {d = d} w more s plan retired scan = let within = s.old_within in record {
  next_is = s.next_is ∙ ap (λ z. z.next) (sym scan);
  old_is = ap (λ (z : Scan). z.old) scan ∙ (s.old_is ∙ (sym (take-append-le old v.retired more within) ∙ ap (take old) (sym retired)));
  old_within = let l = ap (length {A = ℕ}) retired in omega (arith, length-append v.retired more);
  found_is = λ n. s.found_is n ∙ ap (λ (z : Scan). has z.found n) (sym scan);
  long = s.long ∙ ap (λ (z : Scan). length z.found) (sym scan);
  room = subst (λ (p : Plan). CLAIMS * p.seats ≤ d) (sym plan) s.room;
}

-- the least number is one of the callers' numbers
pub least_below : (v : View) (p : Plan) (least : ℕ) → Sound v → p ≡ v.plan → least ≡ number v → least < p.seats
least_below v p least sound plan is = subst (λ (z : ℕ × Plan). z.0 < z.1.seats) (λ i. (sym is i, sym plan i)) (sound.below (number v) (has_first v.numbers sound.some_number))

-- the register of an exchange is there, and so is the node that falls out
pub exchange_there : (k x n : ℕ) (call : Call) (v : View) → Sound v → MayExchange k x n call v → (k < cells v.plan) × (x / 2 < nodes v.plan)
exchange_there k x n call v sound may = let told = sound.claims.told BACK (x / 2) may.back may.claimed (inl refl) may.stands in
    (subst (λ m. m < cells v.plan) may.cell told.cell, (sound.claims.there BACK (x / 2) may.back may.claimed may.stands).0)

-- what ties the fields of a seat to its view, as its invariant says it, where its inner seat is this
abbrev pub TiesAt : Inside → Me Call View → Type 0
TiesAt s me = IsTied me s.numbers s.first s.fresh s.holds_record s.free.items s.holding.items s.noted.items s.claims (vec_capacity s.free) (vec_capacity s.holding)
    (vec_capacity s.retired) (vec_capacity s.noted)

abbrev pub WholeAt : Inside → Me Call View → Type 0
WholeAt s me = TiesAt s me × (s.least ≡ number me.0) × (s.changes ≡ me.0.changes) × (s.removes ≡ me.0.removes) ×
    (s.retired.items ≡ me.0.retired) × IsScan me.0 s.scan_next s.scan_old s.scan_found.items (vec_capacity s.scan_found)

abbrev pub Ties : Inside → Type 0
Ties s = TiesAt s s.inner.me

abbrev pub IsWhole : Inside → Type 0
IsWhole s = WholeAt s s.inner.me

-- a seat as contracts see it
abbrev pub data_of : Inside → SeatData
data_of s = record { object = s.inner.table_id; view = s.inner.me.0; free = s.free.items; holding = s.holding.items; noted = s.noted.items; first = s.first; fresh = s.fresh }

-- what holds of every seat, from what its invariant says
pub lawful : (s : Inside) → IsWhole s → IsSeat (data_of s)
lawful s whole = let t = whole.0 in record { sound = t.sound; lists = t.lists; long = t.long; own_free = t.own_free; unused = t.fresh }

-- a free or held node is an own one
pub own_of : (s : Inside) (n : ℕ) {seat : SeatData} → IsWhole s → data_of s ≡ seat → IsOwn n seat → has (nodes_of s.inner.me.0.own) n ≡ true
own_of s n whole is own = is_own (data_of s) (lawful s whole) n (subst (IsOwn n) (sym is) own)

-- a step of the seat, after which its lists are these
pub record Relists (s : Inside) (inner : Seat Call View) (free holding retired : Vec ℕ Global) : Type 0 where
  pub slots : inner.me.1 ≡ s.inner.me.1
  pub sound : Sound inner.me.0
  pub plan : inner.me.0.plan ≡ s.inner.me.0.plan
  pub numbers : inner.me.0.numbers ≡ s.inner.me.0.numbers
  pub own_free : NoneAnnounced free.items inner.me.0
  pub lists : (n : ℕ) → times n free.items + times n holding.items ≡ times n (nodes_of inner.me.0.own)
  pub long : length free.items + length holding.items ≡ length inner.me.0.own
  pub room_free : vec_capacity free ≡ vec_capacity s.free
  pub room_holding : vec_capacity holding ≡ vec_capacity s.holding
  pub room_retired : vec_capacity retired ≡ vec_capacity s.retired

pub tied_step : (s : Inside) (inner : Seat Call View) (free holding retired : Vec ℕ Global) (holds : Bool) (claims : List ℕ) → Ties s → Relists s inner free holding retired
    → holds ≡ holds_record inner.me.0 → claims ≡ claim_words inner.me.0
    → Ties (record s { inner = inner; fresh = false; holds_record = holds; free = free; holding = holding; retired = retired; claims = claims })
tied_step s inner free holding retired holds claims t r is words =
    let n = s.first in
    let room : room_of n inner.me.0 ≡ room_of n s.inner.me.0 =
    (λ i. (r.plan i).share * cond n (r.plan i).seats (length (r.numbers i)) + (r.plan i).removes * cond n (r.plan i).seats (length (r.numbers i))) in
    let f = t.room_free in let h = t.room_holding in let g = t.room_retired in let n' = t.room_noted in
    let f' = r.room_free in let h' = r.room_holding in let g' = r.room_retired in record {
      slots = r.slots ∙ t.slots;
      sound = r.sound;
      numbers = t.numbers ∙ ap (length {A = ℕ}) (sym r.numbers);
      holds = is;
      lists = r.lists;
      long = r.long;
      claims = words;
      own_free = r.own_free;
      room_free = omega arith;
      room_holding = omega arith;
      room_retired = omega arith;
      room_noted = omega arith;
      few_noted = t.few_noted;
      fresh = λ no. absurd (false≢true no);
    }

-- other lists of the same nodes
pub tied_lists : (s : Inside) (free holding : Vec ℕ Global) → Ties s → NoneAnnounced free.items s.inner.me.0
    → ((n : ℕ) → times n free.items + times n holding.items ≡ times n s.free.items + times n s.holding.items)
    → length free.items + length holding.items ≡ length s.free.items + length s.holding.items → vec_capacity free ≡ vec_capacity s.free → vec_capacity holding ≡ vec_capacity s.holding
    → (s.fresh ≡ true → ⊥)
    → Ties (record s { free = free; holding = holding })
tied_lists s free holding t own_free same long is_a is_b used = let f = t.room_free in let h = t.room_holding in record {
  slots = t.slots;
  sound = t.sound;
  numbers = t.numbers;
  holds = t.holds;
  lists = λ n. same n ∙ t.lists n;
  long = long ∙ t.long;
  claims = t.claims;
  own_free = own_free;
  room_free = omega arith;
  room_holding = omega arith;
  room_retired = t.room_retired;
  room_noted = t.room_noted;
  few_noted = t.few_noted;
  fresh = λ is. absurd (used is);
}

-- other links noted
pub tied_notes : (s : Inside) (noted : Vec ℕ Global) → Ties s → length noted.items < 2 ^ 32 → vec_capacity noted ≡ vec_capacity s.noted → Ties (record s { noted = noted })
tied_notes s noted t few same = let n = t.room_noted in record {
  slots = t.slots;
  sound = t.sound;
  numbers = t.numbers;
  holds = t.holds;
  lists = t.lists;
  long = t.long;
  claims = t.claims;
  own_free = t.own_free;
  room_free = t.room_free;
  room_holding = t.room_holding;
  room_retired = t.room_retired;
  room_noted = omega arith;
  few_noted = few;
  fresh = t.fresh;
}

-- the parts of a view that a step leaves which moves no node and is no change
pub record Lasting : Type 0 where
  pub plan : Plan
  pub numbers : List ℕ
  pub own : List ℕ
  pub changes : ℕ
  pub removes : ℕ
  pub retired : List ℕ

abbrev pub lasting : View → Lasting
lasting v = record { plan = v.plan; numbers = v.numbers; own = nodes_of v.own; changes = v.changes; removes = v.removes; retired = v.retired }

-- a step of the seat s, after which its inner seat is this
module _ (s : Inside) (whole : IsWhole s) (inner : Seat Call View) (slots : inner.me.1 ≡ s.inner.me.1) (sound : Sound inner.me.0) where
  abbrev v : View
  v = s.inner.me.0

  -- its view is w, which has the same nodes: all but the scan
  pub held_to : (w : View) (holds : Bool) (claims : List ℕ) → inner.me.0 ≡ w → lasting w ≡ lasting v → holds ≡ holds_record w → claims ≡ claim_words w
      → NoneAnnounced s.free.items w
      → Ties (record s { inner = inner; fresh = false; holds_record = holds; claims = claims }) × (s.least ≡ number inner.me.0)
      × (s.changes ≡ inner.me.0.changes) × (s.removes ≡ inner.me.0.removes) × (s.retired.items ≡ inner.me.0.retired)
  held_to w holds claims after same is words own_free =
      let t = whole.0 in
      let stays : lasting inner.me.0 ≡ lasting v = ap lasting after ∙ same in (
        tied_step s inner s.free s.holding s.retired holds claims t (record {
          slots = slots;
          sound = sound;
          plan = ap (λ (l : Lasting). l.plan) stays;
          numbers = ap (λ (l : Lasting). l.numbers) stays;
          own_free = subst (NoneAnnounced s.free.items) (sym after) own_free;
          lists = λ n. t.lists n ∙ ap (λ (l : Lasting). times n l.own) (sym stays);
          long = t.long ∙ (sym (length-nodes_of v.own) ∙ (ap (λ (l : Lasting). length l.own) (sym stays) ∙ length-nodes_of inner.me.0.own));
          room_free = refl;
          room_holding = refl;
          room_retired = refl;
        }) (is ∙ ap holds_record (sym after)) (words ∙ ap claim_words (sym after)),
        whole.1 ∙ ap (λ (l : Lasting). get_or l.numbers 0 0) (sym stays),
        whole.2 ∙ ap (λ (l : Lasting). l.changes) (sym stays),
        whole.3 ∙ ap (λ (l : Lasting). l.removes) (sym stays),
        whole.4 ∙ ap (λ (l : Lasting). l.retired) (sym stays),
      )

  -- and the scan
  stepped_to : (w : View) (holds : Bool) (claims : List ℕ) → inner.me.0 ≡ w → lasting w ≡ lasting v → w.scan ≡ v.scan → holds ≡ holds_record w → claims ≡ claim_words w
      → NoneAnnounced s.free.items w
      → IsWhole (record s { inner = inner; fresh = false; holds_record = holds; claims = claims })
  stepped_to w holds claims after same scan is words own_free =
      let h = held_to w holds claims after same is words own_free in
      let stays : lasting inner.me.0 ≡ lasting v = ap lasting after ∙ same in (
        h.0,
        h.1,
        h.2,
        h.3,
        h.4,
        scan_stays inner.me.0 [] whole.5 (ap (λ (l : Lasting). l.plan) stays)
            (ap (λ (l : Lasting). l.retired) stays ∙ sym (append-nil v.retired))
            (ap (λ (u : View). u.scan) after ∙ scan),
      )

  -- the claims are the same, and whether a record is held
  pub stepped_so : (w : View) → inner.me.0 ≡ w → lasting w ≡ lasting v → w.scan ≡ v.scan → holds_record w ≡ holds_record v → w.claims ≡ v.claims
      → IsWhole (record s { inner = inner; fresh = false })
  stepped_so w after same scan record_same claims_same = stepped_to w s.holds_record s.claims after same scan (whole.0.holds ∙ sym record_same)
      (whole.0.claims ∙ ap (map (λ (x : Claim). x.word)) (sym claims_same))
      (own_free_still s.free.items v w whole.0.own_free claims_same)

  pub whole_stored : (n j x : ℕ) → inner.me.0 ≡ stored_view n j x v → IsWhole (record s { inner = inner; fresh = false })
  whole_stored n j x after = stepped_so (stored_view n j x v) after (λ i. record (lasting v) { own = stored_nodes n j x v.own i }) refl refl refl

  pub whole_loaded : (n j x : ℕ) → inner.me.0 ≡ loaded_view n j x v → IsWhole (record s { inner = inner; fresh = false })
  whole_loaded n j x after = stepped_so (loaded_view n j x v) after refl refl refl refl

  -- more of the history is seen
  pub whole_looked : (kind : Kind) (k x : ℕ) → Looks kind k x v inner.me.0 → IsWhole (record s { inner = inner; fresh = false })
  whole_looked kind k x looks = stepped_so (looked_view kind k x looks.log v) looks.after refl refl (ap is_some (held_longer v looks.rest looks.log whole.0.sound.lawful looks.seen)) refl

  -- a claim that is announced or cleared
  pub whole_announced : (c n x : ℕ) → x ≡ n + 1 → (c ≡ OWN → has s.holding.items n ≡ true) → inner.me.0 ≡ announced_view c n v
      → IsWhole (record s { inner = inner; fresh = false; claims = set s.claims c x })
  whole_announced c n x is held after = stepped_to (announced_view c n v) s.holds_record (set s.claims c x) after refl refl whole.0.holds
      ((λ i. set (whole.0.claims i) c ((is ∙ sym (announced_word c n v)) i)) ∙ sym (map-set (λ (z : Claim). z.word) v.claims c (announced c n v)))
      (own_free_set s.free.items v (announced_view c n v) c (announced c n v) whole.0.own_free refl (λ m own h on.
      let same : n ≡ m = omega (arith, announced_word c n v, on.at) in
      one_list m (nodes_of v.own) s.free.items s.holding.items (whole.0.lists m) whole.0.sound.own_once h (subst (λ z. has s.holding.items z ≡ true) same (held (sym own)))))

  pub whole_cleared : (c : ℕ) → inner.me.0 ≡ cleared_view c v → IsWhole (record s { inner = inner; fresh = false; claims = set s.claims c 0 })
  whole_cleared c after = stepped_to (cleared_view c v) s.holds_record (set s.claims c 0) after refl refl whole.0.holds
      (ap (λ l. set l c 0) whole.0.claims ∙ sym (map-set (λ (x : Claim). x.word) v.claims c (silent 0)))
      (own_free_set s.free.items v (cleared_view c v) c (silent 0) whole.0.own_free refl (λ m own h on. absurd (false≢true on.on)))

  -- a claim other than Own becomes x, and its word stays
  whole_claimed : (c : ℕ) (x : Claim) (w : View) (rest log : List Entry) → inner.me.0 ≡ w → lasting w ≡ lasting v → w.scan ≡ v.scan → (claim_of c v).word ≡ x.word → c ≢ OWN
      → log ≡ v.seen ++ rest → holds_record w ≡ is_some (held_by log (number v) v.stands)
      → w.claims ≡ set v.claims c x → IsWhole (record s { inner = inner; fresh = false })
  whole_claimed c x w rest log after same scan named apart seen record_then claims_then = stepped_to w s.holds_record s.claims after same scan
      (whole.0.holds ∙ sym (record_then ∙ ap is_some (held_longer v rest log whole.0.sound.lawful seen)))
      (whole.0.claims ∙ (sym (map-set_same (λ (z : Claim). z.word) v.claims c x (silent 0) (sym named)) ∙ ap (map (λ (z : Claim). z.word)) (sym claims_then)))
      (own_free_set s.free.items v w c x whole.0.own_free claims_then (λ m own h on. absurd (apart (sym own))))

  -- a recheck
  pub whole_rechecked : (c k x y : ℕ) → Tells c → (claim_of c v).word ≡ x / 2 + 1 → Rechecks c k x y v inner.me.0 → IsWhole (record s { inner = inner; fresh = false })
  whole_rechecked c k x y tells named rechecks = ⊎_elim
      (λ same. let r = rechecks.same same in
      whole_claimed c (standing (y / 2) r.words k r.pages (length r.log)) (claimed_view c k x y r.words r.pages r.log v) r.rest r.log r.after refl refl (named ∙ ap (λ m. m + 1) (sym same))
      (tells_else c tells) r.seen refl refl)
      (λ other. whole_looked (Recheck c k x) k y (rechecks.other other))
      (cases_eq (y / 2) (x / 2))

  pub whole_walked : (k y x n : ℕ) → (claim_of WALK v).word ≡ n + 1 → WalkRechecks k y x n v inner.me.0 → IsWhole (record s { inner = inner; fresh = false })
  whole_walked k y x n named rechecks = ⊎_elim
      (λ same. let r = rechecks.same same in
      whole_claimed WALK (walked_claim n k (length r.log) v) (walked_view n k y x r.log v) r.rest r.log r.after refl refl named (λ e. omega arith) r.seen refl refl)
      (λ other. whole_looked (Recheck WALK k y) k x (rechecks.other other))
      (cases_eq (x / 2) (y / 2))

  -- a stand
  pub whole_stood : (q : ℕ) (call : Call) (reply : Reply) (holds : Bool) → inner.me.0 ≡ stood_view q call reply v → holds ≡ holds_after s.holds_record call
      → IsWhole (record s { inner = inner; fresh = false; holds_record = holds })
  whole_stood q call reply holds after is = stepped_to (stood_view q call reply v) holds s.claims after refl refl
      (is ∙ (ap (λ h. holds_after h call) whole.0.holds ∙ sym (stood_holds q call reply v))) whole.0.claims whole.0.own_free

-- a seat as it is made, where it knows v and made no step
pub record IsNew (s : Inside) (v : View) : Type 0 where
  pub fresh : IsFresh v s.free.items s.holding.items
  pub numbers : s.numbers ≡ length v.numbers
  pub least : s.least ≡ number v
  pub no_record : s.holds_record ≡ false
  pub changes : s.changes ≡ v.changes
  pub removes : s.removes ≡ v.removes
  pub retired : s.retired.items ≡ []
  pub few_noted : length s.noted.items < 2 ^ 32
  pub claims : s.claims ≡ replicate CLAIMS 0
  pub scan_next : s.scan_next ≡ 0
  pub scan_old : s.scan_old ≡ 0
  pub scan_found : s.scan_found.items ≡ []
  pub room_free : room_of s.first v ≤ vec_capacity s.free
  pub room_holding : room_of s.first v ≤ vec_capacity s.holding
  pub room_retired : room_of s.first v ≤ vec_capacity s.retired
  pub room_noted : room_of s.first v ≤ vec_capacity s.noted
  pub room_found : CLAIMS * v.plan.seats ≤ vec_capacity s.scan_found

pub new_whole : (s : Inside) (v : View) → s.inner.me ≡ (v, []) → Sound s.inner.me.0 → IsNew s v → IsWhole s
new_whole s v is sound new = let f = new.fresh in subst (WholeAt s) (sym is) (
  record {
    slots = refl;
    sound = subst (λ (e : Me Call View). Sound e.0) is sound;
    numbers = new.numbers;
    holds = new.no_record ∙ ap (λ l. is_some (held_by v.seen (number v) l)) (sym f.stands);
    lists = λ n. omega (arith, ap (times n) f.free, ap (times n) f.holding);
    long = omega (arith, ap (length {A = ℕ}) f.free, ap (length {A = ℕ}) f.holding, length-nodes_of v.own);
    claims = new.claims ∙ ap (map (λ (x : Claim). x.word)) (sym f.claims);
    own_free = none_announced s.free.items v (subst Quiet (sym f.claims) no_claims_quiet);
    room_free = new.room_free;
    room_holding = new.room_holding;
    room_retired = new.room_retired;
    room_noted = new.room_noted;
    few_noted = new.few_noted;
    fresh = λ _. f;
  },
  new.least,
  new.changes,
  new.removes,
  new.retired ∙ sym f.retired,
  record {
    next_is = new.scan_next ∙ ap (λ (z : Scan). z.next) (sym f.scan);
    old_is = ap (λ (z : Scan). z.old) f.scan ∙ ap (λ n. take n v.retired) (sym new.scan_old);
    old_within = omega (arith, new.scan_old);
    found_is = λ n. ap (λ l. has l n) new.scan_found ∙ ap (λ (z : Scan). has z.found n) (sym f.scan);
    long = ap (length {A = ℕ}) new.scan_found ∙ ap (λ (z : Scan). length z.found) (sym f.scan);
    room = new.room_found;
  },
)
