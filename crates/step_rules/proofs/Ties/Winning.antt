-- What an exchange that won leaves of its seat's own numbers and lists.
use Rattle.std.proofs.Common.{◌≡◌, ◌∙◌, ℕ, ◌+◌, ◌-◌, ◌/◌, ◌<◌, true, false, not, cond, ne_eqb, List, [], ◌∷◌, ◌++◌, Vec, Global, suc, zero, drop}
use Rattle.std.proofs.Common.{vec_capacity, length, take, filter, refl, sym}
use Rattle.std.proofs.Common.{ap, arith, inl, ⊎_elim, length-append}
use Rattle.std.proofs.lemmas.Bool.{cases_Bool, false≢true, false_from_ne_true}
use Rattle.seat_history.specs.declared.call.Call.{Call}
use Rattle.step_rules.proofs.Numbers.Bags.{once_from_times, one_else, times_has, times_none, times_once}
use Rattle.step_rules.proofs.Order.Fronts.{dropped_some, length-without_all, without_all_at}
use Rattle.step_rules.proofs.Numbers.Places.{there_at}
use Rattle.step_rules.proofs.Line.Records.{won_holds}
use Rattle.step_rules.proofs.Numbers.Sets.{at_has}
use Rattle.step_rules.proofs.Ties.Tied.{IsWhole, data_of, own_free_still, own_held, scan_stays, tied_step, within_room}
use Rattle.step_rules.specs.Bags.{times}
use Rattle.step_rules.specs.Claims.{BACK}
use Rattle.step_rules.specs.Kinds.Backup.{MayExchange, Wins}
use Rattle.atomic_table.specs.declared.shared.Seat.{Seat}
use Rattle.step_rules.specs.declared.seat.Seat.TheInside.{Inside}
use Rattle.step_rules.specs.Records.{dropped_count, removes_of}
use Rattle.step_rules.specs.SeatData.{claim_words, holds_record, room_of}
use Rattle.step_rules.specs.Sound.{Sound}
use Rattle.step_rules.specs.Steps.{DropsNoted}
use Rattle.step_rules.specs.Views.{claimed_edit, claimed_pages, claimed_records, dropped_of, fresh_of, number, silent, without_all}
use Rattle.step_rules.specs.World.{has, nodes_of}
use Rattle.step_rules.specs.declared.view.Claim.{Claim}
use Rattle.step_rules.specs.declared.view.Held.{Held}
use Rattle.step_rules.specs.declared.view.View.{View}

-- nodes that are taken out, and those that are left
times_gone : (m : ℕ) (ns : List ℕ) (own : List Held) → has ns m ≡ true → times m (nodes_of (without_all ns own)) ≡ 0
times_gone m ns own there = times_none m (nodes_of (without_all ns own)) (false_from_ne_true (has (nodes_of (without_all ns own)) m) (λ h.
    let q = at_has (without_all ns own) m h in
    let t = without_all_at ns own q.0 q.1 q.2 in
    false≢true (sym t.2 ∙ (ap (has ns) q.3 ∙ there))))

times_left : (m : ℕ) (ns : List ℕ) (own : List Held) → has ns m ≡ false → times m (nodes_of (without_all ns own)) ≡ times m (nodes_of own)
times_left m ns [] none = refl
times_left m ns (h ∷ r) none = ⊎_elim
    (λ e. omega (
      arith,
      ap (λ b. times m (nodes_of (cond (not b) (h ∷ without_all ns r) (without_all ns r)))) e,
      times_left m ns r none,
      one_else m h.node (ne_eqb h.node m (λ q. false≢true (sym none ∙ (ap (has ns) (sym q) ∙ e)))),
    ))
    (λ e. omega (arith, ap (λ b. times m (nodes_of (cond (not b) (h ∷ without_all ns r) (without_all ns r)))) e, times_left m ns r none))
    (cases_Bool (has ns h.node))

first_out : (d n : ℕ) (words : List ℕ) (pages rest : List Held) (links : List ℕ) → 0 < d → pages ≡ record { node = n; words = words } ∷ rest → nodes_of (drop 1 (take d pages)) ≡ links
    → nodes_of (take d pages) ≡ n ∷ links
first_out zero n words pages rest links some e more = absurd (omega arith)
first_out (suc d) n words pages rest links some e more = ap (λ l. nodes_of (take (suc d) l)) e
    ∙ ap (λ l. n ∷ l) (sym (ap (λ l. nodes_of (drop 1 (take (suc d) l))) e) ∙ more)

-- the nodes that fall out: the first one, and the links
pub dropped_is : (k x n : ℕ) (call : Call) (v : View) (links : List ℕ) → Sound v → MayExchange k x n call v → nodes_of (drop 1 (dropped_of call v)) ≡ links
    → nodes_of (dropped_of call v) ≡ x / 2 ∷ links
dropped_is k x n call v links sound may more =
    let told = sound.claims.told BACK (x / 2) may.back may.claimed (inl refl) may.stands in
    first_out (dropped_count (length (claimed_records v)) (claimed_edit call v)) (x / 2) may.back.image (claimed_pages v) told.rest links
    (dropped_some (length (claimed_records v)) (claimed_edit call v))
    (ap (λ (y : Claim). y.pages) (there_at v.claims BACK may.back (silent 0) may.claimed) ∙ told.heads) more

-- an exchange that won, after which the inner seat is this
module _ (s : Inside) (whole : IsWhole s) (inner : Seat Call View) (slots : inner.me.1 ≡ s.inner.me.1) (sound : Sound inner.me.0) where
  abbrev v : View
  v = s.inner.me.0

  -- all held nodes came in
  module _ (k x n : ℕ) (call : Call) (may : MayExchange k x n call v) (front : (m : ℕ) → has s.holding.items m ≡ has (nodes_of (fresh_of n call v)) m) (drops : DropsNoted call (data_of s))
      (wins : Wins k x n call v inner.me.0) where
    gone : v.retired ++ x / 2 ∷ s.noted.items ≡ inner.me.0.retired
    gone = ap (λ l. v.retired ++ l) (sym (dropped_is k x n call v s.noted.items whole.0.sound may drops)) ∙ ap (λ (w : View). w.retired) (sym wins.after)

    left : inner.me.0.own ≡ without_all s.holding.items v.own
    left = ap (λ (w : View). w.own) wins.after ∙ (λ i. filter (λ (h : Held). not (sym (front h.node) i)) v.own)

    lists : (m : ℕ) → times m s.free.items + times m [] ≡ times m (nodes_of inner.me.0.own)
    lists m = let t = whole.0 in let held = s.holding.items in ⊎_elim
        (λ h. let l = t.lists m in omega (arith, times_has m held h, times_once m (nodes_of v.own) t.sound.own_once, times_gone m held v.own h, ap (λ y. times m (nodes_of y)) left))
        (λ h. let l = t.lists m in omega (arith, times_none m held h, times_left m held v.own h, ap (λ y. times m (nodes_of y)) left))
        (cases_Bool (has held m))

    long : length s.free.items + 0 ≡ length inner.me.0.own
    long = let t = whole.0 in let held = s.holding.items in let l = t.long in omega (
      arith,
      ap (length {A = Held}) left,
      length-without_all held v.own (once_from_times held (λ m. let l = t.lists m in omega (arith, times_once m (nodes_of v.own) t.sound.own_once))) t.sound.own_once
          (λ m h. own_held m (nodes_of v.own) s.free.items held (t.lists m) h),
    )

    pub whole_won : (spent : ℕ) (holding retired : Vec ℕ Global) → spent ≡ removes_of call → holding.items ≡ [] → retired.items ≡ s.retired.items ++ x / 2 ∷ s.noted.items
        → vec_capacity holding ≡ vec_capacity s.holding
        → vec_capacity retired ≡ vec_capacity s.retired
        → IsWhole (record s { inner = inner; fresh = false; changes = s.changes - 1; removes = s.removes - spent; holding = holding; retired = retired })
    whole_won spent holding retired is_spent none more same_holding same_retired = let t = whole.0 in let plan = ap (λ (w : View). w.plan) wins.after in (
      tied_step s inner s.free holding retired s.holds_record s.claims t (record {
        slots = slots;
        sound = sound;
        plan = plan;
        numbers = ap (λ (w : View). w.numbers) wins.after;
        own_free = own_free_still s.free.items v inner.me.0 t.own_free (ap (λ (w : View). w.claims) wins.after);
        lists = λ m. ap (λ l. times m s.free.items + times m l) none ∙ lists m;
        long = ap (λ (l : List ℕ). length s.free.items + length l) none ∙ long;
        room_free = refl;
        room_holding = same_holding;
        room_retired = same_retired;
      }) (t.holds ∙ sym (ap holds_record wins.after ∙ won_holds k x n call v wins.log wins.rest t.sound.lawful may.changes wins.seen)) (t.claims ∙ ap claim_words (sym wins.after)),
      whole.1 ∙ ap number (sym wins.after),
      ap (λ m. m - 1) whole.2 ∙ ap (λ (w : View). w.changes) (sym wins.after),
      (λ i. whole.3 i - is_spent i) ∙ ap (λ (w : View). w.removes) (sym wins.after),
      more ∙ (ap (λ l. l ++ x / 2 ∷ s.noted.items) whole.4 ∙ gone),
      scan_stays inner.me.0 (x / 2 ∷ s.noted.items) whole.5 plan (sym gone) (ap (λ (w : View). w.scan) wins.after),
    )

    -- there is room for the first node and the noted ones among the retired ones
    pub room_won : length s.retired.items + length s.noted.items < vec_capacity s.retired
    room_won =
        let room : room_of s.first inner.me.0 ≡ room_of s.first v = ap (room_of s.first) wins.after in
        let r = whole.0.room_retired in
        omega (arith, within_room s.first inner.me.0 sound, ap (length {A = ℕ}) gone, length-append v.retired (x / 2 ∷ s.noted.items), ap (length {A = ℕ}) whole.4)
