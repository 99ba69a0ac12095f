-- SPLIT keeps the rule.
use Rattle.std.proofs.Common.{get_or, ◌≡◌, ◌≢◌, ℕ, ◌+◌, ◌-◌, ◌*◌, ◌<◌, suc, true, List, [], ◌∷◌, ◌++◌, length, take, drop, set, refl, sym, ap, ◌∙◌}
use Rattle.std.proofs.Common.{subst, arith, ⊎_elim, if◌then◌else◌}
use Rattle.std.proofs.Common.{length-drop, length-append, length-take, length-set, mul-suc}
use Rattle.std.proofs.lemmas.Bool.{cond-true, cond-false, false≢true, false_from_ne_true}
use Rattle.std.proofs.lemmas.List.{take-append-drop}
use Rattle.std.proofs.lemmas.List.Sums.{sum_by_push}
use mathlib.Core.Option.{some}
use lib.ListN.{get_elem?}
use Rattle.atomic_table.specs.Table.{Splits}
use Rattle.atomic_table.proofs.Lists.{at_longer, at_set}
use Rattle.step_rules.specs.Rule.{Holds, HoldsAt}
use Rattle.step_rules.specs.SeatData.{IsFresh}
use Rattle.step_rules.specs.Seats.{SeatOk}
use Rattle.step_rules.specs.Views.{left_view, right_view}
use Rattle.step_rules.specs.World.{Class, Once, Own, World, has, nodes_of}
use Rattle.step_rules.specs.declared.plan.Plan.{Plan}
use Rattle.step_rules.specs.declared.view.Held.{Held}
use Rattle.step_rules.specs.declared.view.Stand.{Stand}
use Rattle.step_rules.specs.declared.view.View.{View}
use Rattle.step_rules.proofs.Rely.Moments.{Moment, moment, seat, total_set, world}
use Rattle.step_rules.proofs.Numbers.Sets.{at_has, has_at, has_first, has_left, has_right, nodes_of-append, once_apart, once_parts}
use Rattle.step_rules.proofs.World.Silent.{Quiet, claims_quiet, no_claims_quiet, unclaimed}
use Rattle.step_rules.proofs.Line.Stocks.{stock_fresh, stock_unused}
use Rattle.step_rules.proofs.Rely.Writers.{quiet_grounded, quiet_unlocked, writer_none}
use Rattle.step_rules.proofs.World.Handing.{Hands, handed_cells, handed_seat}
use Rattle.step_rules.proofs.Numbers.Places.{at_behind, at_more}

one_more : (share n l : ℕ) → l ≡ suc n → share * l ≡ share * n + share
one_more share n l e = ap (λ k. share * k) e ∙ mul-suc share n

-- a seat's own nodes, cut where the last number's share begins
share_parts : (own : List Held) (share n l : ℕ) → l ≡ suc n → length own ≡ share * l → (length (take (share * n) own) ≡ share * n) × (length (drop (share * n) own) ≡ share)
share_parts own share n l q e = let r : length own ≡ share * n + share = e ∙ one_more share n l q in (omega (arith, length-take (share * n) own), omega (arith, length-drop (share * n) own))

-- SPLIT: a seat that made no step but splits is cut in two
module _ (m : Moment) (free holding : List ℕ) (fresh : IsFresh m.view free holding) where
  abbrev v : View
  v = m.view

  abbrev W : World
  W = world m

  abbrev left : View
  left = left_view v

  abbrev right : View
  right = right_view v

  -- the right seat's place
  abbrev place : ℕ
  place = length m.vs

  abbrev class_split : ℕ → Class
  class_split n = if has (nodes_of right.own) n then Own place else W.class n

  abbrev holder_split : ℕ → ℕ
  holder_split x = if has right.numbers x then place else W.holder x

  abbrev split_after : World
  split_after = record W { class = class_split; holder = holder_split }

  split_ok : SeatOk v.plan W m.id v
  split_ok = seat m

  number_parts : left.numbers ++ right.numbers ≡ v.numbers
  number_parts = take-append-drop (length v.numbers - 1) v.numbers

  own_parts : left.own ++ right.own ≡ v.own
  own_parts = take-append-drop (v.plan.share * (length v.numbers - 1)) v.own

  number_left : (x : ℕ) → has left.numbers x ≡ true → has v.numbers x ≡ true
  number_left x e = subst (λ l. has l x ≡ true) number_parts (has_left left.numbers right.numbers x e)

  number_right : (x : ℕ) → has right.numbers x ≡ true → has v.numbers x ≡ true
  number_right x e = subst (λ l. has l x ≡ true) number_parts (has_right left.numbers right.numbers x e)

  numbers_once : Once (left.numbers ++ right.numbers)
  numbers_once = subst Once (sym number_parts) split_ok.numbers.once

  own_once : Once (nodes_of left.own ++ nodes_of right.own)
  own_once = subst Once (ap nodes_of (sym own_parts) ∙ nodes_of-append left.own right.own) split_ok.nodes.once

  at_left : (i : ℕ) (x : Held) → get_elem? left.own i ≡ some x → get_elem? v.own i ≡ some x
  at_left i x e = subst (λ l. get_elem? l i ≡ some x) own_parts (at_longer left.own right.own i x e)

  at_right : (i : ℕ) (x : Held) → get_elem? right.own i ≡ some x → (j : ℕ) × (get_elem? v.own j ≡ some x)
  at_right i x e = let r = at_behind left.own right.own i x e in (r.0, subst (λ l. get_elem? l r.0 ≡ some x) own_parts r.1)

  -- what the right seat has was the seat's
  right_own : (n : ℕ) → has (nodes_of right.own) n ≡ true → W.class n ≡ Own m.id
  right_own n e = let r = at_has right.own n e in let q = at_right r.0 r.1 r.2 in ap W.class (sym r.3) ∙ split_ok.nodes.mine q.0 r.1 q.1

  class_same : (n : ℕ) → (has (nodes_of right.own) n ≡ true → ⊥) → class_split n ≡ W.class n
  class_same n f = cond-false (has (nodes_of right.own) n) (Own place) (W.class n) (false_from_ne_true (has (nodes_of right.own) n) f)

  holder_same : (x : ℕ) → (has right.numbers x ≡ true → ⊥) → holder_split x ≡ W.holder x
  holder_same x f = cond-false (has right.numbers x) place (W.holder x) (false_from_ne_true (has right.numbers x) f)

  -- all that is not the seat's own keeps its class
  class_kept : (n : ℕ) → W.class n ≢ Own m.id → class_split n ≡ W.class n
  class_kept n f = class_same n (λ g. f (right_own n g))

  hands : Hands W m.id class_split holder_split
  hands = record {
    stays = λ n c f _ e. class_kept n (λ q. f (sym e ∙ q)) ∙ e;
    taken = λ g n t stands f e. sym (class_kept n f) ∙ e;
    held = λ s x apart q. holder_same x (λ g. apart (sym q ∙ split_ok.numbers.held x (number_right x g))) ∙ q;
  }

  -- a part of the seat's numbers and own nodes that becomes the seat s
  record IsPart (s : ℕ) (ns : List ℕ) (own : List Held) (removes : ℕ) : Type 0 where
    of_numbers : (x : ℕ) → has ns x ≡ true → has v.numbers x ≡ true
    of_own : (i : ℕ) (h : Held) → get_elem? own i ≡ some h → (j : ℕ) × (get_elem? v.own j ≡ some h)
    held : (x : ℕ) → has ns x ≡ true → holder_split x ≡ s
    mine : (i : ℕ) (h : Held) → get_elem? own i ≡ some h → class_split h.node ≡ Own s
    once : Once ns
    own_once : Once (nodes_of own)
    share : length own ≡ v.plan.share * length ns
    removes_left : removes ≡ v.plan.removes * length ns

  none_gone : (n : ℕ) → has v.retired n ≡ true → ⊥
  none_gone n e = false≢true (subst (λ l. has l n ≡ true) fresh.retired e)

  quiet_all : Quiet v.claims
  quiet_all = subst Quiet (sym fresh.claims) no_claims_quiet

  part_ok : (s : ℕ) (ns : List ℕ) (own : List Held) (changes removes : ℕ) → IsPart s ns own removes
      → ((k : ℕ) → W.locker k ≡ s + 1 → ⊥) → SeatOk v.plan split_after s (record v { numbers = ns; own = own; changes = changes; removes = removes })
  part_ok s ns own changes removes part unlocked = let o = split_ok in record {
    plan = λ _. refl;
    numbers = record { held = part.held; below = λ x e. o.numbers.below x (part.of_numbers x e); once = part.once };
    nodes = record {
      there = λ i x e. let q = part.of_own i x e in o.nodes.there q.0 x q.1;
      mine = part.mine;
      words = λ i x e. let q = part.of_own i x e in o.nodes.words q.0 x q.1;
      once = part.own_once;
      retired_once = o.nodes.retired_once;
      retired = λ n e. absurd (none_gone n e);
      retired_there = λ n e. absurd (none_gone n e);
    };
    stock = stock_fresh v.plan (length ns) v.seen v.stands (length own + length v.retired) removes fresh.stands (omega (arith, part.share, ap length fresh.retired)) part.removes_left;
    seen = record { rest = o.seen.rest; whole = o.seen.whole; own = λ x e. o.seen.own x (part.of_numbers x e) };
    earlier = o.earlier;
    lawful = record {
      right = o.lawful.right;
      by = λ i t e. let z : get_elem? [] i ≡ some t = subst (λ (l : List Stand). get_elem? l i ≡ some t) fresh.stands e in absurd cc;
      rising = o.lawful.rising;
      made = λ x e. o.lawful.made x (part.of_numbers x e);
      kept = o.lawful.kept;
      among = λ i t e x h. let z : get_elem? [] i ≡ some t = subst (λ (l : List Stand). get_elem? l i ≡ some t) fresh.stands e in absurd cc;
    };
    trail = o.trail;
    look = o.look;
    claims = claims_quiet v.plan split_after s ns (get_or ns 0 0) v.seen v.claims (has_first ns) o.claims.sound quiet_all
        (λ x c e lt. unclaimed v.plan W m.id v o quiet_all x c (part.of_numbers x e) lt);
    scan = o.scan;
    versions = o.versions;
    reader = o.reader;
    writer = writer_none (quiet_grounded o.claims o.writer quiet_all) unlocked;
  }

  shares : (length left.own ≡ v.plan.share * (length v.numbers - 1)) × (length right.own ≡ v.plan.share)
  shares = let some_number = m.numbered in share_parts v.own v.plan.share (length v.numbers - 1) (length v.numbers) (omega arith)
      (let e = stock_unused v.plan (length v.numbers) v.seen v.stands (length v.own + length v.retired) v.removes fresh.stands split_ok.stock in let r = ap length fresh.retired in omega arith)

  left_length : length left.numbers ≡ length v.numbers - 1
  left_length = omega (arith, length-take (length v.numbers - 1) v.numbers)

  right_length : length right.numbers ≡ 1
  right_length = let some_number = m.numbered in omega (arith, length-drop (length v.numbers - 1) v.numbers)

  left_ok : SeatOk v.plan split_after m.id left
  left_ok = part_ok m.id left.numbers left.own left.changes left.removes (record {
    of_numbers = number_left;
    of_own = λ i x e. (i, at_left i x e);
    held = λ x e. holder_same x (λ g. once_apart left.numbers right.numbers x numbers_once e g) ∙ split_ok.numbers.held x (number_left x e);
    mine = λ i x e. class_same x.node (λ g. once_apart (nodes_of left.own) (nodes_of right.own) x.node own_once (has_at left.own i x e) g) ∙ split_ok.nodes.mine i x (at_left i x e);
    once = (once_parts left.numbers right.numbers numbers_once).0;
    own_once = (once_parts (nodes_of left.own) (nodes_of right.own) own_once).0;
    share = shares.0 ∙ ap (λ n. v.plan.share * n) (sym left_length);
    removes_left = ap (λ n. v.plan.removes * n) (sym left_length);
  }) (quiet_unlocked split_ok.claims split_ok.writer quiet_all)

  right_ok : SeatOk v.plan split_after place right
  right_ok = part_ok place right.numbers right.own right.changes right.removes (record {
    of_numbers = number_right;
    of_own = at_right;
    held = λ x e. cond-true (has right.numbers x) place (W.holder x) e;
    mine = λ i x e. cond-true (has (nodes_of right.own) x.node) (Own place) (W.class x.node) (has_at right.own i x e);
    once = (once_parts left.numbers right.numbers numbers_once).1;
    own_once = (once_parts (nodes_of left.own) (nodes_of right.own) own_once).1;
    share = omega (arith, shares.1, ap (λ n. v.plan.share * n) right_length);
    removes_left = omega (arith, ap (λ n. v.plan.removes * n) right_length);
  }) (λ k e. let low = m.rule.lockers k place e in omega arith)

  each_split : (s : ℕ) (u : View) → get_elem? (set m.vs m.id left ++ right ∷ []) s ≡ some u → SeatOk v.plan split_after s u
  each_split s u e = ⊎_elim
      (λ t. ⊎_elim
      (λ (q : (s ≡ m.id) × (left ≡ u)). subst (λ (z : ℕ × View). SeatOk v.plan split_after z.0 z.1) (λ i. (sym q.0 i, q.1 i)) left_ok)
      (λ (q : (s ≢ m.id) × (get_elem? m.vs s ≡ some u)). handed_seat v.plan W m.id class_split holder_split hands s u q.0 (m.rule.seats s u q.1))
      (at_set m.vs m.id s left u t.1))
      (λ (q : (s ≡ length (set m.vs m.id left)) × (right ≡ u)).
      subst (λ (z : ℕ × View). SeatOk v.plan split_after z.0 z.1) (λ i. (sym (q.0 ∙ length-set m.vs m.id left) i, q.1 i)) right_ok)
      (at_more (set m.vs m.id left) right u s e)

  pub split_holds : HoldsAt v.plan m.ws (set m.vs m.id left ++ right ∷ []) (record m.unwritten { class = class_split; holder = holder_split })
  split_holds = record {
    plan = m.rule.plan;
    wide = m.rule.wide;
    history = m.rule.history;
    cells = handed_cells v.plan W m.id class_split holder_split hands m.rule.cells;
    guards = m.rule.guards;
    seats = each_split;
    versions = m.rule.versions;
    lockers = λ k s e. let low = m.rule.lockers k s e in omega (arith, length-append (set m.vs m.id left) (right ∷ []), length-set m.vs m.id left);
    budget = let b = m.rule.budget in let some_number = m.numbered in omega (
      arith,
      sum_by_push (λ (u : View). u.changes) (set m.vs m.id left) right,
      total_set (λ (u : View). u.changes) m.vs m.id v left m.at,
      fresh.changes,
      one_more v.plan.changes (length v.numbers - 1) (length v.numbers) (omega arith),
    );
  }

pub splits : (p : Plan) (id : ℕ) (v : View) (free holding : List ℕ) → v.plan ≡ p → 0 < length v.numbers → IsFresh v free holding → Splits (Holds p) id v (left_view v) (right_view v)
splits p id v free holding ours numbered fresh = subst (λ q. Splits (Holds q) id v (left_view v) (right_view v)) ours (λ s r at. let m = moment id (v, []) numbered s r at in
    record { unwritten = record r.unwritten { class = class_split m free holding fresh; holder = holder_split m free holding fresh }; at = split_holds m free holding fresh })
