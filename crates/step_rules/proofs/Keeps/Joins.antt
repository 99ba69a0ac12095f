-- JOIN keeps the rule.
use Rattle.std.proofs.Common.{◌+◌, Bool, cond, ◌≡◌, ◌≢◌, ℕ, ◌<◌, ◌≤◌, true, false, List, [], ◌∷◌, ◌++◌, length, set, eqb, ltb, eq-eqb, ne_eqb, refl, sym, ap}
use Rattle.std.proofs.Common.{◌∙◌, subst, arith, ⊎_elim}
use Rattle.std.proofs.Common.{if◌then◌else◌, ◌==◌, length-append, append_assoc}
use Rattle.std.proofs.lemmas.Bool.{cases_Bool, cases_lt, cond-true, cond-false, lt-ltb, le-ltb, false≢true}
use Rattle.std.proofs.lemmas.List.{append-nil, length-set}
use mathlib.Core.Option.{some}
use lib.ListN.{get_elem?}
use Rattle.atomic_table.specs.Table.{Joins}
use Rattle.atomic_table.proofs.Lists.{at_set, set_else}
use Rattle.seat_history.specs.declared.entry.Entry.{Entry}
use Rattle.step_rules.specs.Claims.{ClaimsSound, OWN, SeatClaims}
use Rattle.step_rules.specs.History.{GoesOn, NoneBy}
use Rattle.step_rules.specs.Lawful.{Lawful}
use Rattle.step_rules.specs.Looks.{SeatLook}
use Rattle.step_rules.specs.Nodes.{SeatNodes}
use Rattle.step_rules.specs.Readers.{SeatReader}
use Rattle.step_rules.specs.Rule.{Holds, HoldsAt}
use Rattle.step_rules.specs.Scans.{SeatScan}
use Rattle.step_rules.specs.Seats.{SeatOk}
use Rattle.step_rules.specs.Stock.{IsStock}
use Rattle.step_rules.specs.Views.{claim_of, joined_view, longer, number, shorter, spent_view}
use Rattle.step_rules.specs.World.{Class, Live, Once, Own, Retired, World, has, nodes_of, Unwritten}
use Rattle.step_rules.specs.Writers.{SeatWriter, sites}
use Rattle.step_rules.specs.declared.plan.Plan.{Plan}
use Rattle.step_rules.specs.declared.view.Claim.{Claim}
use Rattle.step_rules.specs.declared.view.View.{View}
use Rattle.step_rules.proofs.Rely.Moments.{Moment, moment, total_set, world}
use Rattle.step_rules.proofs.Rely.Claimed.{claims_sound_more}
use Rattle.step_rules.proofs.Rely.Readers.{reader_more, reader_none}
use Rattle.step_rules.proofs.Rely.Writers.{no_versions, quiet_unlocked, writer_more, writer_none}
use Rattle.step_rules.proofs.Line.Lawfuls.{lawful_join}
use Rattle.step_rules.proofs.Numbers.Sets.{at_has, has-append, has_left, nodes_of-append, once-append, first_number}
use Rattle.step_rules.proofs.World.Silent.{Quiet, claims_quiet, no_claims, no_claims_quiet, no_claims_sound, unclaimed}
use Rattle.step_rules.proofs.Line.Stocks.{stock_join}
use Rattle.step_rules.proofs.Rely.Seeing.{lawful_seen, stock_seen}
use Rattle.step_rules.proofs.Line.Trails.{no_trail, trail_more, trail_stand}
use Rattle.step_rules.proofs.World.Handing.{Hands, handed_cells, handed_seat}
use Rattle.step_rules.proofs.Numbers.Places.{at_append}

-- of two first parts of one list, the longer goes on from both
go_on : (a b r q : List Entry) → a ++ r ≡ b ++ q → length a ≤ length b → (m : List Entry) × (b ≡ a ++ m) × (r ≡ m ++ q)
go_on [] b r q e le = (b, refl, e)
go_on (x ∷ a) [] r q e le = absurd (omega arith)
go_on (x ∷ a) (y ∷ b) r q e le =
    let h : x ≡ y = cc in
    let t : a ++ r ≡ b ++ q = cc in
    let s = go_on a b r q t (omega arith) in
    (s.0, (λ i. sym h i ∷ s.1 i), s.2)

-- what goes on from both goes on from the shorter
shorter_first : (a b c : List Entry) → GoesOn a c → GoesOn b c → GoesOn (shorter a b) c
shorter_first a b c p q = go (ltb (length a) (length b))
  where
    go : (t : Bool) → GoesOn (cond t a b) c
    go true = p
    go false = q

-- the longer of two first parts of one list, as each of them with more, and what it leaves
record Longer (a b r q : List Entry) : Type 0 where
  first : List Entry
  second : List Entry
  rest : List Entry
  after_first : longer a b ≡ a ++ first
  after_second : longer a b ≡ b ++ second
  of_first : r ≡ first ++ rest
  of_second : q ≡ second ++ rest

longer_is : (a b r q : List Entry) → a ++ r ≡ b ++ q → Longer a b r q
longer_is a b r q e = ⊎_elim
    (λ lt. let s = go_on a b r q e (omega arith) in let t : longer a b ≡ b = cond-true (ltb (length a) (length b)) b a (lt-ltb (length a) (length b) lt) in record {
      first = s.0;
      second = [];
      rest = q;
      after_first = t ∙ s.1;
      after_second = t ∙ sym (append-nil b);
      of_first = s.2;
      of_second = refl;
    })
    (λ le. let s = go_on b a q r (sym e) le in let t : longer a b ≡ a = cond-false (ltb (length a) (length b)) b a (le-ltb (length a) (length b) le) in record {
      first = [];
      second = s.0;
      rest = r;
      after_first = t ∙ sym (append-nil a);
      after_second = t ∙ s.1;
      of_first = refl;
      of_second = s.2;
    })
    (cases_lt (length a) (length b))

none_by_parts : (x : ℕ) (m r : List Entry) → NoneBy x (m ++ r) → NoneBy x m × NoneBy x r
none_by_parts x [] r n = (tt, n)
none_by_parts x (e ∷ m) r n = let s = none_by_parts x m r n.1 in ((n.0, s.0), s.1)

-- the class of a node, as the seat id takes all that the seat other has
abbrev moved : ℕ → ℕ → Class → Class
moved id other (Own s) = if s == other then Own id else Own s
moved id other (Live k) = Live k
moved id other (Retired s) = if s == other then Retired id else Retired s

moved_stays : (id other : ℕ) (c : Class) → c ≢ Own other → c ≢ Retired other → moved id other c ≡ c
moved_stays id other (Own s) f g = cond-false (eqb s other) (Own id) (Own s) (ne_eqb s other (λ e. f (ap Own e)))
moved_stays id other (Live k) f g = refl
moved_stays id other (Retired s) f g = cond-false (eqb s other) (Retired id) (Retired s) (ne_eqb s other (λ e. g (ap Retired e)))

-- what the seat other hasn't for its own becomes no seat's
moved_comes : (id other t : ℕ) (c : Class) → c ≢ Own other → moved id other c ≡ Own t → c ≡ Own t
moved_comes id other t (Own s) f e = sym (moved_stays id other (Own s) f (λ q. cc)) ∙ e
moved_comes id other t (Live k) f e = e
moved_comes id other t (Retired s) f e = ⊎_elim
    (λ q. absurd (let z : Retired id ≡ Own t = sym (cond-true (eqb s other) (Retired id) (Retired s) q) ∙ e in cc))
    (λ q. sym (cond-false (eqb s other) (Retired id) (Retired s) q) ∙ e)
    (cases_Bool (eqb s other))

-- JOIN: the seat of the moment takes in the seat other, whose claims name no node
module _ (m : Moment) (other : ℕ) (w : View) (at_other : get_elem? m.vs other ≡ some w) (apart : ¬ (other ≡ m.id)) (quiet : Quiet w.claims) where
  abbrev p : Plan
  p = m.view.plan

  abbrev id : ℕ
  id = m.id

  abbrev v : View
  v = m.view

  abbrev U : Unwritten
  U = m.unwritten

  abbrev joined : View
  joined = joined_view v w

  abbrev class_joined : ℕ → Class
  class_joined n = moved id other (U.class n)

  abbrev holder_joined : ℕ → ℕ
  holder_joined x = if U.holder x == other then id else U.holder x

  abbrev pub unwritten_joined : Unwritten
  unwritten_joined = record U { class = class_joined; holder = holder_joined }

  abbrev W : World
  W = world m

  abbrev join_after : World
  join_after = record W { class = class_joined; holder = holder_joined }

  first_ok : SeatOk p W id v
  first_ok = m.rule.seats id v m.at

  second_ok : SeatOk p W other w
  second_ok = m.rule.seats other w at_other

  back : id ≢ other
  back e = apart (sym e)

  hands : Hands W other class_joined holder_joined
  hands = record {
    stays = λ n c f g e. ap (moved id other) e ∙ moved_stays id other c f g;
    taken = λ g n t stands f e. moved_comes id other t (U.class n) f e;
    held = λ s x f e. cond-false (eqb (U.holder x) other) id (U.holder x) (ne_eqb (U.holder x) other (λ q. f (sym e ∙ q))) ∙ e;
  }

  -- what the seat other has becomes the seat's
  own_moves : (n : ℕ) → U.class n ≡ Own other → class_joined n ≡ Own id
  own_moves n e = ap (moved id other) e ∙ cond-true (eqb other other) (Own id) (Own other) (eq-eqb other other refl)

  retired_moves : (n : ℕ) → U.class n ≡ Retired other → class_joined n ≡ Retired id
  retired_moves n e = ap (moved id other) e ∙ cond-true (eqb other other) (Retired id) (Retired other) (eq-eqb other other refl)

  holder_moves : (x : ℕ) → U.holder x ≡ other → holder_joined x ≡ id
  holder_moves x e = cond-true (eqb (U.holder x) other) id (U.holder x) (eq-eqb (U.holder x) other e)

  third_ok : (s : ℕ) (u : View) → s ≢ other → get_elem? m.vs s ≡ some u → SeatOk p join_after s u
  third_ok s u f e = handed_seat p W other class_joined holder_joined hands s u f (m.rule.seats s u e)

  -- what the rule still says of the first seat's view
  kept_ok : SeatOk p join_after id v
  kept_ok = third_ok id v back m.at

  seen_both : Longer v.seen w.seen first_ok.seen.rest second_ok.seen.rest
  seen_both = longer_is v.seen w.seen first_ok.seen.rest second_ok.seen.rest (sym first_ok.seen.whole ∙ second_ok.seen.whole)

  none_first : (x : ℕ) → has v.numbers x ≡ true → NoneBy x seen_both.first × NoneBy x seen_both.rest
  none_first x e = none_by_parts x seen_both.first seen_both.rest (subst (NoneBy x) seen_both.of_first (first_ok.seen.own x e))

  none_second : (x : ℕ) → has w.numbers x ≡ true → NoneBy x seen_both.second × NoneBy x seen_both.rest
  none_second x e = none_by_parts x seen_both.second seen_both.rest (subst (NoneBy x) seen_both.of_second (second_ok.seen.own x e))

  numbers_apart : (x : ℕ) → has v.numbers x ≡ true → has w.numbers x ≡ true → ⊥
  numbers_apart x e g = back (sym (first_ok.numbers.held x e) ∙ second_ok.numbers.held x g)

  -- a node's class says whose it is
  nodes_apart : (n : ℕ) → has (nodes_of v.own) n ≡ true → has (nodes_of w.own) n ≡ true → ⊥
  nodes_apart n e g =
      let a = at_has v.own n e in
      let b = at_has w.own n g in
      let c : U.class n ≡ Own id = ap U.class (sym a.3) ∙ first_ok.nodes.mine a.0 a.1 a.2 in
      let d : U.class n ≡ Own other = ap U.class (sym b.3) ∙ second_ok.nodes.mine b.0 b.1 b.2 in
      back cc

  retired_apart : (n : ℕ) → has v.retired n ≡ true → has w.retired n ≡ true → ⊥
  retired_apart n e g =
      let c : U.class n ≡ Retired id = first_ok.nodes.retired n e in
      let d : U.class n ≡ Retired other = second_ok.nodes.retired n g in
      back cc

  joined_nodes : SeatNodes p class_joined W.node id (v.own ++ w.own) (v.retired ++ w.retired)
  joined_nodes = record {
    there = λ i x e. ⊎_elim (λ q. first_ok.nodes.there i x q) (λ q. second_ok.nodes.there q.0 x q.2) (at_append v.own w.own i x e);
    mine = λ i x e. ⊎_elim (λ q. kept_ok.nodes.mine i x q) (λ q. own_moves x.node (second_ok.nodes.mine q.0 x q.2)) (at_append v.own w.own i x e);
    words = λ i x e. ⊎_elim (λ q. first_ok.nodes.words i x q) (λ q. second_ok.nodes.words q.0 x q.2) (at_append v.own w.own i x e);
    once = subst Once (sym (nodes_of-append v.own w.own)) (once-append (nodes_of v.own) (nodes_of w.own) first_ok.nodes.once second_ok.nodes.once nodes_apart);
    retired_once = once-append v.retired w.retired first_ok.nodes.retired_once second_ok.nodes.retired_once retired_apart;
    retired = λ n e. ⊎_elim (λ q. kept_ok.nodes.retired n q) (λ q. retired_moves n (second_ok.nodes.retired n q)) (has-append v.retired w.retired n e);
    retired_there = λ n e. ⊎_elim (λ q. first_ok.nodes.retired_there n q) (λ q. second_ok.nodes.retired_there n q) (has-append v.retired w.retired n e);
  }

  joined_lawful : Lawful p (v.numbers ++ w.numbers) (longer v.seen w.seen) (v.stands ++ w.stands)
  joined_lawful = lawful_join (lawful_seen first_ok seen_both.first (longer v.seen w.seen) seen_both.after_first (λ x e. (none_first x e).0))
      (lawful_seen second_ok seen_both.second (longer v.seen w.seen) seen_both.after_second (λ x e. (none_second x e).0))
      numbers_apart

  joined_stock : IsStock p (length (v.numbers ++ w.numbers)) (longer v.seen w.seen) (v.stands ++ w.stands) (length (v.own ++ w.own) + length (v.retired ++ w.retired)) (v.removes + w.removes)
  joined_stock = subst (λ (z : ℕ × ℕ). IsStock p z.0 (longer v.seen w.seen) (v.stands ++ w.stands) z.1 (v.removes + w.removes)) (λ i. (sym (length-append v.numbers w.numbers) i, sums i))
      (stock_join (stock_seen first_ok seen_both.first (longer v.seen w.seen) seen_both.after_first)
      (stock_seen second_ok seen_both.second (longer v.seen w.seen) seen_both.after_second))
    where
      sums : (length v.own + length v.retired) + (length w.own + length w.retired) ≡ length (v.own ++ w.own) + length (v.retired ++ w.retired)
      sums = omega (arith, length-append v.own w.own, length-append v.retired w.retired)

  -- the first seat's claims stay its claims, and nothing stands in the other seat's words
  joined_claims : SeatClaims p join_after id (v.numbers ++ w.numbers) (number v) (longer v.seen w.seen) v.claims
  joined_claims = let k = kept_ok.claims in record {
    sound = subst (λ l. ClaimsSound p l v.claims) (sym seen_both.after_first) (claims_sound_more seen_both.first k.sound);
    word = λ c x _ e. k.word c x m.numbered e;
    guard = λ c x _ e. k.guard c x m.numbered e;
    others = λ x c e ne lt. ⊎_elim (λ q. k.others x c q ne lt) (λ q. unclaimed p W other w second_ok quiet x c q lt) (has-append v.numbers w.numbers x e);
    none_spent = λ c n x none. absurd (omega (arith, length-append v.numbers w.numbers));
    image = k.image;
    kept = k.kept;
    calm = k.calm;
    pages = k.pages;
    stays = k.stays;
  }

  joined_scan : SeatScan p W.guard v.scan (v.retired ++ w.retired)
  joined_scan = let k = kept_ok.scan in record {
    sound = record { old = λ n e. has_left v.retired w.retired n (k.sound.old n e); counted = k.sound.counted; within = k.sound.within };
    found = k.found;
  }

  -- more of the history is seen
  joined_look : SeatLook p W.backup U.log (longer v.seen w.seen) v.look
  joined_look = record {
    is = λ l e. let i = first_ok.look.is l e in
        record { cell = i.cell; there = i.there; at = let a = i.at in omega (arith, ap (length {A = Entry}) seen_both.after_first, length-append v.seen seen_both.first) };
    holds = kept_ok.look.holds;
  }

  joined_ok : SeatOk p join_after id joined
  joined_ok = record {
    plan = λ _. first_ok.plan m.numbered;
    numbers = record {
      held = λ x e. ⊎_elim (λ q. kept_ok.numbers.held x q) (λ q. holder_moves x (second_ok.numbers.held x q)) (has-append v.numbers w.numbers x e);
      below = λ x e. ⊎_elim (λ q. first_ok.numbers.below x q) (λ q. second_ok.numbers.below x q) (has-append v.numbers w.numbers x e);
      once = once-append v.numbers w.numbers first_ok.numbers.once second_ok.numbers.once numbers_apart;
    };
    nodes = joined_nodes;
    stock = joined_stock;
    seen = record {
      rest = seen_both.rest;
      whole = first_ok.seen.whole
          ∙ (ap (λ l. v.seen ++ l) seen_both.of_first ∙ (sym (append_assoc v.seen seen_both.first seen_both.rest) ∙ ap (λ l. l ++ seen_both.rest) (sym seen_both.after_first)));
      own = λ x e. ⊎_elim (λ q. (none_first x q).1) (λ q. (none_second x q).1) (has-append v.numbers w.numbers x e);
    };
    earlier = shorter_first v.seen w.seen (longer v.seen w.seen) (seen_both.first, seen_both.after_first) (seen_both.second, seen_both.after_second);
    lawful = joined_lawful;
    trail = trail_stand (trail_more (longer v.seen w.seen) first_ok.trail (seen_both.first, seen_both.after_first));
    look = joined_look;
    claims = subst (λ l. SeatClaims p join_after id (v.numbers ++ w.numbers) l (longer v.seen w.seen) v.claims) (sym (first_number v.numbers w.numbers m.numbered)) joined_claims;
    scan = joined_scan;
    versions = kept_ok.versions;
    reader = subst (λ (l : List Entry). SeatReader p W.version W.inline l v.reader) (sym seen_both.after_first) (reader_more seen_both.first kept_ok.reader);
    writer = subst (λ (l : List Entry). SeatWriter p (sites join_after) id l (claim_of OWN v) v.writer) (sym seen_both.after_first) (writer_more seen_both.first kept_ok.writer);
  }

  spent_ok : SeatOk p join_after other spent_view
  spent_ok = record {
    plan = λ e. absurd (omega arith);
    numbers = record { held = λ x e. absurd (false≢true e); below = λ x e. absurd (false≢true e); once = tt };
    nodes = record {
      there = λ i x e. absurd cc;
      mine = λ i x e. absurd cc;
      words = λ i x e. absurd cc;
      once = tt;
      retired_once = tt;
      retired = λ n e. absurd
          (false≢true e);
      retired_there = λ n e. absurd (false≢true e);
    };
    stock = record { even = omega arith; removed = omega arith };
    seen = record { rest = U.log; whole = refl; own = λ x e. absurd (false≢true e) };
    earlier = ([], refl);
    lawful = record {
      right = λ i s e. absurd cc;
      by = λ i s e. absurd cc;
      rising = λ i j d a b. absurd (omega arith);
      made = λ x e. absurd (false≢true e);
      kept = λ i s e. absurd cc;
      among = λ i s e x h. absurd cc;
    };
    trail = no_trail [];
    look = record { is = λ l e. absurd cc; holds = λ l e. absurd cc };
    claims = claims_quiet p join_after other [] 0 [] no_claims (λ lt. absurd (omega arith)) (no_claims_sound p []) no_claims_quiet (λ x c e lt. absurd (false≢true e));
    scan = record { sound = record { old = λ n e. absurd (false≢true e); counted = omega arith; within = omega arith }; found = λ i n lt g e. absurd (omega arith) };
    versions = no_versions W.version;
    reader = reader_none [];
    writer = writer_none (λ flies. flies refl) (quiet_unlocked second_ok.claims second_ok.writer quiet);
  }

  each_joined : (s : ℕ) (u : View) → get_elem? (set (set m.vs id joined) other spent_view) s ≡ some u → SeatOk p join_after s u
  each_joined s u e = ⊎_elim
      (λ (q : (s ≡ other) × (spent_view ≡ u)). subst (λ (z : ℕ × View). SeatOk p join_after z.0 z.1) (λ i. (sym q.0 i, q.1 i)) spent_ok)
      (λ (t : (s ≢ other) × (get_elem? (set m.vs id joined) s ≡ some u)). ⊎_elim
      (λ (q : (s ≡ id) × (joined ≡ u)). subst (λ (z : ℕ × View). SeatOk p join_after z.0 z.1) (λ i. (sym q.0 i, q.1 i)) joined_ok)
      (λ (q : (s ≢ id) × (get_elem? m.vs s ≡ some u)). third_ok s u t.0 q.1)
      (at_set m.vs id s joined u t.1))
      (at_set (set m.vs id joined) other s spent_view u e)

  join_holds : HoldsAt p m.ws (set (set m.vs id joined) other spent_view) unwritten_joined
  join_holds = record {
    plan = m.rule.plan;
    wide = m.rule.wide;
    history = m.rule.history;
    cells = handed_cells p W other class_joined holder_joined hands m.rule.cells;
    guards = m.rule.guards;
    seats = each_joined;
    versions = m.rule.versions;
    lockers = λ k s e. let low = m.rule.lockers k s e in omega (arith, length-set (set m.vs id joined) other spent_view, length-set m.vs id joined);
    budget = let b = m.rule.budget in
        omega (
          arith,
          total_set (λ (u : View). u.changes) m.vs id v joined m.at,
          total_set (λ (u : View). u.changes) (set m.vs id joined) other w spent_view
              (set_else m.vs id other joined apart ∙ at_other),
        );
  }

pub joins : (p : Plan) (id other : ℕ) (v w : View) → v.plan ≡ p → 0 < length v.numbers → ((c : ℕ) (x : Claim) → get_elem? w.claims c ≡ some x → x.word ≡ 0)
    → Joins (Holds p) id v other w (joined_view v w) spent_view
joins p id other v w ours numbered quiet = subst (λ q. Joins (Holds q) id v other w (joined_view v w) spent_view) ours (λ s r at apart at_set_other.
    let m = moment id (v, []) numbered s r at in
    let at_other : get_elem? s.views other ≡ some w = sym (set_else s.views id other (joined_view v w) apart) ∙ at_set_other in
    record { unwritten = unwritten_joined m other w at_other apart quiet; at = join_holds m other w at_other apart quiet })
