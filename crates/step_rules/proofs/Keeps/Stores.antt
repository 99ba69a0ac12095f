-- NODE STORE keeps the rule.
use Rattle.std.proofs.Common.{le_refl, ◌≡◌, ◌≢◌, ℕ, ◌+◌, ◌/◌, ◌<◌, suc, zero, true, List, [], ◌∷◌, length, map, set, eqb, eq-eqb, ne_eqb, refl, sym, ap, ◌∙◌, subst}
use Rattle.std.proofs.Common.{arith, ⊎_elim}
use Rattle.std.proofs.lemmas.Bool.{cases_eq, cond-false, cond-true}
use Rattle.std.proofs.lemmas.List.{append-nil, length-map, length-set}
use mathlib.Core.Option.{none, some, some-injective, some-ne-none}
use lib.ListN.{get_elem?}
use Rattle.atomic_table.specs.Table.{step, Allows}
use Rattle.seat_history.proofs.Changed.{set_at_here}
use Rattle.seat_history.specs.Contents.{set_at}
use Rattle.step_rules.proofs.Rely.Advance.{claims_kept, none_other}
use Rattle.step_rules.proofs.World.Chains.{cell_stays}
use Rattle.step_rules.proofs.Rely.Seeing.{cell_node}
use Rattle.step_rules.proofs.Rely.Writers.{locks_stay, versions_step}
use Rattle.step_rules.proofs.World.Frames.{backup_else, claim_else, is_set, node_else, node_here, node_store, one_place, set_at_else}
use Rattle.step_rules.proofs.Rely.Moments.{Made, Moment, advance, moment, seat, store_owed, world}
use Rattle.step_rules.proofs.Numbers.Sets.{at_has}
use Rattle.step_rules.proofs.Line.Trails.{goes_on_same, trail_step}
use Rattle.step_rules.specs.Claims.{OWN, On}
use Rattle.step_rules.specs.Layout.{node_at}
use Rattle.step_rules.specs.Nodes.{IsNode, SeatNodes}
use Rattle.step_rules.specs.Plays.{Mine, stored}
use Rattle.step_rules.specs.Rule.{Holds, node_words, world_of}
use Rattle.step_rules.specs.Seats.{Leaves, SeatOk}
use Rattle.step_rules.specs.Stock.{IsStock}
use Rattle.step_rules.specs.Views.{counted, stored_in, stored_view}
use Rattle.step_rules.specs.World.{Own, Once, World, has, nodes_of, Live}
use Rattle.step_rules.specs.Writers.{sites}
use Rattle.step_rules.specs.declared.layout.TheConstants.{NODE_WIDTH}
use Rattle.step_rules.specs.declared.plan.Plan.{Plan}
use Rattle.step_rules.specs.declared.view.Claim.{Claim}
use Rattle.step_rules.specs.declared.view.Held.{Held}
use Rattle.step_rules.specs.declared.view.Kind.TheVariants.{NodeStore}
use Rattle.step_rules.specs.declared.view.View.{View}

-- what stands in a map comes of what stood there
pub at_mapped : {A B : Type 0} (f : A → B) (l : List A) (i : ℕ) (b : B) → get_elem? (map f l) i ≡ some b → (a : A) × (get_elem? l i ≡ some a) × (f a ≡ b)
at_mapped f [] i b e = absurd (some-ne-none b (sym e))
at_mapped f (x ∷ xs) zero b e = (x, refl, some-injective (f x) b e)
at_mapped f (x ∷ xs) (suc i) b e = at_mapped f xs i b e

-- a store to a word of the node n, node by node
pub stored_here : (n j x : ℕ) (h : Held) → h.node ≡ n → stored_in n j x h ≡ record { node = h.node; words = set h.words j x }
stored_here n j x h e = cond-true (eqb h.node n) (record { node = h.node; words = set h.words j x }) h (eq-eqb h.node n e)

pub stored_else : (n j x : ℕ) (h : Held) → h.node ≢ n → stored_in n j x h ≡ h
stored_else n j x h e = cond-false (eqb h.node n) (record { node = h.node; words = set h.words j x }) h (ne_eqb h.node n e)

-- it changes no node's number
stored_node : (n j x : ℕ) (h : Held) → (stored_in n j x h).node ≡ h.node
stored_node n j x h = ⊎_elim (λ e. ap (λ (g : Held). g.node) (stored_here n j x h e)) (λ ne. ap (λ (g : Held). g.node) (stored_else n j x h ne)) (cases_eq h.node n)

pub stored_nodes : (n j x : ℕ) (l : List Held) → nodes_of (map (stored_in n j x) l) ≡ nodes_of l
stored_nodes n j x [] = refl
stored_nodes n j x (h ∷ r) = ap (λ m. m ∷ nodes_of (map (stored_in n j x) r)) (stored_node n j x h) ∙ ap (λ l. h.node ∷ l) (stored_nodes n j x r)

module _ (m : Moment) (n j x : ℕ) (mine : m.unwritten.class n ≡ Own m.id) (inside : j < NODE_WIDTH) (free : (y : Claim) → get_elem? m.view.claims OWN ≡ some y → ¬ On y n) where
  abbrev p : Plan
  p = m.view.plan

  abbrev W : World
  W = world m

  abbrev after : World
  after = record W { node = set_at W.node n (set (W.node n) j x) }

  abbrev ws' : List ℕ
  ws' = set m.ws (node_at p n j) x

  is : world_of p ws' m.unwritten ≡ after
  is = λ i. record {
    class = W.class;
    node = is_set W.node (node_words p ws') n (set (W.node n) j x) (node_here p m.ws n j x inside) (λ k ne. node_else p m.ws n k j x ne inside) i;
    backup = λ k. backup_else p m.ws (node_at p n j) x k (λ lt e. omega arith) i;
    chain = W.chain;
    holder = W.holder;
    log = W.log;
    word = λ w. claim_else p m.ws (node_at p n j) x w (λ lt e. omega arith) i;
    guard = W.guard;
    version = λ k. (node_store p m.ws n j x).version k i;
    inline = λ k. (node_store p m.ws n j x).inline k i;
    locker = W.locker;
    source = W.source;
  }

  -- a node that isn't the seat's own keeps its words
  node_stays : (k : ℕ) → W.class k ≢ Own m.id → after.node k ≡ W.node k
  node_stays k not_own = set_at_else W.node n k (set (W.node n) j x) (λ e. not_own (ap W.class e ∙ mine))

  writes_leaves : (s : ℕ) (u : View) → s ≢ m.id → SeatOk p W s u → Leaves p s u.numbers W after []
  writes_leaves s u ne ok = record {
    log = sym (append-nil W.log);
    by = λ y h. tt;
    holder = λ y h. h;
    own = λ k h. h;
    words = λ k h. node_stays k (λ e. ne cc);
    retired = λ k h. h;
    word = λ y c h l. refl;
    guard = λ y c h l. refl;
    quiet = λ w k h e. e;
    image = λ y c k h l e. node_stays k (none_other ok m.id y c k ne h l e);
    taken = λ y c k t h l e g. g;
    same = λ k h. refl;
    falls = λ k h. le_refl (W.backup k);
    chain = λ k h. refl;
    fresh = λ y c k i h t e g. tt;
    locks = locks_stay s (sites W) (sites after) (λ k. refl) (λ k. refl) (λ k. refl) (λ k u. refl);
  }

  -- the seat's claims stand on other nodes
  elsewhere : (c : ℕ) (y : Claim) → get_elem? m.view.claims c ≡ some y → ¬ On y n
  elsewhere c y at on = free y (ap (get_elem? m.view.claims) (sym ((seat m).claims.kept c n m.id y at on mine).0) ∙ at) on

  -- an own node after the store
  writes_held : (h : Held) → IsNode p h → W.node h.node ≡ h.words → IsNode p (stored_in n j x h) × (after.node (stored_in n j x h).node ≡ (stored_in n j x h).words)
  writes_held h node words = ⊎_elim
      (λ e. subst (λ (g : Held). IsNode p g × (after.node g.node ≡ g.words)) (sym (stored_here n j x h e)) (
        record { there = node.there; wide = length-set h.words j x ∙ node.wide },
        ap after.node e ∙ (set_at_here W.node n (set (W.node n) j x) ∙ ap (λ l. set l j x) (ap W.node (sym e) ∙ words)),
      ))
      (λ ne. subst (λ (g : Held). IsNode p g × (after.node g.node ≡ g.words)) (sym (stored_else n j x h ne)) (node, set_at_else W.node n h.node (set (W.node n) j x) ne ∙ words))
      (cases_eq h.node n)

  writes_nodes : SeatNodes p after.class after.node m.id (map (stored_in n j x) m.view.own) m.view.retired
  writes_nodes = let o = (seat m).nodes in record {
    there = λ i h at. (held i h at).0;
    mine = λ i h at. let q = at_mapped (stored_in n j x) m.view.own i h at in ap W.class (ap (λ (g : Held). g.node) (sym q.2) ∙ stored_node n j x q.0) ∙ o.mine i q.0 q.1;
    words = λ i h at. (held i h at).1;
    once = subst Once (sym (stored_nodes n j x m.view.own)) o.once;
    retired_once = o.retired_once;
    retired = o.retired;
    retired_there = o.retired_there;
  }
    where
      held : (i : ℕ) (h : Held) → get_elem? (map (stored_in n j x) m.view.own) i ≡ some h → IsNode p h × (after.node h.node ≡ h.words)
      held i h at = let o = (seat m).nodes in let q = at_mapped (stored_in n j x) m.view.own i h at in
          subst (λ (g : Held). IsNode p g × (after.node g.node ≡ g.words)) q.2 (writes_held q.0 (o.there i q.0 q.1) (o.words i q.0 q.1))

  writes_own : SeatOk p after m.id (stored_view n j x m.view)
  writes_own = let v = m.view in let o = seat m in record {
    plan = o.plan;
    numbers = o.numbers;
    nodes = writes_nodes;
    stock = subst (λ y. IsStock p (length v.numbers) v.seen v.stands (y + length v.retired) v.removes) (sym (length-map v.own (stored_in n j x))) o.stock;
    seen = o.seen;
    earlier = o.earlier;
    lawful = o.lawful;
    trail = trail_step v.seen (counted (NodeStore n j x) x (length v.seen)) o.trail (goes_on_same v.seen) (le_refl (length v.seen));
    look = o.look;
    claims = claims_kept o.claims W.class after.node (λ c k y at on. (set_at_else W.node n k (set (W.node n) j x) (λ e. elsewhere c y at (subst (On y) e on)), λ t own. own));
    scan = o.scan;
    versions = versions_step (counted (NodeStore n j x) x (length v.seen)) (λ k e. cc) o.versions;
    writer = o.writer;
    reader = o.reader;
  }

  writes : Made m ws' (stored_view n j x m.view)
  writes = advance m ws' m.unwritten after [] (stored_view n j x m.view) (record {
    is = is;
    wide = length-set m.ws (node_at p n j) x ∙ m.rule.wide;
    own = writes_own;
    others = writes_leaves;
    cells = record { cell = λ k lt. cell_stays W after refl refl refl (λ i h. (h, node_stays i (λ e. cc))) (m.rule.cells.cell k lt) };
    guards = m.rule.guards;
    history = m.rule.history;
    versions = λ k lt. let b = m.rule.versions k lt in record {
      locked = b.locked;
      dated = b.dated;
      passed = b.passed;
      copied = λ even still. let live = (cell_node p W k (m.rule.cells.cell k lt)).class in b.copied even still ∙ sym (node_stays (W.backup k / 2) (λ own. cc));
      settled = b.settled;
      untouched = λ none. let u = b.untouched none in record {
        version_is = u.version_is;
        backup_is = u.backup_is;
        inline_are = u.inline_are;
        node_are = node_stays k (λ own. let live = (cell_node p W k (m.rule.cells.cell k lt)).class in let named : W.backup k / 2 ≡ k = omega (arith, u.backup_is) in
            let both : Own m.id ≡ Live k = sym own ∙ (ap W.class (sym named) ∙ live) in cc) ∙ u.node_are;
      };
    };
    lockers = m.rule.lockers;
    budget = le_refl (length W.log + m.view.changes);
  })

pub stores : (slots id : ℕ) (me : Mine) (n j x : ℕ) → 0 < length me.0.numbers → has (nodes_of me.0.own) n ≡ true
    → ((y : Claim) → get_elem? me.0.claims OWN ≡ some y → ¬ On y n) → j < NODE_WIDTH
    → Allows (Holds me.0.plan) slots id me (node_at me.0.plan n j) (λ _. x) (λ _. stored (step slots (node_at me.0.plan n j) x 0 none) me x)
stores slots id me n j x numbered mine free inside s r _ at _ =
    let m = moment id me numbered s r at in
    let f = at_has me.0.own n mine in
    let is : m.unwritten.class n ≡ Own id = ap m.unwritten.class (sym f.3) ∙ (seat m).nodes.mine f.0 f.1 f.2 in
    store_owed id me numbered s r at _ (node_at me.0.plan n j) x (stored_view n j x me.0) (writes m n j x is inside free) refl numbered
    (λ k i e lt. let q = one_place me.0.plan n j k i e inside lt in λ c. stored_view (q.0 c) (q.1 c) x me.0)
