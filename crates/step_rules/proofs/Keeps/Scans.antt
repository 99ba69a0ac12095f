-- SCAN LOAD keeps the rule: a scan finds each old node on which a claim stands, so the last load frees only nodes that no claim stands on.
use Rattle.std.proofs.Common.{le_refl, ◌≡◌, ◌≢◌, ℕ, ◌+◌, ◌*◌, ◌<◌, ◌≤◌, suc, zero, Bool, true, false, not, List, [], ◌∷◌, ◌++◌, length, map, filter, drop}
use Rattle.std.proofs.Common.{get_or, cond, eqb, eq-eqb, ne_eqb}
use Rattle.std.proofs.Common.{refl, sym, ap, ◌∙◌, subst, arith, add-one, ⊎_elim}
use Rattle.std.proofs.lemmas.Bool.{and_parts, cases_Bool, cases_eq, cond-false, cond-true, eqb-true, false_from_ne_true, false≢true, or_cases, or_left, or_right, true≢false, not-true}
use Rattle.std.proofs.lemmas.List.{length-append, length-drop, length-map, length-take-le}
use Rattle.std.proofs.lemmas.List.Filters.{length-filter_both}
use mathlib.Core.Option.{none, some}
use lib.ListN.{get_elem?}
use Rattle.atomic_table.specs.Table.{step, Allows}
use Rattle.step_rules.proofs.Rely.Advance.{claim_found, claims_kept, guarded, own_guarded}
use Rattle.step_rules.proofs.World.Handing.{Hands, handed_cells, handed_leaves}
use Rattle.step_rules.proofs.Keeps.Loads.{counted_ok}
use Rattle.step_rules.proofs.Rely.Moments.{Made, Moment, advance, load_owed, moment, own_step, seat, world}
use Rattle.step_rules.proofs.World.Frames.{claim_is, past}
use Rattle.step_rules.proofs.Keeps.Stores.{at_mapped}
use Rattle.step_rules.proofs.Numbers.Sets.{at_has, nodes_of-append, once-append, has_place}
use Rattle.step_rules.specs.Claims.{Guards, OWN, On}
use Rattle.step_rules.specs.Kinds.Claiming.{FindsOwn, MayScan}
use Rattle.step_rules.specs.Layout.{claim_at, nodes, nodes_at, words}
use Rattle.step_rules.specs.Nodes.{IsNode, SeatNodes}
use Rattle.step_rules.specs.Plays.{Mine, scanned}
use Rattle.step_rules.specs.Rule.{Holds, node_words}
use Rattle.step_rules.specs.Scans.{SeatScan}
use Rattle.step_rules.specs.Stock.{IsStock}
use Rattle.step_rules.specs.Seats.{SeatOk}
use Rattle.step_rules.specs.Views.{claim_of, freed_view, scan_step, is_freed, noted, number, scan_of, scanned_scan, scanned_view}
use Rattle.step_rules.specs.World.{Class, Own, Retired, Once, World, has, nodes_of}
use Rattle.step_rules.specs.declared.layout.TheConstants.{CLAIMS, NODE_WIDTH}
use Rattle.step_rules.specs.declared.plan.Plan.{Plan}
use Rattle.step_rules.specs.declared.view.Claim.{Claim}
use Rattle.step_rules.specs.declared.view.Held.{Held}
use Rattle.step_rules.specs.declared.view.View.{View}
use Rattle.step_rules.proofs.Numbers.Places.{at_append}

-- what a filter leaves
pub has_filter : (f : ℕ → Bool) (l : List ℕ) (n : ℕ) → has (filter f l) n ≡ true → (has l n ≡ true) × (f n ≡ true)
has_filter f [] n h = absurd (false≢true h)
has_filter f (x ∷ l) n h = ⊎_elim
    (λ e. ⊎_elim
    (λ q. (or_left (eqb x n) (has l n) q, ap f (sym (eqb-true x n q)) ∙ e))
    (λ q. let r = has_filter f l n q in (or_right (eqb x n) (has l n) r.0, r.1))
    (or_cases (eqb x n) (has (filter f l) n) (subst (λ b. has (cond b (x ∷ filter f l) (filter f l)) n ≡ true) e h)))
    (λ e. let r = has_filter f l n (subst (λ b. has (cond b (x ∷ filter f l) (filter f l)) n ≡ true) e h) in (or_right (eqb x n) (has l n) r.0, r.1))
    (cases_Bool (f x))

pub once_filter : (f : ℕ → Bool) (l : List ℕ) → Once l → Once (filter f l)
once_filter f [] o = tt
once_filter f (x ∷ l) o = ⊎_elim
    (λ e. subst (λ b. Once (cond b (x ∷ filter f l) (filter f l))) (sym e) (false_from_ne_true (has (filter f l) x) (λ h. true≢false (sym (has_filter f l x h).0 ∙ o.0)), once_filter f l o.1))
    (λ e. subst (λ b. Once (cond b (x ∷ filter f l) (filter f l))) (sym e) (once_filter f l o.1))
    (cases_Bool (f x))

-- a node with the words that it has
abbrev held_of : Plan → List ℕ → ℕ → Held
held_of p ws n = record { node = n; words = node_words p ws n }

nodes_held : (p : Plan) (ws l : List ℕ) → nodes_of (map (held_of p ws) l) ≡ l
nodes_held p ws [] = refl
nodes_held p ws (n ∷ l) = ap (λ r. n ∷ r) (nodes_held p ws l)

pub node_wide : (p : Plan) (ws : List ℕ) (n : ℕ) → length ws ≡ words p → n < nodes p → length (node_words p ws n) ≡ NODE_WIDTH
node_wide p ws n wide there = length-take-le NODE_WIDTH (drop (nodes_at p + NODE_WIDTH * n) ws) (omega (arith, length-drop (nodes_at p + NODE_WIDTH * n) ws, past NODE_WIDTH n (nodes p) there))

-- what a word names is found, and what was found stays
noted_more : (x n : ℕ) (found : List ℕ) → has found n ≡ true → has (noted x found) n ≡ true
noted_more zero n found h = h
noted_more (suc m) n found h = or_right (eqb m n) (has found n) h

noted_here : (n : ℕ) (found : List ℕ) → has (noted (n + 1) found) n ≡ true
noted_here n found = subst (λ z. has (noted z found) n ≡ true) (sym (add-one n)) (or_left (eqb n n) (has found n) (eq-eqb n n refl))

noted_long : (x : ℕ) (found : List ℕ) → length (noted x found) ≤ length found + 1
noted_long zero found = omega arith
noted_long (suc m) found = omega arith

-- the scan that the load of the word w goes on with
begun : (p : Plan) (guard : ℕ → ℕ) (w : ℕ) (v : View) → SeatScan p guard v.scan v.retired → (w ≢ 0 → w ≡ v.scan.next)
    → SeatScan p guard (scan_of w v) v.retired × ((scan_of w v).next ≡ w)
begun p guard zero v ok next = (record { sound = record { old = λ n h. h; counted = omega arith; within = omega arith }; found = λ u n lt e h. absurd (omega arith) }, refl)
begun p guard (suc w) v ok next =
    subst (λ (b : Bool). SeatScan p guard (cond b (record { next = 0; old = v.retired; found = [] }) v.scan) v.retired ×
    ((cond b (record { next = 0; old = v.retired; found = [] }) v.scan).next ≡ suc w))
    (sym (ne_eqb (suc w) 0 (λ e. omega arith))) (ok, sym (next (λ e. omega arith)))

-- one word more is read
scan_more : (p : Plan) (W : World) (w x : ℕ) (v : View) → Guards p W.word W.guard → w < CLAIMS * p.seats → x ≡ W.word w → SeatScan p W.guard v.scan v.retired
    → (w ≢ 0 → w ≡ v.scan.next)
    → SeatScan p W.guard (scanned_scan w x v) v.retired
scan_more p W w x v guards below is ok next =
    let b = begun p W.guard w v ok next in
    let s = scan_of w v in
    let counted' = b.0.sound.counted in
    record {
      sound = record { old = b.0.sound.old; counted = omega (arith, noted_long x s.found, b.1); within = omega arith };
      found = λ u n lt e h. ⊎_elim
          (λ q. subst (λ z. has (noted z s.found) n ≡ true) (sym (is ∙ (ap W.word (sym q) ∙ guards.named u n e))) (noted_here n s.found))
          (λ ne. noted_more x n s.found (b.0.found u n (omega (arith, b.1)) e h))
          (cases_eq u w);
    }

-- a seat knows what stands in its own claim words
finds_own : (p : Plan) (W : World) (id w x : ℕ) (v : View) → 0 < length v.numbers → x ≡ W.word w → SeatOk p W id v → FindsOwn w x v
finds_own p W id w x v numbered is ok = record {
  least = λ c e l. is ∙ (ap W.word e ∙ ok.claims.word c (claim_of c v) numbered (claim_found ok.claims c l));
  others = λ y c h ne e l. is ∙ (ap W.word e ∙ (ok.claims.others y c h ne l).0);
}

-- THE END OF A SCAN: the seat, whose view is v then, has read all claim words
module _ (m : Moment) (v : View) (ok : SeatOk m.view.plan (world m) m.id v) (whole : v.scan.next ≡ CLAIMS * m.view.plan.seats) where
  abbrev p : Plan
  p = m.view.plan

  abbrev W : World
  W = world m

  abbrev free : ℕ → Bool
  free n = is_freed v.scan n

  class_freed : ℕ → Class
  class_freed n = cond (free n) (Own m.id) (W.class n)

  abbrev pub freed : List Held
  freed = map (held_of p m.ws) (filter free v.retired)

  pub nodes_freed : nodes_of freed ≡ filter free v.retired
  nodes_freed = nodes_held p m.ws (filter free v.retired)

  class_free : (n : ℕ) → free n ≡ true → class_freed n ≡ Own m.id
  unfolding class_freed
  class_free n e = cond-true (free n) (Own m.id) (W.class n) e

  class_same : (n : ℕ) → free n ≡ false → class_freed n ≡ W.class n
  unfolding class_freed
  class_same n e = cond-false (free n) (Own m.id) (W.class n) e

  -- a freed node was retired by the seat
  was_retired : (n : ℕ) → free n ≡ true → has v.retired n ≡ true
  was_retired n e = ok.scan.sound.old n (and_parts (has v.scan.old n) (not (has v.scan.found n)) e).0

  -- and no claim stands on it
  unclaimed : (w n : ℕ) → free n ≡ true → W.guard w ≡ n + 1 → ⊥
  unclaimed w n e stands =
      let h = and_parts (has v.scan.old n) (not (has v.scan.found n)) e in
      let lt = m.rule.guards.within w n stands in
      true≢false (sym h.1 ∙ ap not (ok.scan.found w n (omega arith) stands h.0))

  -- nor does one of the seat's own
  pub own_unclaimed : (c n : ℕ) (y : Claim) → get_elem? v.claims c ≡ some y → has (nodes_of freed) n ≡ true → ¬ On y n
  own_unclaimed c n y at h on = unclaimed (claim_at (number v) c) n (has_filter free v.retired n (subst (λ l. has l n ≡ true) nodes_freed h)).1 (guarded ok.claims c n y at on)

  -- every other node keeps its class
  class_kept : (n : ℕ) (c : Class) → c ≢ Retired m.id → W.class n ≡ c → class_freed n ≡ c
  class_kept n c ne e = ⊎_elim
      (λ f. absurd (ne (sym e ∙ ok.nodes.retired n (was_retired n f))))
      (λ f. class_same n f ∙ e)
      (cases_Bool (free n))

  -- a node that a claim stands on keeps its class
  class_claimed : (w n : ℕ) (c : Class) → W.guard w ≡ n + 1 → class_freed n ≡ c → W.class n ≡ c
  class_claimed w n c stands e = ⊎_elim
      (λ f. absurd (unclaimed w n f stands))
      (λ f. sym (class_same n f) ∙ e)
      (cases_Bool (free n))

  hands : Hands W m.id class_freed W.holder
  hands = record {
    stays = λ n c f g e. class_kept n c g e;
    taken = λ w n t stands f e. class_claimed w n (Own t) stands e;
    held = λ s x f e. e;
  }

  -- a freed node
  pub freed_node : (j : ℕ) (h : Held) → get_elem? freed j ≡ some h → IsNode p h × (free h.node ≡ true) × (W.node h.node ≡ h.words)
  freed_node j h at =
      let q = at_mapped (held_of p m.ws) (filter free v.retired) j h at in
      let f = has_filter free v.retired q.0 (has_place (filter free v.retired) j q.0 q.1) in
      let there = ok.nodes.retired_there q.0 f.0 in
      subst (λ (z : Held). IsNode p z × (free z.node ≡ true) × (W.node z.node ≡ z.words)) q.2 (record { there = there; wide = node_wide p m.ws q.0 m.rule.wide there }, f.1, refl)

  frees_nodes : SeatNodes p class_freed W.node m.id (v.own ++ freed) (filter (λ n. not (free n)) v.retired)
  frees_nodes = let o = ok.nodes in record {
    there = λ i h at. ⊎_elim (λ q. o.there i h q) (λ q. (freed_node q.0 h q.2).0) (at_append v.own freed i h at);
    mine = λ i h at. ⊎_elim (λ q. class_kept h.node (Own m.id) (λ e. cc) (o.mine i h q)) (λ q. class_free h.node (freed_node q.0 h q.2).1) (at_append v.own freed i h at);
    words = λ i h at. ⊎_elim (λ q. o.words i h q) (λ q. (freed_node q.0 h q.2).2) (at_append v.own freed i h at);
    once = subst Once (sym (nodes_of-append v.own freed ∙ ap (λ l. nodes_of v.own ++ l) nodes_freed))
        (once-append (nodes_of v.own) (filter free v.retired) o.once (once_filter free v.retired o.retired_once) (λ n h g.
        let a = at_has v.own n h in
        let c : W.class n ≡ Own m.id = ap W.class (sym a.3) ∙ o.mine a.0 a.1 a.2 in
        let d = o.retired n (has_filter free v.retired n g).0 in
        cc));
    retired_once = once_filter (λ n. not (free n)) v.retired o.retired_once;
    retired = λ n h. let f = has_filter (λ k. not (free k)) v.retired n h in class_same n (not-true (free n) f.1) ∙ o.retired n f.0;
    retired_there = λ n h. o.retired_there n (has_filter (λ k. not (free k)) v.retired n h).0;
  }

  frees_ok : SeatOk p (record W { class = class_freed }) m.id (freed_view freed v)
  frees_ok = record {
    plan = ok.plan;
    numbers = ok.numbers;
    nodes = frees_nodes;
    stock = subst (λ y. IsStock p (length v.numbers) v.seen v.stands y v.removes)
        (omega (arith, length-append v.own freed, length-map (filter free v.retired) (held_of p m.ws), length-filter_both free (λ n. not (free n)) (λ n. refl) v.retired)) ok.stock;
    seen = ok.seen;
    earlier = ok.earlier;
    lawful = ok.lawful;
    trail = ok.trail;
    look = ok.look;
    claims = claims_kept ok.claims class_freed W.node (λ c n y at on. (refl, λ t e. class_claimed (claim_at (number v) c) n (Own t) (guarded ok.claims c n y at on) e));
    scan = record { sound = record { old = λ n h. absurd (false≢true h); counted = omega arith; within = omega arith }; found = λ u n lt e h. absurd (omega arith) };
    versions = ok.versions;
    reader = ok.reader;
    writer = record {
      sound = ok.writer.sound;
      before = ok.writer.before;
      last = ok.writer.last;
      free = λ flies t own. ok.writer.free flies t (class_claimed (claim_at (number v) OWN) v.writer.node (Own t) (own_guarded ok.claims v.writer ok.writer flies) own);
      locked = ok.writer.locked;
      released = ok.writer.released;
      locks = ok.writer.locks;
      stays = ok.writer.stays;
      later = ok.writer.later;
      sourced = ok.writer.sourced;
    };
  }

  -- the rule after the last load
  pub frees : v.changes ≡ m.view.changes → Made m m.ws (freed_view freed v)
  frees same = advance m m.ws (record m.unwritten { class = class_freed }) (record W { class = class_freed }) [] (freed_view freed v) (record {
    is = refl;
    wide = m.rule.wide;
    own = frees_ok;
    others = handed_leaves p W m.id class_freed W.holder hands;
    cells = handed_cells p W m.id class_freed W.holder hands m.rule.cells;
    guards = m.rule.guards;
    history = m.rule.history;
    versions = m.rule.versions;
    lockers = m.rule.lockers;
    budget = omega arith;
  })

pub scans : (slots id : ℕ) (me : Mine) (w : ℕ) → 0 < length me.0.numbers → MayScan w me.0 → Allows (Holds me.0.plan) slots id me w (λ x. x) (scanned (step slots w 0 0 none) me)
scans slots id me w numbered may s r _ at _ =
    let v = me.0 in
    let m = moment id me numbered s r at in
    let o = seat m in
    let x = get_or s.words w 0 in
    let u = scanned_view w x v in
    let is = claim_is v.plan s.words w may.0 in
    let ok = counted_ok v.plan (world m) id v (scan_step w x v) (scanned_scan w x v) o refl (λ k e. cc) (scan_more v.plan (world m) w x v m.rule.guards may.0 is o.scan may.1) in
    let mine = finds_own v.plan (world m) id w x v numbered is o in
    ⊎_elim
    (λ (last : suc w ≡ CLAIMS * v.plan.seats).
    let whole : u.scan.next ≡ CLAIMS * v.plan.seats = omega arith in
    load_owed id me numbered s r at _ w (freed_view (freed m u ok whole) u) (frees m u ok whole refl) refl numbered (
      mine,
      λ lt. absurd (omega arith),
      λ _. record {
        freed = freed m u ok whole;
        after = refl;
        nodes = nodes_freed m u ok whole;
        known = λ i y there. (freed_node m u ok whole i y there).0;
        unclaimed = own_unclaimed m u ok whole;
      },
    ))
    (λ ne. load_owed id me numbered s r at _ w u (own_step m u ok (le_refl v.changes)) refl numbered (mine, λ _. refl, λ e. absurd (ne e)))
    (cases_eq (suc w) (CLAIMS * v.plan.seats))
