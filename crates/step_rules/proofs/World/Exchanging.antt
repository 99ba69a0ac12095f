-- What an exchange of a backup leaves of the world: to other seats, to its own seat's nodes, and of the cells.
use Rattle.std.proofs.Common.{◌≡◌, ◌≢◌, ℕ, ◌/◌, ◌<◌, true, false, List, ◌++◌, drop, sym, ap, ◌∙◌, subst, arith, ◌⊎◌, ⊎_elim}
use Rattle.std.proofs.lemmas.Bool.{cases_eq, false_from_ne_true}
use mathlib.Core.Option.{some}
use lib.ListN.{get_elem?}
use Rattle.atomic_table.proofs.Lists.{at_longer}
use Rattle.seat_history.specs.declared.entry.Entry.{Entry}
use Rattle.step_rules.specs.Cells.{CellsAgree, IsCell}
use Rattle.step_rules.specs.Claims.{ClaimsSound, On, SeatClaims, Tells}
use Rattle.step_rules.specs.History.{NoneOn}
use Rattle.step_rules.specs.Kinds.Exchange.{Exchanges}
use Rattle.step_rules.specs.Layout.{claim_at, nodes}
use Rattle.step_rules.specs.Nodes.{IsNode, SeatNodes}
use Rattle.step_rules.specs.Records.{IsCounted, records_at, records_of}
use Rattle.step_rules.specs.Seats.{Leaves, SeatOk}
use Rattle.step_rules.specs.World.{World, Own, Live, Chained, Once, has, link, nodes_of}
use Rattle.step_rules.specs.Writers.{sites}
use Rattle.step_rules.specs.declared.plan.Plan.{Plan}
use Rattle.step_rules.specs.declared.view.Claim.{Claim}
use Rattle.step_rules.specs.declared.view.Held.{Held}
use Rattle.step_rules.specs.declared.view.View.{View}
use Rattle.step_rules.proofs.Rely.Advance.{none_other, drop_more, none_on-append, none_on_parts, tells_else}
use Rattle.step_rules.proofs.World.Chains.{cell_stays, link-append, head_link, head_has, chained-append, chained_parts, chained_class, chained_move, chained_apart}
use Rattle.step_rules.proofs.Rely.Claimed.{claims_sound_more}
use Rattle.step_rules.proofs.Rely.Writers.{locks_stay}
use Rattle.step_rules.proofs.Order.RecordsAt.{same_records}
use Rattle.step_rules.proofs.Numbers.Sets.{at_has}
use Rattle.step_rules.proofs.Numbers.Places.{at_append, at_behind}

module _ {p : Plan} {a k : ℕ} {dropped kept fresh : List Held} {more : List Entry} {W W' : World} (x : Exchanges p a k dropped kept fresh more W W') (cell : IsCell p W k) where
  chain_before : Chained W (Live k) (dropped ++ kept) 0
  chain_before = subst (λ l. Chained W (Live k) l 0) x.before cell.chained

  parts : Chained W (Live k) dropped (link kept 0) × Chained W (Live k) kept 0
  parts = chained_parts W (Live k) dropped kept 0 chain_before

  pub of_dropped : (m : ℕ) → has (nodes_of dropped) m ≡ true → W.class m ≡ Live k
  of_dropped m h = chained_class W (Live k) dropped (link kept 0) m parts.0 h

  pub of_kept : (m : ℕ) → has (nodes_of kept) m ≡ true → W.class m ≡ Live k
  of_kept m h = chained_class W (Live k) kept 0 m parts.1 h

  pub of_fresh : (m : ℕ) → has (nodes_of fresh) m ≡ true → W.class m ≡ Own a
  of_fresh m h = chained_class W (Own a) fresh (link kept 0) m x.mine h

  kept_apart : (m : ℕ) → has (nodes_of kept) m ≡ true → has (nodes_of dropped) m ≡ true → ⊥
  kept_apart m h d = chained_apart W (Live k) dropped kept m chain_before d h

  -- all but the cell's nodes and the seat's own keep their class
  pub same_class : (m : ℕ) → W.class m ≢ Live k → W.class m ≢ Own a → W'.class m ≡ W.class m
  same_class m live own = x.class m (false_from_ne_true (has (nodes_of dropped) m) (λ h. live (of_dropped m h))) (false_from_ne_true (has (nodes_of fresh) m) (λ h. own (of_fresh m h)))

  -- no node becomes a seat's own
  exchange_taken : (m t : ℕ) → W'.class m ≡ Own t → W.class m ≡ Own t
  exchange_taken m t own =
      let apart : has (nodes_of fresh) m ≡ false = false_from_ne_true (has (nodes_of fresh) m) (λ h. let l = sym (x.into m h) ∙ own in cc) in
      let stays : has (nodes_of dropped) m ≡ false = false_from_ne_true (has (nodes_of dropped) m) (λ d. let l = sym (x.out m d apart) ∙ own in cc) in
      sym (x.class m stays apart) ∙ own

  -- the backup names a node that was the seat's own
  exchange_head : W.class (W'.backup k / 2) ≡ Own a
  exchange_head = let h = x.head in of_fresh (W'.backup k / 2) (head_has fresh (W'.backup k / 2) x.some_fresh (omega arith))

  node_before : (i : ℕ) (h : Held) → get_elem? (dropped ++ kept) i ≡ some h → IsNode p h
  node_before i h at = cell.node i h (ap (λ l. get_elem? l i) x.before ∙ at)

  dropped_there : (m : ℕ) → has (nodes_of dropped) m ≡ true → m < nodes p
  dropped_there m h = let r = at_has dropped m h in subst (λ i. i < nodes p) r.3 (node_before r.0 r.1 (at_longer dropped kept r.0 r.1 r.2)).there

  pub exchange_leaves : (s : ℕ) (u : View) → s ≢ a → SeatOk p W s u → Leaves p s u.numbers W W' more
  exchange_leaves s u ne ok = record {
    log = x.log;
    by = λ y h. x.by y (λ e. ne (sym h ∙ e));
    holder = λ y h. x.holder y ∙ h;
    own = λ m h. same_class m (λ e. cc) (λ e. ne cc) ∙ h;
    words = λ m h. x.node m;
    retired = λ m h. same_class m (λ e. cc) (λ e. cc) ∙ h;
    word = λ y c h lt. x.word (claim_at y c);
    guard = λ y c h lt. x.guard (claim_at y c);
    quiet = λ w m h e. sym (x.guard w) ∙ e;
    image = λ y c m h lt e. x.node m;
    taken = λ y c m t h lt e own. exchange_taken m t own;
    same = λ j none. ap (λ b. b / 2) (x.others j (λ e. x.here (subst (λ i. NoneOn p i more) e none))).0;
    falls = λ j none. let e = (x.others j (λ e. x.here (subst (λ i. NoneOn p i more) e none))).0 in omega arith;
    chain = λ j none. (x.others j (λ e. x.here (subst (λ i. NoneOn p i more) e none))).1;
    fresh = λ y c m j h lt e names. ⊎_elim
        (λ q. absurd (none_other ok a y c m ne h lt e (sym (ap W.class names) ∙ (ap (λ i. W.class (W'.backup i / 2)) q ∙ exchange_head))))
        (λ q. x.there j q)
        (cases_eq j k);
    locks = locks_stay s (sites W) (sites W') x.version x.inline x.locker x.source;
  }

  -- the seat's own claims: where one tells of the cell's record, the node that the backup names now is another
  pub exchange_claims : (numbers : List ℕ) (least : ℕ) (seen rest : List Entry) (claims : List Claim) → W.log ≡ seen ++ rest → SeatClaims p W a numbers least seen claims
      → SeatClaims p W' a numbers least W'.log claims
  exchange_claims numbers least seen rest claims whole o = record {
    sound = subst (λ (es : List Entry). ClaimsSound p es claims) (sym (x.log ∙ ap (λ (es : List Entry). es ++ more) whole))
        (claims_sound_more more (claims_sound_more rest o.sound));
    word = λ c y numbered at. x.word (claim_at least c) ∙ o.word c y numbered at;
    guard = λ c y numbered at. x.guard (claim_at least c) ∙ o.guard c y numbered at;
    others = λ y c h ne lt. let q = o.others y c h ne lt in (x.word (claim_at y c) ∙ q.0, x.guard (claim_at y c) ∙ q.1);
    none_spent = o.none_spent;
    image = λ c m y at on. x.node m ∙ o.image c m y at on;
    kept = λ c m t y at on own. o.kept c m t y at on (exchange_taken m t own);
    calm = λ c m y at tells on names.
        ⊎_elim
        (λ q. absurd (tells_else c tells (o.kept c m a y at on (sym (ap W.class names) ∙ (ap (λ i. W.class (W'.backup i / 2)) q ∙ exchange_head))).0))
        (λ q. subst (NoneOn p y.cell) (sym (longer c m y at tells on))
        (none_on-append p y.cell (drop y.at W.log) more (o.calm c m y at tells on (ap (λ b. b / 2) (sym (x.others y.cell q).0) ∙ names)) (x.there y.cell q)))
        (cases_eq y.cell k);
    pages = λ c m y at tells on names. ⊎_elim
        (λ q. absurd (tells_else c tells (o.kept c m a y at on (sym (ap W.class names) ∙ (ap (λ i. W.class (W'.backup i / 2)) q ∙ exchange_head))).0))
        (λ q. (x.others y.cell q).1 ∙ o.pages c m y at tells on (ap (λ b. b / 2) (sym (x.others y.cell q).0) ∙ names))
        (cases_eq y.cell k);
    stays = λ c m y at tells on none.
        let parts = none_on_parts p y.cell (drop y.at W.log) more (subst (NoneOn p y.cell) (longer c m y at tells on) none) in
        ⊎_elim
        (λ q. absurd (x.here (subst (λ i. NoneOn p i more) q parts.1)))
        (λ q. ap (λ b. b / 2) (x.others y.cell q).0 ∙ o.stays c m y at tells on parts.0)
        (cases_eq y.cell k);
  }
    where
      longer : (c m : ℕ) (y : Claim) → get_elem? claims c ≡ some y → Tells c → On y m → drop y.at W'.log ≡ drop y.at W.log ++ more
      longer c m y at tells on = ap (drop y.at) x.log ∙ drop_more seen rest W.log more y.at whole (o.sound.told c m y at tells on).began

  -- the seat's nodes: the fresh ones are no more its own, and the dropped ones are retired
  pub exchange_nodes : (own own' : List Held) (gone gone' : List ℕ) → SeatNodes p W.class W.node a own gone
      → ((i : ℕ) (h : Held) → get_elem? own' i ≡ some h → (j : ℕ) × (get_elem? own j ≡ some h) × (has (nodes_of fresh) h.node ≡ false)) → Once (nodes_of own') → Once gone'
      → ((m : ℕ) → has gone' m ≡ true → (has gone m ≡ true) ⊎ (has (nodes_of dropped) m ≡ true))
      → SeatNodes p W'.class W'.node a own' gone'
  exchange_nodes own own' gone gone' o left once retired_once add = record {
    there = λ i h at. let q = left i h at in o.there q.0 h q.1;
    mine = λ i h at. let q = left i h at in let c = o.mine q.0 h q.1 in x.class h.node (false_from_ne_true (has (nodes_of dropped) h.node) (λ d. let l = of_dropped h.node d in cc)) q.2 ∙ c;
    words = λ i h at. let q = left i h at in x.node h.node ∙ o.words q.0 h q.1;
    once = once;
    retired_once = retired_once;
    retired = λ m h. ⊎_elim
        (λ g. let c = o.retired m g in same_class m (λ e. cc) (λ e. cc) ∙ c)
        (λ d. x.out m d (false_from_ne_true (has (nodes_of fresh) m) (λ g. let c = of_fresh m g in let l = of_dropped m d in cc)))
        (add m h);
    retired_there = λ m h. ⊎_elim (λ g. o.retired_there m g) (λ d. dropped_there m d) (add m h);
  }

  pub exchange_chained : Chained W' (Live k) (W'.chain k) 0
  exchange_chained = subst (λ l. Chained W' (Live k) l 0) (sym x.after)
      (chained-append W' (Live k) fresh kept 0
      (chained_move W W' (Own a) (Live k) fresh (link kept 0) (λ m h. (x.into m h, x.node m)) x.mine)
      (chained_move W W' (Live k) (Live k) kept 0
      (λ m h. let l = of_kept m h in
      (x.class m (false_from_ne_true (has (nodes_of dropped) m) (λ d. kept_apart m h d)) (false_from_ne_true (has (nodes_of fresh) m) (λ g. let c = of_fresh m g in cc)) ∙ l, x.node m))
      parts.1))

  -- the cell itself
  pub exchange_here : records_of (fresh ++ kept) ≡ records_at p W'.log k → IsCounted (fresh ++ kept) → IsCell p W' k
  exchange_here records counted = record {
    head = ap (λ l. link l 0) x.after ∙ (sym (link-append fresh kept 0) ∙ (head_link fresh (link kept 0) 0 x.some_fresh ∙ x.head));
    chained = exchange_chained;
    node = λ i h at. ⊎_elim (λ t. x.known i h t) (λ t. let r = at_behind dropped kept t.0 h t.2 in node_before r.0 h r.1)
        (at_append fresh kept i h (ap (λ l. get_elem? l i) (sym x.after) ∙ at));
    records = ap records_of x.after ∙ records;
    counted = subst IsCounted (sym x.after) counted;
  }

  -- another cell
  pub exchange_else : (j : ℕ) → j ≢ k → IsCell p W j → IsCell p W' j
  exchange_else j ne other = let r = x.others j ne in
      cell_stays W W' r.1 (ap (λ b. b / 2) r.0) (ap (λ (l : List Entry). records_at p l j) x.log ∙ same_records p W.log more j (x.there j ne))
      (λ m h. (same_class m (λ e. ne cc) (λ e. cc) ∙ h, x.node m)) other

  -- all cells
  pub exchange_cells : CellsAgree p W → records_of (fresh ++ kept) ≡ records_at p W'.log k → IsCounted (fresh ++ kept) → CellsAgree p W'
  exchange_cells agree records counted = record {
    cell = λ j lt. ⊎_elim
        (λ e. subst (IsCell p W') (sym e) (exchange_here records counted))
        (λ ne. exchange_else j ne (agree.cell j lt))
        (cases_eq j k);
  }
