-- BACKUP EXCHANGE keeps the rule.
use Rattle.std.proofs.Common.{append_assoc, ◌≡◌, ◌≢◌, ℕ, ◌+◌, ◌*◌, ◌/◌, ◌<◌, ◌≤◌, ◌==◌, suc, true, List, [], ◌∷◌, ◌++◌, length, drop, take, set}
use Rattle.std.proofs.Common.{get_or, cond, refl, sym, ap, ◌∙◌, subst}
use Rattle.std.proofs.Common.{arith, inl, ⊎_elim, append-nil, le_refl, length-append}
use Rattle.std.proofs.lemmas.Bool.{cases_eq, cond-false, cond-true}
use Rattle.std.proofs.lemmas.List.{drop-append-le, length-set, take-append-drop, length-take-le}
use Rattle.std.proofs.Math.Seq.{drop-length, take-append_seam}
use mathlib.Core.Option.{none, some, some-injective}
use lib.ListN.{get_elem?}
use prog.Atomic.{either}
use Rattle.atomic_table.proofs.Lists.{exchanged as by_hit}
use Rattle.atomic_table.specs.Table.{Act, step, stepped, Allows, Valid, carried_after}
use Rattle.seat_history.proofs.Changed.{set_at_here}
use Rattle.seat_history.specs.Change.{is_change}
use Rattle.seat_history.specs.Contents.{Contents, set_at}
use Rattle.seat_history.specs.History.{state_at}
use Rattle.seat_history.specs.declared.call.Call.{Call}
use Rattle.seat_history.specs.declared.entry.Entry.{Entry}
use Rattle.step_rules.specs.Cells.{CellsAgree, IsCell}
use Rattle.step_rules.specs.Claims.{BACK, OWN, On}
use Rattle.step_rules.specs.History.{IsEntry, IsHistory, NoneOn, cell_of}
use Rattle.step_rules.specs.Kinds.Backup.{Looks, MayExchange, Wins}
use Rattle.step_rules.specs.Kinds.Exchange.{Exchanges}
use Rattle.step_rules.specs.Layout.{backup_at, cells, nodes, nodes_at}
use Rattle.step_rules.specs.Nodes.{IsNode, SeatNodes}
use Rattle.step_rules.specs.Plays.{Mine, exchanged}
use Rattle.step_rules.specs.Records.{Edit, IsCounted, Within, cost_of, dropped_count, edit_of, edited, fresh_records, gain_of, is_change_in, need, records_after, records_at, records_of}
use Rattle.step_rules.specs.Readers.{SeatReader}
use Rattle.step_rules.specs.Rule.{Holds, backup_word, world_of}
use Rattle.step_rules.specs.Seats.{SeatOk}
use Rattle.step_rules.specs.Stock.{IsStock}
use Rattle.step_rules.specs.Trail.{IsTrail}
use Rattle.step_rules.specs.Versions.{IsEven, VersionedAt}
use Rattle.step_rules.specs.Views.{changing, claim_of, claimed_edit, claimed_pages, claimed_records, counted as counted_step, dropped_of, entry, fresh_of, kept_of, number, silent, won_view}
use Rattle.step_rules.specs.World.{Chained, Class, World, Own, Live, Retired, Once, has, link, nodes_of, Unwritten}
use Rattle.step_rules.specs.Writers.{Flies, SeatWriter, sites}
use Rattle.step_rules.specs.declared.layout.TheConstants.{CLAIMS}
use Rattle.step_rules.specs.declared.plan.Plan.{Plan}
use Rattle.step_rules.specs.declared.view.Claim.{Claim}
use Rattle.step_rules.specs.declared.view.Held.{Held}
use Rattle.step_rules.specs.declared.view.Kind.TheVariants.{BackupExchange}
use Rattle.step_rules.specs.declared.view.View.{View}
use Rattle.step_rules.proofs.Rely.Advance.{goes_further, none_on-append, none_on_parts}
use Rattle.step_rules.proofs.Rely.Readers.{reader_more}
use Rattle.step_rules.proofs.Rely.Writers.{locked_flies, versions_step}
use Rattle.step_rules.proofs.World.Chains.{chained_class, chained_parts, head_has, linked_chained}
use Rattle.step_rules.proofs.Order.Edits.{chain_edit, edit_stock}
use Rattle.step_rules.proofs.World.Exchanging.{exchange_cells, exchange_claims, exchange_leaves, exchange_nodes}
use Rattle.step_rules.proofs.World.Frames.{backup_else, backup_here, backup_is, backup_store, claim_else, is_set, node_low, one_cell, set_at_else}
use Rattle.step_rules.proofs.Order.Fronts.{chained_once, dropped_within, followed_link, followed_words, length-followed, length-without_all, need_some, once-without_all, without_all_at}
use Rattle.step_rules.proofs.Line.Kept.{kept_now}
use Rattle.step_rules.proofs.Line.Lawfuls.{lawful_change}
use Rattle.step_rules.proofs.Ties.Owns.{words_at}
use Rattle.step_rules.proofs.Line.Stocks.{stock_push}
use Rattle.step_rules.proofs.Line.Trails.{trail_stand, trail_step}
use Rattle.step_rules.proofs.Order.RecordsAt.{next_records}
use Rattle.step_rules.proofs.Order.RecordsTell.{EachThere, change_in, change_within}
use Rattle.step_rules.proofs.Rely.Moments.{Made, Moment, advance, load_owed, moment, seat, store_owed, world}
use Rattle.step_rules.proofs.Rely.Seeing.{lawful_seen, look_now, seeing, sees, sees_told, stock_seen}
use Rattle.step_rules.proofs.Numbers.Sets.{at_has, has_at, has-append, has_first, has_left, length-nodes_of, nodes_of-append, once-append, once_parts}
use Rattle.seat_history.proofs.Histories.{state_at-append}
use Rattle.step_rules.proofs.Numbers.Places.{at_more, there_at}

-- one entry more, which changes what it finds
history_more : (p : Plan) (log : List Entry) (e : Entry) → IsHistory p log → IsEntry p (state_at log (length log)) e → IsHistory p (log ++ e ∷ [])
history_more p log e h is = record {
  each = λ i f at. ⊎_elim
      (λ t. let l = t.0 in subst (λ c. IsEntry p c f) (sym (state_at-append log (e ∷ []) i (omega arith))) (h.each i f t.1))
      (λ t. subst (λ (q : Contents × Entry). IsEntry p q.0 q.1)
      (λ j. (sym (ap (state_at (log ++ e ∷ [])) t.0 ∙ state_at-append log (e ∷ []) (length log) (le_refl (length log))) j, t.1 j)) is)
      (at_more log e f i at);
}

-- the last one of a list, and what comes after it
at_end : {A : Type 0} (l : List A) (a : A) → get_elem? (l ++ a ∷ []) (length l) ≡ some a
at_end [] a = refl
at_end (x ∷ l) a = at_end l a

drop-end : {A : Type 0} (l : List A) (a : A) → drop (length l + 1) (l ++ a ∷ []) ≡ []
drop-end l a = subst (λ n. drop n (l ++ a ∷ []) ≡ []) (length-append l (a ∷ [])) (drop-length (l ++ a ∷ []))

pub backup_low : (p : Plan) (k : ℕ) → k < cells p → backup_at p k < nodes_at p
backup_low p k lt = omega arith

pub claim_apart : (p : Plan) (k w : ℕ) → w < CLAIMS * p.seats → w ≢ backup_at p k
claim_apart p k w lt e = omega arith

pub backup_one : (p : Plan) (j k : ℕ) → j ≢ k → backup_at p j ≢ backup_at p k
backup_one p j k ne e = ne (omega arith)

cell_inside : (m : Moment) {k x n : ℕ} {call : Call} → MayExchange k x n call m.view → k < cells m.view.plan
cell_inside m {x = x} may = subst (λ j. j < cells m.view.plan) may.cell ((seat m).claims.sound.told BACK (x / 2) may.back may.claimed (inl refl) may.stands).cell

-- the exchange won
module _ (m : Moment) {k x n : ℕ} {call : Call} (may : MayExchange k x n call m.view) (hit : backup_word m.view.plan m.ws k ≡ x) where
  abbrev p : Plan
  p = m.view.plan

  abbrev v : View
  v = m.view

  abbrev W : World
  W = world m

  abbrev log : List Entry
  log = m.unwritten.log

  abbrev id : ℕ
  id = m.id

  o : SeatOk p W id v
  o = seat m

  inside : k < cells p
  inside = cell_inside m may

  cell : IsCell p W k
  cell = m.rule.cells.cell k inside

  abbrev dropped : List Held
  dropped = dropped_of call v

  abbrev kept : List Held
  kept = kept_of call v

  abbrev fresh : List Held
  fresh = fresh_of n call v

  abbrev rs : List (List ℕ)
  rs = claimed_records v

  abbrev edit : Edit
  edit = claimed_edit call v

  parts : dropped ++ kept ≡ claimed_pages v
  parts = take-append-drop (dropped_count (length rs) edit) (claimed_pages v)

  -- the cell has the chain that the claim on Back stands on
  calm : NoneOn p k (drop may.back.at log)
  calm = subst (λ j. NoneOn p j (drop may.back.at log)) may.cell
      (o.claims.calm BACK (x / 2) may.back may.claimed (inl refl) may.stands (ap (λ y. y / 2) (ap W.backup may.cell ∙ hit)))

  chain_is : W.chain k ≡ claimed_pages v
  chain_is = subst (λ j. W.chain j ≡ may.back.pages) may.cell (o.claims.pages BACK (x / 2) may.back may.claimed (inl refl) may.stands (ap (λ y. y / 2) (ap W.backup may.cell ∙ hit)))
      ∙ ap (λ (y : Claim). y.pages) (sym (there_at v.claims BACK may.back (silent 0) may.claimed))

  records_now : rs ≡ records_at p log k
  records_now = ap records_of (sym chain_is) ∙ cell.records

  records_on : records_at p log (cell_of p call) ≡ rs
  records_on = ap (records_at p log) may.on ∙ sym records_now

  each_there : EachThere p log
  each_there i e f = (m.rule.history.each i e f).there

  changes_on : is_change_in (records_at p log (cell_of p call)) call ≡ true
  changes_on = ap (λ l. is_change_in l call) records_on ∙ may.changes

  changes : is_change (state_at log (length log)) call ≡ true
  changes = change_in p log call may.there each_there ∙ changes_on

  counted : IsCounted (dropped ++ kept)
  counted = subst IsCounted (chain_is ∙ sym parts) cell.counted

  within : Within (length rs) edit
  within = subst (λ l. Within (length l) (edit_of l call)) records_on (change_within p log call may.there changes_on)

  dropped_long : length dropped ≡ dropped_count (length rs) edit
  dropped_long = length-take-le (dropped_count (length rs) edit) (claimed_pages v)
      (subst (λ m. dropped_count (length rs) edit ≤ m) (sym (subst IsCounted chain_is cell.counted)) (dropped_within (length rs) edit within))

  fresh_long : length fresh ≡ need (length rs) edit
  fresh_long = length-followed v.own n (need (length rs) edit)

  all_records : rs ≡ records_of (dropped ++ kept)
  all_records = ap records_of (sym parts)

  edits : (records_of (fresh ++ kept) ≡ edited (records_of (dropped ++ kept)) edit) × IsCounted (fresh ++ kept)
  edits = chain_edit dropped kept fresh edit counted
      (subst (λ l. Within (length l) edit) all_records within)
      (dropped_long ∙ ap (λ l. dropped_count (length l) edit) all_records)
      (fresh_long ∙ ap (λ l. need (length l) edit) all_records)
      (may.records ∙ ap (λ l. fresh_records l edit) all_records)

  abbrev e : Entry
  e = entry (number v) call

  abbrev pub es : List Entry
  es = log ++ e ∷ []

  records_then : records_of (fresh ++ kept) ≡ records_at p es k
  records_then = edits.0 ∙ (ap (λ l. edited l edit) (sym all_records)
      ∙ (sym (cond-true (is_change_in rs call) (edited rs edit) rs may.changes)
      ∙ (ap (λ l. records_after l call) records_now ∙ sym (next_records p log e k may.on))))

  chained : Chained W (Live k) (dropped ++ kept) 0
  chained = subst (λ l. Chained W (Live k) l 0) (chain_is ∙ sym parts) cell.chained

  class_fresh : (m : ℕ) → has (nodes_of fresh) m ≡ true → W.class m ≡ Own id
  class_fresh m is = let f = at_has v.own m (may.own m is) in ap W.class (sym f.3) ∙ o.nodes.mine f.0 f.1 f.2

  class_dropped : (m : ℕ) → has (nodes_of dropped) m ≡ true → W.class m ≡ Live k
  class_dropped m is = chained_class W (Live k) dropped (link kept 0) m (chained_parts W (Live k) dropped kept 0 chained).0 is

  -- a fresh node is an own one, with its words
  fresh_own : (i : ℕ) (g : Held) → get_elem? fresh i ≡ some g → IsNode p g × (W.node g.node ≡ g.words)
  fresh_own i g f =
      let q = at_has v.own g.node (may.own g.node (has_at fresh i g f)) in
      let w : g.words ≡ q.1.words = followed_words v.own n (need (length rs) edit) i g f ∙ words_at g.node v.own q.0 q.1 o.nodes.once q.2 q.3 in
      let is = o.nodes.there q.0 q.1 q.2 in (
        record { there = subst (λ m. m < nodes p) q.3 is.there; wide = ap length w ∙ is.wide },
        ap (W.node) (sym q.3) ∙ (o.nodes.words q.0 q.1 q.2 ∙ sym w),
      )

  history : IsHistory p es
  history = history_more p log e m.rule.history (record {
    caller = o.numbers.below (number v) (has_first v.numbers m.numbered);
    there = may.there;
    changes = changes;
    wide = may.wide;
  })

  abbrev class' : ℕ → Class
  class' i = cond (has (nodes_of fresh) i) (Live k) (cond (has (nodes_of dropped) i) (Retired id) (W.class i))

  abbrev now : Unwritten
  now = record m.unwritten { class = class'; chain = set_at W.chain k (fresh ++ kept); log = es }

  abbrev ws' : List ℕ
  ws' = set m.ws (backup_at p k) (2 * n + 1)

  abbrev W' : World
  W' = record W { class = class'; chain = set_at W.chain k (fresh ++ kept); log = es; backup = set_at W.backup k (2 * n + 1) }

  is : world_of p ws' now ≡ W'
  is = λ j. record {
    class = class';
    node = λ i. node_low p m.ws (backup_at p k) (2 * n + 1) i (backup_low p k inside) j;
    backup = is_set W.backup (backup_word p ws') k (2 * n + 1) (let wide = m.rule.wide in backup_here p m.ws k (2 * n + 1) inside (omega arith))
        (λ i ne. backup_else p m.ws (backup_at p k) (2 * n + 1) i (λ _. backup_one p i k ne)) j;
    chain = set_at W.chain k (fresh ++ kept);
    holder = W.holder;
    log = es;
    word = λ w. claim_else p m.ws (backup_at p k) (2 * n + 1) w (λ lt. claim_apart p k w lt) j;
    guard = W.guard;
    version = λ i. (backup_store p m.ws k (2 * n + 1)).version i j;
    inline = λ i. (backup_store p m.ws k (2 * n + 1)).inline i j;
    locker = W.locker;
    source = W.source;
  }

  backup_new : W'.backup k ≡ 2 * n + 1
  backup_new = set_at_here W.backup k (2 * n + 1)

  fresh_head : link fresh 0 ≡ suc n
  fresh_head = followed_link v.own n (need (length rs) edit) (need_some (length rs) edit)

  some_fresh : 0 < length fresh
  some_fresh = subst (λ i. 0 < i) (sym fresh_long) (need_some (length rs) edit)

  exchange : Exchanges p id k dropped kept fresh (e ∷ []) W W'
  exchange = record {
    log = refl;
    by = λ y ne. ((λ q. ne (ap W.holder (sym q) ∙ o.numbers.held (number v) (has_first v.numbers m.numbered))), tt);
    here = λ none. none.0 may.on;
    there = λ j ne. ((λ q. ne (sym q ∙ may.on)), tt);
    holder = λ y. refl;
    before = chain_is ∙ sym parts;
    after = set_at_here W.chain k (fresh ++ kept);
    some_fresh = some_fresh;
    head = let b = backup_new in let f = fresh_head in omega arith;
    mine = linked_chained W (Own id) fresh (link kept 0) class_fresh (λ i g f. (fresh_own i g f).1) may.linked;
    known = λ i g f. (fresh_own i g f).0;
    others = λ j ne. (set_at_else W.backup k j (2 * n + 1) ne, set_at_else W.chain k j (fresh ++ kept) ne);
    into = λ i is. cond-true (has (nodes_of fresh) i) (Live k) (cond (has (nodes_of dropped) i) (Retired id) (W.class i)) is;
    out = λ i is none. cond-false (has (nodes_of fresh) i) (Live k) (cond (has (nodes_of dropped) i) (Retired id) (W.class i)) none
        ∙ cond-true (has (nodes_of dropped) i) (Retired id) (W.class i) is;
    class = λ i none none'. cond-false (has (nodes_of fresh) i) (Live k) (cond (has (nodes_of dropped) i) (Retired id) (W.class i)) none'
        ∙ cond-false (has (nodes_of dropped) i) (Retired id) (W.class i) none;
    node = λ i. refl;
    word = λ w. refl;
    guard = λ w. refl;
    version = λ j. refl;
    inline = λ j. refl;
    locker = λ j. refl;
    source = λ j u. refl;
  }

  cells_agree : CellsAgree p W'
  cells_agree = exchange_cells exchange cell m.rule.cells records_then edits.1

  retired_once : Once (v.retired ++ nodes_of dropped)
  retired_once = once-append v.retired (nodes_of dropped) o.nodes.retired_once
      (once_parts (nodes_of dropped) (nodes_of kept) (subst Once (nodes_of-append dropped kept) (chained_once W (Live k) (dropped ++ kept) chained))).0
      (λ m gone is. let e : Retired id ≡ Live k = sym (o.nodes.retired m gone) ∙ class_dropped m is in cc)

  abbrev pub winning : View
  winning = won_view k x n call log v

  -- all that was seen, and the entry
  whole : es ≡ v.seen ++ (o.seen.rest ++ e ∷ [])
  whole = ap (λ l. l ++ e ∷ []) o.seen.whole ∙ append_assoc v.seen o.seen.rest (e ∷ [])

  -- the records that the stand finds at its place
  at_place : records_at p (take (length log) es) (cell_of p call) ≡ rs
  at_place = ap (λ (l : List Entry). records_at p l (cell_of p call)) (take-append_seam log (e ∷ [])) ∙ records_on

  new_nodes : SeatNodes p W'.class W'.node id winning.own winning.retired
  new_nodes = exchange_nodes exchange cell v.own winning.own v.retired winning.retired o.nodes (without_all_at (nodes_of fresh) v.own) (once-without_all (nodes_of fresh) v.own o.nodes.once)
      retired_once (has-append v.retired (nodes_of dropped))

  new_stock : IsStock p (length v.numbers) es winning.stands (length winning.own + length winning.retired) winning.removes
  new_stock = stock_push (changing log call v) (length winning.own + length winning.retired) winning.removes
      (stock_seen o (o.seen.rest ++ e ∷ []) es whole)
      (subst (λ (l : List (List ℕ)). length winning.own + length winning.retired + cost_of (length l) (edit_of l call) ≡ length v.own + length v.retired + gain_of (length l)
      (edit_of l call)) (sym at_place)
      (omega (
        arith,
        edit_stock (length rs) edit within,
        dropped_long,
        fresh_long,
        length-append v.retired (nodes_of dropped),
        length-nodes_of dropped,
        length-nodes_of fresh,
        length-without_all (nodes_of fresh) v.own may.once o.nodes.once may.own,
      )))
      (let t = may.removes in omega arith)

  new_trail : IsTrail winning.since winning.trail es
  new_trail = let made = counted_step (BackupExchange k x n) x (length es) in subst (λ (i : ℕ). IsTrail i (v.trail ++ made ∷ []) es) (length-append v.trail (made ∷ []))
      (trail_stand (trail_step es made o.trail (o.seen.rest ++ e ∷ [], whole) (le_refl (length es))))

  head_there : (2 * n + 1) / 2 < nodes p
  head_there = let f = at_has v.own n (may.own n (head_has fresh n some_fresh fresh_head)) in
      let low : n < nodes p = subst (λ i. i < nodes p) f.3 (o.nodes.there f.0 f.1 f.2).there in omega arith

  -- the node that the exchange installs is the seat's own before, so that no change was in flight
  mine_is : claim_of OWN v ≡ may.mine
  mine_is = there_at v.claims OWN may.mine (silent 0) may.announced

  grounded : Flies v.writer → ⊥
  grounded flies =
      let on : On may.mine v.writer.node = subst (λ (y : Claim). On y v.writer.node) mine_is (o.writer.sound.own flies) in
      let a = on.at in let b = may.guarded.at in
      let same : n ≡ v.writer.node = omega arith in
      o.writer.free flies id (ap W.class (sym same) ∙ class_fresh n (head_has fresh n some_fresh fresh_head))

  new_writer : SeatWriter p (sites W') id es (claim_of OWN v) winning.writer
  new_writer = record {
    sound = record {
      cell = λ _. inside;
      own = λ _. subst (λ (y : Claim). On y n) (sym mine_is) may.guarded;
      change = λ _. (e, at_end log e, may.on);
      even = λ has. absurd (⊎_elim (λ q. cc) (λ q. cc) has);
      latest = λ has. absurd (⊎_elim (λ q. cc) (λ q. cc) has);
      stores = λ q. absurd cc;
    };
    before = λ _ u found. o.versions.found k u found;
    last = λ _ _. subst (NoneOn p k) (sym (drop-end log e)) tt;
    free = λ _ t own. let z : Live k ≡ Own t = sym (exchange.into n (head_has fresh n some_fresh fresh_head)) ∙ own in cc;
    locked = λ q. absurd cc;
    released = λ q. absurd cc;
    locks = λ j q. absurd (grounded (locked_flies v.writer (o.writer.locks j q).0));
    stays = λ _ _. let named = backup_new in omega arith;
    later = λ _ u found. (m.rule.versions k inside).dated u;
    sourced = λ q. absurd cc;
  }

  -- the cell is marked, and all others are as they were
  versioned : (j : ℕ) → j < cells p → VersionedAt p W' j
  versioned j lt = ⊎_elim
      (λ same. record {
        locked = before.locked;
        dated = dated;
        passed = passed;
        copied = λ _ still. absurd ((shorter still (before.dated (W.version j))).1.0 (may.on ∙ sym same));
        settled = λ even. absurd (let odd = ap W'.backup same ∙ backup_new in omega arith);
        untouched = λ none. absurd ((none_on_parts p j log (e ∷ []) none).1.0 (may.on ∙ sym same));
      })
      (λ ne. let stays = set_at_else W.backup k j (2 * n + 1) ne in record {
        locked = before.locked;
        dated = dated;
        passed = passed;
        copied = λ even still. before.copied even (shorter still (before.dated (W.version j))).0 ∙ ap (λ b. W.node (b / 2)) (sym stays);
        settled = λ even. let was = before.settled (omega arith) in (
          was.0,
          subst (NoneOn p j) (sym (drop-append-le (W.source j (W.version j)) log (e ∷ []) (before.dated (W.version j))))
              (none_on-append p j (drop (W.source j (W.version j)) log) (e ∷ []) was.1 (exchange.there j ne)),
        );
        untouched = λ none. let u = before.untouched (none_on_parts p j log (e ∷ []) none).0 in
            record { version_is = u.version_is; backup_is = stays ∙ u.backup_is; inline_are = u.inline_are; node_are = u.node_are };
      })
      (cases_eq j k)
    where
      before : VersionedAt p W j
      before = m.rule.versions j lt

      shorter : {a : ℕ} → NoneOn p j (drop a es) → a ≤ length log → NoneOn p j (drop a log) × NoneOn p j (e ∷ [])
      shorter {a} still le = none_on_parts p j (drop a log) (e ∷ []) (subst (NoneOn p j) (drop-append-le a log (e ∷ []) le) still)

      dated : (u : ℕ) → W.source j u ≤ length es
      dated u = let d = before.dated u in omega (arith, length-append log (e ∷ []))

      passed : (u : ℕ) → IsEven u → u < W.version j → ¬ NoneOn p j (drop (W.source j u) es)
      passed u even low still = before.passed u even low (shorter still (before.dated u)).0

  new_seat : SeatOk p W' id winning
  new_seat = record {
    plan = o.plan;
    numbers = o.numbers;
    nodes = new_nodes;
    stock = new_stock;
    seen = record { rest = []; whole = sym (append-nil es); own = λ y has. tt };
    earlier = goes_further v.earlier v.seen es (o.seen.rest ++ e ∷ []) o.earlier whole;
    trail = new_trail;
    lawful = lawful_change p v log call (lawful_seen o o.seen.rest log o.seen.whole o.seen.own) (has_first v.numbers m.numbered) may.there changes
        (kept_now v.numbers (changing log call v) refl refl (has_first v.numbers m.numbered) o.numbers.once o.lawful.by (stock_seen o (o.seen.rest ++ e ∷ []) es whole));
    look = look_now p W'.backup es k (2 * n + 1) inside head_there backup_new;
    claims = exchange_claims exchange cell v.numbers (number v) v.seen o.seen.rest v.claims o.seen.whole o.claims;
    scan = record {
      sound = record { old = λ i is. has_left v.retired (nodes_of dropped) i (o.scan.sound.old i is); counted = o.scan.sound.counted; within = o.scan.sound.within };
      found = o.scan.found;
    };
    versions = versions_step (counted_step (BackupExchange k x n) x (length es)) (λ j e. cc) o.versions;
    writer = new_writer;
    reader = subst (λ (l : List Entry). SeatReader p W.version W.inline l v.reader) (sym whole) (reader_more (o.seen.rest ++ e ∷ []) o.reader);
  }

  pub wins : Made m ws' winning
  wins = let left = may.left in advance m ws' now W' (e ∷ []) winning (record {
    is = is;
    wide = length-set m.ws (backup_at p k) (2 * n + 1) ∙ m.rule.wide;
    own = new_seat;
    others = exchange_leaves exchange cell;
    cells = cells_agree;
    guards = m.rule.guards;
    history = history;
    versions = versioned;
    lockers = m.rule.lockers;
    budget = omega (arith, length-append log (e ∷ []));
  })

  pub wins_told : Wins k x n call v winning
  wins_told = record {
    log = log;
    after = refl;
    rest = o.seen.rest;
    seen = o.seen.whole;
    recent = record { words = m.ws; views = m.vs; unwritten = m.unwritten; rule = m.rule; whole = refl; found = hit };
    calm = λ y f. subst (λ (q : Claim). NoneOn p k (drop q.at log)) (some-injective may.back y (sym may.claimed ∙ f)) calm;
  }

same_node : (n j : ℕ) → 2 * n + 1 ≡ 2 * j + 1 → n ≡ j
same_node n j e = omega arith

pub exchanges : (slots id : ℕ) (me : Mine) (k x n : ℕ) (call : Call) → 0 < length me.0.numbers → MayExchange k x n call me.0
    → Allows (Holds me.0.plan) slots id me (backup_at me.0.plan k) (λ y. either (y == x) (2 * n + 1) y) (exchanged call (step slots (backup_at me.0.plan k) x (2 * n + 1) none) me)
exchanges slots id me k x n call numbered may s r _ at _ =
    let v = me.0 in
    let m = moment id me numbered s r at in
    let place = backup_at v.plan k in
    let inside = cell_inside m may in
    let named = backup_is v.plan s.words k inside in
    let lost = seeing m (BackupExchange k x n) k inside in
    by_hit (get_or s.words place 0) x (2 * n + 1)
    (λ (z : ℕ). (w : View) × (a : Act Call) × Valid s.homes me.1 a × Holds v.plan (stepped s place z id me.1 w a)
    × exchanged call (step slots place x (2 * n + 1) none) me (get_or s.words place 0) (w, carried_after me.1 a))
    (λ hit. let found : backup_word v.plan s.words k ≡ x = sym named ∙ hit in let w = winning m may found in
    store_owed id me numbered s r at _ place (2 * n + 1) w (wins m may found) refl numbered (λ j i word second. (
      λ _. subst (λ (q : ℕ × ℕ). Wins q.0 x q.1 call v w) (λ t. (one_cell v.plan k j word t, same_node n i second t)) (wins_told m may found),
      λ miss. absurd (miss hit),
    )))
    -- the word found is another, and the exchange is a look
    (λ miss. load_owed id me numbered s r at _ place lost (sees m (BackupExchange k x n) k inside (λ j e. cc)) refl numbered (λ j i word second. (
      λ hit. absurd (miss hit),
      λ _. subst (λ (q : ℕ × ℕ × ℕ). Looks (BackupExchange q.0 x q.1) q.0 q.2 v lost) (λ t. (one_cell v.plan k j word t, same_node n i second t, sym named t))
          (sees_told m (BackupExchange k x n) k inside),
    )))
