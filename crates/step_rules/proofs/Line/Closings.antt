-- What a seat that holds all numbers knows at the end.
use Rattle.std.proofs.Common.{◌≡◌, ◌∙◌, ℕ, ◌+◌, ◌*◌, ◌/◌, ◌<◌, ◌≤◌, true, List, [], ◌∷◌, ◌++◌, length, get_or, set, ⊎_elim, ap, sym, subst, arith}
use Rattle.std.proofs.Math.Nat.{mul_comm}
use Rattle.std.proofs.lemmas.Bool.{cases_eq}
use Rattle.std.proofs.lemmas.Grind.{get_or-set_at}
use Rattle.std.proofs.lemmas.List.{append-nil, get_or-set_other, get_or_append_left}
use mathlib.Core.Option.{some}
use lib.ListN.{get_elem?}
use Rattle.atomic_table.specs.Table.{State}
use Rattle.seat_history.specs.History.{state_at}
use Rattle.seat_history.specs.declared.call.Call.{Call}
use Rattle.seat_history.specs.declared.entry.Entry.{Entry}
use Rattle.seat_history.specs.declared.words.TheConstants.{WIDTH}
use Rattle.step_rules.proofs.World.Chains.{chained_at, chained_linked}
use Rattle.step_rules.proofs.World.Contents.{wide_register}
use Rattle.step_rules.proofs.Line.Counting.{nodes_even}
use Rattle.step_rules.proofs.World.Frames.{backup_is, node_is}
use Rattle.step_rules.proofs.Order.Fronts.{chained_once}
use Rattle.step_rules.proofs.Ties.Tied.{IsWhole}
use Rattle.step_rules.proofs.Line.Lines.{in_one_line, seen_whole}
use Rattle.step_rules.proofs.Rely.Seeing.{RegisterNode, register_node}
use Rattle.step_rules.proofs.Numbers.Sets.{all_there, at_has, at_most_below, length-nodes_of}
use Rattle.step_rules.proofs.World.Sizes.{nodes_parts}
use Rattle.step_rules.specs.Closing.{EndsWith, HasBucket, live_nodes}
use Rattle.step_rules.specs.History.{IsHistory}
use Rattle.step_rules.specs.Lawful.{Lawful}
use Rattle.step_rules.specs.Layout.{backup_at, node_at, nodes}
use Rattle.step_rules.specs.Line.{InOneLine}
use Rattle.step_rules.specs.Rule.{Holds, HoldsAt, backup_word, world_of}
use Rattle.step_rules.specs.Seats.{SeatOk}
use Rattle.step_rules.specs.World.{Live, has, nodes_of, Unwritten}
use Rattle.step_rules.specs.declared.plan.Plan.{Plan}
use Rattle.step_rules.specs.declared.seat.Seat.TheInside.{Inside}
use Rattle.step_rules.specs.declared.view.View.{View}
use Rattle.step_rules.proofs.Numbers.Places.{there_at}

-- the words, and the seat's view
pub record Closes (p : Plan) (ws : List ℕ) (v : View) : Type 0 where
  pub ends : EndsWith p ws v.seen
  pub history : IsHistory p v.seen
  pub callers : (x : ℕ) → x < p.seats → has v.numbers x ≡ true
  pub lawful : Lawful p v.numbers v.seen v.stands
  pub line : InOneLine p v.seen v.stands

-- the words of the cells' nodes
ends_with : (p : Plan) (ws : List ℕ) (vs : List View) (U : Unwritten) → HoldsAt p ws vs U → EndsWith p ws U.log
ends_with p ws vs U h = record {
  wide = h.wide;
  node = λ r lt. subst (λ b. b / 2 < nodes p) (sym (backup_is p ws r (omega arith))) (node r lt).is.there;
  register = λ r j lt inside. ap (λ b. get_or ws (node_at p (b / 2) j) 0) (backup_is p ws r (omega arith))
      ∙ (node_is p ws (backup_word p ws r / 2) j (omega arith) ∙ (ap (λ l. get_or l j 0) (node r lt).words
      ∙ get_or_append_left ((state_at U.log (length U.log)).registers r) (0 ∷ []) 0 j (subst (λ n. j < n) (sym (wide_register p U.log (length U.log) r h.history)) inside)));
  record_wide = λ r. wide_register p U.log (length U.log) r h.history;
  bucket = λ b lt. has_bucket b lt;
}
  where
    has_bucket : (b : ℕ) → b < p.buckets → HasBucket p ws U.log b
    has_bucket b lt =
        let k = p.registers + b in
        let cell = h.cells.cell k (omega arith) in record {
          chain = U.chain k;
          at = record {
            head = cell.head ∙ ap (λ x. x / 2 + 1) (sym (backup_is p ws k (omega arith)));
            linked = chained_linked (world_of p ws U) (Live k) (U.chain k) 0 cell.chained;
            there = λ i g at. (cell.node i g at).there;
            words = λ i g at. (chained_at (world_of p ws U) (Live k) (U.chain k) 0 i g cell.chained at).1;
            short = subst (λ n. n ≤ nodes p) (length-nodes_of (U.chain k))
                (at_most_below (nodes_of (U.chain k)) (nodes p) (chained_once (world_of p ws U) (Live k) (U.chain k) cell.chained)
                (λ m m_there. let q = at_has (U.chain k) m m_there in subst (λ n. n < nodes p) q.3 (cell.node q.0 q.1 q.2).there));
          };
          records = cell.records;
        }

    node : (r : ℕ) → r < p.registers → RegisterNode p (world_of p ws U) (state_at U.log (length U.log)) r
    node r lt = register_node p (world_of p ws U) r lt (h.cells.cell r (omega arith))

pub closes : (p : Plan) (s : State Call View) (id : ℕ) (v : View) → Holds p s → get_elem? s.views id ≡ some v → length v.numbers ≡ p.seats → Closes p s.words v
closes p s id v r at all = record {
  ends = subst (EndsWith p s.words) seen_all (ends_with p s.words s.views r.unwritten r.at);
  history = history;
  callers = callers;
  lawful = ok.lawful;
  line = in_one_line p v.numbers v.seen v.stands history ok.lawful callers;
}
  where
    ok : SeatOk p (world_of p s.words r.unwritten) id v
    ok = r.at.seats id v at

    callers : (x : ℕ) → x < p.seats → has v.numbers x ≡ true
    callers x lt = all_there v.numbers p.seats x ok.numbers.once ok.numbers.below all lt

    seen_all : r.unwritten.log ≡ v.seen
    seen_all = ok.seen.whole ∙ (ap (λ l. v.seen ++ l) (seen_whole p r.unwritten.log v.seen ok.seen.rest v.numbers r.at.history ok.seen.whole ok.seen.own callers) ∙ append-nil v.seen)

    history : IsHistory p v.seen
    history = subst (IsHistory p) seen_all r.at.history

-- no node is lost
pub none_lost : (p : Plan) (s : Inside) → IsWhole s → s.holding.items ≡ [] → s.inner.me.0.plan ≡ p → length s.inner.me.0.numbers ≡ p.seats
    → length s.free.items + live_nodes p s.inner.me.0.seen + length s.retired.items ≡ nodes p
none_lost p s whole none ours all =
    let v = s.inner.me.0 in
    let sound = whole.0.sound in
    let long = whole.0.long in
    let stock = sound.stock.even in
    let whole_plan : length v.numbers ≡ v.plan.seats = all ∙ ap (λ (q : Plan). q.seats) (sym ours) in
    let even = nodes_even v.plan v.numbers v.seen v.stands sound.history sound.lawful (λ x lt. all_there v.numbers v.plan.seats x sound.once sound.below whole_plan lt) in
    let shares : v.plan.share * length v.numbers ≡ v.plan.share * v.plan.seats = ap (λ n. v.plan.share * n) whole_plan in
    subst (λ (q : Plan). length s.free.items + live_nodes q v.seen + length s.retired.items ≡ nodes q) ours
    (omega (arith, even, ap (length {A = ℕ}) none, ap (length {A = ℕ}) whole.4, nodes_parts v.plan, mul_comm v.plan.seats v.plan.share, shares))

-- n is a register's node
pub record RegisterAt (p : Plan) (ws : List ℕ) (history : List Entry) (r n : ℕ) : Type 0 where
  pub there : n < nodes p
  pub words : (j x : ℕ) → j < WIDTH → get_elem? ws (node_at p n j) ≡ some x → x ≡ get_or ((state_at history (length history)).registers r) j 0

-- the word x of a register's backup names its node
pub register_at : (p : Plan) (ws : List ℕ) (history : List Entry) (r i x : ℕ) → EndsWith p ws history → r < p.registers → i ≡ backup_at p r → get_elem? ws i ≡ some x
    → RegisterAt p ws history r (x / 2)
register_at p ws history r i x ends there place found = record {
  there = subst (λ b. b / 2 < nodes p) is (ends.node r there);
  words = λ j y inside at. sym (there_at ws (node_at p (x / 2) j) y 0 at) ∙ (ap (λ b. get_or ws (node_at p (b / 2) j) 0) (sym is) ∙ ends.register r j there inside);
}
  where
    is : get_or ws (backup_at p r) 0 ≡ x
    is = ap (λ k. get_or ws k 0) (sym place) ∙ there_at ws i x 0 found

-- one more word of a record was read
pub read_more : (rec want : List ℕ) (j x : ℕ) → j < length rec → x ≡ get_or want j 0 → ((k : ℕ) → k < j → get_or rec k 0 ≡ get_or want k 0) → (k : ℕ) → k < j + 1
    → get_or (set rec j x) k 0 ≡ get_or want k 0
read_more rec want j x inside is before k below = ⊎_elim
    (λ e. get_or-set_at rec j k x 0 (sym e) inside ∙ (is ∙ ap (λ i. get_or want i 0) e))
    (λ ne. get_or-set_other rec j k x 0 (λ e. ne (sym e)) ∙ before k (omega arith))
    (cases_eq j k)
