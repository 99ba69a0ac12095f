-- No node is lost: what the stands cost and gave is what the chains have more than one node a cell.
use Rattle.std.proofs.Common.{◌≡◌, ◌∙◌, ℕ, ◌+◌, ◌<◌, ◌≤◌, suc, zero, Bool, true, false, ◌&&◌, cond, eqb, ltb, List, [], ◌∷◌, ◌++◌, length, take, get_or}
use Rattle.std.proofs.Common.{sum_by, refl, sym, ap, arith, ⊎_elim}
use Rattle.std.specs.Prelude.{max}
use Rattle.std.proofs.lemmas.Bool.{cases_Bool, cases_eq, eqb-true, cond-true, cond-false, false≢true, le-ltb, lt-ltb}
use Rattle.std.proofs.lemmas.List.{take_all}
use Rattle.std.proofs.lemmas.List.Sums.{sum_by-cons}
use mathlib.Core.Option.{some}
use lib.ListN.{get_elem?}
use Rattle.seat_history.specs.Change.{is_change}
use Rattle.seat_history.specs.Contents.{Contents, blank, zeros}
use Rattle.seat_history.specs.History.{contents_from, state_at}
use Rattle.seat_history.specs.Key.{key_number}
use Rattle.seat_history.specs.declared.call.Call.{Call}
use Rattle.seat_history.specs.declared.call.Call.TheVariants.{Load, Store, Swap, Hold, Look, Release, Find, Insert, Replace, Remove}
use Rattle.seat_history.specs.declared.entry.Entry.{Entry}
use Rattle.step_rules.proofs.Order.BucketOf.{key_there}
use Rattle.step_rules.proofs.Order.Edits.{edit_length, edit_stock}
use Rattle.step_rules.proofs.World.Frames.{either_part}
use Rattle.step_rules.proofs.Line.Lines.{OneEach, one_each, take_one}
use Rattle.step_rules.proofs.Numbers.Places.{at_below, at_take, at_there, there_at}
use Rattle.step_rules.proofs.Order.RecordsAt.{next_records, same_records}
use Rattle.step_rules.proofs.Order.RecordsTell.{EachThere, change_in, change_within, register_records}
use Rattle.step_rules.specs.Closing.{bucket_nodes, live_nodes}
use Rattle.step_rules.specs.History.{IsHistory, IsThere, cell_of}
use Rattle.step_rules.specs.Layout.{cells}
use Rattle.step_rules.specs.Lawful.{Lawful, entry_of}
use Rattle.step_rules.specs.Line.{entry_at}
use Rattle.step_rules.specs.Records.{cost_at, cost_of, edit_of, edited, gain_at, gain_of, is_change_in, records_at}
use Rattle.step_rules.specs.Stock.{costs, gains, stand_cost, stand_gain}
use Rattle.step_rules.specs.World.{has}
use Rattle.step_rules.specs.declared.plan.Plan.{Plan}
use Rattle.step_rules.specs.declared.view.Stand.{Stand}

-- the nodes of the first n cells' chains
chain_nodes : Plan → List Entry → ℕ → ℕ
chain_nodes p log zero = 0
chain_nodes p log (suc n) = chain_nodes p log n + max 1 (length (records_at p log n))

-- f of the first n numbers, added up
sum_to : (ℕ → ℕ) → ℕ → ℕ
sum_to f zero = 0
sum_to f (suc n) = sum_to f n + f n

-- STANDS: each entry is one of them

-- what the stands at places below n come to
below : (ℕ → ℕ) → ℕ → Stand → ℕ
below f n s = cond s.changes (cond (ltb s.place n) (f s.place) 0) 0

at_place : (ℕ → ℕ) → ℕ → Stand → ℕ
at_place f n s = cond (s.changes && eqb s.place n) (f n) 0

below_next : (f : ℕ → ℕ) (n : ℕ) (s : Stand) → below f (suc n) s ≡ below f n s + at_place f n s
unfolding below at_place
below_next f n s = go s.changes
  where
    place : cond (ltb s.place (suc n)) (f s.place) 0 ≡ cond (ltb s.place n) (f s.place) 0 + cond (eqb s.place n) (f n) 0
    place = grind (arith, eqb-true s.place n)

    go : (b : Bool) → cond b (cond (ltb s.place (suc n)) (f s.place) 0) 0 ≡ cond b (cond (ltb s.place n) (f s.place) 0) 0 + cond (b && eqb s.place n) (f n) 0
    go true = place
    go false = refl

sum_next : (f : ℕ → ℕ) (n : ℕ) (ss : List Stand) → sum_by (below f (suc n)) ss ≡ sum_by (below f n) ss + sum_by (at_place f n) ss
sum_next f n [] = refl
sum_next f n (s ∷ ss) = omega (arith, sum_by-cons (below f (suc n)) s ss, sum_by-cons (below f n) s ss, sum_by-cons (at_place f n) s ss, below_next f n s, sum_next f n ss)

sum_at : (f : ℕ → ℕ) (n : ℕ) (ss : List Stand) → sum_by (at_place f n) ss ≡ sum_by (λ _. f n) (entry_at n ss)
unfolding at_place
sum_at f n [] = refl
sum_at f n (s ∷ ss) = ⊎_elim
    (λ e. omega (
      arith,
      sum_by-cons (at_place f n) s ss,
      sum_at f n ss,
      ap (λ b. cond b (f n) 0) e,
      ap (λ b. sum_by (λ _. f n) (cond b (s ∷ entry_at n ss) (entry_at n ss))) e,
      sum_by-cons (λ _. f n) s (entry_at n ss),
    ))
    (λ e. omega (
      arith,
      sum_by-cons (at_place f n) s ss,
      sum_at f n ss,
      ap (λ b. cond b (f n) 0) e,
      ap (λ b. sum_by (λ _. f n) (cond b (s ∷ entry_at n ss) (entry_at n ss))) e,
    ))
    (cases_Bool (s.changes && eqb s.place n))

sum_none : (f : ℕ → ℕ) (ss : List Stand) → sum_by (below f 0) ss ≡ 0
unfolding below
sum_none f [] = refl
sum_none f (s ∷ ss) = omega (arith, sum_by-cons (below f 0) s ss, sum_none f ss, none s.changes)
  where
    none : (b : Bool) → cond b (cond (ltb s.place 0) (f s.place) 0) 0 ≡ 0
    none true = cond-false (ltb s.place 0) (f s.place) 0 (le-ltb s.place 0 (omega arith))
    none false = refl

sum_places : (f : ℕ → ℕ) (seats n : ℕ) (history : List Entry) (ss : List Stand) → OneEach seats history ss → n ≤ length history → sum_by (below f n) ss ≡ sum_to f n
unfolding sum_to
sum_places f seats zero history ss one le = sum_none f ss
sum_places f seats (suc n) history ss one le = let e = one n le in
    omega (arith, sum_next f n ss, sum_places f seats n history ss one (omega arith), sum_at f n ss, ap (sum_by (λ _. f n)) e.1, sum_by-cons (λ _. f n) e.0 [])

-- the whole, where each stand that changes is at a place of the history and counts what f says of the place
sum_whole : (f : ℕ → ℕ) (g : Stand → ℕ) (n : ℕ) (ss : List Stand) → ((i : ℕ) (s : Stand) → get_elem? ss i ≡ some s → g s ≡ below f n s)
    → sum_by g ss ≡ sum_by (below f n) ss
sum_whole f g n [] same = refl
sum_whole f g n (s ∷ ss) same = omega (arith, sum_by-cons g s ss, sum_by-cons (below f n) s ss, same 0 s refl, sum_whole f g n ss (λ i t at. same (suc i) t at))

-- HISTORY: each entry makes its cell's chain longer by what it costs, and shorter by what it gives

call_at : List Entry → ℕ → Call
call_at log q = (get_or log q (record { caller = 0; call = Look })).call

cost_to : Plan → List Entry → ℕ → ℕ
cost_to p log q = cost_at p log q (call_at log q)

gain_to : Plan → List Entry → ℕ → ℕ
gain_to p log q = gain_at p log q (call_at log q)

-- entries on another cell
chain_else : (p : Plan) (log : List Entry) (e : Entry) (n : ℕ) → n ≤ cell_of p e.call → chain_nodes p (log ++ e ∷ []) n ≡ chain_nodes p log n
unfolding chain_nodes
chain_else p log e zero le = refl
chain_else p log e (suc n) le = (λ i. chain_else p log e n (omega arith) i + max 1 (length (same_records p log (e ∷ []) n ((λ q. absurd (omega arith)), tt) i)))

-- one that changes the records of its cell
chain_here : (p : Plan) (log : List Entry) (e : Entry) → IsThere p e.call → EachThere p log → is_change_in (records_at p log (cell_of p e.call)) e.call ≡ true
    → max 1 (length (records_at p (log ++ e ∷ []) (cell_of p e.call))) + gain_of (length (records_at p log (cell_of p e.call))) (edit_of (records_at p log (cell_of p e.call)) e.call)
    ≡ max 1 (length (records_at p log (cell_of p e.call))) + cost_of (length (records_at p log (cell_of p e.call))) (edit_of (records_at p log (cell_of p e.call)) e.call)
chain_here p log e there each changes =
    let rs = records_at p log (cell_of p e.call) in
    let edit = edit_of rs e.call in
    let within = change_within p log e.call there changes in
    omega (
      arith,
      edit_length rs edit within,
      edit_stock (length rs) edit within,
      ap (λ (l : List (List ℕ)). max 1 (length l)) (next_records p log e (cell_of p e.call) refl ∙ cond-true (is_change_in rs e.call) (edited rs edit) rs changes),
    )

chain_next : (p : Plan) (log : List Entry) (e : Entry) (n : ℕ) → IsThere p e.call → EachThere p log → is_change_in (records_at p log (cell_of p e.call)) e.call ≡ true
    → cell_of p e.call < n
    → chain_nodes p (log ++ e ∷ []) n + gain_of (length (records_at p log (cell_of p e.call))) (edit_of (records_at p log (cell_of p e.call)) e.call)
    ≡ chain_nodes p log n + cost_of (length (records_at p log (cell_of p e.call))) (edit_of (records_at p log (cell_of p e.call)) e.call)
unfolding chain_nodes
chain_next p log e zero there each changes lt = absurd (omega arith)
chain_next p log e (suc n) there each changes lt = ⊎_elim
    (λ here. omega (
      arith,
      chain_else p log e n (omega arith),
      chain_here p log e there each changes,
      ap (λ k. max 1 (length (records_at p (log ++ e ∷ []) k))) here,
      ap (λ k. max 1 (length (records_at p log k))) here,
    ))
    (λ ne. omega (arith, chain_next p log e n there each changes (omega arith), ap (λ (l : List (List ℕ)). max 1 (length l)) (same_records p log (e ∷ []) n (ne, tt))))
    (cases_eq (cell_of p e.call) n)

-- at the start each cell has one node
chain_first : (p : Plan) (n : ℕ) → chain_nodes p [] n ≡ n
unfolding chain_nodes
chain_first p zero = refl
chain_first p (suc n) = omega (arith, chain_first p n, first (ltb n p.registers))
  where
    first : (b : Bool) → max 1 (length (cond b (zeros ∷ []) [])) ≡ 1
    first true = refl
    first false = refl

-- the cell of a change is there
pub change_cell : (p : Plan) (c : Contents) (call : Call) → IsThere p call → is_change c call ≡ true → cell_of p call < cells p
change_cell p c (Load reg) there h = absurd (false≢true h)
change_cell p c (Store reg new) there h = omega arith
change_cell p c (Swap reg old new) there h = omega arith
change_cell p c (Hold reg) there h = absurd (false≢true h)
change_cell p c Look there h = absurd (false≢true h)
change_cell p c Release there h = absurd (false≢true h)
change_cell p c (Find key) there h = absurd (false≢true h)
change_cell p c (Insert key val) there h = key_there p (key_number key) there
change_cell p c (Replace key old new) there h = key_there p (key_number key) there
change_cell p c (Remove key) there h = key_there p (key_number key) there

history_even : (p : Plan) (log : List Entry) (q : ℕ) → IsHistory p log → q ≤ length log
    → chain_nodes p (take q log) (cells p) + sum_to (gain_to p log) q ≡ cells p + sum_to (cost_to p log) q
unfolding sum_to gain_to cost_to call_at
history_even p log zero history le = omega (arith, chain_first p (cells p))
history_even p log (suc q) history le =
    let d : Entry = record { caller = 0; call = Look } in
    let e = get_or log q d in
    let at = at_there log q d le in
    let is = history.each q e at in
    let part = take q log in
    let each : EachThere p part = λ i g found. (history.each i g (at_take log q i g found)).there in
    let changes : is_change_in (records_at p part (cell_of p e.call)) e.call ≡ true =
    sym (change_in p part e.call is.there each) ∙ (ap (λ (l : List Entry). is_change (contents_from blank l) e.call) (take_all (length part) part (omega arith)) ∙ is.changes) in
    omega (
      arith,
      history_even p log q history (omega arith),
      chain_next p part e (cells p) is.there each changes (change_cell p (state_at log q) e.call is.there is.changes),
      ap (λ (l : List Entry). chain_nodes p l (cells p)) (take_one log q e at),
    )

-- the cells' chains are the registers' and the buckets'
chain_registers : (p : Plan) (log : List Entry) (n : ℕ) → n ≤ p.registers → chain_nodes p log n ≡ n
unfolding chain_nodes
chain_registers p log zero le = refl
chain_registers p log (suc n) le = omega (arith, chain_registers p log n (omega arith), ap (λ (l : List (List ℕ)). max 1 (length l)) (register_records p log n le))

chain_buckets : (p : Plan) (log : List Entry) (n : ℕ) → chain_nodes p log (p.registers + n) ≡ p.registers + bucket_nodes p log n
unfolding chain_nodes
chain_buckets p log zero = let e : p.registers + 0 ≡ p.registers = omega arith in omega (arith, ap (chain_nodes p log) e, chain_registers p log p.registers (omega arith))
chain_buckets p log (suc n) = let e : p.registers + suc n ≡ suc (p.registers + n) = omega arith in omega (arith, ap (chain_nodes p log) e, chain_buckets p log n)

-- the nodes in cells at the start, and after one more change
pub live_first : (p : Plan) → live_nodes p [] ≡ cells p
live_first p = omega (arith, chain_first p (cells p), chain_buckets p [] p.buckets)

pub live_next : (p : Plan) (log : List Entry) (e : Entry) → IsThere p e.call → EachThere p log → is_change (state_at log (length log)) e.call ≡ true
    → live_nodes p (log ++ e ∷ []) + gain_at p log (length log) e.call ≡ live_nodes p log + cost_at p log (length log) e.call
live_next p log e there each changes =
    let whole = take_all (length log) log (omega arith) in
    let cost : cost_at p log (length log) e.call ≡ cost_of (length (records_at p log (cell_of p e.call))) (edit_of (records_at p log (cell_of p e.call)) e.call)
    = ap (λ (l : List Entry). cost_of (length (records_at p l (cell_of p e.call))) (edit_of (records_at p l (cell_of p e.call)) e.call)) whole in
    let gain : gain_at p log (length log) e.call ≡ gain_of (length (records_at p log (cell_of p e.call))) (edit_of (records_at p log (cell_of p e.call)) e.call)
    = ap (λ (l : List Entry). gain_of (length (records_at p l (cell_of p e.call))) (edit_of (records_at p l (cell_of p e.call)) e.call)) whole in
    omega (
      arith,
      cost,
      gain,
      chain_next p log e (cells p) there each (sym (change_in p log e.call there each) ∙ changes) (change_cell p (state_at log (length log)) e.call there changes),
      chain_buckets p log p.buckets,
      chain_buckets p (log ++ e ∷ []) p.buckets,
    )

stand_costs : (p : Plan) (seen : List Entry) (s : Stand) → (s.changes ≡ true → get_elem? seen s.place ≡ some (entry_of s)) → stand_cost p seen s ≡ below (cost_to p seen) (length seen) s
unfolding below cost_to call_at
stand_costs p seen s told = either_part s.changes 0 (λ changes.
    ap (λ (e : Entry). cost_at p seen s.place e.call) (sym (there_at seen s.place (entry_of s) (record { caller = 0; call = Look }) (told changes)))
    ∙ sym (cond-true (ltb s.place (length seen)) (cost_at p seen s.place (call_at seen s.place)) 0 (lt-ltb s.place (length seen) (at_below seen s.place (entry_of s) (told changes)))))

stand_gains : (p : Plan) (seen : List Entry) (s : Stand) → (s.changes ≡ true → get_elem? seen s.place ≡ some (entry_of s)) → stand_gain p seen s ≡ below (gain_to p seen) (length seen) s
unfolding below gain_to call_at
stand_gains p seen s told = either_part s.changes 0 (λ changes.
    ap (λ (e : Entry). gain_at p seen s.place e.call) (sym (there_at seen s.place (entry_of s) (record { caller = 0; call = Look }) (told changes)))
    ∙ sym (cond-true (ltb s.place (length seen)) (gain_at p seen s.place (call_at seen s.place)) 0 (lt-ltb s.place (length seen) (at_below seen s.place (entry_of s) (told changes)))))

-- what the stands of all callers cost and gave
pub nodes_even : (p : Plan) (numbers : List ℕ) (seen : List Entry) (stands : List Stand) → IsHistory p seen → Lawful p numbers seen stands
    → ((x : ℕ) → x < p.seats → has numbers x ≡ true)
    → live_nodes p seen + gains p seen stands ≡ cells p + costs p seen stands
nodes_even p numbers seen stands history lawful all =
    let n = length seen in
    let one = one_each p numbers seen stands history lawful all in
    let cost : costs p seen stands ≡ sum_to (cost_to p seen) n =
    sum_whole (cost_to p seen) (stand_cost p seen) n stands (λ i s at. stand_costs p seen s (lawful.right i s at).entry) ∙ sum_places (cost_to p seen) p.seats n seen stands one (omega arith) in
    let gain : gains p seen stands ≡ sum_to (gain_to p seen) n =
    sum_whole (gain_to p seen) (stand_gain p seen) n stands (λ i s at. stand_gains p seen s (lawful.right i s at).entry) ∙ sum_places (gain_to p seen) p.seats n seen stands one (omega arith) in
    omega (arith, cost, gain, history_even p seen n history (omega arith), ap (λ (l : List Entry). chain_nodes p l (cells p)) (take_all n seen (omega arith)), chain_buckets p seen p.buckets)
