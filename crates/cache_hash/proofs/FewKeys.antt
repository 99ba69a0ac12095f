-- Where pairs are only put in, a stand that is Full says that the table comes to have more keys than its shares are made for.
use Rattle.std.proofs.Common.{◌≡◌, ◌∙◌, ℕ, ◌+◌, ◌*◌, ◌<◌, ◌≤◌, suc, zero, Bool, true, false, not, ◌&&◌, ◌||◌, cond, eqb, List, [], ◌∷◌, ◌++◌, All, Option, Some, None}
use Rattle.std.proofs.Common.{length, take, drop, filter, map, count_by, is_none, is_some, nat_lt, refl, sym, ap, subst, arith, ⊎_elim}
use Rattle.std.specs.Bool.{⊤}
use Rattle.std.specs.Map.{keys_of}
use Rattle.std.specs.Option.{option_map_or}
use Rattle.std.proofs.lemmas.Bool.{cases_Bool, false_from_ne_true, false≢true, ltb-true, or_cases}
use Rattle.std.proofs.lemmas.List.{length-append, length-drop, length-map, length-take, take_all}
use Rattle.std.proofs.lemmas.List.Elements.{All-head, All-tail, All-take}
use Rattle.std.proofs.lemmas.List.Sums.{sum_by-cons, sum_by-take-le}
use Rattle.std.proofs.lemmas.Map.Entries.{length-keys_of}
use mathlib.Core.Option.{some}
use lib.ListN.{get_elem?, get_or}
use Rattle.big_atomic.proofs.Counting.{count_cons, count_push}
use Rattle.big_atomic.proofs.Lines.{all_line, line_counts}
use Rattle.cache_hash.specs.Keys.{HasFewKeys, NotFull, OnlyPuts}
use Rattle.seat_history.specs.Change.{is_change}
use Rattle.seat_history.specs.Contents.{Contents, blank, set_at, zeros}
use Rattle.seat_history.specs.History.{contents_from, state_at}
use Rattle.seat_history.specs.Key.{key_number}
use Rattle.seat_history.specs.Object.{Object, blank_object}
use Rattle.seat_history.specs.Pairs.{ArePairsOf, Pairs, value_in}
use Rattle.seat_history.specs.Step.{contents_after, is_same, is_value, values_after}
use Rattle.seat_history.specs.declared.call.Call.{Call}
use Rattle.seat_history.specs.declared.call.Call.TheVariants.{Find, Insert, Replace}
use Rattle.seat_history.specs.declared.entry.Entry.{Entry}
use Rattle.seat_history.specs.declared.key.KeyWords.{KeyWords}
use Rattle.seat_history.specs.declared.reply.Reply.{Reply}
use Rattle.seat_history.specs.declared.reply.Reply.TheVariants.{Full}
use Rattle.step_rules.proofs.Line.Lines.{Tells, line_tells}
use Rattle.step_rules.proofs.Numbers.Places.{at_there}
use Rattle.step_rules.proofs.Numbers.Sets.{at_most}
use Rattle.step_rules.proofs.Order.RecordsTell.{is_there_value, place_within}
use Rattle.step_rules.specs.Closing.{ClosedData, IsClosed}
use Rattle.step_rules.specs.History.{IsEntry, cell_of}
use Rattle.step_rules.specs.Lawful.{IsReply, entry_of, held_by, is_full}
use Rattle.step_rules.specs.Line.{after_stand, line_of, log_after}
use Rattle.step_rules.specs.Records.{cost_at, cost_of, edit_of, first_records, found_at, key_in, need, need_in, pair, place_in, records_after, records_at, records_from}
use Rattle.step_rules.specs.Records.{value_in as record_value}
use Rattle.step_rules.specs.SeatData.{IsSeat, SeatData}
use Rattle.step_rules.specs.Stock.{costs, stand_cost}
use Rattle.step_rules.specs.World.{Once, has}
use Rattle.step_rules.specs.declared.plan.Plan.{Plan}
use Rattle.step_rules.specs.declared.view.Stand.{Stand}

abbrev is_insert : Call → Bool
is_insert (Insert key val) = true
is_insert _ = false

abbrev inserts : List Entry → ℕ
inserts log = count_by (λ (e : Entry). is_insert e.call) log

-- the entries only put pairs and values
abbrev AllPut : List Entry → Type 0
AllPut [] = ⊤
AllPut (e ∷ log) = OnlyPuts e.call × AllPut log

set_length : (rs : List (List ℕ)) (i : ℕ) (new : List ℕ) → i < length rs → length (take i rs ++ new ∷ drop (suc i) rs) ≡ length rs
set_length rs i new below = omega (arith, length-append (take i rs) (new ∷ drop (suc i) rs), length-take i rs, length-drop (suc i) rs)

-- one record more where the call inserts
after_length : (rs : List (List ℕ)) (call : Call) → OnlyPuts call → length (records_after rs call) ≤ length rs + cond (is_insert call) 1 0
after_length rs (Find key) puts = omega arith
after_length rs (Insert key val) puts = inserted (is_none (record_value rs (key_number key)))
  where
    inserted : (b : Bool) → length (cond b (pair key val ∷ rs) rs) ≤ length rs + 1
    inserted true = omega arith
    inserted false = omega arith
after_length rs (Replace key old new) puts = ⊎_elim
    (λ t. let within = place_within rs (key_number key) (is_there_value (record_value rs (key_number key)) old (is_same old new) t) in
    subst (λ b. length (cond b (take i rs ++ pair key new ∷ drop (suc i) rs) rs) ≤ length rs + 0) (sym t) (omega (arith, set_length rs i (pair key new) within)))
    (λ f. subst (λ b. length (cond b (take i rs ++ pair key new ∷ drop (suc i) rs) rs) ≤ length rs + 0) (sym f) (omega arith))
    (cases_Bool (is_value (record_value rs (key_number key)) old && not (is_same old new)))
  where
    i : ℕ
    i = place_in rs (key_number key)
after_length rs _ puts = absurd puts

-- a cell has as many records at most as entries insert
records_length : (p : Plan) (k : ℕ) (rs : List (List ℕ)) (log : List Entry) → AllPut log → length (records_from p k rs log) ≤ length rs + inserts log
records_length p k rs [] all = omega arith
records_length p k rs (e ∷ log) all =
    let rest = records_length p k (cond (eqb (cell_of p e.call) k) (records_after rs e.call) rs) log all.1 in
    let first = either (eqb (cell_of p e.call) k) (after_length rs e.call all.0) in
    let count = count_cons (λ (e : Entry). is_insert e.call) e log in
    omega (arith, rest, first, count)
  where
    either : (b : Bool) → length (records_after rs e.call) ≤ length rs + cond (is_insert e.call) 1 0 → length (cond b (records_after rs e.call) rs) ≤ length rs + cond (is_insert e.call) 1 0
    either true here = here
    either false here = omega arith

place_most : (rs : List (List ℕ)) (n : ℕ) → place_in rs n ≤ length rs
place_most [] n = omega arith
place_most (r ∷ rs) n = either (eqb (key_in r) n) (place_most rs n)
  where
    either : (b : Bool) → place_in rs n ≤ length rs → cond b 0 (suc (place_in rs n)) ≤ suc (length rs)
    either true rest = omega arith
    either false rest = omega arith

-- a call needs one node more at most than its cell has records
need_most : (rs : List (List ℕ)) (call : Call) → OnlyPuts call → need (length rs) (edit_of rs call) ≤ length rs + 1
need_most rs (Find key) puts = omega arith
need_most [] (Insert key val) puts = omega arith
need_most (r ∷ rs) (Insert key val) puts = grind arith
need_most rs (Replace key old new) puts = omega (arith, place_most rs (key_number key))
need_most rs _ puts = absurd puts

-- a bucket is empty at the start
none_first : (p : Plan) (k : ℕ) → p.registers ≤ k → first_records p k ≡ []
none_first p k beyond = ap (λ b. cond b (zeros ∷ []) []) (false_from_ne_true (nat_lt k p.registers) (λ t. let below = ltb-true k p.registers t in omega arith))

puts_beyond : (p : Plan) (call : Call) → OnlyPuts call → p.registers ≤ cell_of p call
puts_beyond p (Find key) puts = omega arith
puts_beyond p (Insert key val) puts = omega arith
puts_beyond p (Replace key old new) puts = omega arith
puts_beyond p _ puts = absurd puts

front_puts : (n : ℕ) (log : List Entry) → AllPut log → AllPut (take n log)
front_puts zero log all = tt
front_puts (suc n) [] all = tt
front_puts (suc n) (e ∷ log) all = (all.0, front_puts n log all.1)

-- no call needs more nodes than the history has inserts, and one
few_needed : (p : Plan) (history : List Entry) (place : ℕ) (call : Call) → AllPut history → OnlyPuts call → need_in p (take place history) call ≤ inserts history + 1
few_needed p history place call all puts =
    let log = take place history in
    let k = cell_of p call in
    let first : length (first_records p k) ≡ 0 = ap (length {A = List ℕ}) (none_first p k (puts_beyond p call puts)) in
    let records : length (records_at p log k) ≤ length (first_records p k) + inserts log = records_length p k (first_records p k) log (front_puts place history all) in
    let front : inserts log ≤ inserts history = sum_by-take-le (λ (e : Entry). cond (is_insert e.call) 1 0) history place in
    omega (arith, need_most (records_at p log k) call puts, records, first, front)

-- so many keys have a value
record HasKeys (values : ℕ → Option (List ℕ)) (count : ℕ) : Type 0 where
  pub keys : List ℕ
  pub once : Once keys
  pub there : (n : ℕ) → has keys n ≡ true → is_some (values n) ≡ true
  pub long : length keys ≡ count

put_stays : (values : ℕ → Option (List ℕ)) (m n : ℕ) (val : List ℕ) → is_some (values n) ≡ true → is_some (set_at values m (Some val) n) ≡ true
put_stays values m n val is = either (eqb m n)
  where
    either : (b : Bool) → is_some (cond b (Some val) (values n)) ≡ true
    either true = refl
    either false = is

none_there : (o : Option (List ℕ)) → is_none o ≡ true → o ≡ None
none_there None e = refl
none_there (Some x) e = absurd (false≢true e)

replaced_stays : (values : ℕ → Option (List ℕ)) (key : KeyWords) (old new : List ℕ) (n : ℕ) → is_some (values n) ≡ true → is_some (values_after values (Replace key old new) n) ≡ true
replaced_stays values key old new n is = either (is_value (values (key_number key)) old)
  where
    either : (b : Bool) → is_some (cond b (set_at values (key_number key) (Some new)) values n) ≡ true
    either true = put_stays values (key_number key) n new is
    either false = is

module _ (values : ℕ → Option (List ℕ)) (key : KeyWords) (val : List ℕ) (count : ℕ) (none : values (key_number key) ≡ None) (old : HasKeys values count) where
  next_is : values_after values (Insert key val) ≡ set_at values (key_number key) (Some val)
  next_is = ap (λ o. option_map_or (λ _. values) o (set_at values (key_number key) (Some val))) none

  one_more : HasKeys (values_after values (Insert key val)) (count + 1)
  one_more = record {
    keys = key_number key ∷ old.keys;
    once = (false_from_ne_true (has old.keys (key_number key)) (λ h. false≢true (sym (ap is_some none) ∙ old.there (key_number key) h)), old.once);
    there = λ n h. subst (λ (f : ℕ → Option (List ℕ)). is_some (f n) ≡ true) (sym next_is) (⊎_elim
        (λ t. ap (λ b. is_some (cond b (Some val) (values n))) t)
        (λ t. put_stays values (key_number key) n val (old.there n t))
        (or_cases (eqb (key_number key) n) (has old.keys n) h));
    long = let long = old.long in omega (arith, long);
  }

key_step : (contents : Contents) (call : Call) (count : ℕ) → is_change contents call ≡ true → OnlyPuts call → HasKeys contents.values count
    → HasKeys (contents_after contents call).values (count + cond (is_insert call) 1 0)
key_step contents (Find key) count changes puts old = absurd (false≢true changes)
key_step contents (Insert key val) count changes puts old = one_more contents.values key val count (none_there (contents.values (key_number key)) changes) old
key_step contents (Replace key old_words new) count changes puts old = record {
  keys = old.keys;
  once = old.once;
  there = λ n h. replaced_stays contents.values key old_words new n (old.there n h);
  long = let long = old.long in omega (arith, long);
}
key_step contents _ count changes puts old = absurd puts

keys_grow : (p : Plan) (contents : Contents) (log : List Entry) (count : ℕ) → ((i : ℕ) (e : Entry) → get_elem? log i ≡ some e → IsEntry p (contents_from contents (take i log)) e)
    → AllPut log → HasKeys contents.values count → HasKeys (contents_from contents log).values (count + inserts log)
keys_grow p contents [] count each all old = record { keys = old.keys; once = old.once; there = old.there; long = let long = old.long in omega (arith, long) }
keys_grow p contents (e ∷ log) count each all old =
    let rest = keys_grow p (contents_after contents e.call) log (count + cond (is_insert e.call) 1 0) (λ i f at. each (suc i) f at) all.1
    (key_step contents e.call count (each 0 e refl).changes all.0 old) in
    let long = rest.long in
    record { keys = rest.keys; once = rest.once; there = rest.there; long = omega (arith, long, count_cons (λ (e : Entry). is_insert e.call) e log) }

-- a key with a value is among the pairs' keys
among : (pairs : Pairs) (n : ℕ) → is_some (value_in pairs n) ≡ true → has (map key_number (keys_of pairs)) n ≡ true
among [] n is = absurd (false≢true is)
among (pair_one ∷ pairs) n is = either (eqb (key_number pair_one.0) n) is (among pairs n)
  where
    either : (b : Bool) → is_some (cond b (Some pair_one.1) (value_in pairs n)) ≡ true → (is_some (value_in pairs n) ≡ true → has (map key_number (keys_of pairs)) n ≡ true)
        → (b || has (map key_number (keys_of pairs)) n) ≡ true
    either true e later = refl
    either false e later = later e

-- a history has as many inserts at most as the table has pairs after it
inserts_few : (p : Plan) (history : List Entry) (pairs : Pairs) → ((i : ℕ) (e : Entry) → get_elem? history i ≡ some e → IsEntry p (state_at history i) e) → AllPut history
    → ArePairsOf (state_at history (length history)).values pairs → inserts history ≤ length pairs
inserts_few p history pairs each all are =
    let start : HasKeys blank.values 0 = record { keys = []; once = tt; there = λ n h. absurd (false≢true h); long = refl } in
    let grown = keys_grow p blank history 0 each all start in
    let whole : state_at history (length history) ≡ contents_from blank history = ap (contents_from blank) (take_all (length history) history (omega arith)) in
    let few = at_most grown.keys (map key_number (keys_of pairs)) grown.once
    (λ n h. among pairs n (ap is_some (are.whole n) ∙ (ap (λ (c : Contents). is_some (c.values n)) whole ∙ grown.there n h))) in
    let long = grown.long in
    omega (arith, few, long, length-map (keys_of pairs) key_number, length-keys_of pairs)

-- the stand put a key in
abbrev puts_key : Stand → Bool
puts_key s = s.changes && is_insert s.call

cost_put : (rs : List (List ℕ)) (call : Call) → OnlyPuts call → cost_of (length rs) (edit_of rs call) ≤ cond (is_insert call) 1 0
cost_put rs (Find key) puts = omega arith
cost_put rs (Insert key val) puts = either (eqb (length rs) 0)
  where
    either : (b : Bool) → cond b 0 1 ≤ 1
    either true = omega arith
    either false = omega arith
cost_put rs (Replace key old new) puts = omega arith
cost_put rs _ puts = absurd puts

stand_least : (p : Plan) (history : List Entry) (s : Stand) → OnlyPuts s.call → stand_cost p history s ≤ cond (puts_key s) 1 0
stand_least p history s puts = either s.changes (cost_put (found_at p history s.place s.call) s.call puts)
  where
    either : (b : Bool) → cost_at p history s.place s.call ≤ cond (is_insert s.call) 1 0 → cond b (cost_at p history s.place s.call) 0 ≤ cond (b && is_insert s.call) 1 0
    either true most = most
    either false most = omega arith

-- so some of the stands cost no more than all of them put in
part_costs : (p : Plan) (history : List Entry) (f : Stand → Bool) (stands : List Stand) → All (λ (s : Stand). OnlyPuts s.call) stands → costs p history (filter f stands) ≤ count_by puts_key stands
part_costs p history f [] all = omega arith
part_costs p history f (s ∷ stands) all = either (f s) (part_costs p history f stands (All-tail (λ (t : Stand). OnlyPuts t.call) s stands all))
  where
    own : stand_cost p history s ≤ cond (puts_key s) 1 0
    own = stand_least p history s (All-head (λ (t : Stand). OnlyPuts t.call) s stands all)

    either : (b : Bool) → costs p history (filter f stands) ≤ count_by puts_key stands → costs p history (cond b (s ∷ filter f stands) (filter f stands)) ≤ count_by puts_key (s ∷ stands)
    either true rest = omega (arith, rest, own, sum_by-cons (stand_cost p history) s (filter f stands), count_cons puts_key s stands)
    either false rest = omega (arith, rest, count_cons puts_key s stands)

pushed : (log : List Entry) (e : Entry) → AllPut log → OnlyPuts e.call → AllPut (log ++ e ∷ [])
pushed [] e all puts = (puts, tt)
pushed (first ∷ log) e all puts = (all.0, pushed log e all.1 puts)

-- a line puts in as many keys as the history has inserts
line_puts : (p : Plan) (history : List Entry) (object : Object) (log : List Entry) (line : List Stand) → Tells p history object log line → All (λ (s : Stand). OnlyPuts s.call) line → AllPut log
    → (count_by puts_key line + inserts log ≡ inserts history) × AllPut history
line_puts p history object log [] tells all puts = (let same : inserts log ≡ inserts history = ap inserts tells in omega (arith, same), subst AllPut tells puts)
line_puts p history object log (s ∷ line) tells all puts =
    let own = All-head (λ (t : Stand). OnlyPuts t.call) s line all in
    let flag : log_after log object s ≡ cond s.changes (log ++ entry_of s ∷ []) log = ap (λ b. cond b (log ++ entry_of s ∷ []) log) (sym tells.2) in
    let now = subst (λ (l : List Entry). (inserts l ≡ inserts log + cond (puts_key s) 1 0) × AllPut l) (sym flag) (either s.changes own) in
    let rest = line_puts p history (after_stand object s) (log_after log object s) line tells.3 (All-tail (λ (t : Stand). OnlyPuts t.call) s line all) now.1 in
    (omega (arith, rest.0, now.0, count_cons puts_key s line), rest.1)
  where
    either : (b : Bool) → OnlyPuts s.call → (inserts (cond b (log ++ entry_of s ∷ []) log) ≡ inserts log + cond (b && is_insert s.call) 1 0) × AllPut (cond b (log ++ entry_of s ∷ []) log)
    either true own = (count_push (λ (e : Entry). is_insert e.call) log (entry_of s), pushed log (entry_of s) puts own)
    either false own = (omega arith, puts)

some_number : (numbers : List ℕ) (n : ℕ) → has numbers n ≡ true → 0 < length numbers
some_number [] n h = absurd (false≢true h)
some_number (x ∷ numbers) n h = omega arith

-- a Full stand was short of nodes
record IsShort (p : Plan) (log : List Entry) (s : Stand) : Type 0 where
  pub short : s.stock < need_in p log s.call + 4 * p.seats

full_short : (p : Plan) (log : List Entry) (s : Stand) (contents : Contents) (held : Option (List ℕ)) (reply : Reply) → IsReply p s.stock contents log held s.call reply → is_full reply ≡ true
    → IsShort p log s
full_short p log s contents held (Full need free) right full = record { short = omega (arith, right.need_is, right.few, right.least) }
full_short p log s contents held _ right full = absurd (false≢true full)

share_once : (a n : ℕ) → 0 < n → a ≤ a * n
share_once a zero more = absurd (omega arith)
share_once a (suc n) more = omega arith

module _ (most : ℕ) (seat : SeatData) (closed : ClosedData) (law : IsSeat seat) (is : IsClosed seat closed) (all : All (λ (s : Stand). OnlyPuts s.call) closed.stands)
    (few : HasFewKeys most closed) where
  abbrev line : List Stand
  line = line_of closed.plan.seats closed.history closed.stands

  told : (count_by puts_key line + inserts [] ≡ inserts closed.history) × AllPut closed.history
  told = line_puts closed.plan closed.history blank_object [] line (line_tells closed.plan seat.view.numbers closed.history closed.stands is.whole is.lawful is.callers)
      (all_line (λ (t : Stand). OnlyPuts t.call) closed.plan.seats closed.history closed.stands all) tt

  none_full : (i : ℕ) (s : Stand) → get_elem? closed.stands i ≡ some s → OnlyPuts s.call → is_full s.reply ≡ true → ⊥
  none_full i s at puts full =
      let before : List Stand = take i closed.stands in
      let short = (full_short closed.plan (take s.place closed.history) s (state_at closed.history s.place) (held_by closed.history s.by before) s.reply (is.lawful.right i s at).reply full).short in
      let kept = is.lawful.kept i s at in
      let even = kept.even in
      let shares = share_once closed.plan.share (length s.numbers) (some_number s.numbers s.by kept.own) in
      let same : count_by puts_key line ≡ count_by puts_key closed.stands = line_counts puts_key seat closed law is in
      let cost = part_costs closed.plan closed.history (λ (t : Stand). has s.numbers t.by) before (All-take (λ (t : Stand). OnlyPuts t.call) i closed.stands all) in
      let front : count_by puts_key before ≤ count_by puts_key closed.stands = sum_by-take-le (λ (t : Stand). cond (puts_key t) 1 0) closed.stands i in
      let needs = few_needed closed.plan closed.history s.place s.call told.1 puts in
      let keys = inserts_few closed.plan closed.history few.pairs is.whole.each told.1 few.are in
      let enough = few.few in
      let share = few.share in
      let line_is : count_by puts_key line + 0 ≡ inserts closed.history = told.0 in
      omega (arith, short, even, shares, line_is, same, cost, front, needs, keys, enough, share)

  pub few_keys_none_full : All NotFull closed.stands
  few_keys_none_full i d below = false_from_ne_true (is_full (get_or closed.stands i d).reply)
      (λ full. none_full i (get_or closed.stands i d) (at_there closed.stands i d below) (all i d below) full)
