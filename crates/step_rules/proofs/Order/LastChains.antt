-- The pairs of a closed object, read from the words of its buckets' chains.
use Rattle.std.proofs.Common.{◌≡◌, ◌≢◌, ◌∙◌, ℕ, ◌+◌, ◌-◌, ◌*◌, ◌<◌, ◌≤◌, suc, zero, cond, eqb, ne_eqb, ltb, List, [], ◌∷◌, Option, Some, None}
use Rattle.std.proofs.Common.{length, take, drop, get_or, refl, sym, ap}
use Rattle.std.proofs.Common.{subst, arith, ⊎_elim}
use Rattle.std.proofs.lemmas.Bool.{cases_Bool, cases_eq, cond-true, cond-false, eqb-true, le-ltb}
use Rattle.std.proofs.lemmas.List.{ext_get_or, length-drop, length-take-le, take-take}
use mathlib.Core.Option.{some}
use lib.ListN.{get_elem?}
use Rattle.seat_history.specs.Contents.{set_at, zeros}
use Rattle.seat_history.specs.History.{state_at}
use Rattle.seat_history.specs.declared.entry.Entry.{Entry}
use Rattle.seat_history.specs.declared.key.KeyWords.{KeyWords}
use Rattle.seat_history.specs.declared.words.TheConstants.{VALUE_WIDTH, WIDTH}
use Rattle.step_rules.proofs.Order.BucketOf.{bucket_below}
use Rattle.step_rules.proofs.Line.Counting.{change_cell}
use Rattle.step_rules.proofs.World.Frames.{words_at_place}
use Rattle.step_rules.proofs.Order.LastInserts.{bucket_order}
use Rattle.step_rules.proofs.Order.OneOrder.{not_among}
use Rattle.step_rules.proofs.Order.RecordsAt.{quiet_records}
use Rattle.step_rules.proofs.Order.RecordsTell.{EachOnce, bucket_records, value_at}
use Rattle.step_rules.specs.Closing.{IsChainAt, with_records}
use Rattle.step_rules.specs.History.{IsHistory, NoneOn, cell_of, key_cell}
use Rattle.step_rules.specs.Records.{first_records, key_in, pair, record_in, records_at, records_of, value_in}
use Rattle.step_rules.specs.World.{END, Linked, link, next_of}
use Rattle.step_rules.specs.declared.layout.TheConstants.{NODE_WIDTH}
use Rattle.step_rules.specs.declared.plan.Plan.{Plan}
use Rattle.step_rules.specs.declared.view.Held.{Held}

-- a record that was read word by word
pub pair_read : (ws : List ℕ) (first : ℕ) (key : KeyWords) (val : List ℕ) → first + WIDTH ≤ length ws → key.k0 ≡ get_or ws first 0 → key.k1 ≡ get_or ws (first + 1) 0
    → length val ≡ VALUE_WIDTH
    → ((k : ℕ) → k < VALUE_WIDTH → get_or val k 0 ≡ get_or ws (first + 2 + k) 0) → pair key val ≡ take WIDTH (drop first ws)
pair_read ws first key val room high low wide each = ext_get_or 0 (pair key val) (take WIDTH (drop first ws))
    (omega (arith, length-take-le WIDTH (drop first ws) (omega (arith, length-drop first ws))))
    (λ j lt. word j (omega arith) ∙ words_at_place ws first WIDTH j (omega arith))
  where
    word : (j : ℕ) → j < WIDTH → get_or (pair key val) j 0 ≡ get_or ws (first + j) 0
    word zero lt = high ∙ ap (λ i. get_or ws i 0) (omega arith)
    word (suc zero) lt = low
    word (suc (suc j)) lt = each j (omega arith) ∙ ap (λ i. get_or ws i 0) (omega arith)

linked_drop : (chain : List Held) (i : ℕ) → Linked chain 0 → Linked (drop i chain) 0
linked_drop chain zero l = l
linked_drop [] (suc i) l = tt
linked_drop (h ∷ r) (suc i) l = linked_drop r i l.1

-- the part of a chain from a place on
record Split (chain : List Held) (i : ℕ) : Type 0 where
  head : Held
  rest : List Held
  at : get_elem? chain i ≡ some head
  split : drop i chain ≡ head ∷ rest
  next : drop (suc i) chain ≡ rest

split_at : (chain : List Held) (i : ℕ) → i < length chain → Split chain i
split_at [] i lt = absurd (omega arith)
split_at (h ∷ r) zero lt = record { head = h; rest = r; at = refl; split = refl; next = refl }
split_at (h ∷ r) (suc i) lt = let s = split_at r i (omega arith) in record { head = s.head; rest = s.rest; at = s.at; split = s.split; next = s.next }

-- a chain was read up to its place i, where this node stands: the values so far, with the records that are left, are those of the whole
pub record GoesOn (old now : ℕ → Option (List ℕ)) (chain : List Held) (i node : ℕ) : Type 0 where
  pub more : i < length chain
  pub head : link (drop i chain) 0 ≡ node + 1
  pub values : with_records now (records_of (drop i chain)) ≡ with_records old (records_of chain)

pub starts : (ws : List ℕ) (start nodes first : ℕ) (old : ℕ → Option (List ℕ)) (chain : List Held) → IsChainAt ws start nodes first chain → GoesOn old old chain 0 first
starts ws start nodes first old chain is = record { more = some_node chain is.head; head = is.head; values = refl }
  where
    some_node : (c : List Held) → link c 0 ≡ first + 1 → 0 < length c
    some_node [] e = absurd (omega arith)
    some_node (h ∷ r) e = omega arith

module _ {ws : List ℕ} {start nodes first : ℕ} {old values : ℕ → Option (List ℕ)} {chain : List Held} {i node : ℕ}
    (is : IsChainAt ws start nodes first chain) (on : GoesOn old values chain i node) where
  s : Split chain i
  s = split_at chain i on.more

  node_is : s.head.node ≡ node
  node_is = let e : suc s.head.node ≡ node + 1 = ap (λ c. link c 0) (sym s.split) ∙ on.head in omega arith

  pub node_there : node < nodes
  node_there = subst (λ n. n < nodes) node_is (is.there i s.head s.at)

  -- its words are there
  pub node_room : (count : ℕ) → start + NODE_WIDTH * nodes ≤ count → start + NODE_WIDTH * node + NODE_WIDTH ≤ count
  node_room count wide = let l = node_there in omega arith

  words_are : take NODE_WIDTH (drop (start + NODE_WIDTH * node) ws) ≡ s.head.words
  words_are = ap (λ n. take NODE_WIDTH (drop (start + NODE_WIDTH * n) ws)) (sym node_is) ∙ is.words i s.head s.at

  -- the next word that is read
  next_is : (x : ℕ) → get_or ws (start + NODE_WIDTH * node + WIDTH) 0 ≡ x → get_or s.head.words (NODE_WIDTH - 1) 0 ≡ x
  next_is x e = ap (λ l. get_or l WIDTH 0) (sym words_are) ∙ (sym (words_at_place ws (start + NODE_WIDTH * node) NODE_WIDTH WIDTH (omega arith)) ∙ e)

  linked : next_of s.head.words ≡ link s.rest 0
  linked = (subst (λ c. Linked c 0) s.split (linked_drop chain i is.linked)).0

  no_link : (c : List Held) → link c 0 ≡ 0 → c ≡ []
  no_link [] e = refl
  no_link (h ∷ r) e = absurd (omega arith)

  left : with_records values (records_of (s.head ∷ s.rest)) ≡ with_records old (records_of chain)
  left = ap (λ c. with_records values (records_of c)) (sym s.split) ∙ on.values

  -- the node has no record, and is the last
  pub ends_empty : get_or ws (start + NODE_WIDTH * node + WIDTH) 0 ≡ END → values ≡ with_records old (records_of chain)
  ends_empty e =
      let x = next_is END e in
      let none : s.rest ≡ [] = no_link s.rest (sym linked ∙ ap (λ y. cond (eqb y END) 0 y) x) in
      sym (ap (λ (c : List Held). with_records values (records_of (s.head ∷ c))) none
      ∙ ap (λ y. with_records values (cond (eqb y END) [] (record_in s.head.words ∷ []))) x) ∙ left

  -- it has this record
  record_left : (x : ℕ) (key : KeyWords) (val : List ℕ) → get_or ws (start + NODE_WIDTH * node + WIDTH) 0 ≡ x → x ≢ END
      → pair key val ≡ take WIDTH (drop (start + NODE_WIDTH * node) ws)
      → with_records values (records_of (s.head ∷ s.rest)) ≡ with_records (set_at values (key_in (pair key val)) (Some val)) (records_of s.rest)
  record_left x key val e ne read =
      let rec : record_in s.head.words ≡ pair key val = ap (take WIDTH) (sym words_are) ∙ (take-take WIDTH NODE_WIDTH (drop (start + NODE_WIDTH * node) ws) (omega arith) ∙ sym read) in
      ap (λ b. with_records values (cond b (records_of s.rest) (record_in s.head.words ∷ records_of s.rest)))
      (ne_eqb (get_or s.head.words (NODE_WIDTH - 1) 0) END (λ q. ne (sym (next_is x e) ∙ q)))
      ∙ ap (λ r. with_records values (r ∷ records_of s.rest)) rec

  -- and is the last
  pub ends_last : (key : KeyWords) (val : List ℕ) (values' : ℕ → Option (List ℕ))
      → get_or ws (start + NODE_WIDTH * node + WIDTH) 0 ≡ 0 → pair key val ≡ take WIDTH (drop (start + NODE_WIDTH * node) ws)
      → values' ≡ set_at values (key_in (pair key val)) (Some val) → values' ≡ with_records old (records_of chain)
  ends_last key val values' e read more =
      let none : s.rest ≡ [] = no_link s.rest (sym linked ∙ ap (λ y. cond (eqb y END) 0 y) (next_is 0 e)) in
      more ∙ (sym (record_left 0 key val e (λ q. absurd (omega arith)) read ∙ ap (λ (c : List Held). with_records (set_at values (key_in (pair key val)) (Some val)) (records_of c)) none)
      ∙ left)

  -- or goes on
  pub goes_on : (x : ℕ) (key : KeyWords) (val : List ℕ) (values' : ℕ → Option (List ℕ)) → get_or ws (start + NODE_WIDTH * node + WIDTH) 0 ≡ x → x ≢ END → x ≢ 0
      → pair key val ≡ take WIDTH (drop (start + NODE_WIDTH * node) ws) → values' ≡ set_at values (key_in (pair key val)) (Some val) → GoesOn old values' chain (i + 1) (x - 1)
  goes_on x key val values' e ne some_next read more =
      let next : next_of s.head.words ≡ x = ap (λ y. cond (eqb y END) 0 y) (next_is x e) ∙ cond-false (eqb x END) 0 x (ne_eqb x END ne) in
      let to : link s.rest 0 ≡ x = sym linked ∙ next in
      let same : i + 1 ≡ suc i = omega arith in
      let here : drop (i + 1) chain ≡ s.rest = ap (λ k. drop k chain) same ∙ s.next in record {
        more = further s.rest (λ none. some_next (sym to ∙ ap (λ c. link c 0) none)) (sym here);
        head = ap (λ c. link c 0) here ∙ (to ∙ omega arith);
        values = ap (λ (z : (ℕ → Option (List ℕ)) × List Held). with_records z.0 (records_of z.1)) (λ j. (more j, here j)) ∙ (sym (record_left x key val e ne read) ∙ left);
      }
    where
      further : (c : List Held) → c ≢ [] → c ≡ drop (i + 1) chain → i + 1 < length chain
      further [] apart same = absurd (apart refl)
      further (h ∷ r) apart same = omega (arith, length-drop (i + 1) chain, ap (length {A = Held}) same)

  -- no chain has more nodes than there are
  pub not_past : nodes ≤ i → ⊥
  not_past le = let m = on.more in let short = is.short in omega arith

-- MEANING: the values of all records are the map's

-- the values of the first n buckets' records
abbrev pub bucket_values : Plan → List Entry → ℕ → ℕ → Option (List ℕ)
bucket_values p log zero = λ _. None
bucket_values p log (suc n) = with_records (bucket_values p log n) (records_at p log (p.registers + n))

else_value : (values : ℕ → Option (List ℕ)) (rs : List (List ℕ)) (n : ℕ) → value_in rs n ≡ None → with_records values rs n ≡ values n
else_value values [] n none = refl
else_value values (r ∷ rs) n none = ⊎_elim
    (λ e. absurd (let q : Some (drop 2 r) ≡ None = sym (cond-true (eqb (key_in r) n) (Some (drop 2 r)) (value_in rs n) e) ∙ none in cc))
    (λ e. else_value (set_at values (key_in r) (Some (drop 2 r))) rs n (sym (cond-false (eqb (key_in r) n) (Some (drop 2 r)) (value_in rs n) e) ∙ none)
    ∙ cond-false (eqb (key_in r) n) (Some (drop 2 r)) (values n) e)
    (cases_Bool (eqb (key_in r) n))

here_value : (values : ℕ → Option (List ℕ)) (rs : List (List ℕ)) (n : ℕ) → EachOnce rs → values n ≡ None → with_records values rs n ≡ value_in rs n
here_value values [] n once none = none
here_value values (r ∷ rs) n once none = ⊎_elim
    (λ e. let is = eqb-true (key_in r) n e in
    else_value (set_at values (key_in r) (Some (drop 2 r))) rs n (ap (value_in rs) (sym is) ∙ once.0)
    ∙ (cond-true (eqb (key_in r) n) (Some (drop 2 r)) (values n) e ∙ sym (cond-true (eqb (key_in r) n) (Some (drop 2 r)) (value_in rs n) e)))
    (λ e. here_value (set_at values (key_in r) (Some (drop 2 r))) rs n once.1 (cond-false (eqb (key_in r) n) (Some (drop 2 r)) (values n) e ∙ none)
    ∙ sym (cond-false (eqb (key_in r) n) (Some (drop 2 r)) (value_in rs n) e))
    (cases_Bool (eqb (key_in r) n))

-- a bucket without the key leaves its value
else_bucket : (p : Plan) (log : List Entry) (b n : ℕ) → IsHistory p log → key_cell p n ≢ p.registers + b → bucket_values p log (suc b) n ≡ bucket_values p log b n
else_bucket p log b n history ne =
    let k = p.registers + b in
    else_value (bucket_values p log b) (records_at p log k) n (not_among p k n (records_at p log k) (bucket_order p log k history (omega arith)).keys ne)

later_bucket : (p : Plan) (log : List Entry) (b n : ℕ) → IsHistory p log → p.registers + b ≤ key_cell p n → bucket_values p log b n ≡ None
later_bucket p log zero n history le = refl
later_bucket p log (suc b) n history le = else_bucket p log b n history (λ e. omega arith) ∙ later_bucket p log b n history (omega arith)

bucket_value : (p : Plan) (log : List Entry) (b n : ℕ) → IsHistory p log → key_cell p n < p.registers + b → bucket_values p log b n ≡ (state_at log (length log)).values n
bucket_value p log zero n history lt = absurd (omega arith)
bucket_value p log (suc b) n history lt = ⊎_elim
    (λ here. let k = p.registers + b in
    here_value (bucket_values p log b) (records_at p log k) n (bucket_records p log k (omega arith) (λ i e at. (history.each i e at).there)).0 (later_bucket p log b n history (omega arith))
    ∙ (bucket_order p log k history (omega arith)).values n here)
    (λ ne. else_bucket p log b n history ne ∙ bucket_value p log b n history (omega arith))
    (cases_eq (key_cell p n) (p.registers + b))

-- no entry is on a cell that isn't there
none_past : (p : Plan) (k : ℕ) (log : List Entry) → ((i : ℕ) (e : Entry) → get_elem? log i ≡ some e → cell_of p e.call ≢ k) → NoneOn p k log
none_past p k [] apart = tt
none_past p k (e ∷ log) apart = (apart 0 e refl, none_past p k log (λ i g at. apart (suc i) g at))

-- without buckets no key has a value
no_value : (p : Plan) (log : List Entry) (n : ℕ) → IsHistory p log → p.buckets ≡ 0 → (state_at log (length log)).values n ≡ None
no_value p log n history none =
    let k = key_cell p n in
    let past : p.registers ≤ k = omega arith in
    sym (value_at p log n (λ i e at. (history.each i e at).there))
    ∙ (ap (λ rs. value_in rs n) (quiet_records p k (first_records p k) log (none_past p k log (λ i e at on.
    let is = history.each i e at in
    let low = change_cell p (state_at log i) e.call is.there is.changes in
    absurd (omega arith)))
    ∙ cond-false (ltb k p.registers) (zeros ∷ []) [] (le-ltb k p.registers past)))

-- the values of all buckets' records are those of the map
pub all_values : (p : Plan) (log : List Entry) (n : ℕ) → IsHistory p log → bucket_values p log p.buckets n ≡ (state_at log (length log)).values n
all_values p log n history = ⊎_elim
    (λ none. ap (λ b. bucket_values p log b n) none ∙ sym (no_value p log n history none))
    (λ there. let lt = bucket_below p.buckets n (omega arith) in bucket_value p log p.buckets n history (omega arith))
    (cases_eq p.buckets 0)
