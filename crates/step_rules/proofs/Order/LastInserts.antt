-- A bucket's records after a history, in the order of their keys' last inserts.
use Rattle.std.proofs.Common.{◌≡◌, ◌≢◌, ◌∙◌, ℕ, ◌+◌, ◌^◌, ◌<◌, ◌≤◌, suc, zero, true, false, not, ◌&&◌, cond, eqb, eq-eqb, ne_eqb, List, [], ◌∷◌}
use Rattle.std.proofs.Common.{◌++◌, Some, length, take, drop, get_or}
use Rattle.std.proofs.Common.{is_some, is_none, refl, sym, ap, subst, arith, ◌⊎◌, inl, inr, ⊎_elim}
use Rattle.std.specs.Prelude.{⊤, nat_lt}
use Rattle.std.proofs.lemmas.Bool.{cases_Bool, cases_eq, eqb-true, cond-true, cond-false, false≢true, ltb-true, false_from_ne_true}
use mathlib.Core.Option.{some, some-injective, some-ne-none}
use lib.ListN.{get_elem?}
use Rattle.seat_history.specs.Change.{is_change}
use Rattle.seat_history.specs.Contents.{Contents, blank, zeros}
use Rattle.seat_history.specs.History.{contents_from, state_at}
use Rattle.seat_history.specs.Key.{key_number}
use Rattle.seat_history.specs.Step.{contents_after, is_same, is_value}
use Rattle.seat_history.specs.declared.call.Call.{Call}
use Rattle.seat_history.specs.declared.call.Call.TheVariants.{Load, Store, Swap, Hold, Look, Release, Find, Insert, Replace, Remove}
use Rattle.seat_history.specs.declared.entry.Entry.{Entry}
use Rattle.seat_history.specs.declared.key.KeyWords.{KeyWords}
use Rattle.seat_history.specs.declared.words.TheConstants.{VALUE_WIDTH, WIDTH}
use Rattle.step_rules.proofs.Line.Ordering.{Each, each_map}
use Rattle.step_rules.proofs.Order.RecordsOrder.{AllBelow, Falling, after_entry, order_next}
use Rattle.step_rules.proofs.Order.RecordsTell.{EachOnce, Tells, bucket_records, change_in, else_tells, here_tells, is_there_value, step_once}
use Rattle.step_rules.specs.History.{AreWords, IsEntry, IsHistory, IsThere, IsWide, cell_of, key_cell}
use Rattle.step_rules.specs.Order.{AreRecordsOf, IsLastInsert, Needs, StandsAt, inserts}
use Rattle.step_rules.specs.Records.{edit_of, edited, first_records, is_change_in, key_in, need_in, out, pair, place_in, records_after, records_at, records_from, value_in}
use Rattle.step_rules.specs.Records as r
use Rattle.step_rules.specs.declared.plan.Plan.{Plan}

pub each_at : (P : List ℕ → Type 0) (xs : List (List ℕ)) (i : ℕ) (x : List ℕ) → Each P xs → get_elem? xs i ≡ some x → P x
each_at P [] i x h at = absurd (some-ne-none x (sym at))
each_at P (y ∷ xs) zero x h at = subst P (some-injective y x at) h.0
each_at P (y ∷ xs) (suc i) x h at = each_at P xs i x h.1 at

each_set : (P : List ℕ → Type 0) (xs : List (List ℕ)) (i : ℕ) (new : List ℕ) → P new → Each P xs → Each P (take i xs ++ new ∷ drop (suc i) xs)
each_set P [] zero new n h = (n, tt)
each_set P [] (suc i) new n h = (n, tt)
each_set P (x ∷ xs) zero new n h = (n, h.1)
each_set P (x ∷ xs) (suc i) new n h = (h.0, each_set P xs i new n h.1)

each_out : (P : List ℕ → Type 0) (xs : List (List ℕ)) (i : ℕ) → Each P xs → Each P (take i xs ++ drop (suc i) xs)
each_out P [] zero h = tt
each_out P [] (suc i) h = tt
each_out P (x ∷ xs) zero h = h.1
each_out P (x ∷ xs) (suc i) h = (h.0, each_out P xs i h.1)

-- what holds of all keys holds of one that has a value
key_known : (Q : ℕ → Type 0) (xs : List (List ℕ)) (n : ℕ) → Each (λ x. Q (key_in x)) xs → is_some (value_in xs n) ≡ true → Q n
key_known Q [] n h there = absurd (false≢true there)
key_known Q (x ∷ xs) n h there = ⊎_elim
    (λ e. subst Q (eqb-true (key_in x) n e) h.0)
    (λ e. key_known Q xs n h.1 (sym (ap is_some (cond-false (eqb (key_in x) n) (Some (drop 2 x)) (value_in xs n) e)) ∙ there))
    (cases_Bool (eqb (key_in x) n))

-- of the record that a change brings in
abbrev New : (List ℕ → Type 0) → List (List ℕ) → Call → Type 0
New P xs (Insert key val) = P (pair key val)
New P xs (Replace key old new) = is_some (value_in xs (key_number key)) ≡ true → P (pair key new)
New P xs _ = ⊤

each_after : (p : Plan) (P : List ℕ → Type 0) (xs : List (List ℕ)) (call : Call) (k : ℕ) → p.registers ≤ k → IsThere p call → cell_of p call ≡ k → is_change_in xs call ≡ true
    → New P xs call → Each P xs
    → Each P (edited xs (edit_of xs call))
each_after p P xs (Load reg) k high there on h new each = absurd (false≢true h)
each_after p P xs (Store reg new) k high there on h fresh each = absurd (omega arith)
each_after p P xs (Swap reg old new) k high there on h fresh each = absurd (omega arith)
each_after p P xs (Hold reg) k high there on h new each = absurd (false≢true h)
each_after p P xs Look k high there on h new each = absurd (false≢true h)
each_after p P xs Release k high there on h new each = absurd (false≢true h)
each_after p P xs (Find key) k high there on h new each = absurd (false≢true h)
each_after p P xs (Insert key val) k high there on h new each = (new, each)
each_after p P xs (Replace key old new) k high there on h fresh each =
    each_set P xs (place_in xs (key_number key)) (pair key new) (fresh (is_there_value (value_in xs (key_number key)) old (is_same old new) h)) each
each_after p P xs (Remove key) k high there on h new each = each_out P xs (place_in xs (key_number key)) each

-- the same order by another f that is the same on the records' keys
below_in : (f g : ℕ → ℕ) (m : ℕ) (xs : List (List ℕ)) → Each (λ x. g (key_in x) ≡ f (key_in x)) xs → AllBelow f m xs → AllBelow g m xs
below_in f g m [] same h = tt
below_in f g m (x ∷ xs) same h = (let s = same.0 in let l = h.0 in omega arith, below_in f g m xs same.1 h.1)

falling_in : (f g : ℕ → ℕ) (xs : List (List ℕ)) → Each (λ x. g (key_in x) ≡ f (key_in x)) xs → Falling f xs → Falling g xs
falling_in f g [] same h = tt
falling_in f g (x ∷ xs) same h = (subst (λ m. AllBelow g m xs) (sym same.0) (below_in f g (f (key_in x)) xs same.1 h.0), falling_in f g xs same.1 h.1)

pub below_at : (f : ℕ → ℕ) (m : ℕ) (xs : List (List ℕ)) (j : ℕ) (b : List ℕ) → AllBelow f m xs → get_elem? xs j ≡ some b → f (key_in b) < m
below_at f m [] j b h at = absurd (some-ne-none b (sym at))
below_at f m (x ∷ xs) zero b h at = subst (λ y. f (key_in y) < m) (some-injective x b at) h.0
below_at f m (x ∷ xs) (suc j) b h at = below_at f m xs j b h.1 at

falls_at : (f : ℕ → ℕ) (xs : List (List ℕ)) (i j : ℕ) (a b : List ℕ) → Falling f xs → i < j → get_elem? xs i ≡ some a → get_elem? xs j ≡ some b → f (key_in b) < f (key_in a)
falls_at f [] i j a b h lt at at' = absurd (some-ne-none a (sym at))
falls_at f (x ∷ xs) i zero a b h lt at at' = absurd (omega arith)
falls_at f (x ∷ xs) zero (suc j) a b h lt at at' = subst (λ y. f (key_in b) < f (key_in y)) (some-injective x a at) (below_at f (f (key_in x)) xs j b h.0 at')
falls_at f (x ∷ xs) (suc i) (suc j) a b h lt at at' = falls_at f xs i j a b h.1 (omega arith) at at'

-- the places after the keys' last inserts, where those of the entries from the place m on are these
abbrev pub last_from : ℕ → (ℕ → ℕ) → List Entry → ℕ → ℕ
last_from m f [] = f
last_from m f (e ∷ es) = last_from (suc m) (after_entry f m e.call) es

abbrev pub NoInsert : List Entry → ℕ → Type 0
NoInsert es n = (j : ℕ) (e : Entry) → get_elem? es j ≡ some e → inserts e.call n ≡ false

none_last : (m : ℕ) (f : ℕ → ℕ) (es : List Entry) (n : ℕ) → NoInsert es n → last_from m f es n ≡ f n
none_last m f [] n none = refl
none_last m f (e ∷ es) n none = none_last (suc m) (after_entry f m e.call) es n (λ j g at. none (suc j) g at) ∙ cond-false (inserts e.call n) (suc m) (f n) (none 0 e refl)

pub last_is : (m : ℕ) (f : ℕ → ℕ) (es : List Entry) (n i : ℕ) → IsLastInsert es n i → last_from m f es n ≡ suc (m + i)
last_is m f [] n i l = absurd (some-ne-none l.entry (sym l.at))
last_is m f (e ∷ es) n zero l =
    none_last (suc m) (after_entry f m e.call) es n (λ j g at. l.last (suc j) g (omega arith) at)
    ∙ (cond-true (inserts e.call n) (suc m) (f n) (subst (λ (g : Entry). inserts g.call n ≡ true) (sym (some-injective e l.entry l.at)) l.inserted) ∙ omega arith)
last_is m f (e ∷ es) n (suc i) l =
    last_is (suc m) (after_entry f m e.call) es n i (record { entry = l.entry; at = l.at; inserted = l.inserted; last = λ j g lt at. l.last (suc j) g (omega arith) at })
    ∙ omega arith

pub last_found : (m : ℕ) (f : ℕ → ℕ) (es : List Entry) (n : ℕ) → (last_from m f es n ≡ f n) × NoInsert es n ⊎ ((i : ℕ) × IsLastInsert es n i)
last_found m f [] n = inl (refl, λ j e at. absurd (some-ne-none e (sym at)))
last_found m f (e ∷ es) n = ⊎_elim
    (λ (t : (last_from (suc m) (after_entry f m e.call) es n ≡ after_entry f m e.call n) × NoInsert es n). ⊎_elim
    (λ is. inr (0, record { entry = e; at = refl; inserted = is; last = λ j g lt at. later j g t.1 lt at }))
    (λ no. inl (t.0 ∙ cond-false (inserts e.call n) (suc m) (f n) no, λ j g at. first j g t.1 no at))
    (cases_Bool (inserts e.call n)))
    (λ (t : (i : ℕ) × IsLastInsert es n i). inr (suc t.0, record { entry = t.1.entry; at = t.1.at; inserted = t.1.inserted; last = λ j g lt at. after j g t.0 t.1 lt at }))
    (last_found (suc m) (after_entry f m e.call) es n)
  where
    later : (j : ℕ) (g : Entry) → NoInsert es n → 0 < j → get_elem? (e ∷ es) j ≡ some g → inserts g.call n ≡ false
    later zero g none lt at = absurd (omega arith)
    later (suc j) g none lt at = none j g at

    first : (j : ℕ) (g : Entry) → NoInsert es n → inserts e.call n ≡ false → get_elem? (e ∷ es) j ≡ some g → inserts g.call n ≡ false
    first zero g none absent at = subst (λ (z : Entry). inserts z.call n ≡ false) (some-injective e g at) absent
    first (suc j) g none absent at = none j g at

    after : (j : ℕ) (g : Entry) (i : ℕ) → IsLastInsert es n i → suc i < j → get_elem? (e ∷ es) j ≡ some g → inserts g.call n ≡ false
    after zero g i l lt at = absurd (omega arith)
    after (suc j) g i l lt at = l.last j g (omega arith) at

-- each entry changes the contents that it finds
abbrev ChangesFrom : Plan → Contents → List Entry → Type 0
ChangesFrom p c [] = ⊤
ChangesFrom p c (e ∷ es) = IsEntry p c e × ChangesFrom p (contents_after c e.call) es

changes_from : (p : Plan) (c : Contents) (es : List Entry) → ((i : ℕ) (e : Entry) → get_elem? es i ≡ some e → IsEntry p (contents_from c (take i es)) e) → ChangesFrom p c es
changes_from p c [] each = tt
changes_from p c (e ∷ es) each = (each 0 e refl, changes_from p (contents_after c e.call) es (λ i g at. each (suc i) g at))

-- an entry on the bucket changes its records
change_here : (p : Plan) (xs : List (List ℕ)) (c : Contents) (call : Call) (k : ℕ) → p.registers ≤ k → IsThere p call → cell_of p call ≡ k → Tells p k xs c
    → is_change c call ≡ true
    → is_change_in xs call ≡ true
change_here p xs c (Load reg) k high there on tells h = absurd (false≢true h)
change_here p xs c (Store reg new) k high there on tells h = absurd (omega arith)
change_here p xs c (Swap reg old new) k high there on tells h = absurd (omega arith)
change_here p xs c (Hold reg) k high there on tells h = absurd (false≢true h)
change_here p xs c Look k high there on tells h = absurd (false≢true h)
change_here p xs c Release k high there on tells h = absurd (false≢true h)
change_here p xs c (Find key) k high there on tells h = absurd (false≢true h)
change_here p xs c (Insert key val) k high there on tells h = ap is_none (tells (key_number key) on) ∙ h
change_here p xs c (Replace key old new) k high there on tells h = ap (λ o. is_value o old && not (is_same old new)) (tells (key_number key) on) ∙ h
change_here p xs c (Remove key) k high there on tells h = ap is_some (tells (key_number key) on) ∙ h

-- the keys' last inserts f, and the records of the bucket
record InOrder (p : Plan) (k : ℕ) (f : ℕ → ℕ) (xs : List (List ℕ)) : Type 0 where
  keys : Each (λ x. key_cell p (key_in x) ≡ k) xs
  words : Each (AreWords WIDTH) xs
  known : Each (λ x. 0 < f (key_in x)) xs
  falls : Falling f xs

known_after : (f : ℕ → ℕ) (m : ℕ) (call : Call) (n : ℕ) → 0 < f n → 0 < after_entry f m call n
known_after f m call n h = ⊎_elim
    (λ e. subst (λ z. 0 < z) (sym (cond-true (inserts call n) (suc m) (f n) e)) (omega arith))
    (λ e. subst (λ z. 0 < z) (sym (cond-false (inserts call n) (suc m) (f n) e)) h)
    (cases_Bool (inserts call n))

bound_after : (f : ℕ → ℕ) (m : ℕ) (call : Call) → ((n : ℕ) → f n ≤ m) → (n : ℕ) → after_entry f m call n ≤ suc m
bound_after f m call bound n = ⊎_elim
    (λ e. subst (λ z. z ≤ suc m) (sym (cond-true (inserts call n) (suc m) (f n) e)) (omega arith))
    (λ e. subst (λ z. z ≤ suc m) (sym (cond-false (inserts call n) (suc m) (f n) e)) (let b = bound n in omega arith))
    (cases_Bool (inserts call n))

-- the words of a pair
pair_words : (key : KeyWords) (val : List ℕ) → (key.k0 < 2 ^ 64) × (key.k1 < 2 ^ 64) → AreWords VALUE_WIDTH val → AreWords WIDTH (pair key val)
pair_words key val fits words = record { long = ap (λ n. suc (suc n)) words.long; below = below }
  where
    below : (j : ℕ) → get_or (pair key val) j 0 < 2 ^ 64
    below zero = fits.0
    below (suc zero) = fits.1
    below (suc (suc j)) = words.below j

new_keys : (p : Plan) (k : ℕ) (xs : List (List ℕ)) (call : Call) → cell_of p call ≡ k → New (λ x. key_cell p (key_in x) ≡ k) xs call
new_keys p k xs (Insert key val) on = on
new_keys p k xs (Replace key old new) on = λ _. on
new_keys p k xs (Load reg) on = tt
new_keys p k xs (Store reg new) on = tt
new_keys p k xs (Swap reg old new) on = tt
new_keys p k xs (Hold reg) on = tt
new_keys p k xs Look on = tt
new_keys p k xs Release on = tt
new_keys p k xs (Find key) on = tt
new_keys p k xs (Remove key) on = tt

new_words : (xs : List (List ℕ)) (call : Call) → IsWide call → New (AreWords WIDTH) xs call
new_words xs (Insert key val) wide = pair_words key val wide.0 wide.1
new_words xs (Replace key old new) wide = λ _. pair_words key new wide.0 wide.1
new_words xs (Load reg) wide = tt
new_words xs (Store reg new) wide = tt
new_words xs (Swap reg old new) wide = tt
new_words xs (Hold reg) wide = tt
new_words xs Look wide = tt
new_words xs Release wide = tt
new_words xs (Find key) wide = tt
new_words xs (Remove key) wide = tt

new_known : (f : ℕ → ℕ) (m : ℕ) (xs : List (List ℕ)) (call : Call) → Each (λ x. 0 < f (key_in x)) xs → New (λ x. 0 < after_entry f m call (key_in x)) xs call
new_known f m xs (Insert key val) known = let n = key_number key in subst (λ z. 0 < z) (sym (cond-true (eqb n n) (suc m) (f n) (eq-eqb n n refl))) (omega arith)
new_known f m xs (Replace key old new) known = λ there. key_known (λ n. 0 < f n) xs (key_number key) known there
new_known f m xs (Load reg) known = tt
new_known f m xs (Store reg new) known = tt
new_known f m xs (Swap reg old new) known = tt
new_known f m xs (Hold reg) known = tt
new_known f m xs Look known = tt
new_known f m xs Release known = tt
new_known f m xs (Find key) known = tt
new_known f m xs (Remove key) known = tt

-- one entry on the bucket
order_here : (p : Plan) (f : ℕ → ℕ) (m : ℕ) (xs : List (List ℕ)) (call : Call) (k : ℕ) → p.registers ≤ k → IsThere p call → IsWide call → cell_of p call ≡ k
    → is_change_in xs call ≡ true → ((n : ℕ) → f n ≤ m)
    → InOrder p k f xs → InOrder p k (after_entry f m call) (records_after xs call)
order_here p f m xs call k high there wide on h bound o = record {
  keys = after (λ x. key_cell p (key_in x) ≡ k) (new_keys p k xs call on) o.keys;
  words = after (AreWords WIDTH) (new_words xs call wide) o.words;
  known = after (λ x. 0 < after_entry f m call (key_in x)) (new_known f m xs call o.known)
      (each_map (λ x. 0 < f (key_in x)) (λ x. 0 < after_entry f m call (key_in x)) xs (λ x known. known_after f m call (key_in x) known) o.known);
  falls = order_next f m xs call o.falls bound h
      (λ reg new e. let l : reg < p.registers = subst (IsThere p) e there in let q : reg ≡ k = ap (cell_of p) (sym e) ∙ on in absurd (omega arith))
      (λ reg old new e. let l : reg < p.registers = subst (IsThere p) e there in let q : reg ≡ k = ap (cell_of p) (sym e) ∙ on in absurd (omega arith));
}
  where
    after : (P : List ℕ → Type 0) → New P xs call → Each P xs → Each P (records_after xs call)
    after P new each = subst (Each P) (sym (cond-true (is_change_in xs call) (edited xs (edit_of xs call)) xs h)) (each_after p P xs call k high there on h new each)

-- an insert puts in a key of its cell
insert_on : (p : Plan) (call : Call) (n : ℕ) → inserts call n ≡ true → cell_of p call ≡ key_cell p n
insert_on p (Insert key val) n h = ap (key_cell p) (eqb-true (key_number key) n h)
insert_on p (Load reg) n h = absurd (false≢true h)
insert_on p (Store reg new) n h = absurd (false≢true h)
insert_on p (Swap reg old new) n h = absurd (false≢true h)
insert_on p (Hold reg) n h = absurd (false≢true h)
insert_on p Look n h = absurd (false≢true h)
insert_on p Release n h = absurd (false≢true h)
insert_on p (Find key) n h = absurd (false≢true h)
insert_on p (Replace key old new) n h = absurd (false≢true h)
insert_on p (Remove key) n h = absurd (false≢true h)

-- one on another cell
order_else : (p : Plan) (f : ℕ → ℕ) (m : ℕ) (xs : List (List ℕ)) (call : Call) (k : ℕ) → cell_of p call ≢ k → InOrder p k f xs → InOrder p k (after_entry f m call) xs
order_else p f m xs call k ne o = record {
  keys = o.keys;
  words = o.words;
  known = each_map (λ x. 0 < f (key_in x)) (λ x. 0 < after_entry f m call (key_in x)) xs (λ x known. known_after f m call (key_in x) known) o.known;
  falls = falling_in f (after_entry f m call) xs (each_map (λ x. key_cell p (key_in x) ≡ k) (λ x. after_entry f m call (key_in x) ≡ f (key_in x)) xs same o.keys) o.falls;
}
  where
    same : (x : List ℕ) → key_cell p (key_in x) ≡ k → after_entry f m call (key_in x) ≡ f (key_in x)
    same x at = cond-false (inserts call (key_in x)) (suc m) (f (key_in x)) (false_from_ne_true (inserts call (key_in x)) (λ t. ne (insert_on p call (key_in x) t ∙ at)))

order_from : (p : Plan) (c : Contents) (k m : ℕ) (f : ℕ → ℕ) (xs : List (List ℕ)) (es : List Entry) → p.registers ≤ k → ChangesFrom p c es → EachOnce xs → Tells p k xs c
    → ((n : ℕ) → f n ≤ m) → InOrder p k f xs
    → InOrder p k (last_from m f es) (records_from p k xs es)
order_from p c k m f xs [] high changes once tells bound o = o
order_from p c k m f xs (e ∷ es) high changes once tells bound o =
    let there = changes.0.there in
    let g = after_entry f m e.call in
    let d = contents_after c e.call in
    let P : List (List ℕ) → Type 0 = λ ys. InOrder p k (last_from (suc m) g es) (records_from p k ys es) in ⊎_elim
    (λ on. subst P (sym (cond-true (eqb (cell_of p e.call) k) (records_after xs e.call) xs (eq-eqb (cell_of p e.call) k on)))
    (order_from p d k (suc m) g (records_after xs e.call) es high changes.1 (step_once p xs e.call k high there once on) (here_tells p xs c e.call k high there once tells on)
    (bound_after f m e.call bound)
    (order_here p f m xs e.call k high there changes.0.wide on (change_here p xs c e.call k high there on tells changes.0.changes) bound o)))
    (λ ne. subst P (sym (cond-false (eqb (cell_of p e.call) k) (records_after xs e.call) xs (ne_eqb (cell_of p e.call) k ne)))
    (order_from p d k (suc m) g xs es high changes.1 once (else_tells p xs c e.call k tells ne) (bound_after f m e.call bound) (order_else p f m xs e.call k ne o)))
    (cases_eq (cell_of p e.call) k)

-- a bucket's records are its pairs, in the order of their last inserts
pub bucket_order : (p : Plan) (log : List Entry) (k : ℕ) → IsHistory p log → p.registers ≤ k → AreRecordsOf p log k (records_at p log k)
bucket_order p log k history high = record {
  values = (bucket_records p log k high (λ i e at. (history.each i e at).there)).1;
  keys = λ i r at. each_at (λ x. key_cell p (key_in x) ≡ k) (records_at p log k) i r o.keys at;
  words = λ i r at. each_at (AreWords WIDTH) (records_at p log k) i r o.words at;
  inserted = λ i r at. ⊎_elim
      (λ t. let l = each_at (λ x. 0 < f (key_in x)) (records_at p log k) i r o.known at in absurd (let z = t.0 in omega arith))
      (λ t. t)
      (last_found 0 (λ _. 0) log (key_in r));
  falling = λ i j s t a b lt at at' l l'. let q = falls_at f (records_at p log k) i j a b o.falls lt at at' in
      omega (arith, last_is 0 (λ _. 0) log (key_in a) s l, last_is 0 (λ _. 0) log (key_in b) t l');
}
  where
    f : ℕ → ℕ
    f = last_from 0 (λ _. 0) log

    none_first : first_records p k ≡ []
    none_first = cond-false (nat_lt k p.registers) (zeros ∷ []) [] (false_from_ne_true (nat_lt k p.registers) (λ t. let l = ltb-true k p.registers t in omega arith))

    o : InOrder p k f (records_at p log k)
    o = order_from p blank k 0 (λ _. 0) (first_records p k) log high (changes_from p blank log history.each)
        (subst EachOnce (sym none_first) tt) (λ n at. ap (λ rs. value_in rs n) none_first) (λ n. omega arith)
        (subst (InOrder p k (λ _. 0)) (sym none_first) (record { keys = tt; words = tt; known = tt; falls = tt }))

-- the place of a key
place_stands : (xs : List (List ℕ)) (n : ℕ) → is_some (value_in xs n) ≡ true → StandsAt xs n (place_in xs n)
place_stands [] n h = absurd (false≢true h)
place_stands (x ∷ xs) n h = ⊎_elim
    (λ e. subst (StandsAt (x ∷ xs) n) (sym (cond-true (eqb (key_in x) n) 0 (suc (place_in xs n)) e)) (record { rec = x; at = refl; key = eqb-true (key_in x) n e }))
    (λ e. let s = place_stands xs n (sym (ap is_some (cond-false (eqb (key_in x) n) (Some (drop 2 x)) (value_in xs n) e)) ∙ h) in
    subst (StandsAt (x ∷ xs) n) (sym (cond-false (eqb (key_in x) n) 0 (suc (place_in xs n)) e)) (record { rec = s.rec; at = s.at; key = s.key }))
    (cases_Bool (eqb (key_in x) n))

some_length : (xs : List (List ℕ)) → xs ≢ [] → eqb (length xs) 0 ≡ false
some_length [] there = absurd (there refl)
some_length (x ∷ xs) there = ne_eqb (suc (length xs)) 0 (λ e. absurd (omega arith))

needs_in : (xs : List (List ℕ)) (call : Call) → is_change_in xs call ≡ true → Needs xs call (r.need (length xs) (edit_of xs call))
needs_in xs (Load reg) h = absurd (false≢true h)
needs_in xs (Store reg new) h = refl
needs_in xs (Swap reg old new) h = refl
needs_in xs (Hold reg) h = absurd (false≢true h)
needs_in xs Look h = absurd (false≢true h)
needs_in xs Release h = absurd (false≢true h)
needs_in xs (Find key) h = absurd (false≢true h)
needs_in xs (Insert key val) h = (λ e. ap (λ (l : List (List ℕ)). cond (eqb (length l) 0) 1 2) e, λ there. cond-false (eqb (length xs) 0) 1 2 (some_length xs there))
needs_in xs (Replace key old new) h = (place_in xs (key_number key), place_stands xs (key_number key) (is_there_value (value_in xs (key_number key)) old (is_same old new) h), refl)
needs_in xs (Remove key) h = (place_in xs (key_number key), place_stands xs (key_number key) h, refl)

-- the need of a change is by its key's place among the records
pub need_told : (p : Plan) (log : List Entry) (call : Call) → IsHistory p log → IsThere p call → is_change (state_at log (length log)) call ≡ true
    → Needs (records_at p log (cell_of p call)) call (need_in p log call)
need_told p log call history there h = needs_in (records_at p log (cell_of p call)) call (sym (change_in p log call there (λ i e at. (history.each i e at).there)) ∙ h)
