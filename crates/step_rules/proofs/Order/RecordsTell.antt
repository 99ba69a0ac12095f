-- The records of a cell tell the contents of the plain object.
use Rattle.std.proofs.Common.{◌≡◌, ◌≢◌, ◌∙◌, ℕ, ◌<◌, ◌≤◌, suc, Bool, true, false, not, ◌&&◌, cond, eqb, eq-eqb, ne_eqb, List, [], ◌∷◌, Option, Some, None}
use Rattle.std.proofs.Common.{length, is_some, is_none, refl}
use Rattle.std.proofs.Common.{sym, ap, subst, arith, ⊎_elim}
use Rattle.std.specs.Option.{option_map_or}
use Rattle.std.specs.Prelude.{⊤, nat_lt}
use Rattle.std.proofs.lemmas.Bool.{cases_Bool, cases_eq, eqb-true, cond-true, cond-false, false≢true, ltb-true, lt-ltb, false_from_ne_true}
use Rattle.std.proofs.lemmas.List.{take_all}
use Rattle.seat_history.proofs.Changed.{words_from_same}
use Rattle.seat_history.specs.Change.{is_change}
use Rattle.seat_history.specs.Contents.{Contents, blank, set_at, zeros}
use Rattle.seat_history.specs.History.{contents_from, state_at}
use Rattle.seat_history.specs.Key.{key_number}
use Rattle.seat_history.specs.Step.{contents_after, is_same, is_value, values_after}
use Rattle.seat_history.specs.declared.call.Call.{Call}
use Rattle.seat_history.specs.declared.call.Call.TheVariants.{Load, Store, Swap, Hold, Look, Release, Find, Insert, Replace, Remove}
use Rattle.seat_history.specs.declared.entry.Entry.{Entry}
use Rattle.seat_history.specs.declared.key.KeyWords.{KeyWords}
use Rattle.step_rules.proofs.World.Contents.{else_same, take_whole}
use Rattle.step_rules.specs.History.{IsThere, cell_of, key_cell}
use Rattle.step_rules.specs.Records.{edit_of, edited, first_of, first_records, is_change_in, key_in, pair, place_in, records_after, records_at, records_from, value_in, put, out, Within}
use Rattle.step_rules.specs.Records as r
use Rattle.step_rules.specs.declared.plan.Plan.{Plan}
use mathlib.Core.Option.{some}
use lib.ListN.{get_elem?}

-- each key once
abbrev pub EachOnce : List (List ℕ) → Type 0
EachOnce [] = ⊤
EachOnce (x ∷ xs) = (value_in xs (key_in x) ≡ None) × EachOnce xs

is_there : (o : Option (List ℕ)) → is_none o ≡ true → o ≡ None
is_there None h = refl
is_there (Some v) h = absurd (false≢true h)

-- a value that is there, under another
pub value_set : (rs : List (List ℕ)) (key : KeyWords) (m n : ℕ) (new : List ℕ) → key_number key ≡ m → is_some (value_in rs m) ≡ true
    → value_in (edited rs (r.set (place_in rs m) (pair key new))) n ≡ cond (eqb m n) (Some new) (value_in rs n)
value_set [] key m n new is h = absurd (false≢true h)
value_set (x ∷ xs) key m n new is h = grind (arith, value_set xs key m n new is, h, is, eqb-true (key_in x) m, eqb-true (key_in x) n)

pub value_out : (rs : List (List ℕ)) (m n : ℕ) → EachOnce rs → is_some (value_in rs m) ≡ true
    → value_in (edited rs (out (place_in rs m))) n ≡ cond (eqb m n) None (value_in rs n)
value_out [] m n once h = absurd (false≢true h)
value_out (x ∷ xs) m n once h = grind (arith, value_out xs m n once.1, h, once.0, eqb-true (key_in x) m, eqb-true (key_in x) n, eqb-true m n)

pub place_within : (rs : List (List ℕ)) (m : ℕ) → is_some (value_in rs m) ≡ true → place_in rs m < length rs
place_within [] m h = absurd (false≢true h)
place_within (x ∷ xs) m h = grind (arith, place_within xs m, h)

once_set : (rs : List (List ℕ)) (key : KeyWords) (m : ℕ) (new : List ℕ) → key_number key ≡ m → is_some (value_in rs m) ≡ true → EachOnce rs
    → EachOnce (edited rs (r.set (place_in rs m) (pair key new)))
once_set [] key m new is h once = absurd (false≢true h)
once_set (x ∷ xs) key m new is h once = grind (arith, once_set xs key m new is, value_set xs key m (key_in x) new is, h, is, once.0, once.1, eqb-true (key_in x) m, eqb-true m (key_in x))

once_out : (rs : List (List ℕ)) (m : ℕ) → is_some (value_in rs m) ≡ true → EachOnce rs → EachOnce (edited rs (out (place_in rs m)))
once_out [] m h once = absurd (false≢true h)
once_out (x ∷ xs) m h once = grind (arith, once_out xs m, value_out xs m (key_in x), h, once.0, once.1, eqb-true (key_in x) m, eqb-true m (key_in x))

-- a value that passes a test is there
pub is_there_value : (o : Option (List ℕ)) (old : List ℕ) (t : Bool) → (is_value o old && not t) ≡ true → is_some o ≡ true
is_there_value None old t h = h
is_there_value (Some v) old t h = refl

once_after : (rs : List (List ℕ)) (call : Call) → EachOnce rs → is_change_in rs call ≡ true → ((reg : ℕ) (new : List ℕ) → call ≢ Store reg new)
    → ((reg : ℕ) (old new : List ℕ) → call ≢ Swap reg old new)
    → EachOnce (edited rs (edit_of rs call))
once_after rs (Store reg new) once h a b = absurd (a reg new refl)
once_after rs (Swap reg old new) once h a b = absurd (b reg old new refl)
once_after rs (Insert key val) once h a b = (is_there (value_in rs (key_number key)) h, once)
once_after rs (Replace key old new) once h a b = once_set rs key (key_number key) new refl (is_there_value (value_in rs (key_number key)) old (is_same old new) h) once
once_after rs (Remove key) once h a b = once_out rs (key_number key) h once
once_after rs _ once h a b = absurd (false≢true h)

-- a register's one record
register_step : (p : Plan) (c : Contents) (call : Call) (k : ℕ) (x : List ℕ) → k < p.registers → x ≡ c.registers k → cell_of p call ≡ k
    → records_after (x ∷ []) call ≡ (contents_after c call).registers k ∷ []
register_step p c (Load reg) k x inside same on = ap (λ y. y ∷ []) same
register_step p c (Store reg new) k x inside same on = grind (arith, words_from_same x new, on, same, eq-eqb reg k)
register_step p c (Swap reg old new) k x inside same on = grind (arith, words_from_same old new, words_from_same x old, on, same, eq-eqb reg k)
register_step p c (Hold reg) k x inside same on = ap (λ y. y ∷ []) same
register_step p c _ k x inside same on = absurd (omega arith)

register_from : (p : Plan) (c : Contents) (k : ℕ) (x : List ℕ) (es : List Entry) → k < p.registers → x ≡ c.registers k
    → records_from p k (x ∷ []) es ≡ (contents_from c es).registers k ∷ []
register_from p c k x [] inside same = ap (λ y. y ∷ []) same
register_from p c k x (e ∷ es) inside same = ⊎_elim
    (λ on. ap (λ rs. records_from p k rs es)
    (cond-true (eqb (cell_of p e.call) k) (records_after (x ∷ []) e.call) (x ∷ []) (eq-eqb (cell_of p e.call) k on) ∙ register_step p c e.call k x inside same on)
    ∙ register_from p (contents_after c e.call) k ((contents_after c e.call).registers k) es inside refl)
    (λ ne. ap (λ rs. records_from p k rs es) (cond-false (eqb (cell_of p e.call) k) (records_after (x ∷ []) e.call) (x ∷ []) (ne_eqb (cell_of p e.call) k ne))
    ∙ register_from p (contents_after c e.call) k x es inside (same ∙ sym (else_same p c e.call k inside ne)))
    (cases_eq (cell_of p e.call) k)

-- a register has its one record
pub register_records : (p : Plan) (log : List Entry) (k : ℕ) → k < p.registers → records_at p log k ≡ (state_at log (length log)).registers k ∷ []
register_records p log k inside = ap (λ rs. records_from p k rs log) (cond-true (nat_lt k p.registers) (zeros ∷ []) [] (lt-ltb k p.registers inside))
    ∙ (register_from p blank k zeros log inside refl ∙ ap (λ (l : List Entry). (contents_from blank l).registers k ∷ []) (sym (take_all (length log) log (omega arith))))

-- the records have the values of the keys of their cell
abbrev pub Tells : Plan → ℕ → List (List ℕ) → Contents → Type 0
Tells p k rs c = (n : ℕ) → key_cell p n ≡ k → value_in rs n ≡ c.values n

insert_tells : (o : Option (List ℕ)) (rs : List (List ℕ)) (key : KeyWords) (val : List ℕ) (f : ℕ → Option (List ℕ)) (n : ℕ) → value_in rs (key_number key) ≡ o
    → f (key_number key) ≡ o
    → value_in rs n ≡ f n
    → value_in (records_after rs (Insert key val)) n ≡ values_after f (Insert key val) n
insert_tells None rs key val f n a b same = rw (a, b) (grind (arith, same))
insert_tells (Some v) rs key val f n a b same = rw (a, b) same

replace_tells : (o : Option (List ℕ)) (rs : List (List ℕ)) (key : KeyWords) (old new : List ℕ) (f : ℕ → Option (List ℕ)) (n : ℕ) → value_in rs (key_number key) ≡ o
    → f (key_number key) ≡ o
    → value_in rs n ≡ f n
    → value_in (records_after rs (Replace key old new)) n ≡ values_after f (Replace key old new) n
replace_tells None rs key old new f n a b same = rw (a, b) same
replace_tells (Some v) rs key old new f n a b same = let there : is_some (value_in rs (key_number key)) ≡ true = ap is_some a in
    rw (a, b) (grind (arith, same, value_set rs key (key_number key) n new refl there, words_from_same v old, words_from_same old new, a, b, eqb-true (key_number key) n))

remove_tells : (o : Option (List ℕ)) (rs : List (List ℕ)) (key : KeyWords) (f : ℕ → Option (List ℕ)) (n : ℕ) → EachOnce rs → value_in rs (key_number key) ≡ o
    → f (key_number key) ≡ o
    → value_in rs n ≡ f n
    → value_in (records_after rs (Remove key)) n ≡ values_after f (Remove key) n
remove_tells None rs key f n once a b same = rw (a) (grind (arith, same, a, b, eqb-true (key_number key) n))
remove_tells (Some v) rs key f n once a b same = let there : is_some (value_in rs (key_number key)) ≡ true = ap is_some a in
    rw (a) (value_out rs (key_number key) n once there ∙ grind (arith, same))

-- a call on the cell
pub here_tells : (p : Plan) (rs : List (List ℕ)) (c : Contents) (call : Call) (k : ℕ) → p.registers ≤ k → IsThere p call → EachOnce rs → Tells p k rs c → cell_of p call ≡ k
    → Tells p k (records_after rs call) (contents_after c call)
here_tells p rs c Look k high there once tells on n at = tells n at
here_tells p rs c Release k high there once tells on n at = tells n at
here_tells p rs c (Find key) k high there once tells on n at = tells n at
here_tells p rs c (Insert key val) k high there once tells on n at = insert_tells (value_in rs (key_number key)) rs key val c.values n refl (sym (tells (key_number key) on)) (tells n at)
here_tells p rs c (Replace key old new) k high there once tells on n at = replace_tells (value_in rs (key_number key)) rs key old new c.values n refl (sym (tells (key_number key) on)) (tells n at)
here_tells p rs c (Remove key) k high there once tells on n at = remove_tells (value_in rs (key_number key)) rs key c.values n once refl (sym (tells (key_number key) on)) (tells n at)
here_tells p rs c _ k high there once tells on n at = absurd (omega arith)

-- a call on another cell
apart : (p : Plan) (m n k : ℕ) → key_cell p n ≡ k → key_cell p m ≢ k → eqb m n ≡ false
apart p m n k at ne = ne_eqb m n (λ e. ne (ap (key_cell p) e ∙ at))

pub else_tells : (p : Plan) (rs : List (List ℕ)) (c : Contents) (call : Call) (k : ℕ) → Tells p k rs c → cell_of p call ≢ k → Tells p k rs (contents_after c call)
else_tells p rs c (Insert key val) k tells ne n at = let q = apart p (key_number key) n k at ne in go (c.values (key_number key)) q
  where
    go : (o : Option (List ℕ)) → eqb (key_number key) n ≡ false → value_in rs n ≡ (option_map_or (λ _. c.values) o (set_at c.values (key_number key) (Some val))) n
    go None q = rw q (tells n at)
    go (Some v) q = tells n at
else_tells p rs c (Replace key old new) k tells ne n at = let q = apart p (key_number key) n k at ne in go (is_value (c.values (key_number key)) old) q
  where
    go : (t : Bool) → eqb (key_number key) n ≡ false → value_in rs n ≡ (cond t (set_at c.values (key_number key) (Some new)) c.values) n
    go true q = rw q (tells n at)
    go false q = tells n at
else_tells p rs c (Remove key) k tells ne n at = rw (apart p (key_number key) n k at ne) (tells n at)
else_tells p rs c _ k tells ne n at = tells n at

-- every entry is on a register that is there, or on a key where there is a bucket
abbrev pub EachThere : Plan → List Entry → Type 0
EachThere p es = (i : ℕ) (e : Entry) → get_elem? es i ≡ some e → IsThere p e.call

pub step_once : (p : Plan) (rs : List (List ℕ)) (call : Call) (k : ℕ) → p.registers ≤ k → IsThere p call → EachOnce rs → cell_of p call ≡ k → EachOnce (records_after rs call)
step_once p rs call k high there once on = ⊎_elim
    (λ t. subst EachOnce (sym (cond-true (is_change_in rs call) (edited rs (edit_of rs call)) rs t)) (once_after rs call once t
    (λ reg new e. let l : reg < p.registers = subst (IsThere p) e there in let q : reg ≡ k = ap (cell_of p) (sym e) ∙ on in absurd (omega arith))
    (λ reg old new e. let l : reg < p.registers = subst (IsThere p) e there in let q : reg ≡ k = ap (cell_of p) (sym e) ∙ on in absurd (omega arith))))
    (λ f. subst EachOnce (sym (cond-false (is_change_in rs call) (edited rs (edit_of rs call)) rs f)) once)
    (cases_Bool (is_change_in rs call))

bucket_from : (p : Plan) (c : Contents) (k : ℕ) (rs : List (List ℕ)) (es : List Entry) → p.registers ≤ k → EachThere p es → EachOnce rs → Tells p k rs c
    → EachOnce (records_from p k rs es) × Tells p k (records_from p k rs es) (contents_from c es)
bucket_from p c k rs [] high each once tells = (once, tells)
bucket_from p c k rs (e ∷ es) high each once tells =
    let later : EachThere p es = λ i f at. each (suc i) f at in
    let P : List (List ℕ) → Type 0 = λ xs. EachOnce (records_from p k xs es) × Tells p k (records_from p k xs es) (contents_from c (e ∷ es)) in ⊎_elim
    (λ on. subst P (sym (cond-true (eqb (cell_of p e.call) k) (records_after rs e.call) rs (eq-eqb (cell_of p e.call) k on)))
    (bucket_from p (contents_after c e.call) k (records_after rs e.call) es high later (step_once p rs e.call k high (each 0 e refl) once on)
    (here_tells p rs c e.call k high (each 0 e refl) once tells on)))
    (λ ne. subst P (sym (cond-false (eqb (cell_of p e.call) k) (records_after rs e.call) rs (ne_eqb (cell_of p e.call) k ne)))
    (bucket_from p (contents_after c e.call) k rs es high later once (else_tells p rs c e.call k tells ne)))
    (cases_eq (cell_of p e.call) k)

-- a bucket's records: each key once, and with the values of the map
pub bucket_records : (p : Plan) (log : List Entry) (k : ℕ) → p.registers ≤ k → EachThere p log → EachOnce (records_at p log k) × Tells p k (records_at p log k) (state_at log (length log))
bucket_records p log k high each =
    let r = bucket_from p blank k (first_records p k) log high each
    (subst EachOnce (sym none_first) tt) (λ n at. ap (λ rs. value_in rs n) none_first) in
    (r.0, λ n at. r.1 n at ∙ ap (λ (l : List Entry). (contents_from blank l).values n) (sym (take_whole log)))
  where
    none_first : first_records p k ≡ []
    none_first = cond-false (nat_lt k p.registers) (zeros ∷ []) [] (false_from_ne_true (nat_lt k p.registers) (λ t. let l = ltb-true k p.registers t in omega arith))

pub value_at : (p : Plan) (log : List Entry) (n : ℕ) → EachThere p log → value_in (records_at p log (key_cell p n)) n ≡ (state_at log (length log)).values n
value_at p log n each = (bucket_records p log (key_cell p n) (omega arith) each).1 n refl

-- whether a call changes the contents, its cell's records tell
pub change_in : (p : Plan) (log : List Entry) (call : Call) → IsThere p call → EachThere p log
    → is_change (state_at log (length log)) call ≡ is_change_in (records_at p log (cell_of p call)) call
change_in p log (Store reg new) there each = ap (λ rs. not (is_same (first_of rs) new)) (sym (register_records p log reg there))
change_in p log (Swap reg old new) there each = ap (λ rs. is_same (first_of rs) old && not (is_same old new)) (sym (register_records p log reg there))
change_in p log (Insert key val) there each = ap is_none (sym (value_at p log (key_number key) each))
change_in p log (Replace key old new) there each = ap (λ o. is_value o old && not (is_same old new)) (sym (value_at p log (key_number key) each))
change_in p log (Remove key) there each = ap is_some (sym (value_at p log (key_number key) each))
change_in p log _ there each = refl

some_records : (rs : List (List ℕ)) (x : List ℕ) → rs ≡ x ∷ [] → 0 < length rs
some_records rs x e = let l = ap (length {A = List ℕ}) e in omega arith

-- the place that a change names is there
pub change_within : (p : Plan) (log : List Entry) (call : Call) → IsThere p call → is_change_in (records_at p log (cell_of p call)) call ≡ true
    → Within (length (records_at p log (cell_of p call))) (edit_of (records_at p log (cell_of p call)) call)
change_within p log (Store reg new) there h = some_records (records_at p log reg) ((state_at log (length log)).registers reg) (register_records p log reg there)
change_within p log (Swap reg old new) there h = some_records (records_at p log reg) ((state_at log (length log)).registers reg) (register_records p log reg there)
change_within p log (Insert key val) there h = tt
change_within p log (Replace key old new) there h = place_within (records_at p log (key_cell p (key_number key))) (key_number key)
    (is_there_value (value_in (records_at p log (key_cell p (key_number key))) (key_number key)) old (is_same old new) h)
change_within p log (Remove key) there h = place_within (records_at p log (key_cell p (key_number key))) (key_number key) h
change_within p log _ there h = absurd (false≢true h)
