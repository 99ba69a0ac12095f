-- The order of last inserts is one: records that meet it are those of the bucket.
use Rattle.std.proofs.Common.{◌≡◌, ◌≢◌, ◌∙◌, ℕ, ◌^◌, ◌<◌, ◌≤◌, suc, eqb, eq-eqb, ne_eqb, List, [], ◌∷◌, Option, Some, None, drop, refl, sym, ap, subst}
use Rattle.std.proofs.Common.{arith, ⊎_elim}
use Rattle.std.proofs.lemmas.Bool.{cases_Bool, cases_eq, cond-true, cond-false, eqb-true}
use mathlib.Core.Option.{some}
use lib.ListN.{get_elem?}
use Rattle.seat_history.specs.declared.entry.Entry.{Entry}
use Rattle.seat_history.specs.declared.words.TheConstants.{VALUE_WIDTH, WIDTH}
use Rattle.step_rules.proofs.Order.LastInserts.{bucket_order, last_from, last_is}
use Rattle.step_rules.proofs.Line.Ordering.{Each, each_from}
use Rattle.step_rules.proofs.Order.RecordsOrder.{AllBelow, Falling}
use Rattle.step_rules.specs.History.{AreWords, IsHistory, key_cell}
use Rattle.step_rules.specs.Order.{AreRecordsOf}
use Rattle.step_rules.specs.Records.{key_in, records_at, value_in}
use Rattle.step_rules.specs.declared.plan.Plan.{Plan}

-- records in falling order, by what f says of their keys
falling_from : (f : ℕ → ℕ) (xs : List (List ℕ)) → ((i j : ℕ) (a b : List ℕ) → i < j → get_elem? xs i ≡ some a → get_elem? xs j ≡ some b → f (key_in b) < f (key_in a))
    → Falling f xs
falling_from f [] falls = tt
falling_from f (x ∷ xs) falls =
    (below_from f (f (key_in x)) xs (λ j b at. falls 0 (suc j) x b (omega arith) refl at), falling_from f xs (λ i j a b lt at at'. falls (suc i) (suc j) a b (omega arith) at at'))
  where
    below_from : (f : ℕ → ℕ) (m : ℕ) (ys : List (List ℕ)) → ((j : ℕ) (b : List ℕ) → get_elem? ys j ≡ some b → f (key_in b) < m) → AllBelow f m ys
    below_from f m [] each = tt
    below_from f m (y ∷ ys) each = (each 0 y refl, below_from f m ys (λ j b at. each (suc j) b at))

-- a key of the later records is below the bound
key_below : (f : ℕ → ℕ) (m : ℕ) (xs : List (List ℕ)) (n : ℕ) → AllBelow f m xs → value_in xs n ≢ None → f n < m
key_below f m [] n below there = absurd (there refl)
key_below f m (x ∷ xs) n below there = ⊎_elim
    (λ e. subst (λ k. f k < m) (eqb-true (key_in x) n e) below.0)
    (λ e. key_below f m xs n below.1 (λ none. there (cond-false (eqb (key_in x) n) (Some (drop 2 x)) (value_in xs n) e ∙ none)))
    (cases_Bool (eqb (key_in x) n))

-- the first record's key isn't among the later ones
first_alone : (f : ℕ → ℕ) (x : List ℕ) (xs : List (List ℕ)) → Falling f (x ∷ xs) → value_in xs (key_in x) ≡ None
first_alone f x xs falls = go (value_in xs (key_in x)) refl
  where
    go : (o : Option (List ℕ)) → value_in xs (key_in x) ≡ o → value_in xs (key_in x) ≡ None
    go None e = e
    go (Some v) e = absurd (let l = key_below f (f (key_in x)) xs (key_in x) falls.0 (λ none. let q : Some v ≡ None = sym e ∙ none in cc) in omega arith)

first_value : (x : List ℕ) (xs : List (List ℕ)) → value_in (x ∷ xs) (key_in x) ≡ Some (drop 2 x)
first_value x xs = cond-true (eqb (key_in x) (key_in x)) (Some (drop 2 x)) (value_in xs (key_in x)) (eq-eqb (key_in x) (key_in x) refl)

pub else_value : (x : List ℕ) (xs : List (List ℕ)) (n : ℕ) → key_in x ≢ n → value_in (x ∷ xs) n ≡ value_in xs n
else_value x xs n ne = cond-false (eqb (key_in x) n) (Some (drop 2 x)) (value_in xs n) (ne_eqb (key_in x) n ne)

-- words with one key and one value
same_record : (n : ℕ) (x y : List ℕ) → AreWords (suc (suc n)) x → AreWords (suc (suc n)) y → key_in x ≡ key_in y → drop 2 x ≡ drop 2 y → x ≡ y
same_record n [] y wx wy key val = absurd (let l = wx.long in omega arith)
same_record n (a ∷ []) y wx wy key val = absurd (let l = wx.long in omega arith)
same_record n (a ∷ b ∷ x) [] wx wy key val = absurd (let l = wy.long in omega arith)
same_record n (a ∷ b ∷ x) (c ∷ []) wx wy key val = absurd (let l = wy.long in omega arith)
same_record n (a ∷ b ∷ x) (c ∷ d ∷ y) wx wy key val =
    let low : b < 2 ^ 64 = wx.below 1 in
    let low' : d < 2 ^ 64 = wy.below 1 in
    let high : a ≡ c = omega arith in
    let rest : b ≡ d = omega arith in
    λ i. high i ∷ rest i ∷ val i

-- the first records have one key: else each stands after the other
first_key : (f : ℕ → ℕ) (x y : List ℕ) (xs ys : List (List ℕ)) → Falling f (x ∷ xs) → Falling f (y ∷ ys) → ((n : ℕ) → value_in (x ∷ xs) n ≡ value_in (y ∷ ys) n)
    → key_in x ≡ key_in y
first_key f x y xs ys falls falls' same = ⊎_elim
    (λ e. e)
    (λ ne.
    let later = key_below f (f (key_in y)) ys (key_in x) falls'.0
    (λ none. let q : Some (drop 2 x) ≡ None = sym (first_value x xs) ∙ (same (key_in x) ∙ (else_value y ys (key_in x) (λ e. ne (sym e)) ∙ none)) in cc) in
    let sooner = key_below f (f (key_in x)) xs (key_in y) falls.0
    (λ none. let q : Some (drop 2 y) ≡ None = sym (first_value y ys) ∙ (sym (same (key_in y)) ∙ (else_value x xs (key_in y) ne ∙ none)) in cc) in
    absurd (omega arith))
    (cases_eq (key_in x) (key_in y))

some_same : (a b : List ℕ) → Some a ≡ Some b → a ≡ b
some_same a b e = cc

same_lists : (f : ℕ → ℕ) (xs ys : List (List ℕ)) → Falling f xs → Falling f ys → Each (AreWords WIDTH) xs → Each (AreWords WIDTH) ys
    → ((n : ℕ) → value_in xs n ≡ value_in ys n) → xs ≡ ys
same_lists f [] [] falls falls' words words' same = refl
same_lists f [] (y ∷ ys) falls falls' words words' same = absurd (let q : None ≡ Some (drop 2 y) = same (key_in y) ∙ first_value y ys in cc)
same_lists f (x ∷ xs) [] falls falls' words words' same = absurd (let q : Some (drop 2 x) ≡ None = sym (first_value x xs) ∙ same (key_in x) in cc)
same_lists f (x ∷ xs) (y ∷ ys) falls falls' words words' same =
    let key = first_key f x y xs ys falls falls' same in
    let val : drop 2 x ≡ drop 2 y = some_same (drop 2 x) (drop 2 y) (sym (first_value x xs) ∙ (same (key_in x) ∙ (ap (value_in (y ∷ ys)) key ∙ first_value y ys))) in
    let first : x ≡ y = same_record VALUE_WIDTH x y words.0 words'.0 key val in
    let rest : xs ≡ ys = same_lists f xs ys falls.1 falls'.1 words.1 words'.1 (λ n. ⊎_elim
    (λ (e : key_in x ≡ n). ap (value_in xs) (sym e) ∙ (first_alone f x xs falls ∙ sym (ap (value_in ys) (sym e ∙ key) ∙ first_alone f y ys falls')))
    (λ ne. sym (else_value x xs n ne) ∙ (same n ∙ else_value y ys n (λ e. ne (key ∙ e))))
    (cases_eq (key_in x) n)) in
    λ i. first i ∷ rest i

-- a key of another cell isn't among the records
pub not_among : (p : Plan) (k n : ℕ) (xs : List (List ℕ)) → ((i : ℕ) (r : List ℕ) → get_elem? xs i ≡ some r → key_cell p (key_in r) ≡ k) → key_cell p n ≢ k
    → value_in xs n ≡ None
not_among p k n [] keys ne = refl
not_among p k n (x ∷ xs) keys ne = else_value x xs n (λ e. ne (ap (key_cell p) (sym e) ∙ keys 0 x refl)) ∙ not_among p k n xs (λ i r at. keys (suc i) r at) ne

pub one_order : (p : Plan) (log : List Entry) (k : ℕ) (rs : List (List ℕ)) → IsHistory p log → p.registers ≤ k → AreRecordsOf p log k rs → rs ≡ records_at p log k
one_order p log k rs history high is =
    let own = bucket_order p log k history high in
    same_lists f rs (records_at p log k) (falls rs is) (falls (records_at p log k) own)
    (each_from (AreWords WIDTH) rs is.words) (each_from (AreWords WIDTH) (records_at p log k) own.words)
    (λ n. ⊎_elim
    (λ on. is.values n on ∙ sym (own.values n on))
    (λ ne. not_among p k n rs is.keys ne ∙ sym (not_among p k n (records_at p log k) own.keys ne))
    (cases_eq (key_cell p n) k))
  where
    f : ℕ → ℕ
    f = last_from 0 (λ _. 0) log

    falls : (xs : List (List ℕ)) → AreRecordsOf p log k xs → Falling f xs
    falls xs are = falling_from f xs (λ i j a b lt at at'.
        let s = are.inserted i a at in
        let t = are.inserted j b at' in
        let later = are.falling i j s.0 t.0 a b lt at at' s.1 t.1 in
        omega (arith, last_is 0 (λ _. 0) log (key_in a) s.0 s.1, last_is 0 (λ _. 0) log (key_in b) t.0 t.1))
