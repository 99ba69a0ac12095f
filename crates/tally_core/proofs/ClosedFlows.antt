-- The pairs of a closed object as flows by rising key.
use Rattle.std.proofs.Common.{◌≡◌, ◌≢◌, ◌∙◌, ℕ, ◌^◌, ◌<◌, All, Bool, true, false, cond, eq-eqb, ne_eqb, List, [], ◌∷◌, Option, Some, None, map, refl, sym, ap, subst, arith, ⊎_elim}
use Rattle.std.specs.BTreeMap.{is_at}
use Rattle.std.specs.List.Sorted.{IsStrictlySortedBy}
use Rattle.std.specs.List.{AllByRecursion}
use Rattle.std.specs.Map.{keys_of}
use Rattle.std.specs.Option.{option_map}
use Rattle.std.specs.Ordering.{nat_cmp}
use Rattle.std.specs.Prelude.{nat_lt}
use Rattle.std.specs.declared.cmp.Ordering.TheVariants.{Less}
use Rattle.std.proofs.lemmas.Bool.Decides.{nat_tests}
use Rattle.std.proofs.lemmas.Bool.{cases_Bool, cases_lt, false_from_ne_true, false≢true, lt-ltb, ltb-true}
use Rattle.std.proofs.lemmas.List.Elements.{All-head, All-tail}
use Rattle.std.proofs.lemmas.Map.Keys.{sorted_from_strictly_increasing}
use Rattle.flow_fold.proofs.SameKey.{same_key}
use Rattle.flow_fold.specs.Flows as flows
use Rattle.flow_fold.specs.Key.{key_cmp}
use Rattle.flow_fold.specs.Words.{value_of_words}
use Rattle.flow_fold.specs.declared.key.Key.{Key}
use Rattle.flow_fold.specs.declared.value.Value.{Value}
use Rattle.seat_history.specs.Key.{key_number}
use Rattle.seat_history.specs.Pairs.{ArePairsOf, IsPairInRange, Pairs, value_in}
use Rattle.seat_history.specs.declared.key.KeyWords.{KeyWords}
use Rattle.tally_core.proofs.Folding.{flow_in, same_number}
use Rattle.tally_core.specs.Adding.{flow_of, key_words}

-- a lesser number is a lesser key's
less_key : (a b : Key) → a.k1 < 2 ^ 64 → b.k1 < 2 ^ 64 → nat_cmp (key_number (key_words a)) (key_number (key_words b)) ≡ Less → key_cmp a b ≡ Less
less_key a b low high h =
    let less : key_number (key_words a) < key_number (key_words b) = grind (arith, nat_tests, h) in
    ⊎_elim (λ lt. grind (arith, nat_tests)) (λ le. let same : a.k0 ≡ b.k0 = omega arith in let last : a.k1 < b.k1 = omega arith in grind (arith, nat_tests)) (cases_lt a.k0 b.k0)

above : (pair : KeyWords × List ℕ) (pairs : Pairs) → IsPairInRange pair → All IsPairInRange pairs
    → AllByRecursion (λ m. nat_cmp (key_number pair.0) m ≡ Less) (map key_number (keys_of pairs)) → AllByRecursion (λ key. key_cmp (flow_of pair).0 key ≡ Less) (keys_of (map flow_of pairs))
above pair [] is range h = tt
above pair (next ∷ pairs) is range h = (
  less_key (flow_of pair).0 (flow_of next).0 is.k1 (All-head IsPairInRange next pairs range).k1 h.0,
  above pair pairs is (All-tail IsPairInRange next pairs range) h.1,
)

sorted : (pairs : Pairs) → All IsPairInRange pairs → IsStrictlySortedBy nat_cmp (map key_number (keys_of pairs)) → flows.HasRisingKeys (map flow_of pairs)
unfolding IsStrictlySortedBy
sorted [] range h = tt
sorted (pair ∷ pairs) range h = (
  above pair pairs (All-head IsPairInRange pair pairs range) (All-tail IsPairInRange pair pairs range) h.0,
  sorted pairs (All-tail IsPairInRange pair pairs range) h.1,
)

-- the flows rise as the pairs do
pub flows_rise : (values : ℕ → Option (List ℕ)) (pairs : Pairs) → ArePairsOf values pairs → All IsPairInRange pairs → flows.HasRisingKeys (map flow_of pairs)
flows_rise values pairs are range = sorted pairs range (sorted_from_strictly_increasing _ are.rising)

-- whether a pair is a key's
this_key : (key : Key) (pair : KeyWords × List ℕ) → is_at (key_cmp key) (flow_of pair).0 ≡ true → key ≡ (flow_of pair).0
this_key key pair t = (same_key key (flow_of pair).0).0 t

other_key : (key : Key) (pair : KeyWords × List ℕ) → is_at (key_cmp key) (flow_of pair).0 ≡ false → key ≢ (flow_of pair).0
other_key key pair f e = false≢true (sym f ∙ (same_key key (flow_of pair).0).1 e)

nothing : (b : Bool) → None ≡ cond b (option_map value_of_words None) None
nothing true = refl
nothing false = refl

outside : (b : Bool) (x y : Option Value) → b ≡ false → cond b x None ≡ cond b y None
outside true x y e = absurd (false≢true (sym e))
outside false x y e = refl

found : (pairs : Pairs) (key : Key) → All IsPairInRange pairs → flows.value_in (map flow_of pairs) key ≡ flow_in (value_in pairs) key
found [] key range = nothing (nat_lt key.k1 (2 ^ 64))
found (pair ∷ pairs) key range =
    let n = key_number (key_words key) in
    let is = All-head IsPairInRange pair pairs range in
    let rest = flows.value_in (map flow_of pairs) key in
    let again = found pairs key (All-tail IsPairInRange pair pairs range) in
    let first = λ (b : Bool). cond b (Some (value_of_words pair.1)) rest in
    let inside = λ (b : Bool). cond (nat_lt key.k1 (2 ^ 64)) (option_map value_of_words (cond b (Some pair.1) (value_in pairs n))) None in
    ⊎_elim
    (λ t. let same = this_key key pair t in
    let number : key_number pair.0 ≡ n = ap (λ (k : Key). key_number (key_words k)) (sym same) in
    let low : key.k1 < 2 ^ 64 = subst (λ (k : Key). k.k1 < 2 ^ 64) (sym same) is.k1 in
    ap first t ∙ sym (ap inside (eq-eqb (key_number pair.0) n number) ∙ ap (λ b. cond b (Some (value_of_words pair.1)) None) (lt-ltb key.k1 (2 ^ 64) low)))
    (λ f. ap first f ∙ (again ∙ ⊎_elim
    (λ low. sym (ap inside (ne_eqb (key_number pair.0) n (λ e. other_key key pair f (sym (same_number (flow_of pair).0 key is.k1 low e))))))
    (λ high. outside (nat_lt key.k1 (2 ^ 64)) (option_map value_of_words (value_in pairs n)) (option_map value_of_words (value_in (pair ∷ pairs) n))
    (false_from_ne_true (nat_lt key.k1 (2 ^ 64)) (λ t. let low = ltb-true key.k1 (2 ^ 64) t in omega arith)))
    (cases_lt key.k1 (2 ^ 64))))
    (cases_Bool (is_at (key_cmp key) (flow_of pair).0))

-- and have the values of the object
pub flows_found : (values : ℕ → Option (List ℕ)) (pairs : Pairs) → ArePairsOf values pairs → All IsPairInRange pairs → (key : Key) → flow_in values key ≡ flows.value_in (map flow_of pairs) key
flows_found values pairs are range key = ap (λ o. cond (nat_lt key.k1 (2 ^ 64)) (option_map value_of_words o) None) (sym (are.whole (key_number (key_words key)))) ∙ sym (found pairs key range)
