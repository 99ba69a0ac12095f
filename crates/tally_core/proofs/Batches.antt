-- The batches of pairs: together they are all pairs, and have all places.
use Rattle.std.proofs.Common.{◌≡◌, ◌∙◌, ℕ, ◌+◌, ◌*◌, ◌-◌, ◌<◌, ◌≤◌, suc, zero, List}
use Rattle.std.proofs.Common.{[], ◌∷◌, ◌++◌, get_or, length, take, drop, refl, sym, ap, subst, arith}
use Rattle.std.specs.List.Sorted.{IsPermutation}
use Rattle.std.specs.List.{between, cons_option, range_with_len}
use Rattle.std.specs.Prelude.{Option, Some, None, min, slice_get}
use Rattle.std.proofs.lemmas.Grind.{flat_map-append}
use Rattle.std.proofs.lemmas.List.{append-nil, take_all}
use Rattle.std.proofs.lemmas.Option.{slice_get-get_or}
use Rattle.std.proofs.Math.Seq.{drop-cons}
use Rattle.call_script.specs.Run.{items_at}
use Rattle.flow_fold.specs.Flows.{Flows}
use Rattle.flow_fold.specs.declared.key.Key.{Key}
use Rattle.flow_fold.specs.declared.value.Value.{Value}
use Rattle.tally_core.proofs.Once.{each_once, few_once}
use Rattle.tally_core.specs.Draws.{batch_of, batch_places, batches_of, drawn_pairs, drawn_places}
use Rattle.worker_gate.specs.Numbers.{AtMostOnce, EachOnce, all_below}

take_add : (i n : ℕ) (pairs : Flows) → take i pairs ++ take n (drop i pairs) ≡ take (i + n) pairs
take_add zero n pairs = let e : n ≡ zero + n = omega arith in ap (λ k. take k pairs) e
take_add (suc i) n [] = none n ∙ sym (none (suc i + n))
  where
    none : (k : ℕ) → take {A = Key × Value} k [] ≡ []
    none zero = refl
    none (suc k) = refl
take_add (suc i) n (pair ∷ pairs) = let e : suc (i + n) ≡ suc i + n = omega arith in ap (λ l. pair ∷ l) (take_add i n pairs) ∙ ap (λ k. take k (pair ∷ pairs)) e

take_between : (pairs : Flows) (i j : ℕ) → i ≤ j → take i pairs ++ between i j pairs ≡ take j pairs
take_between pairs i j le = let e : i + (j - i) ≡ j = omega arith in take_add i (j - i) pairs ∙ ap (λ k. take k pairs) e

-- the pairs of the first n batches are the first pairs
first_batches : (pairs : Flows) (n : ℕ) → n ≤ batches_of (length pairs) → drawn_pairs pairs (all_below n) ≡ take (min (256 * n) (length pairs)) pairs
first_batches pairs zero within = let none : min (256 * 0) (length pairs) ≡ 0 = omega arith in sym (ap (λ k. take k pairs) none)
first_batches pairs (suc n) within =
    let front : min (256 * n) (length pairs) ≡ 256 * n = omega arith in
    let last : min (256 * n + 256) (length pairs) ≡ min (256 * suc n) (length pairs) = omega arith in
    flat_map-append (batch_of pairs) (all_below n) (n ∷ [])
    ∙ ((λ i. (first_batches pairs n (omega arith) ∙ ap (λ k. take k pairs) front) i ++ append-nil (batch_of pairs n) i)
    ∙ (take_between pairs (256 * n) (min (256 * n + 256) (length pairs)) (omega arith) ∙ ap (λ k. take k pairs) last))

all_batches : (pairs : Flows) → drawn_pairs pairs (all_below (batches_of (length pairs))) ≡ pairs
all_batches pairs =
    let whole : min (256 * batches_of (length pairs)) (length pairs) ≡ length pairs = omega arith in
    first_batches pairs (batches_of (length pairs)) (omega arith) ∙ (ap (λ k. take k pairs) whole ∙ take_all (length pairs) pairs (omega arith))

range_add : (a k m : ℕ) → range_with_len a k ++ range_with_len (a + k) m ≡ range_with_len a (k + m)
range_add a zero m = let at : a + 0 ≡ a = omega arith in let long : m ≡ zero + m = omega arith in (λ i. range_with_len (at i) (long i))
range_add a (suc k) m =
    let at : a + suc k ≡ (a + 1) + k = omega arith in let long : suc (k + m) ≡ suc k + m = omega arith in
    ap (λ l. a ∷ l) (ap (λ n. range_with_len (a + 1) k ++ range_with_len n m) at ∙ range_add (a + 1) k m) ∙ ap (range_with_len a) long

first_places : (count n : ℕ) → n ≤ batches_of count → drawn_places count (all_below n) ≡ range_with_len 0 (min (256 * n) count)
first_places count zero within = let none : min (256 * 0) count ≡ 0 = omega arith in sym (ap (range_with_len 0) none)
first_places count (suc n) within =
    let front : min (256 * n) count ≡ 256 * n = omega arith in
    let at : 256 * n ≡ 0 + 256 * n = omega arith in
    let last : 256 * n + (min (256 * n + 256) count - 256 * n) ≡ min (256 * suc n) count = omega arith in
    flat_map-append (batch_places count) (all_below n) (n ∷ [])
    ∙ ((λ i. (first_places count n (omega arith) ∙ ap (range_with_len 0) front) i
    ++ (append-nil (batch_places count n) ∙ ap (λ k. range_with_len k (min (256 * n + 256) count - 256 * n)) at) i)
    ∙ (range_add 0 (256 * n) (min (256 * n + 256) count - 256 * n) ∙ ap (range_with_len 0) last))

all_places : (count : ℕ) → drawn_places count (all_below (batches_of count)) ≡ range_with_len 0 count
all_places count =
    let whole : min (256 * batches_of count) count ≡ count = omega arith in
    first_places count (batches_of count) (omega arith) ∙ ap (range_with_len 0) whole

-- each batch once: the pairs in another order, and each place once
pub all_drawn : (pairs : Flows) (batches : List ℕ) → EachOnce (batches_of (length pairs)) batches → IsPermutation pairs (drawn_pairs pairs batches)
all_drawn pairs batches once =
    subst (λ (l : Flows). IsPermutation l (drawn_pairs pairs batches)) (all_batches pairs) (each_once (batch_of pairs) (batches_of (length pairs)) batches once)

pub each_place : (count : ℕ) (batches : List ℕ) → EachOnce (batches_of count) batches → IsPermutation (range_with_len 0 count) (drawn_places count batches)
each_place count batches once =
    subst (λ (l : List ℕ). IsPermutation l (drawn_places count batches)) (all_places count) (each_once (batch_places count) (batches_of count) batches once)

-- each at most once: no more pairs than there are
pub few_drawn : (pairs : Flows) (batches : List ℕ) → AtMostOnce (batches_of (length pairs)) batches → length (drawn_pairs pairs batches) ≤ length pairs
few_drawn pairs batches once = omega (arith, few_once (batch_of pairs) (batches_of (length pairs)) batches once, ap length (all_batches pairs))

-- the items at places in a row
items_in_row : (pairs : Flows) (k a : ℕ) → (0 < k → a + k ≤ length pairs) → items_at pairs (range_with_len a k) ≡ take k (drop a pairs)
items_in_row pairs zero a within = refl
items_in_row pairs (suc k) a within =
    let d : Key × Value = (record { k0 = 0; k1 = 0 }, record { packets = 0; octets = 0; first = 0; last = 0; flags = 0 }) in
    let high : a + suc k ≤ length pairs = within (omega arith) in
    let next : suc a ≡ a + 1 = omega arith in
    let rest = items_in_row pairs k (a + 1) (λ some. omega arith) in
    ap (λ o. cons_option o (items_at pairs (range_with_len (a + 1) k))) (slice_get-get_or pairs a d (omega arith))
    ∙ (ap (λ l. get_or pairs a d ∷ l) rest
    ∙ sym (ap (take (suc k)) (drop-cons pairs a d (omega arith) ∙ ap (λ n. get_or pairs a d ∷ drop n pairs) next)))

put_in_front : {X : Type 0} (o : Option X) (a b : List X) → cons_option o (a ++ b) ≡ cons_option o a ++ b
put_in_front None a b = refl
put_in_front (Some x) a b = refl

items_append : (pairs : Flows) (a b : List ℕ) → items_at pairs (a ++ b) ≡ items_at pairs a ++ items_at pairs b
items_append pairs [] b = refl
items_append pairs (x ∷ a) b = ap (cons_option (slice_get pairs x)) (items_append pairs a b) ∙ put_in_front (slice_get pairs x) (items_at pairs a) (items_at pairs b)

-- the pairs at the places of batches are the batches' pairs
pub pairs_there : (pairs : Flows) (batches : List ℕ) → items_at pairs (drawn_places (length pairs) batches) ≡ drawn_pairs pairs batches
pairs_there pairs [] = refl
pairs_there pairs (x ∷ batches) =
    items_append pairs (batch_places (length pairs) x) (drawn_places (length pairs) batches)
    ∙ (λ i. items_in_row pairs (min (256 * x + 256) (length pairs) - 256 * x) (256 * x) (λ some. omega arith) i ++ pairs_there pairs batches i)
