-- A tuple read number by number.
use Rattle.std.specs.Prelude.{replicate}
use Rattle.std.specs.List.{AllZip}
use Rattle.std.proofs.Common.{◌≡◌, ◌∙◌, ℕ, zero, suc, ◌+◌, ◌-◌, ◌<◌, ◌≤◌, List, [], ◌∷◌, ◌++◌, length, take, drop, get_or, set, sym, ap, subst, arith}
use Rattle.std.proofs.lemmas.List.{take-append-drop, take_all, length-take, length-drop, take_more, take_more_set, drop-set-lt, drop-drop, drop-replicate}
use Rattle.call_script.specs.Cut.{parts_at}
use Rattle.call_script.specs.Number.{IsNumber, IsTuple}
use Rattle.call_script.proofs.Parts.{parts_some}
use Rattle.call_script.proofs.Zips.{zip_length, zip_at, zip_push}

-- what stands first in what is left
pub drop_first : {X : Type 0} (xs : List X) (i : ℕ) (x d : X) (rest : List X) → drop i xs ≡ x ∷ rest → (i < length xs) × (get_or xs i d ≡ x) × (drop (i + 1) xs ≡ rest)
drop_first [] zero x d rest h = absurd (cc)
drop_first [] (suc i) x d rest h = absurd (cc)
drop_first (y ∷ xs) zero x d rest h = (omega arith, cc, cc)
drop_first (y ∷ xs) (suc i) x d rest h =
    let more = drop_first xs i x d rest h in
    let next : suc i + 1 ≡ suc (i + 1) = omega arith in
    (omega (arith, more.0), more.1, ap (λ n. drop n (y ∷ xs)) next ∙ more.2)

pub drop_nothing : {X : Type 0} (xs : List X) (i : ℕ) → drop i xs ≡ [] → take i xs ≡ xs
drop_nothing xs i h = let none : length (drop i xs) ≡ 0 = ap length h in take_all i xs (omega (arith, length-drop i xs))

pub tuple_read : (most count : ℕ) (text words : List ℕ) → count ≤ most → length words ≡ most
    → AllZip IsNumber (take count (parts_at 44 text)) (take count words) → drop count words ≡ replicate (most - count) 0 → drop count (parts_at 44 text) ≡ [] → IsTuple most text words
tuple_read most count text words within long spelled zeros rest = record {
  numbers = take count words;
  spelled = subst (λ ps. AllZip IsNumber ps (take count words)) (drop_nothing (parts_at 44 text) count rest) spelled;
  few = omega (arith, length-take {A = ℕ});
  filled =
      let same : length (take count words) ≡ count = omega (arith, length-take count words) in
      sym (take-append-drop count words) ∙ ap (λ zs. take count words ++ zs) (zeros ∙ ap (λ n. replicate (most - n) 0) (sym same));
}

pub tuple_long : (most count : ℕ) (text bytes words : List ℕ) → most ≤ count → drop count (parts_at 44 text) ≡ parts_at 44 bytes → IsTuple most text words → ⊥
tuple_long most count text bytes words full left h =
    let same = zip_length IsNumber (parts_at 44 text) h.numbers h.spelled in
    let few = h.few in
    let some = parts_some 44 bytes in
    absurd (omega (arith, length-drop count (parts_at 44 text), ap length left))

pub tuple_broken : (most count : ℕ) (text words word : List ℕ) (rest : List (List ℕ)) → drop count (parts_at 44 text) ≡ word ∷ rest → ((n : ℕ) → IsNumber word n → ⊥) → IsTuple most text words → ⊥
tuple_broken most count text words word rest left none h =
    let first = drop_first (parts_at 44 text) count word [] rest left in
    none (get_or h.numbers count 0) (subst (λ w. IsNumber w (get_or h.numbers count 0)) first.1 (zip_at IsNumber (parts_at 44 text) h.numbers count [] 0 h.spelled first.0))

pub tuple_more : (count n : ℕ) (parts : List (List ℕ)) (words word : List ℕ) (rest : List (List ℕ)) → count < length words → drop count parts ≡ word ∷ rest → IsNumber word n
    → AllZip IsNumber (take count parts) (take count words) → AllZip IsNumber (take (count + 1) parts) (take (count + 1) (set words count n))
tuple_more count n parts words word rest lt left number so_far =
    let first = drop_first parts count word [] rest left in
    let front : take (count + 1) parts ≡ take count parts ++ word ∷ [] = take_more parts count [] first.0 ∙ ap (λ w. take count parts ++ w ∷ []) first.1 in
    let back : take (count + 1) (set words count n) ≡ take count words ++ n ∷ [] = take_more_set words count n lt in
    rw (front, back) (zip_push IsNumber (take count parts) (take count words) word n so_far number)

pub zeros_more : (most count n : ℕ) (words : List ℕ) → count < most → drop count words ≡ replicate (most - count) 0 → drop (count + 1) (set words count n) ≡ replicate (most - (count + 1)) 0
zeros_more most count n words lt zeros =
    drop-set-lt (count + 1) words count n (omega arith) ∙ sym (drop-drop 1 count words) ∙ ap (drop 1) zeros
    ∙ drop-replicate 1 (most - count) 0 ∙ ap (λ m. replicate m 0) (omega arith)
