-- Lists of workers joined by rising number.
use Rattle.std.proofs.Common.{◌≡◌, ◌∙◌, ℕ, ◌+◌, ◌<◌, ◌≤◌, suc, zero, List, [], ◌∷◌, ◌++◌}
use Rattle.std.proofs.Common.{cond, eq-eqb, ne_eqb, get_or, length, take, refl, sym, ap, subst, arith, ⊎_elim}
use Rattle.std.specs.List.Sorted.{IsPermutation}
use Rattle.std.specs.Prelude.{flat_map}
use Rattle.std.proofs.lemmas.Bool.{cases_eq}
use Rattle.std.proofs.lemmas.Grind.{flat_map-append}
use Rattle.std.proofs.lemmas.List.{append-nil, take_more}
use Rattle.std.proofs.lemmas.List.Sorted.{IsPermutation-middle, IsPermutation-sym, IsPermutation-append, IsPermutation-refl}
use Rattle.flow_fold.specs.Flows.{Flows}
use Rattle.flow_fold.specs.declared.key.Key.{Key}
use Rattle.flow_fold.specs.declared.value.Value.{Value}
use Rattle.seat_history.specs.Contents.{set_at}
use Rattle.tally_core.specs.Tallying.{joined}

pub joined_same : {X : Type 0} (n : ℕ) (a b : ℕ → List X) → ((w : ℕ) → w < n → a w ≡ b w) → joined n a ≡ joined n b
joined_same zero a b same = refl
joined_same (suc n) a b same = (λ i. joined_same n a b (λ w l. same w (omega arith)) i ++ same n (omega arith) i)

-- what is made of each item of joined lists is what is made of each list, joined
pub joined_flat : {X Y : Type 0} (f : X → List Y) (n : ℕ) (lists : ℕ → List X) → flat_map f (joined n lists) ≡ joined n (λ w. flat_map f (lists w))
joined_flat f zero lists = refl
joined_flat f (suc n) lists = flat_map-append f (joined n lists) (lists n) ∙ ap (λ l. l ++ flat_map f (lists n)) (joined_flat f n lists)

-- items in a row, each with the list of its place
pub flat_joined : {A X : Type 0} (f : A → List X) (items : List A) (lists : ℕ → List X) (n : ℕ) → n ≤ length items
    → ((i : ℕ) (d : A) → i < length items → f (get_or items i d) ≡ lists i) → A
    → flat_map f (take n items) ≡ joined n lists
flat_joined f items lists zero within each d = refl
flat_joined f items lists (suc n) within each d =
    let next : suc n ≡ n + 1 = omega arith in
    ap (λ k. flat_map f (take k items)) next
    ∙ (ap (flat_map f) (take_more items n d (omega arith))
    ∙ (flat_map-append f (take n items) (get_or items n d ∷ [])
    ∙ (λ i. flat_joined f items lists n (omega arith) each d i ++ (append-nil (f (get_or items n d)) ∙ each n d (omega arith)) i)))

-- the first of one worker's before all others
pub first_taken : (n : ℕ) (lists : ℕ → Flows) (w : ℕ) (pair : Key × Value) (rest : Flows) → w < n → lists w ≡ pair ∷ rest
    → IsPermutation (pair ∷ joined n (set_at lists w rest)) (joined n lists)
first_taken zero lists w pair rest below is = absurd (omega arith)
first_taken (suc n) lists w pair rest below is = ⊎_elim
    (λ e. let front : joined n (set_at lists w rest) ≡ joined n lists = joined_same n (set_at lists w rest) lists (λ v l. ap (λ b. cond b rest (lists v)) (ne_eqb w v (λ q. omega arith))) in
    let last : set_at lists w rest n ≡ rest = ap (λ b. cond b rest (lists n)) (eq-eqb w n e) in
    let whole : lists n ≡ pair ∷ rest = ap lists (sym e) ∙ is in
    subst (λ (l : Flows × Flows). IsPermutation (pair ∷ l.0) l.1) (λ i. (sym front i ++ sym last i, joined n lists ++ sym whole i))
    (IsPermutation-sym _ _ (IsPermutation-middle (joined n lists) pair rest)))
    (λ ne. let last : set_at lists w rest n ≡ lists n = ap (λ b. cond b rest (lists n)) (ne_eqb w n ne) in
    subst (λ (l : Flows). IsPermutation (pair ∷ (joined n (set_at lists w rest) ++ l)) (joined n lists ++ lists n)) (sym last)
    (IsPermutation-append (pair ∷ joined n (set_at lists w rest)) (joined n lists) (lists n) (lists n) (first_taken n lists w pair rest (omega arith) is) (IsPermutation-refl (lists n))))
    (cases_eq w n)
