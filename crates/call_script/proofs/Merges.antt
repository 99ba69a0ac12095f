-- A list that has each caller's items in their order has all items in an order.
use Rattle.std.specs.List.Sorted.{IsPermutation}
use Rattle.std.proofs.Common.{◌≡◌, ◌∙◌, ℕ, Bool, true, false, cond, eqb, eq-eqb, List, [], ◌∷◌, ◌++◌, filter, map, refl, sym, ap, subst, append_assoc}
use Rattle.std.proofs.Common.{⊎_elim}
use Rattle.std.proofs.lemmas.Bool.{cases_Bool, eqb-true}
use Rattle.std.proofs.lemmas.List.Elements.{filter-append}
use Rattle.std.proofs.lemmas.List.Sorted.{IsPermutation-append_left, IsPermutation-cons, IsPermutation-refl, IsPermutation-to_front, IsPermutation-trans}
use mathlib.Core.List.{map-append}

-- both lists begin with the item, or neither does
take_off : {X : Type 0} (t : Bool) (l : X) (f a b : List X) → cond t (l ∷ f) f ≡ a ++ cond t (l ∷ b) b → (t ≡ true → a ≡ []) → f ≡ a ++ b
take_off true l f a b e none =
    let whole : l ∷ f ≡ l ∷ b = e ∙ ap (λ z. z ++ l ∷ b) (none refl) in
    let same : f ≡ b = cc whole in
    same ∙ ap (λ z. z ++ b) (sym (none refl))
take_off false l f a b e none = e

put_on : {X : Type 0} (t : Bool) (l : X) (f a b : List X) → f ≡ a ++ b → (t ≡ true → a ≡ []) → cond t (l ∷ f) f ≡ a ++ cond t (l ∷ b) b
put_on true l f a b e none = ap (λ z. l ∷ z) (e ∙ ap (λ z. z ++ b) (none refl)) ∙ ap (λ z. z ++ l ∷ b) (sym (none refl))
put_on false l f a b e none = e

module _ {X : Type 0} (caller : X → ℕ) where
  -- the items that are the caller's, alone and with their numbers
  abbrev pub by : ℕ → X → Bool
  by x a = eqb (caller a) x

  abbrev pub own : ℕ → ℕ × X → Bool
  own x t = eqb (caller t.1) x

  -- the items of a list of them with numbers
  abbrev pub items_of : List (ℕ × X) → List X
  items_of ts = map (λ (t : ℕ × X). t.1) ts

  first_item : (b : Bool) (t : ℕ × X) (ks : List X) (ts : List (ℕ × X)) → ks ≡ items_of ts → cond b (t.1 ∷ ks) ks ≡ items_of (cond b (t ∷ ts) ts)
  first_item true t ks ts e = ap (λ z. t.1 ∷ z) e
  first_item false t ks ts e = e

  filter_items : (x : ℕ) (ts : List (ℕ × X)) → filter (by x) (items_of ts) ≡ items_of (filter (own x) ts)
  filter_items x [] = refl
  filter_items x (t ∷ ts) = first_item (own x t) t (filter (by x) (items_of ts)) (filter (own x) ts) (filter_items x ts)

  -- the caller's first item, and what stands before and behind it
  record FirstOf (x : ℕ) (item : X) (ts : List (ℕ × X)) : Type 0 where
    number : ℕ
    front : List (ℕ × X)
    back : List (ℕ × X)
    whole : ts ≡ front ++ (number, item) ∷ back
    none : filter (own x) front ≡ []

  first_of : (x : ℕ) (item : X) (rest : List X) (ts : List (ℕ × X)) → item ∷ rest ≡ filter (by x) (items_of ts) → FirstOf x item ts
  first_of x item rest [] e = absurd (cc e)
  first_of x item rest (t ∷ ts) e = ⊎_elim
      (λ b. let all : item ∷ rest ≡ t.1 ∷ filter (by x) (items_of ts) = e ∙ ap (λ c. cond c (t.1 ∷ filter (by x) (items_of ts)) (filter (by x) (items_of ts))) b in
      let same : item ≡ t.1 = cc all in
      record { number = t.0; front = []; back = ts; whole = ap (λ z. (t.0, z) ∷ ts) (sym same); none = refl })
      (λ b. let later = first_of x item rest ts (e ∙ ap (λ c. cond c (t.1 ∷ filter (by x) (items_of ts)) (filter (by x) (items_of ts))) b) in
      record {
        number = later.number;
        front = t ∷ later.front;
        back = later.back;
        whole = ap (λ z. t ∷ z) later.whole;
        none = ap (λ c. cond c (t ∷ filter (own x) later.front) (filter (own x) later.front)) b ∙ later.none;
      })
      (cases_Bool (own x t))

  -- the numbered items in another order, which keeps each caller's
  pub record Merges (ts : List (ℕ × X)) (line : List X) : Type 0 where
    pub merged : List (ℕ × X)
    pub each_once : IsPermutation ts merged
    pub owns : (x : ℕ) → filter (own x) merged ≡ filter (own x) ts
    pub items : items_of merged ≡ line

  module _ (item : X) (line : List X) (ts : List (ℕ × X)) (f : FirstOf (caller item) item ts) where
    taken : (x : ℕ) → filter (by x) (item ∷ line) ≡ filter (by x) (items_of ts) → filter (by x) line ≡ filter (by x) (items_of (f.front ++ f.back))
    taken x e =
        let a = filter (by x) (items_of f.front) in
        let b = filter (by x) (items_of f.back) in
        take_off (by x item) item (filter (by x) line) a b
        (e ∙ (ap (λ z. filter (by x) (items_of z)) f.whole ∙ (ap (filter (by x)) (map-append (λ (t : ℕ × X). t.1) f.front ((f.number, item) ∷ f.back))
        ∙ filter-append (by x) (items_of f.front) (item ∷ items_of f.back))))
        (λ t. none x t)
        ∙ (sym (filter-append (by x) (items_of f.front) (items_of f.back)) ∙ ap (filter (by x)) (sym (map-append (λ (t : ℕ × X). t.1) f.front f.back)))
      where
        none : (x : ℕ) → by x item ≡ true → filter (by x) (items_of f.front) ≡ []
        none x t = filter_items x f.front ∙ ap items_of (ap (λ n. filter (own n) f.front) (sym (eqb-true (caller item) x t)) ∙ f.none)

    joined : Merges (f.front ++ f.back) line → Merges ts (item ∷ line)
    joined m = let first : ℕ × X = (f.number, item) in record {
      merged = first ∷ m.merged;
      each_once = subst (λ z. IsPermutation z (first ∷ m.merged)) (sym f.whole)
          (IsPermutation-trans (f.front ++ first ∷ f.back) (first ∷ (f.front ++ f.back)) (first ∷ m.merged)
          (subst (λ z. IsPermutation z (first ∷ (f.front ++ f.back))) (append_assoc f.front (first ∷ []) f.back)
          (IsPermutation-append_left f.back (f.front ++ first ∷ []) (first ∷ f.front) (IsPermutation-to_front f.front first)))
          (IsPermutation-cons first (f.front ++ f.back) m.merged m.each_once));
      owns = λ x. put_on (by x item) first (filter (own x) m.merged) (filter (own x) f.front) (filter (own x) f.back)
          (m.owns x ∙ filter-append (own x) f.front f.back) (λ t. ap (λ n. filter (own n) f.front) (sym (eqb-true (caller item) x t)) ∙ f.none)
          ∙ (sym (filter-append (own x) f.front (first ∷ f.back)) ∙ ap (filter (own x)) (sym f.whole));
      items = ap (λ z. item ∷ z) m.items;
    }

  -- each caller's items in their order make one
  pub merges : (line : List X) (ts : List (ℕ × X)) → ((x : ℕ) → filter (by x) line ≡ filter (by x) (items_of ts)) → Merges ts line
  merges [] [] same = record { merged = []; each_once = IsPermutation-refl []; owns = λ x. refl; items = refl }
  merges [] (t ∷ ts) same =
      let e : [] ≡ t.1 ∷ filter (by (caller t.1)) (items_of ts)
      = same (caller t.1) ∙ ap (λ c. cond c (t.1 ∷ filter (by (caller t.1)) (items_of ts)) (filter (by (caller t.1)) (items_of ts))) (eq-eqb (caller t.1) (caller t.1) refl) in
      absurd (cc e)
  merges (item ∷ line) ts same =
      let x = caller item in
      let f = first_of x item (filter (by x) line) ts (ap (λ c. cond c (item ∷ filter (by x) line) (filter (by x) line)) (sym (eq-eqb x x refl)) ∙ same x) in
      joined item line ts f (merges line (f.front ++ f.back) (λ y. taken item line ts f y (same y)))
