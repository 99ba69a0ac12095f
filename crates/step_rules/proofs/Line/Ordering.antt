-- Each caller's stands keep their order in the line.
use Rattle.std.proofs.Common.{◌≡◌, ◌≢◌, ◌∙◌, ℕ, ◌<◌, ◌≤◌, suc, zero, Bool, true, false, not, ◌&&◌, ◌||◌, cond, eqb, ne_eqb, eq-eqb, List, [], ◌∷◌}
use Rattle.std.proofs.Common.{◌++◌, length, filter, AllPairs, append-nil}
use Rattle.std.proofs.Common.{refl, sym, ap, subst, arith, ◌⊎◌, inl, inr, ⊎_elim}
use Rattle.std.proofs.lemmas.Bool.{eqb-true, cases_eq, cases_Bool, or_cases, false≢true, false_from_ne_true, and_parts, or_left, or_right}
use Rattle.std.proofs.lemmas.List.Elements.{filter-append}
use mathlib.Core.Option.{some}
use lib.ListN.{get_elem?}
use Rattle.seat_history.specs.declared.entry.Entry.{Entry}
use Rattle.step_rules.specs.Lawful.{Below}
use Rattle.step_rules.specs.Line.{entry_at, line_before, line_of, readings, readings_below, stands_by}
use Rattle.step_rules.specs.declared.view.Stand.{Stand}
use Rattle.step_rules.proofs.Numbers.Places.{at_below, there_at}

-- each element of a list, and each with each later one
abbrev pub Each : {A : Type 0} → (A → Type 0) → List A → Type 0
Each P [] = Unit {0}
Each P (a ∷ l) = P a × Each P l

abbrev pub Pairs : {A : Type 0} → (A → A → Type 0) → List A → Type 0
Pairs R [] = Unit {0}
Pairs R (a ∷ l) = Each (R a) l × Pairs R l

pub each_from : {A : Type 0} (P : A → Type 0) (l : List A) → ((i : ℕ) (a : A) → get_elem? l i ≡ some a → P a) → Each P l
each_from P [] f = tt
each_from P (a ∷ l) f = (f 0 a refl, each_from P l (λ i b at. f (suc i) b at))

pub each_map : {A : Type 0} (P Q : A → Type 0) (l : List A) → ((a : A) → P a → Q a) → Each P l → Each Q l
each_map P Q [] f e = tt
each_map P Q (a ∷ l) f e = (f a e.0, each_map P Q l f e.1)

pub each_append : {A : Type 0} (P : A → Type 0) (l m : List A) → Each P l → Each P m → Each P (l ++ m)
each_append P [] m e f = f
each_append P (a ∷ l) m e f = (e.0, each_append P l m e.1 f)

pub pairs_map : {A : Type 0} (R T : A → A → Type 0) (l : List A) → ((a b : A) → R a b → T a b) → Pairs R l → Pairs T l
pairs_map R T [] f e = tt
pairs_map R T (a ∷ l) f e = (each_map (R a) (T a) l (λ b r. f a b r) e.0, pairs_map R T l f e.1)

pub pairs_from : {A : Type 0} (R : A → A → Type 0) (l : List A) → AllPairs R l → Pairs R l
pairs_from R [] f = tt
pairs_from {A} R (a ∷ l) f = (
  each_from (R a) l (λ i b at. let under = at_below l i b at in subst (λ (z : A). R a z) (there_at l i b a at) (f 0 (suc i) a (omega arith) (omega arith))),
  pairs_from R l (λ i j d lt within. f (suc i) (suc j) d (omega arith) (omega arith)),
)

kept_head : {A : Type 0} (p : A → Bool) (a : A) (l : List A) (b : Bool) → (b ≡ true → p a ≡ true) → Each (λ (z : A). p z ≡ true) l
    → Each (λ (z : A). p z ≡ true) (cond b (a ∷ l) l)
kept_head p a l true h e = (h refl, e)
kept_head p a l false h e = e

pub filter_kept : {A : Type 0} (p : A → Bool) (l : List A) → Each (λ (a : A). p a ≡ true) (filter p l)
filter_kept p [] = tt
filter_kept p (a ∷ l) = kept_head p a (filter p l) (p a) (λ h. h) (filter_kept p l)

filter_none : {A : Type 0} (p : A → Bool) (l : List A) → Each (λ (a : A). p a ≡ false) l → filter p l ≡ []
filter_none p [] e = refl
filter_none p (a ∷ l) e = ap (λ b. cond b (a ∷ filter p l) (filter p l)) e.0 ∙ filter_none p l e.1

pub filter_same : {A : Type 0} (p q : A → Bool) (l : List A) → Each (λ (a : A). p a ≡ q a) l → filter p l ≡ filter q l
filter_same p q [] e = refl
filter_same p q (a ∷ l) e = ap (λ b. cond b (a ∷ filter p l) (filter p l)) e.0 ∙ ap (λ z. cond (q a) (a ∷ z) z) (filter_same p q l e.1)

twice_head : {A : Type 0} (p : A → Bool) (a : A) (l m : List A) (b : Bool) → filter p l ≡ m → filter p (cond b (a ∷ l) l) ≡ cond (b && p a) (a ∷ m) m
twice_head p a l m true e = ap (λ z. cond (p a) (a ∷ z) z) e
twice_head p a l m false e = e

filter_twice : {A : Type 0} (p q : A → Bool) (l : List A) → filter p (filter q l) ≡ filter (λ (a : A). q a && p a) l
filter_twice p q [] = refl
filter_twice {A} p q (a ∷ l) = twice_head p a (filter q l) (filter (λ (z : A). q z && p z) l) (q a) (filter_twice p q l)

joined : {A : Type 0} (a : A) (u v w : List A) (b c : Bool) → (b && c) ≡ false → (c ≡ true → u ≡ []) → u ++ v ≡ w
    → cond b (a ∷ u) u ++ cond c (a ∷ v) v ≡ cond (b || c) (a ∷ w) w
joined a u v w true true apart none e = absurd (false≢true (sym apart))
joined a u v w true false apart none e = ap (λ z. a ∷ z) e
joined a u v w false true apart none e = ap (λ z. z ++ (a ∷ v)) (none refl) ∙ ap (λ z. a ∷ z) (ap (λ z. z ++ v) (sym (none refl)) ∙ e)
joined a u v w false false apart none e = e

-- the elements that pass the first test, then those that pass the second, where none of the first comes after one of the second
filter_split : {A : Type 0} (p q r : A → Bool) (l : List A) → Each (λ (a : A). (r a ≡ (p a || q a)) × ((p a && q a) ≡ false)) l → Pairs (λ (a b : A). q a ≡ true → p b ≡ false) l
    → filter p l ++ filter q l ≡ filter r l
filter_split p q r [] e f = refl
filter_split {A} p q r (a ∷ l) e f =
    joined a (filter p l) (filter q l) (filter r l) (p a) (q a) e.0.1 (λ h. filter_none p l (each_map (λ (b : A). q a ≡ true → p b ≡ false) (λ (b : A). p b ≡ false) l (λ b g. g h) f.0))
    (filter_split p q r l e.1 f.1)
    ∙ ap (λ b. cond b (a ∷ filter r l) (filter r l)) (sym e.0.0)

-- a test that two elements never pass
pub at_most_one : {A : Type 0} (P : A → Type 0) (p : A → Bool) (l : List A) → Each P l → Pairs (λ (a b : A). p a ≡ true → p b ≡ false) l
    → (filter p l ≡ []) ⊎ ((a : A) × (filter p l ≡ a ∷ []) × (p a ≡ true) × P a)
at_most_one P p [] e f = inl refl
at_most_one {A} P p (a ∷ l) e f = ⊎_elim
    (λ h. inr (
      a,
      ap (λ b. cond b (a ∷ filter p l) (filter p l)) h
          ∙ ap (λ z. a ∷ z) (filter_none p l (each_map (λ (b : A). p a ≡ true → p b ≡ false) (λ (b : A). p b ≡ false) l (λ b g. g h) f.0)),
      h,
      e.0,
    ))
    (λ h. ⊎_elim (λ g. inl (ap (λ b. cond b (a ∷ filter p l) (filter p l)) h ∙ g)) (λ g. inr (g.0, ap (λ b. cond b (a ∷ filter p l) (filter p l)) h ∙ g.1, g.2, g.3))
    (at_most_one P p l e.1 f.1))
    (cases_Bool (p a))

-- m is below q, as a test
abbrev pub under : ℕ → ℕ → Bool
under zero m = false
under (suc q) m = under q m || eqb m q

under_lt : (q m : ℕ) → under q m ≡ true → m < q
under_lt zero m h = absurd (false≢true h)
under_lt (suc q) m h = ⊎_elim (λ g. let l = under_lt q m g in omega arith) (λ g. let l : m ≡ q = eqb-true m q g in omega arith) (or_cases (under q m) (eqb m q) h)

pub lt_under : (q m : ℕ) → m < q → under q m ≡ true
lt_under zero m l = absurd (omega arith)
lt_under (suc q) m l = ⊎_elim (λ e. or_right (under q m) (eqb m q) (eq-eqb m q e)) (λ ne. or_left (under q m) (eqb m q) (lt_under q m (omega arith))) (cases_eq m q)

not_under : (q m : ℕ) → q ≤ m → under q m ≡ false
not_under q m l = false_from_ne_true (under q m) (λ h. let g = under_lt q m h in absurd (omega arith))

-- not both pass, where the second fails with the first
pub both_false : (b c : Bool) → (b ≡ true → c ≡ false) → (b && c) ≡ false
both_false true c h = h refl
both_false false c h = refl

-- those that pass a test before a place of the history, and at it
abbrev pub below_place : (Stand → Bool) → ℕ → Stand → Bool
below_place t q s = t s && under q s.place

abbrev pub on_place : (Stand → Bool) → ℕ → Stand → Bool
on_place t q s = t s && eqb s.place q

abbrev is_by : ℕ → Stand → Bool
is_by x s = eqb s.by x

abbrev pub is_made : ℕ → Stand → Bool
is_made x s = s.changes && eqb s.by x

abbrev pub reading_by : ℕ → ℕ → Stand → Bool
reading_by q x s = not s.changes && (eqb s.by x && eqb s.place q)

abbrev entry_by : ℕ → ℕ → Stand → Bool
entry_by q x s = (s.changes && eqb s.place q) && eqb s.by x

-- a caller's readings at a place, and then its entry there
at_place : (q x : ℕ) (stands : List Stand) → Pairs Below stands → readings q x stands ++ filter (entry_by q x) stands ≡ filter (on_place (is_by x) q) stands
at_place q x stands rising = filter_split (reading_by q x) (entry_by q x) (on_place (is_by x) q) stands
    (each_from (λ (s : Stand). (on_place (is_by x) q s ≡ (reading_by q x s || entry_by q x s)) × ((reading_by q x s && entry_by q x s) ≡ false)) stands
    (λ i s at. (sum s.changes (eqb s.by x) (eqb s.place q), apart s.changes (eqb s.by x) (eqb s.place q))))
    (pairs_map Below (λ (a b : Stand). entry_by q x a ≡ true → reading_by q x b ≡ false) stands (λ a b below h.
    let f = and_parts (a.changes && eqb a.place q) (eqb a.by x) h in
    let g = and_parts a.changes (eqb a.place q) f.0 in
    let by : a.by ≡ x = eqb-true a.by x f.1 in
    let place : a.place ≡ q = eqb-true a.place q g.1 in
    after (not b.changes) (eqb b.by x) (eqb b.place q) (λ t. ne_eqb b.place q (λ same. let l = (below (by ∙ sym (eqb-true b.by x t))).1 g.0 in absurd (omega arith))))
    rising)
  where
    sum : (c b t : Bool) → (b && t) ≡ ((not c && (b && t)) || ((c && t) && b))
    sum true true true = refl
    sum true true false = refl
    sum true false true = refl
    sum true false false = refl
    sum false true true = refl
    sum false true false = refl
    sum false false t = refl

    apart : (c b t : Bool) → ((not c && (b && t)) && ((c && t) && b)) ≡ false
    apart true b t = refl
    apart false b t = both_false (b && t) false (λ h. refl)

    after : (c b t : Bool) → (b ≡ true → t ≡ false) → (c && (b && t)) ≡ false
    after c b t h = both_false c (b && t) (λ g. both_false b t h)

-- one caller's stands before a place and at it are those before the next
pub next_place : (t : Stand → Bool) (q x : ℕ) (stands : List Stand) → ((s : Stand) → t s ≡ true → s.by ≡ x) → Pairs Below stands
    → filter (below_place t q) stands ++ filter (on_place t q) stands ≡ filter (below_place t (suc q)) stands
next_place t q x stands whose rising = filter_split (below_place t q) (on_place t q) (below_place t (suc q)) stands
    (each_from (λ (s : Stand). (below_place t (suc q) s ≡ (below_place t q s || on_place t q s)) × ((below_place t q s && on_place t q s) ≡ false)) stands
    (λ i s at. (sum (t s) (under q s.place) (eqb s.place q), apart (t s) (under q s.place) (eqb s.place q) (λ h. let l = under_lt q s.place h in ne_eqb s.place q (λ e. absurd (omega arith))))))
    (pairs_map Below (λ (a b : Stand). on_place t q a ≡ true → below_place t q b ≡ false) stands (λ a b below h.
    let f = and_parts (t a) (eqb a.place q) h in
    let place : a.place ≡ q = eqb-true a.place q f.1 in
    both_false (t b) (under q b.place) (λ g. not_under q b.place (let l = (below (whose a f.0 ∙ sym (whose b g))).0 in omega arith)))
    rising)
  where
    sum : (b u t : Bool) → (b && (u || t)) ≡ ((b && u) || (b && t))
    sum true u t = refl
    sum false u t = refl

    apart : (b u t : Bool) → (u ≡ true → t ≡ false) → ((b && u) && (b && t)) ≡ false
    apart true u t h = both_false u t h
    apart false u t h = refl

pub none_before : (t : Stand → Bool) (stands : List Stand) → filter (below_place t 0) stands ≡ []
none_before t stands = filter_none (below_place t 0) stands (each_from (λ (s : Stand). below_place t 0 s ≡ false) stands (λ i s at. both_false (t s) false (λ h. refl)))

-- a caller's stands in the line

by_other : (q n x : ℕ) (stands : List Stand) → n ≢ x → stands_by x (readings q n stands) ≡ []
by_other q n x stands ne = filter_twice (is_by x) (reading_by q n) stands
    ∙ filter_none (λ (s : Stand). reading_by q n s && is_by x s) stands (each_from (λ (s : Stand). (reading_by q n s && is_by x s) ≡ false) stands (λ i s at.
    both_false (reading_by q n s) (is_by x s) (λ h.
    let g = and_parts (eqb s.by n) (eqb s.place q) (and_parts (not s.changes) (eqb s.by n && eqb s.place q) h).1 in
    ne_eqb s.by x (λ e. ne (sym (eqb-true s.by n g.0) ∙ e)))))

by_own : (q n x : ℕ) (stands : List Stand) → n ≡ x → stands_by x (readings q n stands) ≡ readings q x stands
by_own q n x stands e = subst (λ m. stands_by x (readings q m stands) ≡ readings q x stands) (sym e) (filter_twice (is_by x) (reading_by q x) stands
    ∙ filter_same (λ (s : Stand). reading_by q x s && is_by x s) (reading_by q x) stands
    (each_from (λ (s : Stand). (reading_by q x s && is_by x s) ≡ reading_by q x s) stands (λ i s at. again (not s.changes) (eqb s.by x) (eqb s.place q))))
  where
    again : (c b t : Bool) → ((c && (b && t)) && b) ≡ (c && (b && t))
    again true true true = refl
    again true true false = refl
    again true false t = refl
    again false b t = refl

by_readings_high : (q n x : ℕ) (stands : List Stand) → n ≤ x → stands_by x (readings_below q n stands) ≡ []
by_readings_high q zero x stands l = refl
by_readings_high q (suc n) x stands l = filter-append (is_by x) (readings_below q n stands) (readings q n stands)
    ∙ (ap (λ z. z ++ stands_by x (readings q n stands)) (by_readings_high q n x stands (omega arith)) ∙ by_other q n x stands (λ e. absurd (omega arith)))

by_readings : (q n x : ℕ) (stands : List Stand) → x < n → stands_by x (readings_below q n stands) ≡ readings q x stands
by_readings q zero x stands l = absurd (omega arith)
by_readings q (suc n) x stands l = filter-append (is_by x) (readings_below q n stands) (readings q n stands) ∙ ⊎_elim
    (λ e. ap (λ z. z ++ stands_by x (readings q n stands)) (by_readings_high q n x stands (omega arith)) ∙ by_own q n x stands e)
    (λ ne. ap (λ z. z ++ stands_by x (readings q n stands)) (by_readings q n x stands (omega arith))
    ∙ (ap (λ z. readings q x stands ++ z) (by_other q n x stands ne) ∙ append-nil (readings q x stands)))
    (cases_eq n x)

by_line : (seats q x : ℕ) (stands : List Stand) → x < seats → Pairs Below stands → stands_by x (line_before seats q stands) ≡ filter (below_place (is_by x) q) stands
by_line seats zero x stands l rising = sym (none_before (is_by x) stands)
by_line seats (suc q) x stands l rising =
    filter-append (is_by x) (line_before seats q stands) (readings_below q seats stands ++ entry_at q stands)
    ∙ (ap (λ z. stands_by x (line_before seats q stands) ++ z) (filter-append (is_by x) (readings_below q seats stands) (entry_at q stands)
    ∙ (ap (λ z. z ++ stands_by x (entry_at q stands)) (by_readings q seats x stands l)
    ∙ (ap (λ z. readings q x stands ++ z) (filter_twice (is_by x) (λ (s : Stand). s.changes && eqb s.place q) stands)
    ∙ at_place q x stands rising)))
    ∙ (ap (λ z. z ++ filter (on_place (is_by x) q) stands) (by_line seats q x stands l rising)
    ∙ next_place (is_by x) q x stands (λ s h. eqb-true s.by x h) rising))

-- no stand is past the end of the history, and a change is before it
abbrev pub Within : List Entry → Stand → Type 0
Within history s = (s.place ≤ length history) × (s.changes ≡ true → s.place < length history)

pub by_whole : (seats x : ℕ) (history : List Entry) (stands : List Stand) → x < seats → Pairs Below stands → Each (Within history) stands
    → stands_by x (line_of seats history stands) ≡ stands_by x stands
by_whole seats x history stands l rising within =
    let n = length history in
    filter-append (is_by x) (line_before seats n stands) (readings_below n seats stands)
    ∙ (ap (λ z. z ++ stands_by x (readings_below n seats stands)) (by_line seats n x stands l rising)
    ∙ (ap (λ z. filter (below_place (is_by x) n) stands ++ z) (by_readings n seats x stands l)
    ∙ filter_split (below_place (is_by x) n) (reading_by n x) (is_by x) stands
    (each_map (Within history) (λ (s : Stand). (is_by x s ≡ (below_place (is_by x) n s || reading_by n x s)) × ((below_place (is_by x) n s && reading_by n x s) ≡ false)) stands
    (λ s w. (
      whole (eqb s.by x) (under n s.place) s.changes (eqb s.place n) (end n s w.0) (still n s w.1),
      apart (eqb s.by x) (under n s.place) (not s.changes) (eqb s.place n) (λ h. let k = under_lt n s.place h in ne_eqb s.place n (λ e. absurd (omega arith))),
    ))
    within)
    (pairs_map Below (λ (a b : Stand). reading_by n x a ≡ true → below_place (is_by x) n b ≡ false) stands (λ a b below h.
    let f = and_parts (eqb a.by x) (eqb a.place n) (and_parts (not a.changes) (eqb a.by x && eqb a.place n) h).1 in
    let by : a.by ≡ x = eqb-true a.by x f.0 in
    let place : a.place ≡ n = eqb-true a.place n f.1 in
    both_false (eqb b.by x) (under n b.place) (λ t. not_under n b.place (let k = (below (by ∙ sym (eqb-true b.by x t))).0 in omega arith)))
    rising)))
  where
    end : (n : ℕ) (s : Stand) → s.place ≤ n → under n s.place ≡ false → eqb s.place n ≡ true
    end n s k h = ⊎_elim (λ e. eq-eqb s.place n e) (λ ne. absurd (false≢true (sym h ∙ lt_under n s.place (omega arith)))) (cases_eq s.place n)

    still : (n : ℕ) (s : Stand) → (s.changes ≡ true → s.place < n) → under n s.place ≡ false → s.changes ≡ false
    still n s k h = false_from_ne_true s.changes (λ c. false≢true (sym h ∙ lt_under n s.place (k c)))

    one : (c t : Bool) → t ≡ true → c ≡ false → true ≡ (not c && t)
    one true t h g = absurd (false≢true (sym g))
    one false t h g = sym h

    none : (c : Bool) → false ≡ (not c && false)
    none true = refl
    none false = refl

    whole : (b u c t : Bool) → (u ≡ false → t ≡ true) → (u ≡ false → c ≡ false) → b ≡ ((b && u) || (not c && (b && t)))
    whole true true c t h g = refl
    whole true false c t h g = one c t (h refl) (g refl)
    whole false u c t h g = none c

    apart : (b u c t : Bool) → (u ≡ true → t ≡ false) → ((b && u) && (c && (b && t))) ≡ false
    apart true u c t h = both_false u (c && t) (λ g. both_false c t (λ _. h g))
    apart false u c t h = refl
