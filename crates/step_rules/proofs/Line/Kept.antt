-- The nodes beside a stand, as more is seen and stands are added.
use Rattle.std.proofs.Common.{◌≡◌, ◌∙◌, ℕ, ◌+◌, ◌*◌, ◌≤◌, suc, zero, Bool, true, false, cond, eqb, eq-eqb, ne_eqb}
use Rattle.std.proofs.Common.{List, [], ◌∷◌, ◌++◌, length, filter, take, append-nil, append_assoc, refl, sym, ap, subst, arith, ⊎_elim}
use Rattle.std.proofs.lemmas.Bool.{cases_eq, eqb-true, false≢true, or_from, or_left, or_right}
use Rattle.std.proofs.lemmas.List.Elements.{filter-append}
use mathlib.Core.Option.{some, some-injective, some-ne-none}
use lib.ListN.{get_elem?}
use Rattle.seat_history.specs.declared.entry.Entry.{Entry}
use Rattle.step_rules.proofs.Line.Stocks.{costs_more, gains_more}
use Rattle.step_rules.proofs.Numbers.Sets.{has_first}
use Rattle.step_rules.specs.Lawful.{Lawful}
use Rattle.step_rules.specs.Line.{stands_by}
use Rattle.step_rules.specs.Stock.{AreOfOne, IsStock, KeepsStock, costs, gains, stands_of}
use Rattle.step_rules.specs.World.{Once, has}
use Rattle.step_rules.specs.declared.plan.Plan.{Plan}
use Rattle.step_rules.specs.declared.view.Stand.{Stand}

-- what a test keeps stands in the list
kept_head : {A : Type 0} (x : A) (k l : List A) (i : ℕ) (a : A) → ((n : ℕ) → get_elem? k n ≡ some a → (j : ℕ) × (get_elem? l j ≡ some a)) → (b : Bool)
    → get_elem? (cond b (x ∷ k) k) i ≡ some a → (j : ℕ) × (get_elem? (x ∷ l) j ≡ some a)
kept_head x k l zero a there true e = (zero, e)
kept_head x k l (suc i) a there true e = let r = there i e in (suc r.0, r.1)
kept_head x k l i a there false e = let r = there i e in (suc r.0, r.1)

kept_there : {A : Type 0} (test : A → Bool) (l : List A) (i : ℕ) (a : A) → get_elem? (filter test l) i ≡ some a → (j : ℕ) × (get_elem? l j ≡ some a)
kept_there test [] i a e = (i, e)
kept_there test (x ∷ l) i a e = kept_head x (filter test l) l i a (λ n at. kept_there test l n a at) (test x) e

-- where all pass the test, and where none does
all_kept : {A : Type 0} (test : A → Bool) (l : List A) → ((i : ℕ) (a : A) → get_elem? l i ≡ some a → test a ≡ true) → filter test l ≡ l
all_kept test [] all = refl
all_kept test (x ∷ l) all = ap (λ b. cond b (x ∷ filter test l) (filter test l)) (all 0 x refl) ∙ ap (λ z. x ∷ z) (all_kept test l (λ i a at. all (suc i) a at))

none_kept : {A : Type 0} (test : A → Bool) (l : List A) → ((i : ℕ) (a : A) → get_elem? l i ≡ some a → test a ≡ false) → filter test l ≡ []
none_kept test [] none = refl
none_kept test (x ∷ l) none = ap (λ b. cond b (x ∷ filter test l) (filter test l)) (none 0 x refl) ∙ none_kept test l (λ i a at. none (suc i) a at)

-- more is seen
pub kept_more : (p : Plan) (a r : List Entry) (before : List Stand) (s : Stand) → ((i : ℕ) (t : Stand) → get_elem? before i ≡ some t → t.place ≤ length a) → KeepsStock p a before s
    → KeepsStock p (a ++ r) before s
kept_more p a r before s placed k =
    let own = stands_of s.numbers before in
    let there : (i : ℕ) (t : Stand) → get_elem? own i ≡ some t → t.place ≤ length a =
    λ i t at. let q = kept_there (λ (u : Stand). has s.numbers u.by) before i t at in placed q.0 t q.1 in
    record {
      own = k.own;
      once = k.once;
      even = ap (λ n. s.stock + n) (costs_more p a r own there) ∙ (k.even ∙ ap (λ n. p.share * length s.numbers + n) (sym (gains_more p a r own there)));
    }

-- other seats' stands are put before
pub kept_after : (p : Plan) (a : List Entry) (others before : List Stand) (s : Stand) → ((i : ℕ) (t : Stand) → get_elem? others i ≡ some t → has s.numbers t.by ≡ false)
    → KeepsStock p a before s → KeepsStock p a (others ++ before) s
kept_after p a others before s none k =
    let same : stands_of s.numbers (others ++ before) ≡ stands_of s.numbers before =
    filter-append (λ (t : Stand). has s.numbers t.by) others before ∙ ap (λ l. l ++ stands_of s.numbers before) (none_kept (λ (t : Stand). has s.numbers t.by) others none) in
    record {
      own = k.own;
      once = k.once;
      even = subst (λ (l : List Stand). s.stock + costs p a l ≡ p.share * length s.numbers + gains p a l) (sym same) k.even;
    }

-- the stand is its seat's, after all that the seat has
pub kept_now : {p : Plan} {seen : List Entry} {before : List Stand} {nodes removes : ℕ} (numbers : List ℕ) (s : Stand) → s.numbers ≡ numbers → s.stock ≡ nodes → has numbers s.by ≡ true
    → Once numbers → ((i : ℕ) (t : Stand) → get_elem? before i ≡ some t → has numbers t.by ≡ true) → IsStock p (length numbers) seen before nodes removes → KeepsStock p seen before s
kept_now {p} {seen} {before} numbers s are stock by once all k =
    let same : stands_of s.numbers before ≡ before = ap (λ l. stands_of l before) are ∙ all_kept (λ (t : Stand). has numbers t.by) before all in
    record {
      own = subst (λ l. has l s.by ≡ true) (sym are) by;
      once = subst Once (sym are) once;
      even = subst (λ (l : List Stand). s.stock + costs p seen l ≡ p.share * length s.numbers + gains p seen l) (sym same)
          (ap (λ n. n + costs p seen before) stock ∙ (k.even ∙ ap (λ l. p.share * length l + gains p seen before) (sym are)));
    }

-- A SEAT OF ONE NUMBER

-- the test of one number
by_one : (x n : ℕ) → has (x ∷ []) n ≡ eqb n x
by_one x n = ⊎_elim
    (λ e. or_left (eqb x n) false (eq-eqb x n (sym e)) ∙ sym (eq-eqb n x e))
    (λ ne. or_from (eqb x n) false (ne_eqb x n (λ e. ne (sym e))) refl ∙ sym (ne_eqb n x ne))
    (cases_eq n x)

of_one : (x : ℕ) (before : List Stand) → stands_of (x ∷ []) before ≡ stands_by x before
of_one x [] = refl
of_one x (s ∷ before) = λ i. cond (by_one x s.by i) (s ∷ of_one x before i) (of_one x before i)

-- a list of numbers, each once, that has no number but x
only_one : (x y : ℕ) (ns : List ℕ) → Once ns → has ns y ≡ true → ((n : ℕ) → has ns n ≡ true → n ≡ x) → ns ≡ x ∷ []
only_one x y [] once there only = absurd (false≢true there)
only_one x y (n ∷ []) once there only = ap (λ z. z ∷ []) (only n (has_first (n ∷ []) (omega arith)))
only_one x y (n ∷ m ∷ ns) once there only =
    let first : n ≡ x = only n (has_first (n ∷ m ∷ ns) (omega arith)) in
    let second : m ≡ x = only m (or_right (eqb n m) (has (m ∷ ns) m) (has_first (m ∷ ns) (omega arith))) in
    absurd (false≢true (sym once.0 ∙ or_left (eqb m n) (has ns n) (eq-eqb m n (second ∙ sym first))))

-- all stands of a seat of one number are its number's alone
pub seat_of_one : {p : Plan} {numbers : List ℕ} {seen : List Entry} {stands : List Stand} (x : ℕ) → Lawful p numbers seen stands → numbers ≡ x ∷ [] → AreOfOne x stands
seat_of_one x l one i s at =
    let k = l.kept i s at in
    only_one x s.by s.numbers k.once k.own (λ n there. let q : has (x ∷ []) n ≡ true = subst (λ ns. has ns n ≡ true) one (l.among i s at n there) in eqb-true n x (sym (by_one x n) ∙ q))

module _ (p : Plan) (seen : List Entry) (x : ℕ) where
  -- the stands keep the nodes of a seat of one number, after these
  abbrev KeepOne : List Stand → List Stand → Type 0
  KeepOne before stands = (i : ℕ) (s : Stand) → get_elem? stands i ≡ some s → s.stock + costs p seen (before ++ take i stands) ≡ p.share + gains p seen (before ++ take i stands)

  one_first : (before : List Stand) (s : Stand) → KeepsStock p seen before s → s.numbers ≡ x ∷ []
      → s.stock + costs p seen (stands_by x before ++ []) ≡ p.share + gains p seen (stands_by x before ++ [])
  one_first before s k one =
      let even : s.stock + costs p seen (stands_of (x ∷ []) before) ≡ p.share * 1 + gains p seen (stands_of (x ∷ []) before) =
      subst (λ ns. s.stock + costs p seen (stands_of ns before) ≡ p.share * length ns + gains p seen (stands_of ns before)) one k.even in
      subst (λ (l : List Stand). s.stock + costs p seen l ≡ p.share + gains p seen l) (of_one x before ∙ sym (append-nil (stands_by x before))) (omega (arith, even))

  one_head : (before : List Stand) (s : Stand) (r : List Stand) (b : Bool) → eqb s.by x ≡ b → KeepsStock p seen before s → AreOfOne x (cond b (s ∷ stands_by x r) (stands_by x r))
      → (AreOfOne x (stands_by x r) → KeepOne (stands_by x (before ++ s ∷ [])) (stands_by x r)) → KeepOne (stands_by x before) (cond b (s ∷ stands_by x r) (stands_by x r))
  one_head before s r true e k one later zero t at =
      subst (λ (z : Stand). z.stock + costs p seen (stands_by x before ++ []) ≡ p.share + gains p seen (stands_by x before ++ [])) (some-injective s t at)
      (one_first before s k (one 0 s refl))
  one_head before s r true e k one later (suc n) t at =
      subst (λ (l : List Stand). t.stock + costs p seen l ≡ p.share + gains p seen l)
      (ap (λ (l : List Stand). l ++ take n (stands_by x r)) (filter-append (λ (z : Stand). eqb z.by x) before (s ∷ []) ∙ ap (λ b. stands_by x before ++ cond b (s ∷ []) []) e)
      ∙ append_assoc (stands_by x before) (s ∷ []) (take n (stands_by x r)))
      (later (λ i u there. one (suc i) u there) n t at)
  one_head before s r false e k one later n t at =
      subst (λ (l : List Stand). t.stock + costs p seen l ≡ p.share + gains p seen l)
      (ap (λ (l : List Stand). l ++ take n (stands_by x r))
      (filter-append (λ (z : Stand). eqb z.by x) before (s ∷ []) ∙ (ap (λ b. stands_by x before ++ cond b (s ∷ []) []) e ∙ append-nil (stands_by x before))))
      (later one n t at)

  -- of a seat of one number: its share, less what its stands before cost, and what they gave
  pub stocks_one : (before stands : List Stand) → ((i : ℕ) (s : Stand) → get_elem? stands i ≡ some s → KeepsStock p seen (before ++ take i stands) s) → AreOfOne x (stands_by x stands)
      → KeepOne (stands_by x before) (stands_by x stands)
  stocks_one before [] each one = λ k s at. absurd (some-ne-none s (sym at))
  stocks_one before (s ∷ r) each one = one_head before s r (eqb s.by x) refl (subst (λ (l : List Stand). KeepsStock p seen l s) (append-nil before) (each 0 s refl)) one
      (λ rest. stocks_one (before ++ s ∷ []) r (λ i t at. subst (λ (l : List Stand). KeepsStock p seen l t) (sym (append_assoc before (s ∷ []) (take i r))) (each (suc i) t at)) rest)
