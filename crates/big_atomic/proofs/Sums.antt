-- Along a closed object's line an amount is added up that each stand adds to.
use Rattle.std.proofs.Common.{◌≡◌, ◌≢◌, ◌∙◌, ℕ, ◌<◌, suc, zero, List, [], ◌∷◌, ◌++◌, All, cond, refl, sym, ap, subst, arith, ⊎_elim, eq-eqb, ne_eqb}
use Rattle.std.proofs.lemmas.Bool.{cases_eq}
use Rattle.std.proofs.lemmas.List.Elements.{All-head, All-tail}
use Rattle.big_atomic.proofs.Lines.{all_line, callers_below}
use Rattle.big_atomic.specs.Sums.{AddUpTo, Adding}
use Rattle.seat_history.specs.Contents.{set_at}
use Rattle.seat_history.specs.Object.{Object, blank_object}
use Rattle.seat_history.specs.declared.entry.Entry.{Entry}
use Rattle.step_rules.specs.Closing.{ClosedData, IsClosed}
use Rattle.step_rules.specs.Line.{IsAnswered, Replays, after_stand, after_stands, line_of, log_after, stands_by}
use Rattle.step_rules.specs.SeatData.{IsSeat, SeatData}
use Rattle.step_rules.specs.declared.plan.Plan.{Plan}
use Rattle.step_rules.specs.declared.view.Stand.{Stand}

module _ {V : Type 0} (A : Adding V) where
  none_right : (a : V) → A.add a A.none ≡ a
  none_right a = A.swapped a A.none ∙ A.none_left a

  -- the sum of the first n callers' amounts
  abbrev total : ℕ → (ℕ → V) → V
  total zero f = A.none
  total (suc n) f = A.add (total n f) (f n)

  total_same : (n : ℕ) (f g : ℕ → V) → ((w : ℕ) → w < n → f w ≡ g w) → total n f ≡ total n g
  total_same zero f g e = refl
  total_same (suc n) f g e = λ i. A.add (total_same n f g (λ w l. e w (omega arith)) i) (e n (omega arith) i)

  total_none : (n : ℕ) → total n (λ w. A.none) ≡ A.none
  total_none zero = refl
  total_none (suc n) = ap (λ a. A.add a A.none) (total_none n) ∙ A.none_left A.none

  -- one caller's amount is x more
  total_more : (n w : ℕ) (f g : ℕ → V) (x : V) → w < n → f w ≡ A.add x (g w) → ((v : ℕ) → w ≢ v → f v ≡ g v) → total n f ≡ A.add x (total n g)
  total_more zero w f g x below more others = absurd (omega arith)
  total_more (suc n) w f g x below more others = ⊎_elim
      (λ e. let front : total n f ≡ total n g = total_same n f g (λ v l. others v (λ q. omega arith)) in
      let here : f n ≡ A.add x (g n) = subst (λ v. f v ≡ A.add x (g v)) e more in
      (λ i. A.add (front i) (here i))
      ∙ (sym (A.grouped (total n g) x (g n)) ∙ (ap (λ a. A.add a (g n)) (A.swapped (total n g) x) ∙ A.grouped x (total n g) (g n))))
      (λ ne. (λ i. A.add (total_more n w f g x (omega arith) more others i) (others n ne i)) ∙ A.grouped x (total n g) (g n))
      (cases_eq w n)

  module _ (Adds : V → Stand → Type 0) where
    -- the callers' stands come to these amounts
    abbrev Parts : ℕ → List Stand → (ℕ → V) → Type 0
    Parts n stands parts = (w : ℕ) → w < n → AddUpTo A Adds (stands_by w stands) (parts w)

    own_first : (s : Stand) (r : List Stand) → stands_by s.by (s ∷ r) ≡ s ∷ stands_by s.by r
    own_first s r = ap (λ b. cond b (s ∷ stands_by s.by r) (stands_by s.by r)) (eq-eqb s.by s.by refl)

    others_still : (s : Stand) (r : List Stand) (w : ℕ) → s.by ≢ w → stands_by w (s ∷ r) ≡ stands_by w r
    others_still s r w ne = ap (λ b. cond b (s ∷ stands_by w r) (stands_by w r)) (ne_eqb s.by w ne)

    set_here : (parts : ℕ → V) (w : ℕ) (x : V) → set_at parts w x w ≡ x
    set_here parts w x = ap (λ b. cond b x (parts w)) (eq-eqb w w refl)

    set_there : (parts : ℕ → V) (w v : ℕ) (x : V) → w ≢ v → set_at parts w x v ≡ parts v
    set_there parts w v x ne = ap (λ b. cond b x (parts v)) (ne_eqb w v ne)

    -- a sum is that of all callers' parts
    parted : (n : ℕ) (stands : List Stand) (sum : V) → All (λ (s : Stand). s.by < n) stands → AddUpTo A Adds stands sum
        → (parts : ℕ → V) × Parts n stands parts × (total n parts ≡ sum)
    parted n [] sum below up = (λ w. A.none, λ w l. refl, total_none n ∙ sym up)
    parted n (s ∷ r) sum below up =
        let x : V = up.0 in
        let rest = parted n r up.1 (All-tail (λ (t : Stand). t.by < n) s r below) up.3 in
        let parts : ℕ → V = set_at rest.0 s.by (A.add x (rest.0 s.by)) in
        let here : s.by < n = All-head (λ (t : Stand). t.by < n) s r below in (
          parts,
          λ w l. ⊎_elim
              (λ e. subst (λ v. AddUpTo A Adds (stands_by v (s ∷ r)) (parts v)) e
              (subst (λ (l : List Stand). AddUpTo A Adds l (parts s.by)) (sym (own_first s r)) (x, rest.0 s.by, up.2, rest.1 s.by here, set_here rest.0 s.by (A.add x (rest.0 s.by)))))
              (λ ne. subst (λ (z : List Stand × V). AddUpTo A Adds z.0 z.1) (λ i. (sym (others_still s r w ne) i, sym (set_there rest.0 s.by w (A.add x (rest.0 s.by)) ne) i)) (rest.1 w l))
              (cases_eq s.by w),
          total_more n s.by parts rest.0 x here (set_here rest.0 s.by (A.add x (rest.0 s.by))) (λ v ne. set_there rest.0 s.by v (A.add x (rest.0 s.by)) ne)
              ∙ (ap (A.add x) rest.2 ∙ sym up.4),
        )

    -- what holds of an object with a sum holds of it after a stand, with what the stand adds
    abbrev pub EachAdds : Plan → (V → Object → Type 0) → Type 0
    EachAdds p Has = (sum x : V) (o : Object) (log : List Entry) (s : Stand) → Adds x s → IsAnswered p o log s → Has sum o → Has (A.add sum x) (after_stand o s)

    along : (p : Plan) (n : ℕ) (Has : V → Object → Type 0) → EachAdds p Has → (o : Object) (log : List Entry) (line : List Stand) (done : V) (parts : ℕ → V)
        → Replays p o log line → All (λ (s : Stand). s.by < n) line → Parts n line parts → Has done o → Has (A.add done (total n parts)) (after_stands o line)
    along p n Has each o log [] done parts replays below are has =
        let all : total n parts ≡ A.none = total_same n parts (λ w. A.none) (λ w l. are w l) ∙ total_none n in
        subst (λ sum. Has sum o) (sym (ap (A.add done) all ∙ none_right done)) has
    along p n Has each o log (s ∷ r) done parts replays below are has =
        let here : s.by < n = All-head (λ (t : Stand). t.by < n) s r below in
        let up = subst (λ (l : List Stand). AddUpTo A Adds l (parts s.by)) (own_first s r) (are s.by here) in
        let x : V = up.0 in
        let left : ℕ → V = set_at parts s.by up.1 in
        let next : Has (A.add done x) (after_stand o s) = each done x o log s up.2 replays.0 has in
        let rest = along p n Has each (after_stand o s) (log_after log o s) r (A.add done x) left replays.1 (All-tail (λ (t : Stand). t.by < n) s r below)
        (λ w l. ⊎_elim
        (λ e. subst (λ v. AddUpTo A Adds (stands_by v r) (left v)) e (subst (AddUpTo A Adds (stands_by s.by r)) (sym (set_here parts s.by up.1)) up.3))
        (λ ne. subst (λ (z : List Stand × V). AddUpTo A Adds z.0 z.1) (λ i. (others_still s r w ne i, sym (set_there parts s.by w up.1 ne) i)) (are w l))
        (cases_eq s.by w)) next in
        let whole : total n parts ≡ A.add x (total n left) = total_more n s.by parts left x here (up.4 ∙ ap (A.add x) (sym (set_here parts s.by up.1)))
        (λ v ne. sym (set_there parts s.by v up.1 ne)) in
        subst (λ sum. Has sum (after_stands (after_stand o s) r)) (A.grouped done x (total n left) ∙ ap (A.add done) (sym whole)) rest

    -- at the end of the line it holds with what all stands add
    pub line_adds : (seat : SeatData) (closed : ClosedData) (Has : V → Object → Type 0) (start sum : V) → IsSeat seat → IsClosed seat closed → EachAdds closed.plan Has
        → AddUpTo A Adds closed.stands sum → Has start blank_object
        → Has (A.add start sum) (after_stands blank_object (line_of closed.plan.seats closed.history closed.stands))
    line_adds seat closed Has start sum law is each up begun =
        let n : ℕ = closed.plan.seats in
        let below = callers_below seat closed law is in
        let line : List Stand = line_of n closed.history closed.stands in
        let split = parted n closed.stands sum below up in
        subst (λ all. Has (A.add start all) (after_stands blank_object line)) split.2
        (along closed.plan n Has each blank_object [] line start split.0 is.line.replays (all_line (λ (s : Stand). s.by < n) n closed.history closed.stands below)
        (λ w l. subst (λ (stands : List Stand). AddUpTo A Adds stands (split.0 w)) (sym (is.line.order w l)) (split.1 w l)) begun)

    -- one stand more adds its amount, and joined stands add both sums
    pub add_up_append : (stands others : List Stand) (a b : V) → AddUpTo A Adds stands a → AddUpTo A Adds others b → AddUpTo A Adds (stands ++ others) (A.add a b)
    add_up_append [] others a b up more = subst (AddUpTo A Adds others) (sym (ap (λ c. A.add c b) up ∙ A.none_left b)) more
    add_up_append (s ∷ r) others a b up more = (up.0, A.add up.1 b, up.2, add_up_append r others up.1 b up.3 more, ap (λ c. A.add c b) up.4 ∙ A.grouped up.0 up.1 b)

    pub add_up_push : (stands : List Stand) (s : Stand) (a x : V) → AddUpTo A Adds stands a → Adds x s → AddUpTo A Adds (stands ++ s ∷ []) (A.add a x)
    add_up_push stands s a x up adds = add_up_append stands (s ∷ []) a x up (x, A.none, adds, refl, sym (none_right x))
