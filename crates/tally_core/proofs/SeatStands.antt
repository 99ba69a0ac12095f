-- Seats of one number each, and the stands of all of them.
use Rattle.std.specs.List.{AllByRecursion}
use Rattle.std.proofs.Common.{◌≡◌, ◌≢◌, ◌∙◌, ℕ, ◌+◌, ◌<◌, ◌||◌, [], ◌∷◌, ◌++◌}
use Rattle.std.proofs.Common.{suc, zero, Bool, true, false, cond, eqb, eq-eqb, ne_eqb, All, List, append-nil, get_or, length, map, refl, sym, ap, subst, arith}
use Rattle.std.proofs.lemmas.Bool.{eqb-true}
use Rattle.std.proofs.lemmas.List.{get_or-map, length-map}
use Rattle.std.proofs.lemmas.List.Elements.{All-map, filter-append}
use mathlib.Core.Option.{some}
use lib.ListN.{get_elem?}
use Rattle.big_atomic.proofs.SeatNumbers.{single}
use Rattle.big_atomic.specs.Seats.{Stays, all_numbers, all_stands}
use Rattle.step_rules.specs.Line.{stands_by}
use Rattle.step_rules.specs.SeatData.{IsSeat, SeatData}
use Rattle.step_rules.specs.Views.{count_up, number}
use Rattle.step_rules.specs.World.{has}
use Rattle.step_rules.specs.declared.view.Stand.{Stand}

pub stays_on : {before mid after : SeatData} → Stays before mid → Stays mid after → Stays before after
stays_on p q = record { numbers = q.numbers ∙ p.numbers; first = q.first ∙ p.first }

-- a lawful seat of one number
pub record IsOne (seat : SeatData) : Type 0 where
  pub law : IsSeat seat
  pub one : length seat.view.numbers ≡ 1

-- all stands are this caller's
abbrev AllBy : ℕ → List Stand → Type 0
AllBy x stands = AllByRecursion (λ (s : Stand). s.by ≡ x) stands

all_kept : (x : ℕ) (stands : List Stand) → AllBy x stands → stands_by x stands ≡ stands
all_kept x [] all = refl
all_kept x (s ∷ later) all = ap (λ b. cond b (s ∷ stands_by x later) (stands_by x later)) (eq-eqb s.by x all.0) ∙ ap (λ l. s ∷ l) (all_kept x later all.1)

none_kept : (x y : ℕ) (stands : List Stand) → AllBy x stands → x ≢ y → stands_by y stands ≡ []
none_kept x y [] all other = refl
none_kept x y (s ∷ later) all other =
    ap (λ b. cond b (s ∷ stands_by y later) (stands_by y later)) (ne_eqb s.by y (λ e. other (sym all.0 ∙ e))) ∙ none_kept x y later all.1 other

each_by : (x : ℕ) (stands : List Stand) → ((i : ℕ) (s : Stand) → get_elem? stands i ≡ some s → s.by ≡ x) → AllBy x stands
each_by x [] each = tt
each_by x (s ∷ later) each = (each 0 s refl, each_by x later (λ i t at. each (suc i) t at))

or_true : (b : Bool) → (b || false) ≡ true → b ≡ true
or_true true e = refl
or_true false e = e

the_one : (x y : ℕ) → has (x ∷ []) y ≡ true → y ≡ x
the_one x y e = sym (eqb-true x y (or_true (eqb x y) e))

all_by : {seat : SeatData} → IsOne seat → AllBy (number seat.view) seat.view.stands
all_by {seat} is = each_by (number seat.view) seat.view.stands
    (λ i s at. the_one (number seat.view) s.by (subst (λ l. has l s.by ≡ true) (single seat.view.numbers is.one) (is.law.sound.lawful.by i s at)))

named_on : (one : SeatData) (later : List SeatData) (m : ℕ) → number one.view ≡ m → ((i : ℕ) (d : SeatData) → i < length later → number (get_or later i d).view ≡ suc m + i)
    → (i : ℕ) (d : SeatData) → i < length (one ∷ later) → number (get_or (one ∷ later) i d).view ≡ m + i
named_on one later m first rest zero d l = omega (arith, first)
named_on one later m first rest (suc i) d l = omega (arith, rest i d (omega (arith, l)))

none_then : (xs : List ℕ) (x : ℕ) (ys : List ℕ) → xs ≡ x ∷ [] → xs ++ ys ≡ [] → ⊥
none_then [] x ys e f = absurd cc
none_then (z ∷ xs) x ys e f = absurd cc

-- seats with these numbers stand by rising number
numbered : (m k : ℕ) (seats : List SeatData) → All (λ (s : SeatData). length s.view.numbers ≡ 1) seats → all_numbers seats ≡ count_up m k
    → (length seats ≡ k) × ((i : ℕ) (d : SeatData) → i < length seats → number (get_or seats i d).view ≡ m + i)
numbered m zero [] ones is = (refl, λ i d l. absurd (omega (arith, l)))
numbered m (suc k) [] ones is = absurd cc
numbered m zero (one ∷ later) ones is = absurd (none_then one.view.numbers (number one.view) (all_numbers later) (single one.view.numbers (ones 0 one (omega arith))) is)
numbered m (suc k) (one ∷ later) ones is =
    let first = single one.view.numbers (ones 0 one (omega arith)) in
    let whole : number one.view ∷ all_numbers later ≡ m ∷ count_up (suc m) k = sym (ap (λ l. l ++ all_numbers later) first) ∙ is in
    let rest = numbered (suc m) k later (λ i d l. ones (suc i) d (omega (arith, l))) cc in (
      ap suc rest.0,
      named_on one later m (cc whole) rest.1,
    )

-- none of their stands is another's
none_by : (z : ℕ) (seats : List SeatData) → All IsOne seats → ((i : ℕ) (d : SeatData) → i < length seats → number (get_or seats i d).view ≢ z) → stands_by z (all_stands seats) ≡ []
none_by z [] ones others = refl
none_by z (one ∷ later) ones others =
    filter-append (λ (s : Stand). eqb s.by z) one.view.stands (all_stands later)
    ∙ (λ i. none_kept (number one.view) z one.view.stands (all_by (ones 0 one (omega arith))) (others 0 one (omega arith)) i
    ++ none_by z later (λ j d l. ones (suc j) d (omega (arith, l))) (λ j d l. others (suc j) d (omega (arith, l))) i)

-- the stands of the seat at a place
stands_at : (m : ℕ) (seats : List SeatData) → All IsOne seats → ((i : ℕ) (d : SeatData) → i < length seats → number (get_or seats i d).view ≡ m + i)
    → (x : ℕ) (d : SeatData) → x < length seats → stands_by (m + x) (all_stands seats) ≡ (get_or seats x d).view.stands
stands_at m [] ones numbers x d l = absurd (omega (arith, l))
stands_at m (one ∷ later) ones numbers zero d l =
    let here : number one.view ≡ m + 0 = numbers 0 one (omega arith) in
    filter-append (λ (s : Stand). eqb s.by (m + 0)) one.view.stands (all_stands later)
    ∙ ((λ i. all_kept (m + 0) one.view.stands (subst (λ n. AllBy n one.view.stands) here (all_by (ones 0 one (omega arith)))) i
    ++ none_by (m + 0) later (λ j d l. ones (suc j) d (omega (arith, l))) (λ j e k same. absurd (omega (arith, same, numbers (suc j) e (omega (arith, k))))) i)
    ∙ append-nil one.view.stands)
stands_at m (one ∷ later) ones numbers (suc x) d l =
    let here : number one.view ≡ m + 0 = numbers 0 one (omega arith) in
    let next : suc m + x ≡ m + suc x = omega arith in
    filter-append (λ (s : Stand). eqb s.by (m + suc x)) one.view.stands (all_stands later)
    ∙ ((λ i. none_kept (number one.view) (m + suc x) one.view.stands (all_by (ones 0 one (omega arith))) (λ e. absurd (omega (arith, e, here))) i
    ++ stands_by (sym next i) (all_stands later))
    ∙ stands_at (suc m) later (λ j d l. ones (suc j) d (omega (arith, l))) (λ j e k. numbers (suc j) e (omega (arith, k)) ∙ omega arith) x d (omega (arith, l)))

-- items with such seats
module _ {A : Type 0} (seat_of : A → SeatData) (items : List A) (k : ℕ) (whole : all_numbers (map seat_of items) ≡ count_up 0 k) where
  long : length (map seat_of items) ≡ length items
  long = length-map items seat_of

  -- each has its place for its number
  pub items_numbered : ((i : ℕ) (d : A) → i < length items → length (seat_of (get_or items i d)).view.numbers ≡ 1)
      → (length items ≡ k) × ((i : ℕ) (d : A) → i < length items → number (seat_of (get_or items i d)).view ≡ i)
  items_numbered ones =
      let row = numbered 0 k (map seat_of items) (All-map (λ (s : SeatData). length s.view.numbers ≡ 1) seat_of items ones) whole in (
        omega (arith, row.0, long),
        λ i d l. ap (λ (s : SeatData). number s.view) (sym (get_or-map seat_of items i d (seat_of d) l)) ∙ (row.1 i (seat_of d) (omega (arith, l, long)) ∙ omega arith),
      )

  -- and the stands of that number are its seat's
  pub items_stands : ((i : ℕ) (d : A) → i < length items → IsOne (seat_of (get_or items i d)))
      → (x : ℕ) (d : A) → x < length items → stands_by x (all_stands (map seat_of items)) ≡ (seat_of (get_or items x d)).view.stands
  items_stands ones x d l =
      let all = All-map IsOne seat_of items ones in
      let row = numbered 0 k (map seat_of items) (λ i e b. (all i e b).one) whole in
      let here : x ≡ 0 + x = omega arith in
      ap (λ n. stands_by n (all_stands (map seat_of items))) here
      ∙ (stands_at 0 (map seat_of items) all row.1 x (seat_of d) (omega (arith, l, long)) ∙ ap (λ (s : SeatData). s.view.stands) (get_or-map seat_of items x d (seat_of d) l))
