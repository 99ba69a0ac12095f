-- Seats that were split and joined, and when a seat is ready.
use Rattle.std.proofs.Common.{◌≡◌, ◌∙◌, ℕ, ◌-◌, ◌*◌, ◌<◌, ◌≤◌, suc, zero, true, false, not, ◌&&◌, ◌==◌, List, [], ◌∷◌, ◌++◌, All, Bool}
use Rattle.std.proofs.Common.{append-nil, append_assoc, arith, ap, is_some, length, map, refl, reverse, slice_index_or, subst, sym, take}
use Rattle.std.proofs.lemmas.Bool.{and_parts, both_ways, eqb-true, false≢true}
use Rattle.std.proofs.lemmas.List.Elements.{All-push}
use Rattle.std.proofs.lemmas.List.{get_or-reverse, length-drop, length-map, length-reverse, reverse-append, take-append-drop}
use Rattle.big_atomic.proofs.SeatNumbers.{single}
use Rattle.big_atomic.specs.Ready.{IsReady}
use Rattle.big_atomic.specs.Seats.{AreSplit, IsUnused}
use Rattle.step_rules.specs.Claims.{BACK, HOLD, OWN, WALK}
use Rattle.step_rules.specs.Lawful.{held_by}
use Rattle.step_rules.specs.SeatData.{IsOf, IsSeat, ObjectData, SeatData, all_zero, claim_words, holds_record, is_empty, is_quiet}
use Rattle.step_rules.specs.Steps.{IsSplit}
use Rattle.step_rules.specs.Views.{number, silent}
use Rattle.step_rules.specs.declared.view.Claim.{Claim}

-- each word is 0 where all are, and where there is none
zero_at : (claims : List Claim) (c : ℕ) → all_zero (map (λ (x : Claim). x.word) claims) ≡ true → (slice_index_or claims c (silent 0)).word ≡ 0
zero_at [] c zeros = refl
zero_at (x ∷ claims) zero zeros = eqb-true x.word 0 (and_parts (x.word == 0) (all_zero (map (λ (z : Claim). z.word) claims)) zeros).0
zero_at (x ∷ claims) (suc c) zeros = zero_at claims c (and_parts (x.word == 0) (all_zero (map (λ (z : Claim). z.word) claims)) zeros).1

none_there : (held : List ℕ) → is_empty held ≡ true → held ≡ []
none_there [] e = refl
none_there (x ∷ held) e = absurd (false≢true e)

none_held : (b : Bool) → not b ≡ true → b ≡ false
none_held true e = absurd (false≢true e)
none_held false e = refl

-- a quiet seat is ready
pub quiet_ready : (shared : ObjectData) (seat : SeatData) → IsOf shared seat → IsSeat seat → is_quiet seat ≡ true → IsReady shared seat
quiet_ready shared seat ours law quiet =
    let outer = and_parts (not (holds_record seat.view)) (is_empty seat.holding && all_zero (claim_words seat.view)) quiet in
    let inner = and_parts (is_empty seat.holding) (all_zero (claim_words seat.view)) outer.1 in record {
      ours = ours;
      law = law;
      idle = none_there seat.holding inner.0;
      back = zero_at seat.view.claims BACK inner.1;
      walk = zero_at seat.view.claims WALK inner.1;
      own = zero_at seat.view.claims OWN inner.1;
      hold = λ _. zero_at seat.view.claims HOLD inner.1;
      held = λ e. absurd (both_ways (holds_record seat.view) (none_held (holds_record seat.view) outer.0) e);
    }

-- a seat that made no step but splits is ready
pub fresh_ready : (shared : ObjectData) (seat : SeatData) → IsOf shared seat → IsSeat seat → seat.fresh ≡ true → IsReady shared seat
fresh_ready shared seat ours law fresh =
    let unused = law.unused fresh in record {
      ours = ours;
      law = law;
      idle = unused.holding;
      back = ap (λ claims. (slice_index_or claims BACK (silent 0)).word) unused.claims;
      walk = ap (λ claims. (slice_index_or claims WALK (silent 0)).word) unused.claims;
      own = ap (λ claims. (slice_index_or claims OWN (silent 0)).word) unused.claims;
      hold = λ _. ap (λ claims. (slice_index_or claims HOLD (silent 0)).word) unused.claims;
      held = λ e. absurd (both_ways (holds_record seat.view) (ap (λ stands. is_some (held_by seat.view.seen (number seat.view) stands)) unused.stands) e);
    }

four_zero : (claims : List Claim) → length claims ≡ 4 → (slice_index_or claims 0 (silent 0)).word ≡ 0 → (slice_index_or claims 1 (silent 0)).word ≡ 0
    → (slice_index_or claims 2 (silent 0)).word ≡ 0 → (slice_index_or claims 3 (silent 0)).word ≡ 0 → all_zero (map (λ (x : Claim). x.word) claims) ≡ true
four_zero [] four a b c d = refl
four_zero (x ∷ []) four a b c d = absurd (omega arith)
four_zero (x ∷ y ∷ []) four a b c d = absurd (omega arith)
four_zero (x ∷ y ∷ z ∷ []) four a b c d = absurd (omega arith)
four_zero (x ∷ y ∷ z ∷ w ∷ []) four a b c d = λ i. (a i == 0) && ((b i == 0) && ((c i == 0) && ((d i == 0) && true)))
four_zero (x ∷ y ∷ z ∷ w ∷ v ∷ r) four a b c d = absurd (omega arith)

-- a ready seat that holds no record is quiet
pub ready_quiet : (shared : ObjectData) (seat : SeatData) → IsReady shared seat → holds_record seat.view ≡ false → is_quiet seat ≡ true
ready_quiet shared seat ready none =
    let zeros : all_zero (claim_words seat.view) ≡ true = four_zero seat.view.claims ready.law.sound.claims.four ready.back ready.walk ready.own (ready.hold none) in
    λ i. not (none i) && (is_empty (ready.idle i) && zeros i)

-- a seat of one number that made no step but splits was in no call
pub fresh_unused : (shared : ObjectData) (seat : SeatData) → IsReady shared seat → seat.fresh ≡ true → length seat.view.numbers ≡ 1 → IsUnused shared seat
fresh_unused shared seat ready fresh one =
    let unused = ready.law.unused fresh in
    let all : seat.view.plan.changes * 1 ≡ seat.view.plan.changes = omega arith in record {
      ready = ready;
      one = one;
      stands = unused.stands;
      none_held = ap (λ stands. is_some (held_by seat.view.seen (number seat.view) stands)) unused.stands;
      changes = unused.changes ∙ (ap (λ n. seat.view.plan.changes * n) one ∙ (all ∙ ap (λ p. p.changes) ready.ours.plan));
    }

-- the new seat has one number
pub made_one : (old kept made : SeatData) → IsSplit old kept made → 1 < length old.view.numbers → length made.view.numbers ≡ 1
made_one old kept made split more = ap (λ (s : SeatData). length s.view.numbers) split.right ∙ (length-drop (length old.view.numbers - 1) old.view.numbers ∙ omega arith)

-- and the old one kept the numbers before it
pub split_numbers : (old kept made : SeatData) → IsSplit old kept made → 1 < length old.view.numbers → kept.view.numbers ++ number made.view ∷ [] ≡ old.view.numbers
split_numbers old kept made split more =
    (λ i. (split.left i).view.numbers ++ sym (single made.view.numbers (made_one old kept made split more)) i)
    ∙ ((λ i. take (length old.view.numbers - 1) old.view.numbers ++ (split.right i).view.numbers) ∙ take-append-drop (length old.view.numbers - 1) old.view.numbers)

abbrev number_in : SeatData → ℕ
number_in s = number s.view

-- so far, the greatest numbers are made, the greatest first
pub record SplitSoFar (shared : ObjectData) (seat first : SeatData) (made : List SeatData) : Type 0 where
  pub ready : IsReady shared first
  pub fresh : first.fresh ≡ true
  pub first_is : first.first ≡ seat.first
  pub numbers : first.view.numbers ++ map (λ (s : SeatData). number s.view) (reverse made) ≡ seat.view.numbers
  pub unused : All (IsUnused shared) made

All-reverse : (P : SeatData → Type 0) (xs : List SeatData) → All P xs → All P (reverse xs)
All-reverse P xs all k d l = let long : k < length xs = omega (arith, length-reverse xs) in
    subst P (sym (get_or-reverse xs k d long)) (all (length xs - 1 - k) d (omega arith))

reverse_push : (xs : List SeatData) (x : SeatData) → reverse (xs ++ x ∷ []) ≡ x ∷ reverse xs
reverse_push xs x = reverse-append xs (x ∷ [])

pub split_more : (shared : ObjectData) (seat old kept made : SeatData) (others : List SeatData) → SplitSoFar shared seat old others → IsSplit old kept made → 1 < length old.view.numbers
    → IsReady shared kept → IsReady shared made → SplitSoFar shared seat kept (others ++ made ∷ [])
split_more shared seat old kept made others far split more ready_kept ready_made = record {
  ready = ready_kept;
  fresh = ap (λ (s : SeatData). s.fresh) split.left ∙ far.fresh;
  first_is = ap (λ (s : SeatData). s.first) split.left ∙ far.first_is;
  numbers = ap (λ l. kept.view.numbers ++ map (λ (s : SeatData). number s.view) l) (reverse_push others made)
      ∙ (sym (append_assoc kept.view.numbers (number made.view ∷ []) (map number_in (reverse others)))
      ∙ (ap (λ l. l ++ map number_in (reverse others)) (split_numbers old kept made split more) ∙ far.numbers));
  unused = All-push (IsUnused shared) others made far.unused
      (fresh_unused shared made ready_made (ap (λ (s : SeatData). s.fresh) split.right) (made_one old kept made split more));
}

pub split_whole : (shared : ObjectData) (seat first : SeatData) (made seats : List SeatData) → SplitSoFar shared seat first made → length first.view.numbers ≤ 1
    → seats ≡ reverse (made ++ first ∷ []) → AreSplit shared seat seats
split_whole shared seat first made seats far few is =
    let one : length first.view.numbers ≡ 1 = omega (arith, far.ready.law.sound.some_number) in
    let in_order : seats ≡ first ∷ reverse made = is ∙ reverse_push made first in
    let numbers : map (λ (s : SeatData). number s.view) seats ≡ seat.view.numbers = ap (map number_in) in_order
    ∙ (ap (λ l. l ++ map number_in (reverse made)) (sym (single first.view.numbers one)) ∙ far.numbers) in record {
      count = sym (length-map seats number_in) ∙ ap length numbers;
      numbers = numbers;
      unused = subst (All (IsUnused shared)) (sym is) (All-reverse (IsUnused shared) (made ++ first ∷ [])
          (All-push (IsUnused shared) made first far.unused (fresh_unused shared first far.ready far.fresh one)));
      first = λ s r e. ap (λ l. (slice_index_or l 0 s).first) (sym e ∙ in_order) ∙ far.first_is;
    }

-- a seat's lists before those of the seats left are those of all
pub joined_more : {X : Type 0} (first mid part rest whole left : List X) → mid ≡ first ++ part → left ≡ part ++ rest → first ++ left ≡ whole → mid ++ rest ≡ whole
joined_more first mid part rest whole left is left_is was = ap (λ l. l ++ rest) is ∙ (append_assoc first part rest ∙ (ap (λ l. first ++ l) (sym left_is) ∙ was))

pub joined_whole : {X : Type 0} (first rest whole : List X) → rest ≡ [] → first ++ rest ≡ whole → first ≡ whole
joined_whole first rest whole none was = sym (ap (λ l. first ++ l) none ∙ append-nil first) ∙ was

pub none_left : {X : Type 0} (xs : List X) → length xs ≡ 0 → xs ≡ []
none_left [] e = refl
none_left (x ∷ r) e = absurd (omega arith)
