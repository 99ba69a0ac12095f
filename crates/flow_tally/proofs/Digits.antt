-- The number of a word, in its range.
use Rattle.std.specs.Prelude.{◌&&◌, if◌then◌else◌, nat_lt, nat_le}
use Rattle.std.specs.Str.{all_ascii_digits}
use Rattle.std.specs.Str.Parse.{IsNumeral, digits_value}
use Rattle.std.proofs.Common.{◌≡◌, ℕ, ◌<◌, ◌≤◌, Bool, true, false, refl, sym, Some, None, List, length, arith}
use Rattle.std.proofs.lemmas.Bool.{false≢true}
use Rattle.std.proofs.lemmas.Bool.Decides.{nat_tests}
use Rattle.std.proofs.lemmas.Option.{cond_some}
use Rattle.std.proofs.lemmas.Str.Parse.{IsNumeralModel, numerals_by_value, tells_all_ascii_digits}
use Rattle.flow_tally.specs.Numbers.{decimal_in}

own : IsNumeralModel (λ ds. all_ascii_digits ds ≡ true) (digits_value 10)
own = numerals_by_value (λ ds. all_ascii_digits ds ≡ true) tells_all_ascii_digits

all_true : (a b d e : Bool) → (a && (b && (d && e))) ≡ true → (a ≡ true) × (b ≡ true) × (d ≡ true) × (e ≡ true)
all_true true true true true h = (refl, refl, refl, refl)
all_true true true true false h = absurd (false≢true h)
all_true true true false e h = absurd (false≢true h)
all_true true false d e h = absurd (false≢true h)
all_true false b d e h = absurd (false≢true h)

none_where_false : (b : Bool) (number : ℕ) → (b ≡ true → ⊥) → None ≡ (if b then Some number else None)
none_where_false true number h = absurd (h refl)
none_where_false false number h = refl

module _ (least most : ℕ) (text : List ℕ) where
  pub none_read : (IsNumeral 10 text × (digits_value 10 text ≤ most) → ⊥) → None ≡ decimal_in least most text
  unfolding decimal_in
  none_read none = none_where_false _ (digits_value 10 text) (λ passes.
      let t = all_true (nat_lt 0 (length text)) (all_ascii_digits text) (nat_le least (digits_value 10 text)) (nat_le (digits_value 10 text) most) passes in
      none ((grind (arith, nat_tests, t.0), own.to text t.1), grind (arith, nat_tests, t.3)))

  pub too_small : digits_value 10 text < least → None ≡ decimal_in least most text
  unfolding decimal_in
  too_small small = none_where_false _ (digits_value 10 text) (λ passes.
      let t = all_true (nat_lt 0 (length text)) (all_ascii_digits text) (nat_le least (digits_value 10 text)) (nat_le (digits_value 10 text) most) passes in
      let above : least ≤ digits_value 10 text = grind (arith, nat_tests, t.2) in
      absurd (omega arith))

  pub number_read : IsNumeral 10 text → least ≤ digits_value 10 text → digits_value 10 text ≤ most → Some (digits_value 10 text) ≡ decimal_in least most text
  unfolding decimal_in
  number_read numeral low high =
      let some = numeral.0 in
      let a : nat_lt 0 (length text) ≡ true = grind (arith, nat_tests) in
      let b : all_ascii_digits text ≡ true = own.from text numeral.1 in
      let d : nat_le least (digits_value 10 text) ≡ true = grind (arith, nat_tests) in
      let e : nat_le (digits_value 10 text) most ≡ true = grind (arith, nat_tests) in
      sym (λ j. if a j && (b j && (d j && e j)) then Some (digits_value 10 text) else None)

  pub at_most : (n : ℕ) → decimal_in least most text ≡ Some n → n ≤ most
  unfolding decimal_in
  at_most n is =
      let (passes, same) = cond_some _ (digits_value 10 text) n is in
      let t = all_true (nat_lt 0 (length text)) (all_ascii_digits text) (nat_le least (digits_value 10 text)) (nat_le (digits_value 10 text) most) passes in
      let high : digits_value 10 text ≤ most = grind (arith, nat_tests, t.3) in
      omega (arith, same)
