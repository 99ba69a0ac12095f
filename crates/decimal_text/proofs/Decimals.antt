-- The spelling of a number.
use Rattle.std.specs.Int.{IsInRange}
use Rattle.std.specs.Str.Parse.{AllDigits, IsNumeral, digits_value}
use Rattle.std.specs.Option.{IfNone, IfSome, SomeIff}
use Rattle.std.proofs.Common.{◌≡◌, ℕ, ◌+◌, ◌-◌, ◌*◌, take, ◌<◌, ◌≤◌, ◌^◌, List, length, get_or, decimal, Option, Some, None, ◌≢◌, ap, sym, subst, ◌∙◌, arith, inl, inr}
use Rattle.std.proofs.lemmas.Bool.{cases_lt}
use Rattle.std.proofs.lemmas.Fmt.{decimal_is_IsNumeral, decimal_digit, decimal-digits_value, first_decimal}
use Rattle.std.proofs.lemmas.Int.Digits.{digits_value_more}
use Rattle.std.proofs.lemmas.Str.{digit_value_digit}
use Rattle.std.proofs.lemmas.Str.Parse.{IsNumeralModel, numerals_by_value, tells_digits}

own : IsNumeralModel (AllDigits 10) (digits_value 10)
own = numerals_by_value (AllDigits 10) tells_digits

-- the value with one more digit
pub value_more : (word : List ℕ) (i value digit : ℕ) → i < length word → IsInRange 48 57 (get_or word i 0) → value ≡ digits_value 10 (take i word) → digit ≡ get_or word i 0 - 48
    → value * 10 + digit ≡ digits_value 10 (take (i + 1) word)
value_more word i value digit lt inside so_far is = omega (arith, digits_value_more 10 word i lt, digit_value_digit (get_or word i 0) inside, inside.0)

-- digits without a needless zero spell their value
pub spells_value : (word : List ℕ) (n : ℕ) → AllDigits 10 word → 0 < length word → ((get_or word 0 0 ≡ 48) × (1 < length word) → ⊥) → n ≡ digits_value 10 word → n < 2 ^ 64 → word ≡ decimal n
spells_value word n digits some plain is small =
    let one : get_or word 0 0 ≡ 48 → length word ≡ 1 = λ zero. elim (cases_lt 1 (length word)) [ inl long ↦ absurd (plain (zero, long)) | inr short ↦ omega arith ] in
    sym (ap decimal is ∙ decimal-digits_value own word digits some one (omega arith))

-- the spelling of a number is that number's digits
pub spelling_digits : (word : List ℕ) (n : ℕ) → n < 2 ^ 64 → word ≡ decimal n → AllDigits 10 word × (0 < length word) × (digits_value 10 word ≡ n)
spelling_digits word n small is =
    let P : List ℕ → Type 0 = λ ds. AllDigits 10 ds × (0 < length ds) × (digits_value 10 ds ≡ n) in
    let of_n = decimal_is_IsNumeral n small in
    subst P (sym is) (of_n.0.1, of_n.0.0, of_n.1)

-- it has no needless zero
pub no_needless_zero : (word : List ℕ) (n : ℕ) → n < 2 ^ 64 → word ≡ decimal n → get_or word 0 0 ≡ 48 → 1 < length word → ⊥
no_needless_zero word n small is zero long =
    elim (cases_lt 0 n) [
      | inl some ↦ omega (arith, first_decimal n some small, ap (λ ds. get_or ds 0 0) is)
      | inr none ↦ omega (arith, ap length is, ap length (decimal_digit n (omega arith)))
    ]

-- what the value of a word's digits says of its being a spelling
module _ (word : List ℕ) (most : ℕ) (limit : most < 2 ^ 64) (plain : (get_or word 0 0 ≡ 48) × (1 < length word) → ⊥) where
  pub value_spelled : (value : Option ℕ) → SomeIff value (IsNumeral 10 word × (digits_value 10 word ≤ most)) (digits_value 10 word) → IfSome value (λ n. word ≡ decimal n)
  value_spelled None h = tt
  value_spelled (Some n) h = spells_value word n h.0.0.1 h.0.0.0 plain h.1 (omega (arith, h.0.1, h.1))

  pub value_at_most : (value : Option ℕ) → SomeIff value (IsNumeral 10 word × (digits_value 10 word ≤ most)) (digits_value 10 word) → IfSome value (λ n. n ≤ most)
  value_at_most None h = tt
  value_at_most (Some n) h = omega (arith, h.0.1, h.1)

  pub no_spelling : (value : Option ℕ) → SomeIff value (IsNumeral 10 word × (digits_value 10 word ≤ most)) (digits_value 10 word) → IfNone value ((n : ℕ) → n ≤ most → word ≢ decimal n)
  no_spelling None h = λ n le is. let digits = spelling_digits word n (omega arith) is in h ((digits.1, digits.0), omega (arith, digits.2))
  no_spelling (Some n) h = tt
