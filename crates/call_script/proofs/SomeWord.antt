-- A word stands for a number, a tuple or a key, or for none.
use Rattle.std.specs.List.{AllZip}
use Rattle.std.specs.Prelude.{decimal}
use Rattle.std.specs.Str.Parse.{digits_value}
use Rattle.std.proofs.Common.{◌≡◌, ℕ, ◌-◌, ◌^◌, ◌<◌, ◌≤◌, List, [], ◌∷◌, ◌++◌, length, replicate, refl, sym, ap, subst, arith}
use Rattle.std.proofs.Math.Decide.{dec_le, dec_lt, map_dec}
use Rattle.std.proofs.lemmas.List.{length-append, length-replicate}
use Rattle.decimal_text.proofs.Decimals.{spelling_digits}
use Rattle.seat_history.specs.declared.key.KeyWords.{KeyWords}
use Rattle.call_script.specs.Cut.{parts_at}
use Rattle.call_script.specs.Number.{IsNumber, IsTuple}
use Rattle.call_script.specs.Spelling.{IsKey}
use Rattle.call_script.proofs.Decisions.{both_dec, same_dec}
use Rattle.call_script.proofs.Zips.{zip_dec, zip_length}

-- some number has the text: the one that its digits give
pub number_dec : (text : List ℕ) → Dec ((n : ℕ) × IsNumber text n)
number_dec text = map_dec
    (λ is. (digits_value 10 text, record { spelled = is.1; small = is.0 }))
    (λ number. is_own number.0 number.1)
    (both_dec (dec_lt (digits_value 10 text) (2 ^ 64)) (same_dec text (decimal (digits_value 10 text))))
  where
    is_own : (n : ℕ) → IsNumber text n → (digits_value 10 text < 2 ^ 64) × (text ≡ decimal (digits_value 10 text))
    is_own n is =
        let value = (spelling_digits text n is.small is.spelled).2 in
        subst (λ m. (m < 2 ^ 64) × (text ≡ decimal m)) (sym value) (is.small, is.spelled)

pub tuple_dec : (most : ℕ) (text : List ℕ) → Dec ((words : List ℕ) × IsTuple most text words)
tuple_dec most text = map_dec
    (λ is. filled is.0 is.1.0 is.1.1)
    (λ tuple. let few = tuple.1.few in (omega (arith, few, zip_length IsNumber parts tuple.1.numbers tuple.1.spelled), (tuple.1.numbers, tuple.1.spelled)))
    (both_dec (dec_le (length parts) most) (zip_dec IsNumber number_dec parts))
  where
    parts : List (List ℕ)
    parts = parts_at 44 text

    filled : length parts ≤ most → (numbers : List ℕ) → AllZip IsNumber parts numbers → (words : List ℕ) × IsTuple most text words
    filled few numbers spelled = (
      numbers ++ replicate (most - length numbers) 0,
      record { numbers = numbers; spelled = spelled; few = omega (arith, few, zip_length IsNumber parts numbers spelled); filled = refl },
    )

-- a tuple of two words is a key's
pub key_dec : (text : List ℕ) → Dec ((key : KeyWords) × IsKey text key)
key_dec text = map_dec (λ tuple. key_of tuple.0 tuple.1 (two tuple.0 tuple.1)) (λ key. (key.0.k0 ∷ key.0.k1 ∷ [], key.1)) (tuple_dec 2 text)
  where
    two : (words : List ℕ) → IsTuple 2 text words → length words ≡ 2
    two words is =
        let few = is.few in
        omega (arith, few, ap length is.filled, length-append is.numbers (replicate (2 - length is.numbers) 0), length-replicate {A = ℕ} (2 - length is.numbers) 0)

    key_of : (words : List ℕ) → IsTuple 2 text words → length words ≡ 2 → (key : KeyWords) × IsKey text key
    key_of [] is long = absurd (omega (arith, long))
    key_of (a ∷ []) is long = absurd (omega (arith, long))
    key_of (a ∷ b ∷ []) is long = (record { k0 = a; k1 = b }, is)
    key_of (a ∷ b ∷ c ∷ words) is long = absurd (omega (arith, long))
