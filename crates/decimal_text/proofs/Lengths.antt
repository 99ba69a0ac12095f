-- How long a number's text is.
use Rattle.std.proofs.Common.{◌≡◌, ◌∙◌, ℕ, zero, suc, ◌+◌, ◌*◌, ◌/◌, ◌%◌, ◌^◌, ◌<◌, ◌≤◌, [], ◌∷◌, length, decimal, ap, arith}
use Rattle.std.proofs.lemmas.Fmt.{decimal_digit, decimal_step}
use Rattle.std.proofs.lemmas.List.{length-append}

-- from ten to the k on there are k + 1 digits
pub length_from_log : (k n : ℕ) → n < 2 ^ 64 → 10 ^ k ≤ n → n < 10 * 10 ^ k → length (decimal n) ≡ k + 1
length_from_log zero n small low high = ap length (decimal_digit n (omega arith))
length_from_log (suc k) n small low high =
    let shorter : length (decimal (n / 10)) ≡ k + 1 = length_from_log k (n / 10) (omega arith) (omega arith) (omega arith) in
    ap length (decimal_step n (omega arith) small) ∙ omega (arith, length-append (decimal (n / 10)) ((48 + n % 10) ∷ []), shorter)
