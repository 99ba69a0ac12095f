-- A text is that of one number.
use Rattle.std.proofs.Common.{◌≡◌, ◌∙◌, ℕ, List, sym}
use Rattle.std.proofs.lemmas.Fmt.{decimal_injective}
use Rattle.call_script.specs.Number.{IsNumber}

pub one_number : (text : List ℕ) (m n : ℕ) → IsNumber text m → IsNumber text n → m ≡ n
one_number text m n h k = decimal_injective m n h.small k.small (sym h.spelled ∙ k.spelled)
