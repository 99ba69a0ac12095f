-- A value and its words undo each other.
use Rattle.std.proofs.Common.{◌≡◌, ℕ, List, [], ◌∷◌, length, refl, arith}
use Rattle.flow_fold.specs.Words.{value_of_words, words_of}
use Rattle.flow_fold.specs.declared.value.TheConstants.{VALUE_WORDS}
use Rattle.flow_fold.specs.declared.value.Value.{Value}

-- the value of a value's words is the value
pub value_of_words-words_of : (v : Value) → value_of_words (words_of v) ≡ v
unfolding value_of_words words_of
value_of_words-words_of v = refl

-- the words of a value that was read from words are the words
pub words_of-value_of_words : (ws : List ℕ) → length ws ≡ VALUE_WORDS → words_of (value_of_words ws) ≡ ws
unfolding value_of_words words_of
words_of-value_of_words (p ∷ o ∷ f ∷ l ∷ g ∷ []) e = refl
words_of-value_of_words [] e = absurd (omega arith)
words_of-value_of_words (p ∷ []) e = absurd (omega arith)
words_of-value_of_words (p ∷ o ∷ []) e = absurd (omega arith)
words_of-value_of_words (p ∷ o ∷ f ∷ []) e = absurd (omega arith)
words_of-value_of_words (p ∷ o ∷ f ∷ l ∷ []) e = absurd (omega arith)
words_of-value_of_words (p ∷ o ∷ f ∷ l ∷ g ∷ u ∷ ws) e = absurd (omega arith)
