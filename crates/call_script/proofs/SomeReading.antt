-- Lines always read as something.
use Rattle.std.specs.Prelude.{codes}
use Rattle.std.proofs.Common.{◌≡◌, ◌∙◌, ◌⊎◌, ℕ, ◌+◌, ◌<◌, List, [], ◌∷◌, ◌++◌, length, drop, get_or, refl, sym, ap, subst, inl, inr, arith}
use Rattle.std.proofs.Math.Decide.{dec_le, dec_lt, map_dec}
use Rattle.std.proofs.lemmas.Bool.{cases_lt}
use Rattle.seat_history.specs.History.{object_from}
use Rattle.seat_history.specs.Object.{blank_object}
use Rattle.seat_history.specs.declared.entry.Entry.{Entry}
use Rattle.call_script.specs.Cut.{lines_of, without_last_feed, words_of}
use Rattle.call_script.specs.Line.{AreFirstWords, HasFirstCause, MayHaveCallers, NamesCallers}
use Rattle.call_script.specs.Number.{IsNumber}
use Rattle.call_script.specs.Script.{Reading, Good, Bad, Many, ReadAs}
use Rattle.call_script.specs.declared.bad_script.LineCause.{LineCause}
use Rattle.call_script.specs.declared.bad_script.LineCause.TheVariants.{Words, Number, Range}
use Rattle.call_script.proofs.Decisions.{both_dec, same_dec}
use Rattle.call_script.proofs.Parts.{parts_some}
use Rattle.call_script.proofs.SoFar.{IsReadSoFar, nothing_read, read_more, left_more, whole_script, bad_here, one_more}
use Rattle.call_script.proofs.SomeCall.{line_judged}
use Rattle.call_script.proofs.SomeWord.{number_dec}
use Rattle.call_script.proofs.Tuples.{drop_first}

-- line 1
first_words_dec : (words : List (List ℕ)) → Dec (AreFirstWords words)
first_words_dec [] = no (λ h. h)
first_words_dec (name ∷ []) = no (λ h. h)
first_words_dec (name ∷ number ∷ []) = both_dec (same_dec name (codes "callers")) (dec_lt 0 (length number))
first_words_dec (name ∷ number ∷ third ∷ words) = no (λ h. h)

first_number : (words : List (List ℕ)) → AreFirstWords words → (number : List ℕ) × (words ≡ codes "callers" ∷ number ∷ [])
first_number [] are = absurd are
first_number (name ∷ []) are = absurd are
first_number (name ∷ number ∷ []) are = (number, ap (λ n. n ∷ number ∷ []) are.0)
first_number (name ∷ number ∷ third ∷ words) are = absurd are

callers_dec : (line : List ℕ) → AreFirstWords (words_of line) → Dec ((callers : ℕ) × NamesCallers line callers)
callers_dec line are =
    let number = first_number (words_of line) are in
    map_dec
    (λ n. (n.0, (number.0, number.1, n.1)))
    (λ named. (named.0, subst (λ word. IsNumber word named.0) (ap (λ (ws : List (List ℕ)). get_or ws 1 []) (sym named.1.1 ∙ number.1)) named.1.2))
    (number_dec number.0)

-- line 1 names callers, as many as may be, or has a cause
abbrev IsFirstJudged : List ℕ → Type 0
IsFirstJudged line = ((callers : ℕ) × NamesCallers line callers × MayHaveCallers callers) ⊎ ((cause : LineCause) × HasFirstCause line cause)

callers_judged : (line : List ℕ) (callers : ℕ) → NamesCallers line callers → IsFirstJudged line
callers_judged line callers named = elim (both_dec (dec_le 1 callers) (dec_le callers 64)) [
  | no out ↦ inr (Range, (callers, named, out))
  | yes may ↦ inl (callers, named, may)
]

first_judged : (line : List ℕ) → IsFirstJudged line
first_judged line = elim (first_words_dec (words_of line)) [
  | no none ↦ inr (Words, none)
  | yes are ↦ elim (callers_dec line are) [
    | no none ↦ inr (Number, (are, λ callers named. none (callers, named)))
    | yes (callers, named) ↦ callers_judged line callers named
  ]
]

-- the lines behind line 1, of which the first ones were read
module _ (callers : ℕ) (first : List ℕ) (all : List (List ℕ)) (named : NamesCallers first callers) (may_have : MayHaveCallers callers) where
  calls_read : (left : List (List ℕ)) (entries : List Entry) → IsReadSoFar callers all entries → drop (length entries) all ≡ left → (reading : Reading) × ReadAs (first ∷ all) reading
  calls_read [] entries read rest = (Good callers entries, whole_script callers all entries read first named may_have rest)
  calls_read (line ∷ left) entries read rest = elim (cases_lt (length entries) 65536) [
    | inr full ↦ (Many (length entries + 2), one_more callers all entries read first named may_have (drop_first all (length entries) line [] left rest).0 (omega (arith, full, read.few)))
    | inl room ↦ elim (line_judged callers (object_from blank_object entries) line) [
      | inr (cause, fits) ↦ (Bad (length entries + 2) cause, inr (bad_here callers all entries read first named may_have line left cause rest room fits))
      | inl (entry, good) ↦ calls_read left (entries ++ entry ∷ [])
          (read_more callers all entries read line left entry rest room good.spelled good.range good.may)
          (left_more callers all entries read line left entry rest)
    ]
  ]

-- lines read as something
some_reading : (lines : List (List ℕ)) → 0 < length lines → (reading : Reading) × ReadAs lines reading
some_reading [] there = absurd (omega (arith, there))
some_reading (first ∷ rest) there = elim (first_judged first) [
  | inr (cause, fits) ↦ (Bad 1 cause, inl (refl, fits))
  | inl (callers, named, may) ↦ calls_read callers first rest named may rest [] (nothing_read callers rest [] refl) refl
]

-- bytes do, since they have a line
pub bytes_read : (bytes : List ℕ) → (reading : Reading) × ReadAs (lines_of bytes) reading
bytes_read bytes = some_reading (lines_of bytes) (parts_some 10 (without_last_feed bytes))
