-- Spellings, one after the other.
use Rattle.std.proofs.Common.{◌≡◌, ◌≢◌, ℕ, ◌<◌, ◌≤◌, ◌^◌, List, [], ◌∷◌, ◌++◌, All, decimal, append_assoc, ap, refl, sym, ◌∙◌, arith, true, false, eqb, None, Some, Bor, take, drop, length, ◌+◌}
use Rattle.std.proofs.lemmas.Fmt.{decimal_injective}
use Rattle.std.proofs.lemmas.List.{append_cancel_left, append-nil, nil_from_length}
use Rattle.std.proofs.lemmas.Slice.Eq.{strip_prefix_is}
use Rattle.std.proofs.lemmas.Bool.Decides.{Decides-eqb}
use Rattle.std.specs.Cmp.Lexicographic.{pointwise}
use Rattle.flow_report.specs.Reading.{BeginsWith, BeginsWithNone}
use Rattle.flow_report.specs.Text.{number_then}
use Rattle.flow_report.proofs.Cuts.{same_cut, none_in_decimal}

-- two values, the first before the second
unfoldable pub spelled_after : {X Y : Type 0} → (X → List ℕ) → (Y → List ℕ) → X × Y → List ℕ
spelled_after front back pair = front pair.0 ++ back pair.1

-- both are in range
pub record BothIn {X Y : Type 0} (P : X → Type 0) (Q : Y → Type 0) (pair : X × Y) : Type 0 where
  pub first : P pair.0
  pub second : Q pair.1

-- a text begins with at most one spelling
pub record IsPrefixFree {X : Type 0} (spelling : X → List ℕ) (P : X → Type 0) : Type 0 where
  pub same : (x y : X) (r s : List ℕ) → P x → P y → spelling x ++ r ≡ spelling y ++ s → (x ≡ y) × (r ≡ s)

pub numbers_prefix_free : (after most : ℕ) → after < 48 → most < 2 ^ 64 → IsPrefixFree (number_then after) (λ n. n ≤ most)
numbers_prefix_free after most low limit = record {
  same = λ m n r s m_in n_in is.
      let cut = same_cut after (decimal m) r (decimal n) s (none_in_decimal m after (omega arith) low) (none_in_decimal n after (omega arith) low)
      (sym (append_assoc (decimal m) (after ∷ []) r) ∙ is ∙ append_assoc (decimal n) (after ∷ []) s) in
      (decimal_injective m n (omega arith) (omega arith) cut.0, cut.1);
}

pub pairs_prefix_free : {X Y : Type 0} {front : X → List ℕ} {back : Y → List ℕ} {P : X → Type 0} {Q : Y → Type 0}
    → IsPrefixFree front P → IsPrefixFree back Q → IsPrefixFree (spelled_after front back) (BothIn P Q)
unfolding spelled_after
pairs_prefix_free {X} {Y} {front} {back} {P} {Q} first second = record {
  same = λ x y r s x_in y_in is.
      let heads = first.same x.0 y.0 (back x.1 ++ r) (back y.1 ++ s) x_in.first y_in.first
      (sym (append_assoc (front x.0) (back x.1) r) ∙ is ∙ append_assoc (front y.0) (back y.1) s) in
      let tails = second.same x.1 y.1 r s x_in.second y_in.second heads.1 in
      ((λ i. (heads.0 i, tails.0 i)), tails.1);
}

-- no number, where what stands before the byte is none
pub none_by_word : (text word rest : List ℕ) (after most : ℕ) → after < 48 → most < 2 ^ 64 → All (λ b. b ≢ after) word → text ≡ word ++ after ∷ rest
    → ((n : ℕ) → n ≤ most → word ≢ decimal n) → BeginsWithNone (number_then after) (λ n. n ≤ most) text
none_by_word text word rest after most low limit none_in is h = record {
  none = λ n s le spelled.
      let cut = same_cut after word rest (decimal n) s none_in (none_in_decimal n after (omega arith) low) (sym is ∙ spelled ∙ append_assoc (decimal n) (after ∷ []) s) in
      h n le cut.0;
}

-- values that are spelled by their parts
pub record IsSpelledBy {X Y : Type 0} (spelling : X → List ℕ) (P : X → Type 0) (parts : X → Y) (by_parts : Y → List ℕ) (Q : Y → Type 0) : Type 0 where
  pub spelled : (x : X) → spelling x ≡ by_parts (parts x)
  pub in_range : (x : X) → P x → Q (parts x)

pub parts_prefix_free : {X Y : Type 0} {spelling : X → List ℕ} {P : X → Type 0} {parts : X → Y} {by_parts : Y → List ℕ} {Q : Y → Type 0}
    → IsSpelledBy spelling P parts by_parts Q → ((x y : X) → parts x ≡ parts y → x ≡ y) → IsPrefixFree by_parts Q → IsPrefixFree spelling P
parts_prefix_free {parts = parts} by injective free = record {
  same = λ x y r s x_in y_in is.
      let same = free.same (parts x) (parts y) r s (by.in_range x x_in) (by.in_range y y_in)
      (ap (λ z. z ++ r) (sym (by.spelled x)) ∙ is ∙ ap (λ z. z ++ s) (by.spelled y)) in
      (injective x y same.0, same.1);
}

-- no value, where no value for the first part
pub none_first : {X Y : Type 0} {front : X → List ℕ} (back : Y → List ℕ) {P : X → Type 0} (Q : Y → Type 0) {text : List ℕ}
    → BeginsWithNone front P text → BeginsWithNone (spelled_after front back) (BothIn P Q) text
unfolding spelled_after
none_first {front = front} back Q h = record {
  none = λ pair rest in_range is. h.none pair.0 (back pair.1 ++ rest) in_range.first (is ∙ append_assoc (front pair.0) (back pair.1) rest);
}

-- no value, where the first part is there and the second is not
pub none_second : {X Y : Type 0} {front : X → List ℕ} {back : Y → List ℕ} {P : X → Type 0} {Q : Y → Type 0} {text middle : List ℕ} {x : X}
    → IsPrefixFree front P → BeginsWith front P text x middle → BeginsWithNone back Q middle → BeginsWithNone (spelled_after front back) (BothIn P Q) text
unfolding spelled_after
none_second {front = front} {back = back} {x = x} free first h = record {
  none = λ pair rest in_range is.
      let same = free.same x pair.0 _ (back pair.1 ++ rest) first.in_range in_range.first (sym first.spelled ∙ is ∙ append_assoc (front pair.0) (back pair.1) rest) in
      h.none pair.1 rest in_range.second same.1;
}

pub both_begin : {X Y : Type 0} {front : X → List ℕ} {back : Y → List ℕ} {P : X → Type 0} {Q : Y → Type 0} {text middle rest : List ℕ} {x : X} {y : Y}
    → BeginsWith front P text x middle → BeginsWith back Q middle y rest → BeginsWith (spelled_after front back) (BothIn P Q) text (x, y) rest
unfolding spelled_after
both_begin {front = front} {back = back} {rest = rest} {x = x} {y = y} first second = record {
  in_range = record { first = first.in_range; second = second.in_range };
  spelled = first.spelled ∙ ap (λ z. front x ++ z) second.spelled ∙ sym (append_assoc (front x) (back y) rest);
}

-- no value, where there are no parts of one
pub none_by_parts : {X Y : Type 0} {spelling : X → List ℕ} {P : X → Type 0} {parts : X → Y} {by_parts : Y → List ℕ} {Q : Y → Type 0} {text : List ℕ}
    → IsSpelledBy spelling P parts by_parts Q → BeginsWithNone by_parts Q text → BeginsWithNone spelling P text
none_by_parts {parts = parts} by h = record {
  none = λ x rest in_range is. h.none (parts x) rest (by.in_range x in_range) (is ∙ ap (λ z. z ++ rest) (by.spelled x));
}

-- the value of the parts that are there
pub begins_by_parts : {X Y : Type 0} {spelling : X → List ℕ} {P : X → Type 0} {parts : X → Y} {by_parts : Y → List ℕ} {Q : Y → Type 0} {text rest : List ℕ} {y : Y}
    → IsSpelledBy spelling P parts by_parts Q → (x : X) → parts x ≡ y → P x → BeginsWith by_parts Q text y rest → BeginsWith spelling P text x rest
begins_by_parts {by_parts = by_parts} {rest = rest} by x is in_range h = record {
  in_range = in_range;
  spelled = h.spelled ∙ ap (λ z. z ++ rest) (sym (by.spelled x ∙ ap by_parts is));
}

-- a fixed text
abbrev pub fixed : List ℕ → Unit {0} → List ℕ
fixed text _ = text

abbrev pub Always : Unit {0} → Type 0
Always _ = Unit {0}

pub fixed_free : (text : List ℕ) → IsPrefixFree (fixed text) Always
fixed_free text = record { same = λ x y r s x_in y_in is. (refl, append_cancel_left text r s is) }

-- what `strip_prefix` says
pub none_from_strip : (text prefix : List ℕ) → pointwise eqb (take (length prefix) text) prefix ≡ false → BeginsWithNone (fixed prefix) Always text
none_from_strip text prefix h = record { none = λ x rest in_range is. strip_prefix_is Decides-eqb text prefix None h rest is }

pub begins_from_strip : (text prefix : List ℕ) (rest : Bor (List ℕ)) → (pointwise eqb (take (length prefix) text) prefix ≡ true)
    × (rest.now ≡ drop (length prefix) text) × (length rest.now + length prefix ≡ length text)
    → BeginsWith (fixed prefix) Always text tt rest.now
begins_from_strip text prefix rest h = record { in_range = tt; spelled = strip_prefix_is Decides-eqb text prefix (Some rest) h }

-- the whole text is the spelling
pub whole_text : {X : Type 0} {spelling : X → List ℕ} {P : X → Type 0} {text rest : List ℕ} {x : X} → BeginsWith spelling P text x rest → length rest ≡ 0 → text ≡ spelling x
whole_text {spelling = spelling} {x = x} h empty = h.spelled ∙ ap (λ z. spelling x ++ z) (nil_from_length _ empty) ∙ append-nil (spelling x)

-- no whole text is a spelling, where the text begins with none or goes on after one
pub no_whole_text : {X : Type 0} {spelling : X → List ℕ} {P : X → Type 0} {text : List ℕ} → BeginsWithNone spelling P text → (x : X) → P x → text ≢ spelling x
no_whole_text {spelling = spelling} h x in_range is = h.none x [] in_range (is ∙ sym (append-nil (spelling x)))

pub no_whole_text_longer : {X : Type 0} {spelling : X → List ℕ} {P : X → Type 0} {text rest : List ℕ} {x : X} → IsPrefixFree spelling P → BeginsWith spelling P text x rest → 0 < length rest
    → (y : X) → P y → text ≢ spelling y
no_whole_text_longer {spelling = spelling} {rest = rest} {x = x} free h some y in_range is =
    let same = free.same x y rest [] h.in_range in_range (sym h.spelled ∙ is ∙ sym (append-nil (spelling y))) in
    omega (arith, ap length same.1)
