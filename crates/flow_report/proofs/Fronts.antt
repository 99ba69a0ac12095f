-- The good lines of one kind with which bytes begin.
use Rattle.std.specs.List.{flat_map}
use Rattle.std.specs.Prelude.{◌⊎◌}
use Rattle.std.proofs.Common.{◌≡◌, ℕ, ◌<◌, ◌+◌, List, [], ◌∷◌, ◌++◌, All, length, drop, append_assoc, ap, refl, sym, subst, ◌∙◌, arith, inl, inr}
use Rattle.std.proofs.Math.Seq.{drop-append_seam}
use Rattle.std.proofs.lemmas.List.{append_cancel_left, append-nil, length-append, get_or_push, length_push, nil_from_length}
use Rattle.std.proofs.lemmas.List.Concat.{flat_map-append}
use Rattle.std.proofs.lemmas.List.Elements.{All-push, All-nil, All-head, All-tail, All-drop}
use Rattle.flow_report.specs.ReadBack.{HasLines, HasJustLines, IsNext}
use Rattle.flow_report.specs.Reading.{BeginsWith, BeginsWithNone}
use Rattle.flow_report.proofs.Spellings.{IsPrefixFree}

-- the lines of a kind: a text begins with at most one of them, each has bytes, and the first of some values that rise do so too
pub record IsKind {X : Type 0} (line : X → List ℕ) (P : X → Type 0) (R : List X → Type 0) : Type 0 where
  pub free : IsPrefixFree line P
  pub has_bytes : (x : X) → 0 < length (line x)
  pub front : (xs ys : List X) → R (xs ++ ys) → R xs
  pub none : R []

module _ {X : Type 0} {line : X → List ℕ} {P : X → Type 0} {R : List X → Type 0} (kind : IsKind line P R) where
  pub no_lines : (bytes : List ℕ) → HasLines line P R bytes [] bytes
  no_lines bytes = record { lines = refl; rising = kind.none; in_range = All-nil P }

  lines_push : (xs : List X) (x : X) (rest : List ℕ) → flat_map line (xs ++ x ∷ []) ++ rest ≡ flat_map line xs ++ (line x ++ rest)
  lines_push xs x rest =
      ap (λ (z : List ℕ). z ++ rest) (flat_map-append line xs (x ∷ []) ∙ ap (λ (z : List ℕ). flat_map line xs ++ z) (append-nil (line x)))
      ∙ append_assoc (flat_map line xs) (line x) rest

  -- one more good line
  pub one_more_line : (bytes : List ℕ) (xs : List X) (rest : List ℕ) (x : X) (after : List ℕ)
      → HasLines line P R bytes xs rest → BeginsWith line (IsNext P R xs) rest x after → HasLines line P R bytes (xs ++ x ∷ []) after
  one_more_line bytes xs rest x after front next = record {
    lines = front.lines ∙ ap (λ (z : List ℕ). flat_map line xs ++ z) next.spelled ∙ sym (lines_push xs x after);
    rising = next.in_range.1;
    in_range = All-push P xs x front.in_range next.in_range.0;
  }

  -- no more good lines
  pub no_more_lines : (bytes : List ℕ) (xs : List X) (rest : List ℕ) → HasLines line P R bytes xs rest → BeginsWithNone line (IsNext P R xs) rest → HasJustLines line P R bytes xs rest
  no_more_lines bytes xs rest front none = record {
    front = front;
    none_follows = λ x after more.
        let same = append_cancel_left (flat_map line xs) rest (line x ++ after) (sym front.lines ∙ more.lines ∙ lines_push xs x after) in
        let in_range = subst P (get_or_push xs x x (length xs) refl) (more.in_range (length xs) x (omega (arith, length_push xs x))) in
        none.none x after (in_range, more.rising) same;
  }

  -- a line has bytes
  pub line_shortens : (Q : X → Type 0) (text rest : List ℕ) (x : X) → BeginsWith line Q text x rest → length rest < length text
  line_shortens Q text rest x h =
      let whole : length text ≡ length (line x) + length rest = ap length h.spelled ∙ length-append (line x) rest in
      let some : 0 < length (line x) = kind.has_bytes x in
      omega arith

  -- one of two rows of values, whose lines begin the same bytes, begins the other
  same_bytes : (xs ys : List X) (rest after : List ℕ) → All P xs → All P ys → flat_map line xs ++ rest ≡ flat_map line ys ++ after
      → ((more : List X) × (ys ≡ xs ++ more) × (rest ≡ flat_map line more ++ after)) ⊎ ((more : List X) × (xs ≡ ys ++ more) × (after ≡ flat_map line more ++ rest))
  same_bytes [] ys rest after xs_in ys_in is = inl (ys, refl, is)
  same_bytes (x ∷ xs) [] rest after xs_in ys_in is = inr (x ∷ xs, refl, sym is)
  same_bytes (x ∷ xs) (y ∷ ys) rest after xs_in ys_in is =
      let same = kind.free.same x y (flat_map line xs ++ rest) (flat_map line ys ++ after)
      (All-head P x xs xs_in) (All-head P y ys ys_in)
      (sym (append_assoc (line x) (flat_map line xs) rest) ∙ is ∙ append_assoc (line y) (flat_map line ys) after) in
      elim (same_bytes xs ys rest after (All-tail P x xs xs_in) (All-tail P y ys ys_in) same.1) [
        | inl found ↦ inl (found.0, (λ i. sym same.0 i ∷ found.1 i), found.2)
        | inr found ↦ inr (found.0, (λ i. same.0 i ∷ found.1 i), found.2)
      ]

  -- more values would be good lines after these
  longer : (bytes : List ℕ) (xs more : List X) (x : X) (rest after : List ℕ) → HasLines line P R bytes xs rest → R (xs ++ x ∷ more) → All P (x ∷ more)
      → rest ≡ flat_map line (x ∷ more) ++ after → HasLines line P R bytes (xs ++ x ∷ []) (flat_map line more ++ after)
  longer bytes xs more x rest after front rising in_range is =
      let keys = kind.front (xs ++ x ∷ []) more (subst R (sym (append_assoc xs (x ∷ []) more)) rising) in
      let next : BeginsWith line (IsNext P R xs) rest x (flat_map line more ++ after) = record {
        in_range = (All-head P x more in_range, keys);
        spelled = is ∙ append_assoc (line x) (flat_map line more) after;
      } in
      one_more_line bytes xs rest x (flat_map line more ++ after) front next

  all_back : (xs more ys : List X) → ys ≡ xs ++ more → All P ys → All P more
  all_back xs more ys is h = subst (All P) (ap (drop (length xs)) is ∙ drop-append_seam xs more) (All-drop P (length xs) ys h)

  none_after : (bytes : List ℕ) (xs ys : List X) (rest after : List ℕ) → HasJustLines line P R bytes xs rest → HasLines line P R bytes ys after
      → (more : List X) → ys ≡ xs ++ more → rest ≡ flat_map line more ++ after → (back : List X) × (xs ≡ ys ++ back)
  none_after bytes xs ys rest after only good [] is rest_is = ([], sym (append-nil xs) ∙ sym is ∙ sym (append-nil ys))
  none_after bytes xs ys rest after only good (x ∷ more) is rest_is =
      absurd (only.none_follows x (flat_map line more ++ after)
      (longer bytes xs more x rest after only.front (subst R is good.rising) (all_back xs (x ∷ more) ys is good.in_range) rest_is))

  -- good lines with none after them go on from any other good lines
  goes_on : (bytes : List ℕ) (xs ys : List X) (rest after : List ℕ) → HasJustLines line P R bytes xs rest → HasLines line P R bytes ys after → (more : List X) × (xs ≡ ys ++ more)
  goes_on bytes xs ys rest after only good =
      elim (same_bytes xs ys rest after only.front.in_range good.in_range (sym only.front.lines ∙ good.lines)) [
        | inl found ↦ none_after bytes xs ys rest after only good found.0 found.1 found.2
        | inr found ↦ (found.0, found.1)
      ]

  -- bytes begin with one row of good lines and no more
  pub same_only : (bytes : List ℕ) (xs ys : List X) (rest after : List ℕ) → HasJustLines line P R bytes xs rest → HasJustLines line P R bytes ys after → (xs ≡ ys) × (rest ≡ after)
  same_only bytes xs ys rest after first second =
      let on = goes_on bytes xs ys rest after first second.front in
      let back = goes_on bytes ys xs after rest second first.front in
      let none : length on.0 ≡ 0 = omega (arith, ap length on.1, ap length back.1, length-append ys on.0, length-append xs back.0) in
      let is = on.1 ∙ ap (λ (z : List X). ys ++ z) (nil_from_length on.0 none) ∙ append-nil ys in
      (is, append_cancel_left (flat_map line xs) rest after (sym first.front.lines ∙ second.front.lines ∙ ap (λ (z : List X). flat_map line z ++ after) (sym is)))
