-- A line of a flow or of an engine has one line feed.
use Rattle.std.specs.List.{flat_map, count_by}
use Rattle.std.proofs.Common.{◌≡◌, ◌≢◌, ℕ, ◌<◌, ◌≤◌, ◌+◌, ◌^◌, List, [], ◌∷◌, ◌++◌, All, cond, eqb, length, codes, decimal, ap, ap₂, refl, subst, ◌∙◌, arith}
use Rattle.std.proofs.lemmas.Bool.Decides.{nat_tests}
use Rattle.std.proofs.lemmas.List.Elements.{All-head, All-tail}
use Rattle.std.proofs.lemmas.List.Sums.{sum_by-append, sum_by-cons}
use Rattle.flow_fold.specs.Flows.{Flows}
use Rattle.netflow_five.specs.declared.engine_line.EngineLine.{EngineLine}
use Rattle.flow_report.specs.Ranges.{IsKeyInRange, IsValueInRange, IsFlowInRange, IsEngineInRange}
use Rattle.flow_report.specs.Text.{number_then, address_text, key_text, value_text, flow_line, engine_text, named_then, space, dot, line_feed}
use Rattle.flow_report.proofs.Cuts.{none_in_decimal}
use Rattle.flow_report.proofs.EngineParts.{engine_by_parts}
use Rattle.flow_report.proofs.LastParts.{named_by_parts}
use Rattle.flow_report.proofs.Parts.{IsByte, IsPort, IsAddress, IsCount, address_by_parts, key_by_parts, value_by_parts, flow_by_parts}
use Rattle.flow_report.proofs.Spellings.{spelled_after, BothIn, IsSpelledBy, fixed, Always}

abbrev feeds : List ℕ → ℕ
feeds text = count_by (λ b. eqb b line_feed) text

no_feed : (b : ℕ) → b ≢ line_feed → cond {A = ℕ} (eqb b line_feed) 1 0 ≡ 0
no_feed b ne = grind (arith, nat_tests)

feeds_none : (text : List ℕ) → All (λ b. b ≢ line_feed) text → feeds text ≡ 0
feeds_none [] h = refl
feeds_none (b ∷ text) h =
    let head : b ≢ line_feed = All-head (λ b. b ≢ line_feed) b text h in
    let rest = feeds_none text (All-tail (λ b. b ≢ line_feed) b text h) in
    sum_by-cons (λ b. cond (eqb b line_feed) 1 0) b text ∙ ap₂ (λ (m n : ℕ). m + n) (no_feed b head) rest

feeds_after : (front back : List ℕ) → feeds (front ++ back) ≡ feeds front + feeds back
feeds_after = sum_by-append (λ b. cond (eqb b line_feed) 1 0)

-- each spelling has so many line feeds
record HasFeeds {X : Type 0} (spelling : X → List ℕ) (P : X → Type 0) (count : ℕ) : Type 0 where
  are : (x : X) → P x → feeds (spelling x) ≡ count

in_number : (after most count : ℕ) → most < 2 ^ 64 → feeds (after ∷ []) ≡ count → HasFeeds (number_then after) (λ n. n ≤ most) count
in_number after most count limit last = record {
  are = λ n le. omega (arith, feeds_after (decimal n) (after ∷ []), feeds_none (decimal n) (none_in_decimal n line_feed (omega arith) (omega arith)));
}

in_pair : {X Y : Type 0} {front : X → List ℕ} {back : Y → List ℕ} {P : X → Type 0} {Q : Y → Type 0} {a b : ℕ}
    → HasFeeds front P a → HasFeeds back Q b → HasFeeds (spelled_after front back) (BothIn P Q) (a + b)
unfolding spelled_after
in_pair {front = front} {back = back} first second = record {
  are = λ pair in_range. omega (arith, feeds_after (front pair.0) (back pair.1), first.are pair.0 in_range.first, second.are pair.1 in_range.second);
}

by_parts : {X Y : Type 0} {spelling : X → List ℕ} {P : X → Type 0} {parts : X → Y} {fields : Y → List ℕ} {Q : Y → Type 0} {count : ℕ}
    → IsSpelledBy spelling P parts fields Q → HasFeeds fields Q count → HasFeeds spelling P count
by_parts {parts = parts} by h = record {
  are = λ x in_range. ap feeds (by.spelled x) ∙ h.are (parts x) (by.in_range x in_range);
}

in_byte : (after : ℕ) → feeds (after ∷ []) ≡ 0 → HasFeeds (number_then after) IsByte 0
in_byte after h = in_number after 255 0 (omega arith) h

in_port : HasFeeds (number_then space) IsPort 0
in_port = in_number space 65535 0 (omega arith) refl

in_count : HasFeeds (number_then space) IsCount 0
in_count = in_number space 18446744073709551615 0 (omega arith) refl

in_address : HasFeeds address_text IsAddress 0
in_address = by_parts address_by_parts (in_pair (in_byte dot refl) (in_pair (in_byte dot refl) (in_pair (in_byte dot refl) (in_byte space refl))))

in_key : HasFeeds key_text IsKeyInRange 0
in_key = by_parts key_by_parts (in_pair in_address (in_pair in_address (in_pair in_port (in_pair in_port (in_pair (in_byte space refl) (in_pair (in_byte space refl) in_port))))))

in_value : HasFeeds value_text IsValueInRange 1
in_value = by_parts value_by_parts (in_pair in_count (in_pair in_count (in_pair in_count
    (in_pair in_count (in_number line_feed 18446744073709551615 1 (omega arith) refl)))))

in_line : HasFeeds flow_line IsFlowInRange 1
in_line = by_parts flow_by_parts (in_pair in_key in_value)

in_fixed : (text : List ℕ) → feeds text ≡ 0 → HasFeeds (fixed text) Always 0
in_fixed text h = record { are = λ x in_range. h }

in_named : (after most count : ℕ) (word : List ℕ) → most < 2 ^ 64 → feeds (after ∷ []) ≡ count → feeds word ≡ 0 → HasFeeds (named_then after word) (λ n. n ≤ most) count
in_named after most count word limit last none =
    let same : 0 + (0 + count) ≡ count = omega arith in
    subst (λ (k : ℕ). HasFeeds (named_then after word) (λ n. n ≤ most) k) same
    (by_parts (named_by_parts after most word) (in_pair (in_fixed word none) (in_pair (in_fixed (space ∷ []) refl) (in_number after most count limit last))))

in_engine : HasFeeds engine_text IsEngineInRange 1
in_engine = by_parts engine_by_parts (in_pair (in_named space 255 0 (codes "engine") (omega arith) refl refl) (in_pair (in_byte space refl)
    (in_pair (in_named space 18446744073709551615 0 (codes "flows") (omega arith) refl refl)
    (in_pair (in_named space 18446744073709551615 0 (codes "lost") (omega arith) refl refl)
    (in_named line_feed 18446744073709551615 1 (codes "resets") (omega arith) refl refl)))))

feeds_are_lines : {X : Type 0} (line : X → List ℕ) (P : X → Type 0) → HasFeeds line P 1 → (xs : List X) → All P xs → feeds (flat_map line xs) ≡ length xs
feeds_are_lines line P h [] in_range = refl
feeds_are_lines line P h (x ∷ xs) in_range =
    let one = h.are x (All-head P x xs in_range) in
    let rest = feeds_are_lines line P h xs (All-tail P x xs in_range) in
    omega (arith, feeds_after (line x) (flat_map line xs))

-- as many line feeds as flows and engines
pub feeds_are_rows : (flows : Flows) (engines : List EngineLine) → All IsFlowInRange flows → All IsEngineInRange engines
    → count_by (λ b. eqb b line_feed) (flat_map flow_line flows ++ flat_map engine_text engines) ≡ length flows + length engines
feeds_are_rows flows engines flows_in engines_in =
    let of_flows = feeds_are_lines flow_line IsFlowInRange in_line flows flows_in in
    let of_engines = feeds_are_lines engine_text IsEngineInRange in_engine engines engines_in in
    omega (arith, feeds_after (flat_map flow_line flows) (flat_map engine_text engines), of_flows, of_engines)
