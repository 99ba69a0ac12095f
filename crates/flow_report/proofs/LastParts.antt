-- The last line by its words and numbers.
use Rattle.std.proofs.Common.{ℕ, ◌<◌, ◌≤◌, ◌^◌, List, [], ◌∷◌, codes, append_assoc, arith}
use Rattle.flow_report.specs.declared.totals.Totals.{Totals}
use Rattle.flow_report.specs.Ranges.{AreTotalsInRange}
use Rattle.flow_report.specs.Text.{number_then, named, named_then, words_then, totals_text, space, line_feed}
use Rattle.flow_report.proofs.Parts.{IsCount}
use Rattle.flow_report.proofs.Spellings.{spelled_after, BothIn, IsSpelledBy, IsPrefixFree, fixed, Always, fixed_free, numbers_prefix_free, pairs_prefix_free, parts_prefix_free}

abbrev pub named_parts : ℕ → Unit {0} × (Unit {0} × ℕ)
named_parts n = (tt, (tt, n))

abbrev pub named_fields : ℕ → List ℕ → Unit {0} × (Unit {0} × ℕ) → List ℕ
named_fields after word = spelled_after (fixed word) (spelled_after (fixed (space ∷ [])) (number_then after))

abbrev pub AreNamedParts : ℕ → Unit {0} × (Unit {0} × ℕ) → Type 0
AreNamedParts most = BothIn Always (BothIn Always (λ n. n ≤ most))

pub named_by_parts : (after most : ℕ) (word : List ℕ) → IsSpelledBy (named_then after word) (λ n. n ≤ most) named_parts (named_fields after word) (AreNamedParts most)
unfolding named_then named spelled_after
named_by_parts after most word = record {
  spelled = λ n. simp append_assoc;
  in_range = λ n h. record { first = tt; second = record { first = tt; second = h } };
}

pub named_free : (after most : ℕ) (word : List ℕ) → after < 48 → most < 2 ^ 64 → IsPrefixFree (named_then after word) (λ n. n ≤ most)
named_free after most word low limit = parts_prefix_free (named_by_parts after most word) (λ x y is i. (is i).1.1)
    (pairs_prefix_free (fixed_free word) (pairs_prefix_free (fixed_free (space ∷ [])) (numbers_prefix_free after most low limit)))

abbrev pub totals_parts : Totals → ℕ × ℕ
totals_parts t = (t.records, t.datagrams)

abbrev pub totals_fields : ℕ × ℕ → List ℕ
totals_fields = spelled_after (named_then space (codes "records")) (named_then line_feed (codes "datagrams"))

pub totals_by_parts : IsSpelledBy totals_text AreTotalsInRange totals_parts totals_fields (BothIn IsCount IsCount)
unfolding totals_text words_then named_then spelled_after
totals_by_parts = record {
  spelled = λ t. simp append_assoc;
  in_range = λ t h. let records = h.records in let datagrams = h.datagrams in record { first = omega arith; second = omega arith };
}

pub records_free : IsPrefixFree (named_then space (codes "records")) IsCount
records_free = named_free space 18446744073709551615 (codes "records") (omega arith) (omega arith)

pub totals_free : IsPrefixFree totals_text AreTotalsInRange
totals_free = parts_prefix_free totals_by_parts (λ x y is i. record { records = (is i).0; datagrams = (is i).1 })
    (pairs_prefix_free records_free (named_free line_feed 18446744073709551615 (codes "datagrams") (omega arith) (omega arith)))
