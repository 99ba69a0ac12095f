-- An engine's line by its words and numbers.
use Rattle.std.specs.List.{join_with_byte}
use Rattle.std.proofs.Common.{◌≡◌, ℕ, ◌<◌, ◌≤◌, ◌^◌, List, [], ◌∷◌, ◌++◌, codes, decimal, append_assoc, ap, sym, ◌∙◌, arith}
use Rattle.netflow_five.specs.declared.engine_line.EngineLine.{EngineLine}
use Rattle.flow_report.specs.Ranges.{IsEngineInRange}
use Rattle.flow_report.specs.Text.{number_then, named, named_then, words_then, engine_text, space, line_feed}
use Rattle.flow_report.proofs.Parts.{IsByte, IsCount, bytes_free}
use Rattle.flow_report.proofs.LastParts.{named_free}
use Rattle.flow_report.proofs.Spellings.{spelled_after, BothIn, IsSpelledBy, IsPrefixFree, pairs_prefix_free, parts_prefix_free}

abbrev pub EngineParts : Type 0
EngineParts = ℕ × (ℕ × (ℕ × (ℕ × ℕ)))

abbrev pub engine_parts : EngineLine → EngineParts
engine_parts e = (e.engine_type, (e.engine_id, (e.flows, (e.lost, e.resets))))

abbrev pub engine_fields : EngineParts → List ℕ
engine_fields = spelled_after (named_then space (codes "engine")) (spelled_after (number_then space)
    (spelled_after (named_then space (codes "flows")) (spelled_after (named_then space (codes "lost")) (named_then line_feed (codes "resets")))))

abbrev pub AreEngineParts : EngineParts → Type 0
AreEngineParts = BothIn IsByte (BothIn IsByte (BothIn IsCount (BothIn IsCount IsCount)))

-- five words, each with the byte after it
five_words : (after : ℕ) (a b c d e : List ℕ) → words_then after (a ∷ b ∷ c ∷ d ∷ e ∷ [])
    ≡ (a ++ space ∷ []) ++ ((b ++ space ∷ []) ++ ((c ++ space ∷ []) ++ ((d ++ space ∷ []) ++ (e ++ after ∷ []))))
unfolding words_then
five_words after a b c d e = simp append_assoc

pub engine_by_parts : IsSpelledBy engine_text IsEngineInRange engine_parts engine_fields AreEngineParts
unfolding engine_text named_then spelled_after
engine_by_parts = record {
  spelled = λ e. five_words line_feed (named (codes "engine") e.engine_type) (decimal e.engine_id) (named (codes "flows") e.flows)
      (named (codes "lost") e.lost) (named (codes "resets") e.resets);
  in_range = λ e h.
      let engine_type = h.engine_type in let engine_id = h.engine_id in let flows = h.flows in let lost = h.lost in let resets = h.resets in
      record {
        first = omega arith;
        second = record {
          first = omega arith;
          second = record { first = omega arith; second = record { first = omega arith; second = omega arith } };
        };
      };
}

-- an engine's line from its five numbers
pub engine_from_parts : (e : EngineLine) (kind id flows lost resets : ℕ) → e.engine_type ≡ kind → e.engine_id ≡ id → e.flows ≡ flows → e.lost ≡ lost → e.resets ≡ resets
    → engine_parts e ≡ (kind, (id, (flows, (lost, resets))))
engine_from_parts e kind id flows lost resets a b c d f = λ i. (a i, (b i, (c i, (d i, f i))))

same_engine_line : (x y : EngineLine) → engine_parts x ≡ engine_parts y → x ≡ y
same_engine_line x y is = λ i. record { engine_type = (is i).0; engine_id = (is i).1.0; flows = (is i).1.1.0; lost = (is i).1.1.1.0; resets = (is i).1.1.1.1 }

pub types_free : IsPrefixFree (named_then space (codes "engine")) IsByte
types_free = named_free space 255 (codes "engine") (omega arith) (omega arith)

pub ids_free : IsPrefixFree (number_then space) IsByte
ids_free = bytes_free space (omega arith)

pub came_free : IsPrefixFree (named_then space (codes "flows")) IsCount
came_free = named_free space 18446744073709551615 (codes "flows") (omega arith) (omega arith)

pub lost_free : IsPrefixFree (named_then space (codes "lost")) IsCount
lost_free = named_free space 18446744073709551615 (codes "lost") (omega arith) (omega arith)

pub resets_free : IsPrefixFree (named_then line_feed (codes "resets")) IsCount
resets_free = named_free line_feed 18446744073709551615 (codes "resets") (omega arith) (omega arith)

pub engines_free : IsPrefixFree engine_text IsEngineInRange
engines_free = parts_prefix_free engine_by_parts same_engine_line (pairs_prefix_free types_free (pairs_prefix_free ids_free
    (pairs_prefix_free came_free (pairs_prefix_free lost_free resets_free))))

-- five texts put one after the other at the end of a text
pub five_more : (old a b c d e : List ℕ) → ((((old ++ a) ++ b) ++ c) ++ d) ++ e ≡ old ++ (a ++ (b ++ (c ++ (d ++ e))))
five_more old a b c d e = simp append_assoc

-- the parts of an engine's line put at the end of a text
pub engine_more : (old : List ℕ) (e : EngineLine) → ((((old ++ named_then space (codes "engine") e.engine_type) ++ number_then space e.engine_id)
    ++ named_then space (codes "flows") e.flows) ++ named_then space (codes "lost") e.lost) ++ named_then line_feed (codes "resets") e.resets ≡ old ++ engine_text e
unfolding spelled_after
engine_more old e =
    five_more old (named_then space (codes "engine") e.engine_type) (number_then space e.engine_id)
    (named_then space (codes "flows") e.flows) (named_then space (codes "lost") e.lost) (named_then line_feed (codes "resets") e.resets)
    ∙ ap (λ (z : List ℕ). old ++ z) (sym (engine_by_parts.spelled e))
