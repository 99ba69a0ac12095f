-- Inline words loaded one after the other.
use Rattle.std.proofs.Common.{◌≡◌, ◌∙◌, ℕ, ◌+◌, ◌<◌, suc, false, List, [], ◌∷◌, ◌++◌, length, set, take, refl, sym, ap, subst, arith, append-nil}
use Rattle.std.proofs.Common.{append_assoc, length-set}
use Rattle.std.proofs.lemmas.List.{length-take-le, take_more_set}
use Rattle.std.proofs.Math.Seq.{take-length}
use Rattle.cache_copy.specs.Reading.{HasBegun, HasLoaded, inline_steps, words_view}
use Rattle.step_rules.specs.Kinds.Versions.{MayRead}
use Rattle.step_rules.specs.SeatData.{IsOf, IsSeat, ObjectData, SeatData}
use Rattle.step_rules.specs.Steps.{stepped}
use Rattle.step_rules.specs.Views.{counted, inline_view}
use Rattle.step_rules.specs.declared.layout.TheConstants.{NODE_WIDTH}
use Rattle.step_rules.specs.declared.view.Counted.{Counted}
use Rattle.step_rules.specs.declared.view.Kind.TheVariants.{InlineLoad}

steps_push : (k j i : ℕ) (ws : List ℕ) (w seen : ℕ) → i ≡ j + length ws
    → inline_steps k j (ws ++ w ∷ []) seen ≡ inline_steps k j ws seen ++ counted (InlineLoad k i) w seen ∷ []
steps_push k j i [] w seen e = let on : j ≡ i = omega arith in ap (λ m. counted (InlineLoad k m) w seen ∷ []) on
steps_push k j i (v ∷ ws) w seen e = ap (λ (l : List Counted). counted (InlineLoad k j) v seen ∷ l) (steps_push k (suc j) i ws w seen (omega arith))

-- the first j inline words were loaded
pub record IsReading (k : ℕ) (words : List ℕ) (j : ℕ) (old now : SeatData) : Type 0 where
  pub whole : length words ≡ NODE_WIDTH
  pub same : now ≡ record old { view = words_view k (take j words) old.view; fresh = now.fresh }
  pub used : 0 < j → now.fresh ≡ false
  pub law : 0 < j → IsSeat now

pub none_loaded : (k : ℕ) (words : List ℕ) (seat : SeatData) → length words ≡ NODE_WIDTH → seat.view.reader.words ≡ [] → IsReading k words 0 seat seat
none_loaded k words seat whole none = record {
  whole = whole;
  same = λ i. record seat { view = record seat.view { trail = sym (append-nil seat.view.trail) i; reader = record seat.view.reader { words = none i } } };
  used = λ lt. absurd (omega arith);
  law = λ lt. absurd (omega arith);
}

pub reading_of : (k : ℕ) (words : List ℕ) (j : ℕ) (old now : SeatData) (shared : ObjectData) → IsReading k words j old now → IsOf shared old → IsOf shared now
reading_of k words j old now shared r of = subst (IsOf shared) (sym r.same) (record { object = of.object; plan = of.plan })

pub may_read : (k : ℕ) (words : List ℕ) (j : ℕ) (old now : SeatData) → HasBegun k old.view → IsReading k words j old now → j < NODE_WIDTH → MayRead k j now.view
may_read k words j old now begun r low = let whole = r.whole in subst (λ (s : SeatData). MayRead k j s.view) (sym r.same) (record {
  cell = begun.cell;
  even = begun.even;
  next = length-take-le j words (omega arith);
  inside = low;
})

pub one_loaded : (k : ℕ) (words : List ℕ) (j x : ℕ) (old seat : SeatData) → IsSeat (stepped (inline_view k j x seat.view) seat) → j < NODE_WIDTH
    → IsReading k words j old seat
    → IsReading k (set words j x) (j + 1) old (stepped (inline_view k j x seat.view) seat)
one_loaded k words j x old seat law low r =
    let whole = r.whole in
    let seen = length old.view.seen in
    let front : take (j + 1) (set words j x) ≡ take j words ++ x ∷ [] = take_more_set words j x (omega arith) in
    let more : inline_steps k 0 (take (j + 1) (set words j x)) seen ≡ inline_steps k 0 (take j words) seen ++ counted (InlineLoad k j) x seen ∷ [] =
    ap (λ l. inline_steps k 0 l seen) front ∙ steps_push k 0 j (take j words) x seen (omega (arith, length-take-le j words (omega arith))) in
    let trail = append_assoc old.view.trail (inline_steps k 0 (take j words) seen) (counted (InlineLoad k j) x seen ∷ [])
    ∙ ap (λ (t : List Counted). old.view.trail ++ t) (sym more) in
    record {
      whole = length-set words j x ∙ r.whole;
      same = ap (λ (s : SeatData). stepped (inline_view k j x s.view) s) r.same
          ∙ (λ i. stepped (record old.view { trail = trail i; reader = record old.view.reader { words = sym front i } }) old);
      used = λ _. refl;
      law = λ _. law;
    }

pub all_loaded : (k : ℕ) (words : List ℕ) (old now : SeatData) → IsReading k words NODE_WIDTH old now → HasLoaded k words old now
all_loaded k words old now r = record {
  whole = r.whole;
  after = r.same ∙ (λ i. record old { view = words_view k (all i) old.view; fresh = r.used (omega arith) i });
}
  where
    all : take NODE_WIDTH words ≡ words
    all = ap (λ n. take n words) (sym r.whole) ∙ take-length words
