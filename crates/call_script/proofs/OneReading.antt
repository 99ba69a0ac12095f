-- Lines read as one thing at most.
use Rattle.std.specs.Prelude.{IfSome, codes}
use Rattle.std.proofs.Common.{◌≡◌, ◌∙◌, ℕ, zero, suc, ◌+◌, ◌<◌, ◌≤◌, Option, Some, None, List, [], ◌∷◌, length, take, get_or, refl, sym, ap, subst, arith, inl, inr}
use Rattle.std.proofs.lemmas.Bool.{cases_lt}
use Rattle.std.proofs.lemmas.List.{take_all, take-take, length-take, get_or-take}
use Rattle.seat_history.specs.History.{object_from}
use Rattle.seat_history.specs.Object.{Object, MayCall, blank_object, object_after}
use Rattle.seat_history.specs.declared.call.Call.TheVariants.{Look}
use Rattle.seat_history.specs.declared.entry.Entry.{Entry}
use Rattle.call_script.specs.Cut.{words_of}
use Rattle.call_script.specs.Line.{AreFirstWords, HasCause, HasFirstCause, IsInRange, MayHaveCallers, NamesCallers, SpellsEntry}
use Rattle.call_script.specs.Number.{IsNumber}
use Rattle.call_script.specs.Script.{MayRun, IsScript, IsBadCall, IsOneMore, Reading, Good, Bad, Many, ReadAs}
use Rattle.call_script.specs.declared.bad_script.LineCause.{LineCause}
use Rattle.call_script.specs.declared.bad_script.LineCause.TheVariants.{Words, Number, Range, Held}
use Rattle.call_script.proofs.Numbers.{one_number}
use Rattle.call_script.proofs.OneCall.{number_full, one_entry, spelled_words}
use Rattle.call_script.proofs.Zips.{zip_at, zip_length, zip_one, zip_take}

-- line 1
one_callers : (line : List ℕ) (m n : ℕ) → NamesCallers line m → NamesCallers line n → m ≡ n
one_callers line m n h k =
    let words : (codes "callers" ∷ h.0 ∷ []) ≡ (codes "callers" ∷ k.0 ∷ []) = sym h.1 ∙ k.1 in
    let same : h.0 ≡ k.0 = ap (λ (ws : List (List ℕ)). get_or ws 1 []) words in
    one_number h.0 m n h.2 (subst (λ w. IsNumber w n) (sym same) k.2)

named_words : (line : List ℕ) (n : ℕ) → NamesCallers line n → AreFirstWords (words_of line)
named_words line n h = subst AreFirstWords (sym h.1) (refl, number_full h.0 n h.2)

named_no_cause : (line : List ℕ) (n : ℕ) (cause : LineCause) → NamesCallers line n → MayHaveCallers n → HasFirstCause line cause → ⊥
named_no_cause line n Words named some h = h (named_words line n named)
named_no_cause line n Number named some h = h.1 n named
named_no_cause line n Range named some h = h.2 (subst MayHaveCallers (one_callers line n h.0 named h.1) some)
named_no_cause line n Held named some h = h

one_first_cause : (line : List ℕ) (a b : LineCause) → HasFirstCause line a → HasFirstCause line b → a ≡ b
one_first_cause line Words Words h k = refl
one_first_cause line Words Number h k = absurd (h k.0)
one_first_cause line Words Range h k = absurd (h (named_words line k.0 k.1))
one_first_cause line Words Held h k = absurd k
one_first_cause line Number Words h k = absurd (k h.0)
one_first_cause line Number Number h k = refl
one_first_cause line Number Range h k = absurd (h.1 k.0 k.1)
one_first_cause line Number Held h k = absurd k
one_first_cause line Range Words h k = absurd (k (named_words line h.0 h.1))
one_first_cause line Range Number h k = absurd (k.1 h.0 h.1)
one_first_cause line Range Range h k = refl
one_first_cause line Range Held h k = absurd k
one_first_cause line Held b h k = absurd h

-- a call line
good_no_cause : (callers : ℕ) (object : Object) (line : List ℕ) (entry : Entry) (cause : LineCause) → SpellsEntry line entry → IsInRange callers entry → MayCall (object.held entry.caller) entry.call
    → HasCause callers object line cause → ⊥
good_no_cause callers object line entry Words spelled range may h = h (spelled_words line entry spelled)
good_no_cause callers object line entry Number spelled range may h = h.1 entry spelled
good_no_cause callers object line entry Range spelled range may h = h.2 (subst (λ e. IsInRange callers e) (one_entry line entry h.0 spelled h.1) range)
good_no_cause callers object line entry Held spelled range may h =
    h.3 (subst (λ (e : Entry). MayCall (object.held e.caller) e.call) (one_entry line entry h.0 spelled h.1) may)

one_cause : (callers : ℕ) (object : Object) (line : List ℕ) (a b : LineCause) → HasCause callers object line a → HasCause callers object line b → a ≡ b
one_cause callers object line Words Words h k = refl
one_cause callers object line Words Number h k = absurd (h k.0)
one_cause callers object line Words Range h k = absurd (h (spelled_words line k.0 k.1))
one_cause callers object line Words Held h k = absurd (h (spelled_words line k.0 k.1))
one_cause callers object line Number Words h k = absurd (k h.0)
one_cause callers object line Number Number h k = refl
one_cause callers object line Number Range h k = absurd (h.1 k.0 k.1)
one_cause callers object line Number Held h k = absurd (h.1 k.0 k.1)
one_cause callers object line Range Words h k = absurd (k (spelled_words line h.0 h.1))
one_cause callers object line Range Number h k = absurd (k.1 h.0 h.1)
one_cause callers object line Range Range h k = refl
one_cause callers object line Range Held h k = absurd (h.2 (subst (λ e. IsInRange callers e) (one_entry line k.0 h.0 k.1 h.1) k.2))
one_cause callers object line Held Words h k = absurd (k (spelled_words line h.0 h.1))
one_cause callers object line Held Number h k = absurd (k.1 h.0 h.1)
one_cause callers object line Held Range h k = absurd (k.2 (subst (λ e. IsInRange callers e) (one_entry line h.0 k.0 h.1 k.1) h.2))
one_cause callers object line Held Held h k = refl

-- a run's calls
may_at : (callers : ℕ) (object : Object) (entries : List Entry) (i : ℕ) (d : Entry) → MayRun callers object entries → i < length entries
    → IsInRange callers (get_or entries i d) × MayCall ((object_from object (take i entries)).held (get_or entries i d).caller) (get_or entries i d).call
may_at callers object [] i d h lt = absurd (omega arith)
may_at callers object (entry ∷ entries) zero d h lt = (h.0, h.1)
may_at callers object (entry ∷ entries) (suc i) d h lt = may_at callers (object_after object entry) entries i d h.2 (omega arith)

may_take : (callers : ℕ) (object : Object) (entries : List Entry) (i : ℕ) → MayRun callers object entries → MayRun callers object (take i entries)
may_take callers object entries zero h = tt
may_take callers object [] (suc i) h = tt
may_take callers object (entry ∷ entries) (suc i) h = (h.0, h.1, may_take callers (object_after object entry) entries i h.2)

-- scripts
one_run : (first : List ℕ) (rest : List (List ℕ)) (m n : ℕ) (es fs : List Entry) → IsScript first rest m es → IsScript first rest n fs → (m ≡ n) × (es ≡ fs)
one_run first rest m n es fs h k = (one_callers first m n h.named k.named, zip_one SpellsEntry one_entry rest es fs h.spelled k.spelled)

front : (first : List ℕ) (rest : List (List ℕ)) (n i : ℕ) (es : List Entry) → IsScript first rest n es → IsScript first (take i rest) n (take i es)
front first rest n i es h = record {
  named = h.named;
  some = h.some;
  spelled = zip_take SpellsEntry rest es i h.spelled;
  may = may_take n blank_object es i h.may;
  few = omega (arith, h.few, length-take i es);
}

dull : Entry
dull = record { caller = 0; call = Look }

-- no line before a script's end is bad
not_bad : (first : List ℕ) (rest : List (List ℕ)) (n i : ℕ) (es : List Entry) (line : ℕ) (cause : LineCause) (b : IsBadCall first rest line cause)
    → IsScript first (take i rest) n es → i ≤ length rest → length b.entries < i → ⊥
not_bad first rest n i es line cause b h within before =
    let k = length b.entries in
    let object = object_from blank_object (take k es) in
    let shorter : IsScript first (take k rest) n (take k es) = subst (λ ls. IsScript first ls n (take k es)) (take-take k i rest (omega arith)) (front first (take i rest) n k es h) in
    let same = one_run first (take k rest) b.callers n b.entries (take k es) b.before shorter in
    let lines : length es ≡ i = omega (arith, zip_length SpellsEntry (take i rest) es h.spelled, length-take i rest) in
    let at : get_or (take i rest) k [] ≡ get_or rest k [] = get_or-take i rest k [] before in
    let spelled : SpellsEntry (get_or rest k []) (get_or es k dull) =
    subst (λ l. SpellsEntry l (get_or es k dull)) at (zip_at SpellsEntry (take i rest) es k [] dull h.spelled (omega (arith, length-take i rest))) in
    let good = may_at n blank_object es k dull h.may (omega arith) in
    let fits : HasCause n object (get_or rest k []) cause =
    subst (λ m. HasCause m object (get_or rest k []) cause) same.0 (subst (λ fs. HasCause b.callers (object_from blank_object fs) (get_or rest k []) cause) same.1 b.fits) in
    good_no_cause n object (get_or rest k []) (get_or es k dull) cause spelled good.0 good.1 fits

-- one bad line
module _ (first : List ℕ) (rest : List (List ℕ)) where
  script_not_first : (n : ℕ) (ls : List (List ℕ)) (es : List Entry) (cause : LineCause) → IsScript first ls n es → HasFirstCause first cause → ⊥
  script_not_first n ls es cause h k = named_no_cause first n cause h.named h.some k

  good_not_bad : (n : ℕ) (es : List Entry) (line : ℕ) (cause : LineCause) → IsScript first rest n es → IsBadCall first rest line cause → ⊥
  good_not_bad n es line cause h b =
      let whole = subst (λ ls. IsScript first ls n es) (sym (take_all (length rest) rest (omega arith))) h in
      let there = b.there in
      not_bad first rest n (length rest) es line cause b whole (omega arith) there

  good_not_more : (n : ℕ) (es : List Entry) (line : ℕ) → IsScript first rest n es → IsOneMore first rest line → ⊥
  good_not_more n es line h m =
      let there = m.there in
      let full = m.full in
      let few = h.few in
      absurd (omega (arith, zip_length SpellsEntry rest es h.spelled))

  bad_not_more : (line more : ℕ) (cause : LineCause) → IsBadCall first rest line cause → IsOneMore first rest more → ⊥
  bad_not_more line more cause b m =
      let few = b.few in
      let full = m.full in
      let there = m.there in
      not_bad first rest m.callers (length m.entries) m.entries line cause b m.before (omega arith) (omega arith)

  one_bad : (l m : ℕ) (a b : LineCause) → IsBadCall first rest l a → IsBadCall first rest m b → (l ≡ m) × (a ≡ b)
  one_bad l m a b h k = elim (cases_lt (length h.entries) (length k.entries)) [
    | inl lt ↦ let there = k.there in absurd (not_bad first rest k.callers (length k.entries) k.entries l a h k.before (omega arith) lt)
    | inr ge ↦ elim (cases_lt (length k.entries) (length h.entries)) [
      | inl lt ↦ let there = h.there in absurd (not_bad first rest h.callers (length h.entries) h.entries m b k h.before (omega arith) lt)
      | inr le ↦
          let long : length k.entries ≡ length h.entries = omega arith in
          let same = one_run first (take (length h.entries) rest) k.callers h.callers k.entries h.entries (subst (λ n. IsScript first (take n rest) k.callers k.entries) long k.before) h.before in
          let object = object_from blank_object h.entries in
          let fits : HasCause h.callers object (get_or rest (length h.entries) []) b =
          subst (λ n. HasCause h.callers object (get_or rest n []) b) long
          (subst (λ n. HasCause n object (get_or rest (length k.entries) []) b) same.0
          (subst (λ fs. HasCause k.callers (object_from blank_object fs) (get_or rest (length k.entries) []) b) same.1 k.fits)) in
          (h.number ∙ ap (λ n. n + 2) (sym long) ∙ sym k.number, one_cause h.callers object (get_or rest (length h.entries) []) a b h.fits fits)
    ]
  ]

  bad_bad : (l m : ℕ) (a b : LineCause) → ReadAs (first ∷ rest) (Bad l a) → ReadAs (first ∷ rest) (Bad m b) → (l ≡ m) × (a ≡ b)
  bad_bad l m a b (inl h) (inl k) = (h.0 ∙ sym k.0, one_first_cause first a b h.1 k.1)
  bad_bad l m a b (inl h) (inr k) = absurd (script_not_first k.callers (take (length k.entries) rest) k.entries a k.before h.1)
  bad_bad l m a b (inr h) (inl k) = absurd (script_not_first h.callers (take (length h.entries) rest) h.entries b h.before k.1)
  bad_bad l m a b (inr h) (inr k) = one_bad l m a b h k

  good_bad : (n : ℕ) (es : List Entry) (line : ℕ) (cause : LineCause) → IsScript first rest n es → ReadAs (first ∷ rest) (Bad line cause) → ⊥
  good_bad n es line cause h (inl k) = script_not_first n rest es cause h k.1
  good_bad n es line cause h (inr k) = good_not_bad n es line cause h k

  more_bad : (more line : ℕ) (cause : LineCause) → IsOneMore first rest more → ReadAs (first ∷ rest) (Bad line cause) → ⊥
  more_bad more line cause h (inl k) = script_not_first h.callers (take (length h.entries) rest) h.entries cause h.before k.1
  more_bad more line cause h (inr k) = bad_not_more line more cause k h

-- lines read as one thing at most
pub one_reading : (lines : List (List ℕ)) (a b : Reading) → ReadAs lines a → ReadAs lines b → a ≡ b
one_reading [] a b h k = absurd h
one_reading (first ∷ rest) (Good m es) (Good n fs) h k = let same = one_run first rest m n es fs h k in λ i. Good (same.0 i) (same.1 i)
one_reading (first ∷ rest) (Good m es) (Bad line cause) h k = absurd (good_bad first rest m es line cause h k)
one_reading (first ∷ rest) (Good m es) (Many line) h k = absurd (good_not_more first rest m es line h k)
one_reading (first ∷ rest) (Bad l a) (Good n fs) h k = absurd (good_bad first rest n fs l a k h)
one_reading (first ∷ rest) (Bad l a) (Bad m b) h k = let same = bad_bad first rest l m a b h k in λ i. Bad (same.0 i) (same.1 i)
one_reading (first ∷ rest) (Bad l a) (Many more) h k = absurd (more_bad first rest more l a k h)
one_reading (first ∷ rest) (Many l) (Good n fs) h k = absurd (good_not_more first rest n fs l k h)
one_reading (first ∷ rest) (Many l) (Bad m b) h k = absurd (more_bad first rest l m b h k)
one_reading (first ∷ rest) (Many l) (Many m) h k =
    let first_full = h.full in
    let second_full = k.full in
    ap Many (h.number ∙ ap (λ n. n + 2) (first_full ∙ sym second_full) ∙ sym k.number)

pub only_reading : (lines : List (List ℕ)) (read : Option Reading) → IfSome read (λ reading. ReadAs lines reading) → (other : Reading) → ReadAs lines other → IfSome read (λ reading. reading ≡ other)
only_reading lines None h other k = tt
only_reading lines (Some reading) h other k = one_reading lines reading other h k
