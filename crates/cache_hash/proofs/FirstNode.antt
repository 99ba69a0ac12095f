-- What the first node of a bucket tells a find, and what a read of it that doesn't tell leaves.
use Rattle.std.proofs.Common.{◌<◌, ◌++◌, ◌∙◌, ◌≡◌, ◌≢◌, List, None, Option, Some, [], ap, append-nil, append_assoc, arith, drop, eq-eqb, eqb}
use Rattle.std.proofs.Common.{get_or, inl, inr, length, ne_eqb, refl, subst, sym, ℕ, ⊎_elim}
use Rattle.std.proofs.lemmas.Bool.{cond-false, cond-true}
use Rattle.std.proofs.lemmas.List.{nil_from_length}
use Rattle.big_atomic.proofs.Answered.{ended_none, goes_of, of_then, ready_after}
use Rattle.big_atomic.proofs.InlineReads.{HasReadOnce, ReadTells, caused_after, caused_none, failed_more, read_once, inline_ends, inline_goes, read_stays}
use Rattle.big_atomic.specs.Reads.{ClaimsAreCaused, IsInlineRead}
use Rattle.big_atomic.specs.Ready.{IsReady}
use Rattle.cache_copy.specs.declared.answers.Inline.{Inline}
use Rattle.cache_copy.specs.declared.answers.Inline.TheVariants.{Changed, Marked, Odd, Words}
use Rattle.cache_hash.proofs.Found.{MayFind, find_hold, find_right, found_now, never_full, value_of_cell}
use Rattle.cache_hash.specs.Calls.{IsFound, find_reply, value_at as value_here}
use Rattle.cache_hash.specs.Finding.{HasMissed, KnowsFirst}
use Rattle.cache_hash.specs.Firsts.{BeginsMissed, FoundBeyond, HasFoundFirst, HasMissedFirst, IsBeyond, MissesFirst}
use Rattle.seat_history.specs.Key.{key_number}
use Rattle.seat_history.specs.declared.call.Call.TheVariants.{Find}
use Rattle.seat_history.specs.declared.key.KeyWords.{KeyWords}
use Rattle.step_rules.specs.Claims.{BACK, HOLD, OWN, WALK}
use Rattle.step_rules.specs.History.{key_cell}
use Rattle.step_rules.specs.Readers.{IsFirst, next_word}
use Rattle.step_rules.specs.Records.{key_in, record_in, value_in}
use Rattle.step_rules.specs.SeatData.{IsOf, IsSeat, ObjectData, SeatData}
use Rattle.step_rules.specs.Steps.{stepped}
use Rattle.step_rules.specs.Views.{claim_of, silent, stood_view}
use Rattle.step_rules.specs.declared.layout.TheConstants.{END}
use Rattle.step_rules.specs.declared.plan.Plan.{Plan}
use Rattle.step_rules.specs.declared.view.Claim.{Claim}
use Rattle.step_rules.specs.declared.view.Counted.{Counted}

module _ (rs : List (List ℕ)) (ws : List ℕ) (n : ℕ) (f : IsFirst rs ws) where
  pub none_there : next_word ws ≡ END → value_in rs n ≡ None
  none_there e = ap (λ l. value_in l n) (f.empty e)

  pub first_there : next_word ws ≢ END → key_in (record_in ws) ≡ n → value_in rs n ≡ Some (drop 2 (record_in ws))
  first_there some is =
      let r = f.first some in
      ap (λ l. value_in l n) r.1 ∙ cond-true (eqb (key_in (record_in ws)) n) (Some (drop 2 (record_in ws))) (value_in r.0 n) (eq-eqb (key_in (record_in ws)) n is)

  pub only_other : next_word ws ≢ END → key_in (record_in ws) ≢ n → next_word ws ≡ 0 → value_in rs n ≡ None
  only_other some other last =
      let r = f.first some in
      let alone : r.0 ≡ [] = nil_from_length r.0 (omega (arith, ap (λ (l : List (List ℕ)). length l) r.1, f.one last)) in
      ap (λ l. value_in l n) r.1
      ∙ (cond-false (eqb (key_in (record_in ws)) n) (Some (drop 2 (record_in ws))) (value_in r.0 n) (ne_eqb (key_in (record_in ws)) n other) ∙ ap (λ l. value_in l n) alone)

-- further steps leave what a read showed
beyond_more : {cell : ℕ} {key : KeyWords} (steps more : List Counted) → FoundBeyond cell key steps → FoundBeyond cell key (steps ++ more)
beyond_more steps more h = record {
  words = h.words;
  place = h.place;
  read = h.read;
  rest = h.rest ++ more;
  inline = h.inline;
  beyond = h.beyond;
  whole = ap (λ (l : List Counted). l ++ more) h.whole ∙ append_assoc h.read h.rest more;
}

misses_more : {cell : ℕ} {key : KeyWords} (steps more : List Counted) → MissesFirst cell key steps → MissesFirst cell key (steps ++ more)
misses_more steps more h = ⊎_elim (λ f. inl (failed_more steps more f)) (λ b. inr (beyond_more steps more b)) h

pub missed_more : {cell : ℕ} {key : KeyWords} {steps : List Counted} → BeginsMissed cell key steps → (more : List Counted) → BeginsMissed cell key (steps ++ more)
missed_more h more = record {
  read = h.read;
  rest = h.rest ++ more;
  none = h.none;
  shown = h.shown;
  whole = ap (λ (l : List Counted). l ++ more) h.whole ∙ append_assoc h.read h.rest more;
}

-- so each claim store has its cause
pub missed_caused : {cell : ℕ} {key : KeyWords} {steps : List Counted} → BeginsMissed cell key steps → ClaimsAreCaused (MissesFirst cell key) steps
missed_caused {cell} {key} h = subst (λ (l : List Counted). ClaimsAreCaused (MissesFirst cell key) l) (sym h.whole)
    (caused_after (MissesFirst cell key) h.read h.rest (λ more shown. misses_more h.read more shown) h.none h.shown)

-- the steps of a read that doesn't tell
pub misses : {cell : ℕ} {key : KeyWords} {before now : SeatData} (h : HasMissedFirst cell key before now) (r : HasReadOnce cell h.answer before now) → MissesFirst cell key r.steps
misses {cell} {key} {now = now} h r = by h.answer r.tells h.beyond
  where
    by : (answer : Inline) → ReadTells cell answer r.steps now → ((ws : List ℕ) → answer ≡ Words ws → IsBeyond key ws) → MissesFirst cell key r.steps
    by (Words ws) tells beyond = inr (record {
      words = ws;
      place = length now.view.seen;
      read = r.steps;
      rest = [];
      inline = tells.0;
      beyond = beyond ws refl;
      whole = sym (append-nil r.steps);
    })
    by Odd tells beyond = inl tells
    by Marked tells beyond = inl tells
    by Changed tells beyond = inl tells

-- THE INLINE WORDS ANSWER
module _ {shared : ObjectData} {key : KeyWords} {found : Option (List ℕ)} {before now : SeatData} (f : KnowsFirst shared key found before now) where
  abbrev cell : ℕ
  cell = key_cell before.view.plan (key_number key)

  abbrev read : HasReadOnce cell (Words f.read.words) before now
  read = read_once (Words f.read.words) f.read.read f.read.only f.law

  pub first_ours : IsOf shared now
  first_ours = goes_of (inline_goes read.once read.tells.1 None) f.ready.ours

  first_value : value_here now.view (length now.view.seen) key ≡ found
  first_value = value_of_cell cell key now.view found f.law.sound (ap (λ (z : SeatData). key_cell z.view.plan (key_number key)) (sym f.read.only.same)) f.read.value

  pub may_first : MayFind key found read.steps before now
  may_first =
      let stays = read_stays read.once BACK in record {
        look = length now.view.seen;
        ends = inline_ends read.once read.tells.1 (Find key) (find_reply found) f.ready.law f.ready.idle
            (ap (λ (z : SeatData). key_cell z.view.plan (key_number key)) f.read.only.same) (find_right now first_ours f.some first_value) (never_full found);
        looks = read.once.looks;
        same = stays.same;
        retired = stays.retired;
        hold = stays.others HOLD (λ e. absurd (omega arith));
        walk = ap (λ (x : Claim). x.word) (stays.others WALK (λ e. absurd (omega arith))) ∙ f.ready.walk;
        own = ap (λ (x : Claim). x.word) (stays.others OWN (λ e. absurd (omega arith))) ∙ f.ready.own;
        value = first_value;
      }

  abbrev FirstStood : SeatData → Type 0
  FirstStood after = after ≡ stepped (stood_view (length now.view.seen) (Find key) (find_reply found) now.view) now

  pub first_found : (after : SeatData) → FirstStood after → IsSeat after → IsFound key found before after
  first_found after is last =
      let whole : read.steps ≡ read.steps ++ [] = sym (append-nil read.steps) in
      found_now may_first after (ended_none now f.law.sound) is last
      (subst (λ (l : List Counted). ClaimsAreCaused (MissesFirst cell key) l) whole (caused_none (MissesFirst cell key) read.steps read.once.none_stored))
      (λ none. (f.read.words, subst (λ (l : List Counted). IsInlineRead cell f.read.words (length now.view.seen) l) whole read.tells.0))

  pub first_ready : (after : SeatData) → FirstStood after → IsSeat after → IsReady shared after
  first_ready after is law =
      let same : after.view.claims ≡ before.view.claims = ap (λ (z : SeatData). z.view.claims) is ∙ ap (λ (z : SeatData). z.view.claims) f.read.only.same in
      let word : (d : ℕ) → (claim_of d after.view).word ≡ (claim_of d before.view).word = λ d. ap (λ (l : List Claim). (get_or l d (silent 0)).word) same in
      ready_after shared before after f.ready
      (of_then (ap (λ (z : SeatData). z.object) is) (ap (λ (z : SeatData). z.view.plan) is) first_ours)
      law
      (ap (λ (z : SeatData). z.holding) is ∙ (ap (λ (z : SeatData). z.holding) f.read.only.same ∙ f.ready.idle))
      (word BACK ∙ f.ready.back)
      (word WALK ∙ f.ready.walk)
      (word OWN ∙ f.ready.own)
      (find_hold may_first after (ended_none now f.law.sound) is law)

-- what a find knows of its read
pub knows_first : {shared : ObjectData} {key : KeyWords} {found : Option (List ℕ)} {cell : ℕ} {before now : SeatData} → IsReady shared before → 0 < shared.plan.buckets
    → cell ≡ key_cell shared.plan (key_number key) → HasFoundFirst cell key found before now → IsSeat now → KnowsFirst shared key found before now
knows_first {key = key} {found = found} {before = before} {now = now} ready some is read law = record {
  ready = ready;
  some = some;
  read = subst (λ j. HasFoundFirst j key found before now) (is ∙ ap (λ (p : Plan). key_cell p (key_number key)) (sym ready.ours.plan)) read;
  law = law;
}

pub has_missed : {shared : ObjectData} {key : KeyWords} {cell : ℕ} {before now : SeatData} → IsReady shared before → 0 < shared.plan.buckets → cell ≡ key_cell shared.plan (key_number key)
    → HasMissedFirst cell key before now → IsSeat now → HasMissed shared key cell before now
has_missed {key = key} ready some is missed law = record {
  ready = ready;
  some = some;
  cell_is = is ∙ ap (λ (p : Plan). key_cell p (key_number key)) (sym ready.ours.plan);
  missed = missed;
  law = law;
}
