-- The update of a worker for one pair.
use Rattle.std.proofs.Common.{◌≡◌, ◌∙◌, ℕ, ◌+◌, ◌-◌, ◌<◌, ◌≤◌, Bool, true, false, cond, List, [], ◌∷◌, ◌++◌, None, Option, Some, take}
use Rattle.std.proofs.Common.{append-nil, append_assoc, is_some, length, length-append, refl, sym, ap, subst, arith, ⊎_elim, inl, inr}
use Rattle.std.proofs.Math.Seq.{take-append_seam}
use Rattle.std.proofs.lemmas.Bool.{false≢true}
use Rattle.std.proofs.lemmas.List.Elements.{filter-append}
use Rattle.std.specs.List.{AllByRecursion, AllZip}
use Rattle.big_atomic.specs.Ready.{IsReady}
use Rattle.big_atomic.specs.Seats.{IsUnused}
use Rattle.cache_hash.specs.Calls.{AnswersFound, IsUpdateBy, IsUpdated, WantsNodes, update_call, update_reply}
use Rattle.cache_hash.specs.declared.answers.Update.{Update as UpdateAnswer}
use Rattle.cache_hash.specs.declared.answers.Update.TheVariants.{Done as UpdateDone, Full as UpdateFull}
use Rattle.flow_fold.specs.Flows.{Flows}
use Rattle.flow_fold.specs.declared.key.Key.{Key}
use Rattle.flow_fold.specs.declared.value.Value.{Value}
use Rattle.seat_history.specs.declared.call.Call.TheVariants.{Insert, Replace}
use Rattle.seat_history.specs.declared.call.Call.{Call}
use Rattle.seat_history.specs.declared.key.KeyWords.{KeyWords}
use Rattle.step_rules.specs.Lawful.{is_full}
use Rattle.step_rules.specs.SeatData.{ObjectData, SeatData}
use Rattle.step_rules.specs.declared.view.Stand.{Stand}
use Rattle.step_rules.specs.declared.view.View.{View}
use Rattle.tally_core.specs.Adding.{Adds, AddsBy, AreInRange, EndsFull, HasValues, IsAnswered, IsInRange, IsTallyCall, adding_in, is_adding}
use Rattle.tally_core.specs.Adding.{is_adding_reply, key_words}
use Rattle.tally_core.specs.Attempts.{AreUpdates, IsAdding, IsLater, IsUpdateFor, PutsMerged, added_of}

-- one more of two lists each, place by place
pub zip_append : {A B : Type 0} (R : A → B → Type 0) (xs us : List A) (ys vs : List B) → AllZip R xs ys → AllZip R us vs → AllZip R (xs ++ us) (ys ++ vs)
zip_append R [] us [] vs p q = q
zip_append R [] us (y ∷ ys) vs p q = absurd p
zip_append R (x ∷ xs) us [] vs p q = absurd p
zip_append R (x ∷ xs) us (y ∷ ys) vs p q = (p.0, zip_append R xs us ys vs p.1 q)

all_append : {X : Type 0} (P : X → Type 0) (xs ys : List X) → AllByRecursion P xs → AllByRecursion P ys → AllByRecursion P (xs ++ ys)
all_append P [] ys all own = own
all_append P (x ∷ xs) ys all own = (all.0, all_append P xs ys all.1 own)

one_spent : (b : Bool) (v w : ℕ) → w + cond b 1 0 ≡ v → v ≤ w + 1
one_spent true v w e = omega (arith, e)
one_spent false v w e = omega (arith, e)

-- the stands end with one more
ends : (full : Bool) (stands : List Stand) (s : Stand) → AllByRecursion IsAnswered stands → is_full s.reply ≡ full → EndsFull full (stands ++ s ∷ [])
ends true stands s before full = (s, stands, refl, full, before)
ends false stands s before answered = all_append IsAnswered stands (s ∷ []) before (answered, tt)

-- stands are of the same updates in a later view
later_on : {u v w : View} → IsLater u v → IsLater v w → IsLater u w
later_on {u} first next = record {
  plan = next.plan ∙ first.plan;
  numbers = next.numbers ∙ first.numbers;
  stands = (
    first.stands.0 ++ next.stands.0,
    next.stands.1 ∙ (ap (λ l. l ++ next.stands.0) first.stands.1 ∙ append_assoc u.stands first.stands.0 next.stands.0),
  );
  seen = (first.seen.0 ++ next.seen.0, next.seen.1 ∙ (ap (λ l. l ++ next.seen.0) first.seen.1 ∙ append_assoc u.seen first.seen.0 next.seen.0));
}

zip_on : {v w : View} (pairs : Flows) (stands : List Stand) → IsLater v w → AllZip (IsUpdateFor v) pairs stands → AllZip (IsUpdateFor w) pairs stands
zip_on [] [] later zip = tt
zip_on [] (s ∷ stands) later zip = absurd zip
zip_on (x ∷ pairs) [] later zip = absurd zip
zip_on (x ∷ pairs) (s ∷ stands) later zip = (
  record {
    answer = zip.0.answer;
    before = zip.0.before;
    after = zip.0.after;
    updated = zip.0.updated;
    stand_is = zip.0.stand_is;
    later = later_on zip.0.later later;
    adds = zip.0.adds;
  },
  zip_on pairs stands later zip.1,
)

-- so they are where no stand was added
pub updates_on : {v w : View} (tried : Flows) → IsLater v w → w.stands ≡ v.stands → AreUpdates tried v → AreUpdates tried w
updates_on {v} {w} tried later same are = subst (AllZip (IsUpdateFor w) tried) (sym same) (zip_on tried v.stands later are)

-- a pair whose call is Full isn't added
without_last : (added : Flows) (pair : Key × Value) → added_of (added ++ pair ∷ []) true ≡ added
without_last added pair =
    let front : length (added ++ pair ∷ []) - 1 ≡ length added = omega (arith, length-append added (pair ∷ [])) in
    ap (λ n. take n (added ++ pair ∷ [])) front ∙ take-append_seam added (pair ∷ [])

-- an update by what is given puts what anything wider gives
pub updated_as : {key : KeyWords} {gives wider : Option (List ℕ) → List ℕ → Type 0} {answer : UpdateAnswer} {before after : SeatData}
    → ((there : Option (List ℕ)) (val : List ℕ) → gives there val → wider there val) → IsUpdated key gives answer before after
    → IsUpdated key wider answer before after
updated_as {key} {gives} {wider} into is = record {
  found = is.found;
  val = is.val;
  given = into is.found is.val is.given;
  in_range = is.in_range;
  change = record {
    answered = is.change.answered;
    changes = is.change.changes;
    hold = is.change.hold;
    scans = ⊎_elim (λ none. inl none) (λ some. inr (wants_as some.0, some.1, some.2)) is.change.scans;
    kept = is.change.kept;
    full = is.change.full;
    short = is.change.short;
  };
  there = is.there;
  answers = is.answers;
  removes = is.removes;
}
  where
    by_call : (call : Call) → IsUpdateBy key gives call → IsUpdateBy key wider call
    by_call (Insert other val) by = (by.0, into None val by.1)
    by_call (Replace other old new) by = (by.0, into (Some old) new by.1)
    by_call _ by = absurd by

    wants_as : {look last : ℕ} {before : SeatData} {v : View} → WantsNodes (IsUpdateBy key gives) look last before v
        → WantsNodes (IsUpdateBy key wider) look last before v
    wants_as w = record {
      call = w.call;
      is_due = by_call w.call w.is_due;
      place = w.place;
      late = w.late;
      within = w.within;
      need = w.need;
      needs = w.needs;
      few = w.few;
    }

-- what an update for a pair puts is a value's words
has_values : (pair : Key × Value) (found : Option (List ℕ)) (val : List ℕ) → IsInRange pair → PutsMerged pair.1 found val
    → HasValues (update_call (key_words pair.0) found val)
has_values pair None val range puts = (pair.1, range.1, puts)
has_values pair (Some old) val range puts = ((puts.0.0, puts.0.1, puts.0.2), puts.1)

-- and where it isn't Full it adds the pair
adds_found : (pair : Key × Value) (found : Option (List ℕ)) (val : List ℕ) → PutsMerged pair.1 found val
    → AddsBy pair (update_call (key_words pair.0) found val) (update_reply (UpdateDone found))
adds_found pair None val puts = (refl, puts)
adds_found pair (Some old) val puts = (refl, puts.0)

adds_pair : (pair : Key × Value) (answer : UpdateAnswer) (found : Option (List ℕ)) (val : List ℕ) → AnswersFound answer found → PutsMerged pair.1 found val
    → is_full (update_reply answer) ≡ false → AddsBy pair (update_call (key_words pair.0) found val) (update_reply answer)
adds_pair pair (UpdateDone there) found val same puts answered =
    subst (λ (o : Option (List ℕ)). AddsBy pair (update_call (key_words pair.0) found val) (update_reply (UpdateDone o))) (sym same)
    (adds_found pair found val puts)
adds_pair pair (UpdateFull need free) found val same puts answered = let h : true ≡ false = answered in absurd cc

is_adding_done : (there : Option (List ℕ)) → is_adding_reply (update_reply (UpdateDone there)) ≡ true
is_adding_done None = refl
is_adding_done (Some old) = refl

is_answered : (there : Option (List ℕ)) → is_full (update_reply (UpdateDone there)) ≡ false
is_answered None = refl
is_answered (Some old) = refl

-- an update for a pair was answered
module _ {shared : ObjectData} {added : Flows} (pair : Key × Value) (answer : UpdateAnswer) {before after : SeatData}
    (is : IsUpdated (key_words pair.0) (PutsMerged pair.1) answer before after)
    (ready : IsReady shared after) (range : IsInRange pair) (was : IsAdding shared added false before) where
  abbrev stand : Stand
  stand = is.change.answered.stand

  adds_it : is_full (update_reply answer) ≡ false → Adds pair stand
  adds_it answered =
      let a = is.change.answered in
      let call = update_call (key_words pair.0) is.found is.val in
      subst (λ c. AddsBy pair c stand.reply) (sym a.stood.call)
      (subst (AddsBy pair call) (sym a.stood.reply) (adds_pair pair answer is.found is.val is.answers is.given answered))

  all_updates : AllZip (IsUpdateFor after.view) (added ++ pair ∷ []) after.view.stands
  all_updates =
      let s = is.change.answered.stood in
      let later : IsLater before.view after.view = record { plan = s.plan; numbers = s.numbers; stands = (stand ∷ [], s.stands); seen = s.seen } in
      let now : IsUpdateFor after.view pair stand = record {
        answer = answer;
        before = before;
        after = after;
        updated = is;
        stand_is = refl;
        later = record { plan = refl; numbers = refl; stands = ([], sym (append-nil after.view.stands)); seen = ([], sym (append-nil after.view.seen)) };
        adds = λ answered. adds_it (sym (ap is_full s.reply) ∙ answered);
      } in
      subst (AllZip (IsUpdateFor after.view) (added ++ pair ∷ [])) (sym s.stands)
      (zip_append (IsUpdateFor after.view) added (pair ∷ []) before.view.stands (stand ∷ []) (zip_on added before.view.stands later was.updates) (now, tt))

  on : (more : Flows) (full : Bool) → added_of (added ++ pair ∷ []) full ≡ added ++ more → AllZip Adds more (adding_in (stand ∷ [])) → AreInRange more
      → (is_adding stand ≡ true → Adds pair stand) → before.view.changes ≤ after.view.changes + length more → is_full (update_reply answer) ≡ full
      → IsAdding shared (added ++ pair ∷ []) full after
  on more full are zipped in_range adds fewer answered =
      let a = is.change.answered in
      let tally : IsTallyCall stand = record {
        values = subst HasValues (sym a.stood.call) (has_values pair is.found is.val range is.given);
        adds = λ e. (pair, adds e);
      } in
      let left : shared.plan.changes ≤ before.view.changes + length added = was.left in record {
        ready = ready;
        some = was.some;
        one = ap length a.stood.numbers ∙ was.one;
        none_held = ap is_some is.change.hold.held ∙ was.none_held;
        adds = subst (λ (l : Flows). AllZip Adds l (adding_in after.view.stands)) (sym are)
            (subst (AllZip Adds (added ++ more)) (sym (ap adding_in a.stood.stands ∙ filter-append is_adding before.view.stands (stand ∷ [])))
            (zip_append Adds added more (adding_in before.view.stands) (adding_in (stand ∷ [])) was.adds zipped));
        in_range = subst AreInRange (sym are) (all_append IsInRange added more was.in_range in_range);
        calls = subst (AllByRecursion IsTallyCall) (sym a.stood.stands) (all_append IsTallyCall before.view.stands (stand ∷ []) was.calls (tally, tt));
        left = omega (arith, left, fewer, length-append added more, ap length are);
        ends = subst (EndsFull full) (sym a.stood.stands) (ends full before.view.stands stand was.ends (ap is_full a.stood.reply ∙ answered));
        updates = all_updates;
      }

module _ {shared : ObjectData} {added : Flows} (pair : Key × Value) {before after : SeatData} (ready : IsReady shared after) (range : IsInRange pair)
    (was : IsAdding shared added false before) where
  -- it is Done, and added the pair
  pub update_done : {there : Option (List ℕ)} → IsUpdated (key_words pair.0) (PutsMerged pair.1) (UpdateDone there) before after
      → IsAdding shared (added ++ pair ∷ []) false after
  update_done {there} is =
      let a = is.change.answered in
      let adds = adds_it pair (UpdateDone there) is ready range was (is_answered there) in
      let reply : is_adding a.stand ≡ true = ap is_adding_reply a.stood.reply ∙ is_adding_done there in
      on pair (UpdateDone there) is ready range was (pair ∷ []) false refl
      (subst (λ b. AllZip Adds (pair ∷ []) (cond b (a.stand ∷ []) [])) (sym reply) (adds, tt)) (range, tt) (λ _. adds)
      (one_spent a.stand.changes before.view.changes after.view.changes a.stood.changes) (is_answered there)

  -- it is Full, and added nothing
  pub update_full : {need free : ℕ} → IsUpdated (key_words pair.0) (PutsMerged pair.1) (UpdateFull need free) before after
      → IsAdding shared (added ++ pair ∷ []) true after
  update_full {need} {free} is =
      let a = is.change.answered in
      let reply : is_adding a.stand ≡ false = ap is_adding_reply a.stood.reply in
      let same : after.view.changes + 0 ≡ before.view.changes =
      subst (λ b. after.view.changes + cond b 1 0 ≡ before.view.changes) is.change.changes a.stood.changes in
      on pair (UpdateFull need free) is ready range was [] true (without_last added pair ∙ sym (append-nil added))
      (subst (λ b. AllZip Adds [] (cond b (a.stand ∷ []) [])) (sym reply) tt) tt (λ e. absurd (false≢true (sym reply ∙ e))) (omega (arith, same)) refl

-- a worker that made no call yet
pub unused_adding : {shared : ObjectData} {seat : SeatData} → IsUnused shared seat → 0 < shared.plan.buckets → IsAdding shared [] false seat
unused_adding {shared} {seat} unused buckets = record {
  ready = unused.ready;
  some = buckets;
  one = unused.one;
  none_held = unused.none_held;
  adds = subst (λ l. AllZip Adds [] (adding_in l)) (sym unused.stands) tt;
  in_range = tt;
  calls = subst (AllByRecursion IsTallyCall) (sym unused.stands) tt;
  left = omega (arith, unused.changes);
  ends = subst (EndsFull false) (sym unused.stands) tt;
  updates = subst (AllZip (IsUpdateFor seat.view) []) (sym unused.stands) tt;
}
