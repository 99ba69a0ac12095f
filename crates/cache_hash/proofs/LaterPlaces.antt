-- What a seat knows of a key after a call, and that a try which came late stands later.
use Rattle.std.proofs.Common.{◌≡◌, ◌≢◌, ◌∙◌, ℕ, ◌*◌, ◌<◌, ◌≤◌, List, [], ◌∷◌, ◌++◌, Option, Some, None, length, refl, sym, ap, subst, arith, ⊎_elim}
use Rattle.std.proofs.lemmas.Bool.{cases_lt}
use Rattle.big_atomic.specs.Calls.{Answered}
use Rattle.cache_hash.specs.Calls.{IsFound, IsInserted, IsReplaced, value_at}
use Rattle.cache_hash.specs.Places.{CameLateToInsert, CameLateToReplace, KnowsKey, StandsLater, last_place}
use Rattle.cache_hash.specs.declared.answers.Insert.{Insert as InsertAnswer}
use Rattle.cache_hash.specs.declared.answers.Insert.TheVariants.{Done as InsertDone, Present as InsertPresent, Full as InsertFull}
use Rattle.cache_hash.specs.declared.answers.Replace.{Replace as ReplaceAnswer}
use Rattle.cache_hash.specs.declared.answers.Replace.TheVariants.{Yes as ReplaceYes, Found as ReplaceFound, Absent as ReplaceAbsent, Full as ReplaceFull}
use Rattle.seat_history.proofs.Histories.{state_at-append}
use Rattle.seat_history.specs.Contents.{Contents}
use Rattle.seat_history.specs.History.{state_at}
use Rattle.seat_history.specs.Key.{key_number}
use Rattle.seat_history.specs.declared.call.Call.{Call}
use Rattle.seat_history.specs.declared.entry.Entry.{Entry}
use Rattle.seat_history.specs.declared.key.KeyWords.{KeyWords}
use Rattle.seat_history.specs.declared.reply.Reply.{Reply}
use Rattle.step_rules.specs.SeatData.{IsOf, ObjectData, SeatData}
use Rattle.step_rules.specs.declared.plan.Plan.{Plan}
use Rattle.step_rules.specs.declared.view.Stand.{Stand}

last_push : (xs : List Stand) (s : Stand) → last_place (xs ++ s ∷ []) ≡ s.place
last_push [] s = refl
last_push (x ∷ []) s = refl
last_push (x ∷ y ∷ r) s = last_push (y ∷ r) s

module _ {cell : ℕ} {asked : Call} {told : Reply} {before after : SeatData} (a : Answered cell asked told before after) where
  last_is : last_place after.view.stands ≡ a.stand.place
  last_is = ap last_place a.stood.stands ∙ last_push before.view.stands a.stand

  -- what the key had at the stand's place is known
  pub known_after : (key : KeyWords) (there : Option (List ℕ)) → value_at after.view a.stand.place key ≡ there → KnowsKey key there after
  known_after key there is = record {
    within = subst (λ n. n ≤ length after.view.seen) (sym last_is) a.stood.right.place;
    value = ap (λ n. value_at after.view n key) last_is ∙ is;
  }

  -- another value than the known one is that of a later place
  pub later_after : (shared : ObjectData) (key : KeyWords) (known there : Option (List ℕ)) → IsOf shared before → KnowsKey key known before → value_at after.view a.stand.place key ≡ there
      → there ≢ known → KnowsKey key there after × StandsLater shared before after
  later_after shared key known there ours knows is unlike =
      let p : ℕ = last_place before.view.stands in
      let q : ℕ = a.stand.place in
      let in_seen : p ≤ length before.view.seen = knows.within in
      let from : length before.view.seen ≤ a.stood.look = a.stood.from in
      let upto : a.stood.look ≤ q = a.stood.after in
      let within : q ≤ length after.view.seen = a.stood.right.place in
      let most : length after.view.seen ≤ shared.plan.seats * shared.plan.changes =
      subst (λ (p : Plan). length after.view.seen ≤ p.seats * p.changes) (a.stood.plan ∙ ours.plan) a.stood.within in (
        known_after key there is,
        record {
          later = ⊎_elim (λ l. subst (λ n. p < n) (sym last_is) l)
              (λ l.
              let same : q ≡ p = omega arith in
              let short : q ≤ length before.view.seen = omega arith in
              absurd (unlike (sym is
              ∙ (ap (λ (s : List Entry). (state_at s q).values (key_number key)) a.stood.seen.1
              ∙ (ap (λ (c : Contents). c.values (key_number key)) (state_at-append before.view.seen a.stood.seen.0 q short)
              ∙ (ap (λ n. value_at before.view n key) same ∙ knows.value))))))
              (cases_lt p q);
          within = subst (λ n. n ≤ shared.plan.seats * shared.plan.changes) (sym last_is) (omega arith);
        },
      )

pub found_is_known : (key : KeyWords) (found : Option (List ℕ)) (before after : SeatData) → IsFound key found before after → KnowsKey key found after
found_is_known key found before after e = known_after e.answered key found e.there

pub late_insert_stands_later : (shared : ObjectData) (key : KeyWords) (val : List ℕ) (answer : InsertAnswer) (before after : SeatData) → IsOf shared before → KnowsKey key None before
    → IsInserted key val answer before after → CameLateToInsert shared key answer before after
late_insert_stands_later shared key val InsertDone before after ours knows e = tt
late_insert_stands_later shared key val (InsertPresent v) before after ours knows e = later_after e.change.answered shared key None (Some v) ours knows e.there (λ q. cc)
late_insert_stands_later shared key val (InsertFull need free) before after ours knows e = tt

pub late_replace_stands_later : (shared : ObjectData) (key : KeyWords) (old new : List ℕ) (answer : ReplaceAnswer) (before after : SeatData) → IsOf shared before → KnowsKey key (Some old) before
    → IsReplaced key old new answer before after → CameLateToReplace shared key answer before after
late_replace_stands_later shared key old new ReplaceYes before after ours knows e = tt
late_replace_stands_later shared key old new (ReplaceFound v) before after ours knows e =
    later_after e.change.answered shared key (Some old) (Some v) ours knows e.there (λ q. e.unlike v refl cc)
late_replace_stands_later shared key old new ReplaceAbsent before after ours knows e = later_after e.change.answered shared key (Some old) None ours knows e.there (λ q. cc)
late_replace_stands_later shared key old new (ReplaceFull need free) before after ours knows e = tt
