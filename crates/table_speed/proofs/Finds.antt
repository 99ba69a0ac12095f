-- The calls that fill the table are no finds.
use Rattle.std.proofs.Common.{◌≡◌, ℕ, ◌+◌, ◌-◌, ◌<◌, ◌≤◌, List, [], ◌∷◌, ◌++◌, Option, None, length, refl, sym, ap, subst, ◌∙◌, arith, length-append}
use Rattle.std.proofs.Math.Dec.{ltb}
use Rattle.std.proofs.lemmas.Bool.{cond-true, lt-ltb}
use Rattle.seat_history.specs.declared.call.Call.{Call}
use Rattle.seat_history.specs.declared.call.Call.TheVariants.{Insert}
use Rattle.seat_history.specs.declared.key.KeyWords.{KeyWords}
use Rattle.seat_history.specs.declared.reply.Reply.{Reply}
use Rattle.speed_runs.proofs.Carrying.{carried_push}
use Rattle.speed_runs.specs.Carrying.{carried}
use Rattle.speed_runs.specs.Runs.{AreTurns, HasCome}
use Rattle.step_rules.specs.SeatData.{ObjectData, SeatData}
use Rattle.step_rules.specs.Views.{number}
use Rattle.step_rules.specs.declared.view.Stand.{Stand}
use Rattle.table_speed.specs.Counting.{HasFound, IsNext, IsStep, IsTurn, found_after, found_by, is_made}
use Rattle.table_speed.specs.Turns.{index_of, key_of, step_of, timed_step}
use Rattle.table_speed.specs.declared.asked.Asked.{Asked}
use Rattle.table_speed.specs.declared.turns.Step.TheVariants.{Insert as InsertStep}

insert_finds_nothing : (found : Option (List ℕ)) (key : KeyWords) (thread i : ℕ) (call : Call) (reply : Reply) → IsStep InsertStep key thread i call → found_by found call reply ≡ found
insert_finds_nothing found key thread i (Insert k val) reply h = refl
insert_finds_nothing found key thread i _ reply h = absurd h

module _ (asked : Asked) (thread : ℕ) where
  filling_finds_nothing : (i : ℕ) (found : Option (List ℕ)) (s : Stand) → i < asked.filling → IsTurn asked thread i found s → found_after found s ≡ found
  filling_finds_nothing i found s less turn =
      let insert : step_of asked i found ≡ InsertStep = cond-true (ltb i asked.filling) InsertStep (timed_step asked.kind (i - asked.filling) found) (lt-ltb i asked.filling less) in
      let key = key_of (index_of asked thread i) in
      insert_finds_nothing found key thread i s.call s.reply (subst (λ step. IsStep step key thread i s.call) insert turn.call)

  none_found : (before xs : List Stand) → AreTurns (IsNext asked thread) before xs → length before + length xs ≤ asked.filling
      → carried found_after (carried found_after None before) xs ≡ carried found_after None before
  none_found before [] turns few = refl
  none_found before (x ∷ later) turns few =
      let first : carried found_after None (before ++ x ∷ []) ≡ found_after (carried found_after None before) x = carried_push found_after None before x in
      let none = filling_finds_nothing (length before) (carried found_after None before) x (omega arith) turns.0 in
      let rest = none_found (before ++ x ∷ []) later turns.1 (omega (arith, length-append before (x ∷ []))) in
      ap (λ found. carried found_after found later) (sym first) ∙ (rest ∙ (first ∙ none))

-- while the table is filled, nothing was found
pub nothing_found : {asked : Asked} {shared : ObjectData} {i : ℕ} {seat : SeatData} {done : ℕ} → HasCome (IsNext asked) is_made shared i seat done → i ≤ asked.filling
    → HasFound asked shared i seat None done
nothing_found {asked = asked} {seat = seat} come few = record { come = come; carried_is = sym (none_found asked (number seat.view) [] seat.view.stands come.turns (omega (arith, come.count))) }
