-- What an update that counts, or adds an amount, leaves of a seat's counts and sums.
use Rattle.std.proofs.Common.{◌≡◌, ◌≢◌, ◌∙◌, ℕ, ◌+◌, List, Option, Some, None, cond, refl, sym, ap, subst, eqb, eq-eqb, ne_eqb}
use Rattle.big_atomic.proofs.Adding.{all_more, answered_more}
use Rattle.big_atomic.proofs.Counting.{count_push}
use Rattle.big_atomic.proofs.Sums.{add_up_push}
use Rattle.big_atomic.specs.Stands.{by_call}
use Rattle.big_atomic.specs.Sums.{Adding}
use Rattle.cache_hash.specs.Calls.{AnswersFound, IsUpdated, update_call, update_reply}
use Rattle.cache_hash.specs.Sums.{AddToKey, AddsToKey, CountsKeys, CountsMore, PutsMore, PutsOneMore, amount_added, counted_once, tells_key, times_counted}
use Rattle.cache_hash.specs.declared.answers.Update.{Update as UpdateAnswer}
use Rattle.cache_hash.specs.declared.answers.Update.TheVariants.{Done as UpdateDone, Full as UpdateFull}
use Rattle.seat_history.specs.Key.{key_number}
use Rattle.seat_history.specs.declared.call.Call.{Call}
use Rattle.seat_history.specs.declared.key.KeyWords.{KeyWords}
use Rattle.seat_history.specs.declared.reply.Reply.{Reply}
use Rattle.step_rules.specs.SeatData.{SeatData}
use Rattle.step_rules.specs.declared.view.Stand.{Stand}

call_counts : (number : List ℕ → ℕ) (key : KeyWords) (found : Option (List ℕ)) (val : List ℕ) → PutsOneMore number found val → CountsKeys number (update_call key found val)
call_counts number key None val puts = puts
call_counts number key (Some old) val puts = puts

tells_once : (key : KeyWords) (found : Option (List ℕ)) (val : List ℕ) (answer : UpdateAnswer) (k : ℕ) → AnswersFound answer found
    → cond {A = ℕ} (tells_key k (update_call key found val) (update_reply answer)) 1 0 ≡ counted_once key answer k
tells_once key None val (UpdateDone None) k e = refl
tells_once key (Some old) val (UpdateDone None) k e = absurd cc
tells_once key None val (UpdateDone (Some there)) k e = absurd cc
tells_once key (Some old) val (UpdateDone (Some there)) k e = refl
tells_once key None val (UpdateFull need free) k e = refl
tells_once key (Some old) val (UpdateFull need free) k e = refl

pub update_counts : {gives : Option (List ℕ) → List ℕ → Type 0} (number : List ℕ → ℕ) (key : KeyWords) (answer : UpdateAnswer) (before after : SeatData)
    → ((there : Option (List ℕ)) (val : List ℕ) → gives there val → PutsOneMore number there val) → IsUpdated key gives answer before after → CountsMore number key answer before after
update_counts number key answer before after one e = let m = answered_more e.change.answered in record {
  only = λ all. all_more m (CountsKeys number) all (call_counts number key e.found e.val (one e.found e.val e.given));
  count = λ k. ap (times_counted k) m.more ∙ (count_push (by_call (tells_key k)) before.view.stands m.stand
      ∙ ap (λ n. times_counted k before.view.stands + n) ((λ j. cond {A = ℕ} (tells_key k (m.call j) (m.reply j)) 1 0) ∙ tells_once key e.found e.val answer k e.answers));
}

module _ {V : Type 0} (A : Adding V) (says : List ℕ → V → Type 0) (amount : Option (List ℕ) → V) (k : ℕ) (key : KeyWords) where
  at_key : (x : V) → key_number key ≡ k → cond (eqb (key_number key) k) x A.none ≡ x
  at_key x at = ap (λ b. cond b x A.none) (eq-eqb (key_number key) k at)

  at_other : (x : V) → key_number key ≢ k → cond (eqb (key_number key) k) x A.none ≡ A.none
  at_other x ne = ap (λ b. cond b x A.none) (ne_eqb (key_number key) k ne)

  call_adds : (found : Option (List ℕ)) (val : List ℕ) (answer : UpdateAnswer) → AnswersFound answer found → PutsMore A says amount found val
      → AddsToKey A says k (amount_added A amount key answer k) (update_call key found val) (update_reply answer)
  call_adds None val (UpdateDone None) e puts = (λ at. subst (says val) (sym (at_key (amount None) at)) puts, at_other (amount None))
  call_adds (Some old) val (UpdateDone None) e puts = absurd cc
  call_adds None val (UpdateDone (Some there)) e puts = absurd cc
  call_adds (Some old) val (UpdateDone (Some there)) e puts = (
    λ at a is. subst (λ x. says val (A.add a x)) (ap amount (sym e) ∙ sym (at_key (amount (Some there)) at)) (puts a is),
    at_other (amount (Some there)),
  )
  call_adds None val (UpdateFull need free) e puts = refl
  call_adds (Some old) val (UpdateFull need free) e puts = refl

  pub update_adds : {gives : Option (List ℕ) → List ℕ → Type 0} (answer : UpdateAnswer) (before after : SeatData) (sum : V)
      → ((there : Option (List ℕ)) (val : List ℕ) → gives there val → PutsMore A says amount there val) → IsUpdated key gives answer before after
      → AddToKey A says k before.view.stands sum → AddToKey A says k after.view.stands (A.add sum (amount_added A amount key answer k))
  update_adds answer before after sum more e up =
      let m = answered_more e.change.answered in
      let x : V = amount_added A amount key answer k in
      let adds : AddsToKey A says k x m.stand.call m.stand.reply =
      subst (λ (z : Call × Reply). AddsToKey A says k x z.0 z.1) (λ j. (sym m.call j, sym m.reply j)) (call_adds e.found e.val answer e.answers (more e.found e.val e.given)) in
      subst (λ (l : List Stand). AddToKey A says k l (A.add sum x)) (sym m.more)
      (add_up_push A (λ y (s : Stand). AddsToKey A says k y s.call s.reply) before.view.stands m.stand sum x up adds)
