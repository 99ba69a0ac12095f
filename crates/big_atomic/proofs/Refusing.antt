-- How a compare-and-swap is answered No.
use Rattle.std.proofs.Common.{◌≡◌, ◌∙◌, ℕ, ◌+◌, ◌-◌, ◌*◌, ◌<◌, ◌≤◌, Bool, true, false, not, ◌&&◌, cond, List, [], length, drop, sym, ap, subst, arith}
use Rattle.std.proofs.lemmas.Bool.{false≢true}
use Rattle.big_atomic.proofs.Answered.{EndsAs, MayEnd, may_answer, may_ended, right_at}
use Rattle.big_atomic.proofs.Deciding.{past_within, swapped, tells, there_now, told}
use Rattle.big_atomic.proofs.PuttingBack.{at_back}
use Rattle.big_atomic.proofs.Unlike.{IsFirst, first_is, unlike_at}
use Rattle.big_atomic.specs.Calling.{refused_at}
use Rattle.big_atomic.specs.Calls.{IsSwapped, register_at}
use Rattle.big_atomic.specs.Giving.{AtTurn, Begun, HasLostTurn, HasOther, IsOnce, IsUnlike}
use Rattle.big_atomic.specs.Ready.{IsReady}
use Rattle.big_atomic.specs.declared.answers.Swap.TheVariants.{No as SwapNo}
use Rattle.node_pool.specs.Pool.{IsAllPutBack}
use Rattle.seat_history.proofs.Changed.{same_from_words, words_from_same}
use Rattle.seat_history.specs.History.{state_at}
use Rattle.seat_history.specs.Step.{is_same}
use Rattle.seat_history.specs.declared.call.Call.TheVariants.{Swap}
use Rattle.seat_history.specs.declared.entry.Entry.{Entry}
use Rattle.seat_history.specs.declared.reply.Reply.TheVariants.{Yes, No}
use Rattle.hazard_claims.specs.Claiming.{IsReleased}
use Rattle.hazard_claims.specs.declared.claims.Claim.TheVariants.{Back}
use Rattle.seat_history.specs.declared.words.TheConstants.{WIDTH}
use Rattle.step_rules.specs.History.{NoneOn}
use Rattle.step_rules.specs.Lawful.{IsRight}
use Rattle.step_rules.specs.SeatData.{IsSeat, ObjectData, SeatData}
use Rattle.step_rules.specs.Sound.{Sound}
use Rattle.step_rules.specs.Steps.{MayAnswer, stepped}
use Rattle.step_rules.specs.Views.{reading, stood_view}
use Rattle.step_rules.specs.declared.view.Stand.{Stand}
use Rattle.step_rules.specs.declared.view.View.{View}

-- others changed the register since a place, so it was another record somewhere since an earlier one
pub unlike_since : (reg look at : ℕ) (old : List ℕ) (v : View) → Sound v → reg < v.plan.registers → look ≤ at → ¬ NoneOn v.plan reg (drop at v.seen) → IsUnlike reg old look v
unlike_since reg look at old v sound inside low changed =
    let u = unlike_at v.plan v.seen at reg old sound.history inside changed in
    let late = u.1 in
    record { place = u.0; late = omega arith; within = u.2; unlike = u.3 }

first_refused : (reg : ℕ) (old new : List ℕ) (from : ℕ) (v : View) → IsUnlike reg old from v → IsFirst reg old v.seen from (length v.seen) (refused_at from (Swap reg old new) v)
first_refused reg old new from v u =
    let late = u.late in
    let within = u.within in
    subst (λ (n : ℕ). IsFirst reg old v.seen from n (refused_at from (Swap reg old new) v)) (let e : from + (length v.seen - from) ≡ length v.seen = omega arith in e)
    (first_is reg old v.seen from (length v.seen - from) u.place late (omega arith) u.unlike)

right_no : (v : View) (q reg : ℕ) (old new : List ℕ) → q ≤ length v.seen → reg < v.plan.registers → is_same (register_at v q reg) old ≡ false
    → IsRight v.plan v.seen v.stands (reading q (Swap reg old new) No v)
right_no v q reg old new within there other = right_at v q (Swap reg old new) No within (record { there = there; may = tt })
    (ap (λ (b : Bool). cond b Yes No) other) (sym (ap (λ (b : Bool). (b && not (is_same old new)) && true) other))

module _ {shared : ObjectData} {reg : ℕ} {old new : List ℕ} {b : Begun shared reg new Yes (Swap reg old new)} {q : ℕ} {now : SeatData} (once : IsOnce q b) (o : HasOther b old now) where
  -- its first look is q
  abbrev place : ℕ
  place = refused_at q (Swap reg old new) now.view

  first : IsFirst reg old now.view.seen q (length now.view.seen) place
  first = first_refused reg old new q now.view (subst (λ n. IsUnlike reg old n now.view) once.look_is o.unlike)

  end : MayEnd reg b.look place (Swap reg old new) No o.at.past.steps b.before now
  end = tells o.at o.idle place No (let late = first.late in let is = once.look_is in omega arith) (right_no now.view place reg old new first.within
      (there_now o.at.past) first.unlike) (λ need free e. absurd cc)

  pub may_refuse : {mid : SeatData} → IsReleased Back now mid → MayAnswer (refused_at q (Swap reg old new) mid.view) (Swap reg old new) No mid
  may_refuse released = subst (λ (z : SeatData). MayAnswer (refused_at q (Swap reg old new) z.view) (Swap reg old new) No z) (sym released)
      (may_ended place (Swap reg old new) No now o.at.past.law.sound (may_answer end))

  pub refused : {mid final : SeatData} → IsReleased Back now mid → final ≡ stepped (stood_view (refused_at q (Swap reg old new) mid.view) (Swap reg old new) No mid.view) mid → IsSeat final
      → IsSwapped reg old new SwapNo b.before final × IsReady shared final
  refused {final = final} released stood law =
      let is : EndsAs place (Swap reg old new) No now final =
      stood ∙ ap (λ (z : SeatData). stepped (stood_view (refused_at q (Swap reg old new) z.view) (Swap reg old new) No z.view) z) released in
      let h = told o.at end (λ need free e. absurd cc) is law (omega arith) (omega arith) in
      let seen : final.view.seen ≡ now.view.seen = ap (λ (z : SeatData). z.view.seen) is in
      let stands_at : register_at final.view h.0.answered.stand.place reg ≡ register_at now.view place reg =
      ap (λ (s : Stand). register_at final.view s.place reg) h.1 ∙ ap (λ (l : List Entry). (state_at l place).registers reg) seen in
      swapped SwapNo h.0 once.once (λ _. record {
        unlike = λ e. false≢true (sym first.unlike ∙ same_from_words (register_at now.view place reg) old (sym stands_at ∙ e));
        before = λ n low_n high. ap (λ (l : List Entry). (state_at l n).registers reg) seen ∙ words_from_same (register_at now.view n reg) old
            (first.before n (subst (λ m. m ≤ n) (h.0.look_is ∙ once.look_is) low_n) (subst (λ (s : Stand). n < s.place) h.1 high));
      })

-- a turn that lost no exchange is one that lost at most one
module _ {shared : ObjectData} {reg : ℕ} {old new : List ℕ} {b : Begun shared reg new Yes (Swap reg old new)} {lost most : ℕ} {now : SeatData} (t : AtTurn b lost most now)
    (low : lost ≤ 1) (few : most ≤ 2 * WIDTH + 13 + 4 * b.before.view.plan.seats) (idle : now.holding ≡ []) where
  abbrev within : AtTurn b 1 (2 * WIDTH + 13 + 4 * b.before.view.plan.seats) now
  within = record { past = past_within t.past low few; turn = t.turn }

  -- the record that was read is another one
  pub read_unlike : {rec : List ℕ} → register_at now.view (length now.view.seen) reg ≡ rec → is_same rec old ≡ false → HasOther b old now
  read_unlike there other = record {
    at = within;
    idle = idle;
    unlike = record { place = length now.view.seen; late = t.past.calling.looked.upto; within = omega arith; unlike = ap (λ (l : List ℕ). is_same l old) there ∙ other };
  }

  -- others changed the register since a look
  pub changed_unlike : {seen : ℕ} → b.look ≤ seen → ¬ NoneOn now.view.plan reg (drop seen now.view.seen) → HasOther b old now
  changed_unlike {seen} late changed = record { at = within; idle = idle; unlike = unlike_since reg b.look seen old now.view t.past.law.sound (there_now t.past) late changed }

-- nor does one whose node was put back
pub lost_unlike : {shared : ObjectData} {reg seen node : ℕ} {old new : List ℕ} {b : Begun shared reg new Yes (Swap reg old new)} {lost now : SeatData} → HasLostTurn b seen node lost
    → IsAllPutBack lost now → IsSeat now → HasOther b old now
lost_unlike {reg = reg} {seen = seen} l back law = changed_unlike (at_back back law l.at) (omega arith) (omega arith) back.holding l.late
    (subst (λ (z : View). ¬ NoneOn z.plan reg (drop seen z.seen)) (sym (ap (λ (z : SeatData). z.view) back.same)) l.changed)
