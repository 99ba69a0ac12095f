-- How loads come to their answers: by a read of the inline words, and by a claim where that failed.
use Rattle.std.proofs.Common.{◌≡◌, ◌≢◌, ◌∙◌, ℕ, ◌+◌, ◌*◌, ◌<◌, ◌≤◌, List, [], ◌∷◌, ◌++◌, length, take}
use Rattle.std.proofs.Common.{append-nil, append_assoc, refl, sym, ap, subst, arith, ⊎_elim}
use Rattle.std.proofs.lemmas.Bool.{cases_eq}
use Rattle.big_atomic.proofs.Answered.{MayEnd, answered_now, clear_step, ended_none, hold_stays, of_then, ready_after, right_at}
use Rattle.big_atomic.proofs.Balance.{nodes_stay}
use Rattle.big_atomic.proofs.InlineReads.{HasReadOnce, ReadOnce, ReadTells, caused_after, caused_none, failed_more, inline_ends, read_ours, read_seen}
use Rattle.big_atomic.proofs.Taking.{takes_then}
use Rattle.big_atomic.specs.Calling.{HasClaimedRecord, TakesFew}
use Rattle.big_atomic.specs.Calls.{HoldStays, IsLoaded, IsQuiet, register_at}
use Rattle.big_atomic.specs.Reads.{ClaimsAreCaused, IsInlineRead, ReadFailed}
use Rattle.big_atomic.specs.Ready.{IsReady}
use Rattle.big_atomic.specs.Turns.{lost_steps}
use Rattle.cache_copy.specs.declared.answers.Inline.{Inline}
use Rattle.cache_copy.specs.declared.answers.Inline.TheVariants.{Changed, Marked, Odd, Words as InlineWords}
use Rattle.seat_history.specs.declared.call.Call.TheVariants.{Load}
use Rattle.seat_history.specs.declared.reply.Reply.TheVariants.{Words}
use Rattle.seat_history.specs.declared.words.TheConstants.{WIDTH}
use Rattle.step_rules.proofs.Order.RecordsTell.{register_records}
use Rattle.step_rules.specs.Claims.{BACK, HOLD, OWN, WALK}
use Rattle.step_rules.specs.Readers.{IsFirst, next_word}
use Rattle.step_rules.specs.Records.{first_of, records_at}
use Rattle.step_rules.specs.SeatData.{IsSeat, ObjectData, SeatData}
use Rattle.step_rules.specs.Steps.{stepped}
use Rattle.step_rules.specs.Views.{claim_of, stood_view}
use Rattle.step_rules.specs.declared.layout.TheConstants.{END}
use Rattle.step_rules.specs.declared.plan.Plan.{Plan}
use Rattle.step_rules.specs.declared.view.Claim.{Claim}
use Rattle.step_rules.specs.declared.view.Counted.{Counted}
use Rattle.step_rules.specs.declared.view.Stand.{Stand}

-- A READ THAT FAILED, and then the register's record, which was read under a claim on its node
pub record FallsBack (reg word : ℕ) (rec : List ℕ) (before mid now : SeatData) : Type 0 where
  pub steps : List Counted
  pub once : ReadOnce reg steps before mid
  pub failed : ReadFailed reg steps
  pub claimed : HasClaimedRecord BACK reg word rec mid now
  pub few : TakesFew (2 * WIDTH + 8) before now

failed_by : {k : ℕ} (answer : Inline) {steps : List Counted} (now : SeatData) → ((ws : List ℕ) → answer ≢ InlineWords ws) → ReadTells k answer steps now → ReadFailed k steps
failed_by (InlineWords ws) now other t = absurd (other ws refl)
failed_by Odd now other t = t
failed_by Marked now other t = t
failed_by Changed now other t = t

pub falls_back : {reg word : ℕ} {rec : List ℕ} {before mid now : SeatData} (answer : Inline) → ((ws : List ℕ) → answer ≢ InlineWords ws) → HasReadOnce reg answer before mid
    → HasClaimedRecord BACK reg word rec mid now → TakesFew (WIDTH + 4) mid now → FallsBack reg word rec before mid now
falls_back {before = before} {mid = mid} {now = now} answer other read claimed few =
    let first : TakesFew (WIDTH + 4) before mid = record { steps = read.steps; trail = read.once.trail; few = let few_read = read.few in omega arith } in
    record {
      steps = read.steps;
      once = read.once;
      failed = failed_by answer mid other read.tells;
      claimed = claimed;
      few = subst (λ (n : ℕ). TakesFew n before now) (let e : (WIDTH + 4) + (WIDTH + 4) ≡ 2 * WIDTH + 8 = omega arith in e) (takes_then first few);
    }

module _ {reg word : ℕ} {rec : List ℕ} {before mid now : SeatData} (f : FallsBack reg word rec before mid now) where
  abbrev pub fallen : HasClaimedRecord BACK reg word rec before now
  fallen = (((read_seen f.once f.claimed.0.0).0, f.claimed.0.1), f.claimed.1)

  pub fallen_caused : ClaimsAreCaused (ReadFailed reg) (fallen.0.0.steps ++ clear_step now ∷ [])
  fallen_caused =
      let later : List Counted = f.claimed.0.0.steps in
      let clear : List Counted = clear_step now ∷ [] in
      subst (ClaimsAreCaused (ReadFailed reg)) (sym (ap (λ (l : List Counted). l ++ clear) (read_seen f.once f.claimed.0.0).1 ∙ append_assoc f.steps later clear))
      (caused_after (ReadFailed reg) f.steps (later ++ clear) (λ more. failed_more f.steps more) f.once.none_stored f.failed)

-- A READ THAT ANSWERED
module _ {shared : ObjectData} {reg : ℕ} {ws rec : List ℕ} {before now : SeatData} (ready : IsReady shared before) (inside : reg < shared.plan.registers)
    (read : HasReadOnce reg (InlineWords ws) before now) (first : IsFirst (records_at now.view.plan now.view.seen reg) ws)
    (is_rec : rec ≡ take WIDTH ws) where
  abbrev end : ℕ
  end = length now.view.seen

  inside_now : reg < now.view.plan.registers
  inside_now = subst (λ (p : Plan). reg < p.registers) (sym (read_ours read.once.only ready.ours).plan) inside

  -- the register's record is in the words
  register_is : register_at now.view end reg ≡ rec
  register_is =
      let one = register_records now.view.plan now.view.seen reg inside_now in
      ⊎_elim
      (λ (none : next_word ws ≡ END). absurd (let e = sym one ∙ first.empty none in cc))
      (λ (some_there : next_word ws ≢ END). let e = first.first some_there in ap first_of (sym one ∙ e.1) ∙ sym is_rec)
      (cases_eq (next_word ws) END)

  pub inline_may_end : MayEnd reg end end (Load reg) (Words rec) read.steps before now
  inline_may_end = inline_ends read.once read.tells.1 (Load reg) (Words rec) ready.law ready.idle refl
      (right_at now.view end (Load reg) (Words rec) (omega arith) (record { there = inside_now; may = tt }) (ap (λ (l : List ℕ). Words l) register_is) refl)
      (λ need free e. absurd cc)

  abbrev InlineStood : SeatData → Type 0
  InlineStood after = after ≡ stepped (stood_view end (Load reg) (Words rec) now.view) now

  claims_same : (after : SeatData) → InlineStood after → (c : ℕ) → claim_of c after.view ≡ claim_of c before.view
  claims_same after is c = ap (λ (z : SeatData). claim_of c z.view) is ∙ ap (λ (z : SeatData). claim_of c z.view) read.once.only.same

  inline_hold : (after : SeatData) → InlineStood after → HoldStays before after
  inline_hold after is = hold_stays after inline_may_end (ended_none now read.once.law.sound) is (ap (λ (z : SeatData). claim_of HOLD z.view) read.once.only.same) (λ contents held. refl)

  inline_quiet : (after : SeatData) → InlineStood after → IsQuiet read.steps before after
  inline_quiet after is = record {
    free = ap (λ (z : SeatData). z.free) is ∙ ap (λ (z : SeatData). z.free) read.once.only.same;
    retired = ap (λ (z : SeatData). z.view.retired) is ∙ ap (λ (z : SeatData). z.view.retired) read.once.only.same;
    none_exchanged = read.once.looks.none_exchanged;
    none_scanned = read.once.looks.none_scanned;
  }

  pub inline_loaded : (after : SeatData) → InlineStood after → IsSeat after → IsLoaded reg rec before after
  inline_loaded after is last =
      let a = answered_now after inline_may_end (ended_none now read.once.law.sound) is last in
      let steps : a.answered.steps ≡ read.steps = a.steps_are ∙ append-nil read.steps in
      record {
        answered = a.answered;
        nodes = nodes_stay (λ rs. (refl, refl)) a.answered;
        there = ap (λ (s : Stand). register_at after.view s.place reg) a.stand_is ∙ (ap (λ (z : SeatData). register_at z.view end reg) is ∙ register_is);
        quiet = subst (λ (l : List Counted). IsQuiet l before after) (sym steps) (inline_quiet after is);
        hold = inline_hold after is;
        caused = subst (ClaimsAreCaused (ReadFailed reg)) (sym steps) (caused_none (ReadFailed reg) read.steps read.once.none_stored);
        inline = λ none. (
          ws,
          subst (λ (z : ℕ × List Counted). IsInlineRead reg ws z.0 z.1) (λ i. (ap (λ (s : Stand). s.place) (sym a.stand_is) i, sym steps i)) read.tells.0,
          is_rec,
        );
        bound = subst (λ (l : List Counted). length l ≤ 2 * WIDTH + 9 + 2 * lost_steps l) (sym steps) (let few = read.few in omega arith);
      }

  pub inline_ready : (after : SeatData) → InlineStood after → IsSeat after → IsReady shared after
  inline_ready after is law = ready_after shared before after ready
      (of_then (ap (λ (z : SeatData). z.object) is) (ap (λ (z : SeatData). z.view.plan) is) (read_ours read.once.only ready.ours))
      law
      (ap (λ (z : SeatData). z.holding) is ∙ (ap (λ (z : SeatData). z.holding) read.once.only.same ∙ ready.idle))
      (ap (λ (x : Claim). x.word) (claims_same after is BACK) ∙ ready.back)
      (ap (λ (x : Claim). x.word) (claims_same after is WALK) ∙ ready.walk)
      (ap (λ (x : Claim). x.word) (claims_same after is OWN) ∙ ready.own)
      (inline_hold after is)
