-- A register that is added to by swaps has the sum of what they added.
use Rattle.std.proofs.Common.{◌≡◌, ◌∙◌, ℕ, Bool, true, false, List, cond, refl, sym, ap, subst, ⊎_elim, eq-eqb, ne_eqb}
use Rattle.std.proofs.lemmas.Bool.{cases_eq}
use Rattle.std.specs.Cmp.Lexicographic.{same_text}
use Rattle.big_atomic.proofs.Sums.{EachAdds, line_adds}
use Rattle.big_atomic.specs.Registers.{end_of}
use Rattle.big_atomic.specs.Sums.{AddUpTo, Adding, AddsToRegister}
use Rattle.seat_history.specs.Contents.{Contents, set_at, zeros}
use Rattle.seat_history.specs.Object.{Object, object_after}
use Rattle.seat_history.specs.Step.{is_same, reply_to}
use Rattle.seat_history.specs.declared.call.Call.{Call}
use Rattle.seat_history.specs.declared.call.Call.TheVariants.{Store, Swap}
use Rattle.seat_history.specs.declared.entry.Entry.{Entry}
use Rattle.seat_history.specs.declared.reply.Reply.{Reply}
use Rattle.seat_history.specs.declared.reply.Reply.TheVariants.{Yes, No, Full}
use Rattle.step_rules.specs.Closing.{ClosedData, IsClosed}
use Rattle.step_rules.specs.Lawful.{IsReply, is_full}
use Rattle.step_rules.specs.SeatData.{IsSeat, SeatData}
use Rattle.step_rules.specs.declared.plan.Plan.{Plan}
use Rattle.step_rules.specs.declared.view.Stand.{Stand}

module _ {V : Type 0} (A : Adding V) (says : List ℕ → V → Type 0) (reg : ℕ) where
  full_adds : (x : V) (call : Call) (need free : ℕ) → AddsToRegister A says reg x call (Full need free) → x ≡ A.none
  full_adds x (Store r new) need free adds = adds.1
  full_adds x (Swap r old new) need free adds = adds
  full_adds x _ need free adds = adds

  same : (words : List ℕ) (sum x : V) → x ≡ A.none → says words sum → says words (A.add sum x)
  same words sum x none is = subst (says words) (sym (ap (A.add sum) none ∙ (A.swapped sum A.none ∙ A.none_left sum))) is

  swapped : (registers : ℕ → List ℕ) (r : ℕ) (old new : List ℕ) (sum x : V) (b : Bool) → is_same (registers r) old ≡ b → AddsToRegister A says reg x (Swap r old new) (cond b Yes No)
      → says (registers reg) sum → says (cond b (set_at registers r new) registers reg) (A.add sum x)
  swapped registers r old new sum x true there adds is = ⊎_elim
      (λ e. let old_is : registers reg ≡ old = ap registers (sym e) ∙ same_text (registers r) old (sym there) in
      subst (λ (l : List ℕ). says l (A.add sum x)) (sym (ap (λ b. cond b new (registers reg)) (eq-eqb r reg e))) (adds.0 e sum (subst (λ (l : List ℕ). says l sum) old_is is)))
      (λ ne. subst (λ (l : List ℕ). says l (A.add sum x)) (sym (ap (λ b. cond b new (registers reg)) (ne_eqb r reg ne))) (same (registers reg) sum x (adds.1 ne) is))
      (cases_eq r reg)
  swapped registers r old new sum x false there adds is = same (registers reg) sum x adds is

  made : (by : ℕ) (o : Object) (call : Call) (sum x : V) → AddsToRegister A says reg x call (reply_to o.contents (o.held by) call) → says (o.contents.registers reg) sum
      → says ((object_after o (record { caller = by; call = call })).contents.registers reg) (A.add sum x)
  made by o (Store r new) sum x adds is = subst (λ (l : List ℕ). says l (A.add sum x)) (sym (ap (λ b. cond b new (o.contents.registers reg)) (ne_eqb r reg adds.0)))
      (same (o.contents.registers reg) sum x adds.1 is)
  made by o (Swap r old new) sum x adds is = swapped o.contents.registers r old new sum x (is_same (o.contents.registers r) old) refl adds is
  made by o _ sum x adds is = same (o.contents.registers reg) sum x adds is

  answered : (p : Plan) (stock by : ℕ) (o : Object) (log : List Entry) (call : Call) (reply : Reply) (sum x : V) → AddsToRegister A says reg x call reply
      → IsReply p stock o.contents log (o.held by) call reply → says (o.contents.registers reg) sum
      → says ((cond (is_full reply) o (object_after o (record { caller = by; call = call }))).contents.registers reg) (A.add sum x)
  answered p stock by o log call (Full need free) sum x adds right is = same (o.contents.registers reg) sum x (full_adds x call need free adds) is
  answered p stock by o log call reply sum x adds right is = made by o call sum x (subst (AddsToRegister A says reg x call) (sym right) adds) is

  abbrev Adds : V → Stand → Type 0
  Adds x s = AddsToRegister A says reg x s.call s.reply

  abbrev Says : V → Object → Type 0
  Says sum o = says (o.contents.registers reg) sum

  each : (p : Plan) → EachAdds A Adds p Says
  each p sum x o log s adds is_answered is = answered p s.stock s.by o log s.call s.reply sum x adds is_answered.reply is

  pub register_sums : (seat : SeatData) (closed : ClosedData) (start sum : V) → IsSeat seat → IsClosed seat closed → says zeros start
      → AddUpTo A (λ x s. AddsToRegister A says reg x s.call s.reply) closed.stands sum → says ((end_of closed).registers reg) (A.add start sum)
  register_sums seat closed start sum law is begun up =
      subst (λ (c : Contents). says (c.registers reg) (A.add start sum)) is.line.contents (line_adds A Adds seat closed Says start sum law is (each closed.plan) up begun)
