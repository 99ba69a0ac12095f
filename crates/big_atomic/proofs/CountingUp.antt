-- A register that is counted up: its number is how many swaps were answered Yes.
use Rattle.std.proofs.Common.{◌≡◌, ℕ, ◌+◌, ◌%◌, ◌^◌, Bool, true, false, List, [], All, cond, count_by, refl, sym, ap, subst, ◌∙◌, arith, eqb, ne_eqb}
use Rattle.std.proofs.lemmas.Bool.{eqb-true}
use Rattle.std.specs.Cmp.Lexicographic.{same_text}
use Rattle.big_atomic.proofs.Counting.{count_push}
use Rattle.big_atomic.proofs.Lines.{line_counts, line_keeps}
use Rattle.big_atomic.specs.Lines.{EachKeeps}
use Rattle.big_atomic.specs.Registers.{CountsUp, HasCounted, tells_counted}
use Rattle.big_atomic.specs.Stands.{by_call}
use Rattle.seat_history.specs.Contents.{Contents, set_at, zeros}
use Rattle.seat_history.specs.Object.{Object, blank_object, object_after}
use Rattle.seat_history.specs.Step.{is_same, reply_to}
use Rattle.seat_history.specs.declared.call.Call.{Call}
use Rattle.seat_history.specs.declared.call.Call.TheVariants.{Store, Swap}
use Rattle.seat_history.specs.declared.entry.Entry.{Entry}
use Rattle.seat_history.specs.declared.reply.Reply.{Reply}
use Rattle.seat_history.specs.declared.reply.Reply.TheVariants.{Yes, No, Full}
use Rattle.step_rules.specs.Closing.{ClosedData, IsClosed}
use Rattle.step_rules.specs.Lawful.{IsReply, is_full}
use Rattle.step_rules.specs.Line.{after_stand}
use Rattle.step_rules.specs.SeatData.{IsSeat, SeatData}
use Rattle.step_rules.specs.declared.plan.Plan.{Plan}
use Rattle.step_rules.specs.declared.view.Stand.{Stand}

stays : (a b : ℕ) → a ≡ b → a % 2 ^ 64 ≡ (b + 0) % 2 ^ 64
stays a b e = ap (λ n. n % 2 ^ 64) (omega arith)

one_more : (a b c : ℕ) → a ≡ (b + 1) % 2 ^ 64 → c ≡ b → a % 2 ^ 64 ≡ (c + 1) % 2 ^ 64
one_more a b c e s = omega arith

full_counted : (reg : ℕ) (call : Call) (need free : ℕ) → tells_counted reg call (Full need free) ≡ false
full_counted reg (Swap r old new) need free = refl
full_counted reg _ need free = refl

module _ (reg : ℕ) (number : List ℕ → ℕ) where
  -- the call's reply counts what the register's number gained
  abbrev IsCounted : (ℕ → List ℕ) → (ℕ → List ℕ) → Call → Reply → Type 0
  IsCounted registers after call reply = number (after reg) % 2 ^ 64 ≡ (number (registers reg) + cond (tells_counted reg call reply) 1 0) % 2 ^ 64

  set : (registers : ℕ → List ℕ) (r : ℕ) (new : List ℕ) (b : Bool) → eqb r reg ≡ b → (b ≡ true → number new ≡ (number (registers r) + 1) % 2 ^ 64)
      → number (cond b new (registers reg)) % 2 ^ 64 ≡ (number (registers reg) + cond b 1 0) % 2 ^ 64
  set registers r new true e next = one_more (number new) (number (registers r)) (number (registers reg)) (next refl) (ap (λ n. number (registers n)) (sym (eqb-true r reg e)))
  set registers r new false e next = stays (number (registers reg)) (number (registers reg)) refl

  swapped : (registers : ℕ → List ℕ) (r : ℕ) (old new : List ℕ) → (r ≡ reg → number new ≡ (number old + 1) % 2 ^ 64) → (b : Bool) → is_same (registers r) old ≡ b
      → IsCounted registers (cond b (set_at registers r new) registers) (Swap r old new) (cond b Yes No)
  swapped registers r old new up true same =
      let there : registers r ≡ old = same_text (registers r) old (sym same) in
      set registers r new (eqb r reg) refl (λ e. up (eqb-true r reg e) ∙ ap (λ l. (number l + 1) % 2 ^ 64) (sym there))
  swapped registers r old new up false same = stays (number (registers reg)) (number (registers reg)) refl

  made : (x : ℕ) (o : Object) (call : Call) → CountsUp reg number call
      → IsCounted o.contents.registers (object_after o (record { caller = x; call = call })).contents.registers call (reply_to o.contents (o.held x) call)
  made x o (Store r new) other = stays (number (set_at o.contents.registers r new reg)) (number (o.contents.registers reg))
      (ap (λ b. number (cond b new (o.contents.registers reg))) (ne_eqb r reg other))
  made x o (Swap r old new) up = swapped o.contents.registers r old new up (is_same (o.contents.registers r) old) refl
  made x o _ none = stays (number (o.contents.registers reg)) (number (o.contents.registers reg)) refl

  answered : (p : Plan) (stock x : ℕ) (o : Object) (log : List Entry) (call : Call) (reply : Reply) → CountsUp reg number call
      → IsReply p stock o.contents log (o.held x) call reply
      → IsCounted o.contents.registers (cond (is_full reply) o (object_after o (record { caller = x; call = call }))).contents.registers call reply
  answered p stock x o log call (Full need free) up right =
      stays (number (o.contents.registers reg)) (number (o.contents.registers reg)) refl ∙ ap (λ b. (number (o.contents.registers reg) + cond b 1 0) % 2 ^ 64) (sym (full_counted reg call need free))
  answered p stock x o log call reply up right =
      subst (λ (r : Reply). IsCounted o.contents.registers (object_after o (record { caller = x; call = call })).contents.registers call r) right (made x o call up)

  -- how far the line has come
  abbrev HasComeUp : List Stand → Object → Type 0
  HasComeUp done o = number (o.contents.registers reg) % 2 ^ 64 ≡ (number zeros + count_by (by_call (tells_counted reg)) done) % 2 ^ 64

  up_on : (p : Plan) → EachKeeps p (λ (s : Stand). CountsUp reg number s.call) HasComeUp
  up_on p done o log s up right come =
      let one : IsCounted o.contents.registers (after_stand o s).contents.registers s.call s.reply = answered p s.stock s.by o log s.call s.reply up right.reply in
      omega (arith, one, come, count_push (by_call (tells_counted reg)) done s)

  pub register_counts : (seat : SeatData) (closed : ClosedData) → IsSeat seat → IsClosed seat closed → All (λ (s : Stand). CountsUp reg number s.call) closed.stands
      → HasCounted reg number closed
  register_counts seat closed law is all =
      let begun : HasComeUp [] blank_object = stays (number zeros) (number zeros) refl in
      let come = line_keeps (λ (s : Stand). CountsUp reg number s.call) HasComeUp seat closed is all begun (up_on closed.plan) in
      ap (λ (c : Contents). number (c.registers reg) % 2 ^ 64) (sym is.line.contents)
      ∙ (come ∙ ap (λ n. (number zeros + n) % 2 ^ 64) (line_counts (by_call (tells_counted reg)) seat closed law is))
