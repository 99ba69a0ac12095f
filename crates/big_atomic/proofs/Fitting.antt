-- Records that fit their registers: where each call gives such a one, no other is read, and none is left.
use Rattle.std.proofs.Common.{◌≡◌, ℕ, Bool, true, false, not, List, [], All, Option, Some, None, is_some, unwrap_or, cond, count_by, refl, sym, ap, subst, ◌∙◌, arith, ◌+◌, ⊎_elim, eqb}
use Rattle.std.proofs.lemmas.Bool.{cases_Bool, eqb-true, false≢true}
use Rattle.std.proofs.lemmas.Option.{none-some}
use Rattle.std.specs.Cmp.Lexicographic.{same_text}
use Rattle.big_atomic.proofs.Counting.{count_push}
use Rattle.big_atomic.proofs.Lines.{line_counts, line_keeps}
use Rattle.big_atomic.specs.Lines.{EachKeeps}
use Rattle.big_atomic.specs.Registers.{FitsBlank, GivesFitting, HasFitting, tells_unfit}
use Rattle.big_atomic.specs.Stands.{by_call}
use Rattle.seat_history.specs.Contents.{Contents, set_at}
use Rattle.seat_history.specs.Object.{MayCall, Object, blank_object, object_after}
use Rattle.seat_history.specs.Step.{is_same, reply_to}
use Rattle.seat_history.specs.declared.call.Call.{Call}
use Rattle.seat_history.specs.declared.call.Call.TheVariants.{Load, Store, Swap, Hold, Look, Release}
use Rattle.seat_history.specs.declared.entry.Entry.{Entry}
use Rattle.seat_history.specs.declared.reply.Reply.{Reply}
use Rattle.seat_history.specs.declared.reply.Reply.TheVariants.{Yes, No, Full}
use Rattle.step_rules.specs.Closing.{ClosedData, IsClosed}
use Rattle.step_rules.specs.Lawful.{IsReply, is_full}
use Rattle.step_rules.specs.Line.{after_stand}
use Rattle.step_rules.specs.SeatData.{IsSeat, SeatData}
use Rattle.step_rules.specs.declared.plan.Plan.{Plan}
use Rattle.step_rules.specs.declared.view.Stand.{Stand}

-- all callers hold records that may be held, if any
abbrev HeldFit : (List ℕ → Bool) → (ℕ → Option (List ℕ)) → Type 0
HeldFit may_hold held = (x : ℕ) (words : List ℕ) → held x ≡ Some words → may_hold words ≡ true

-- all registers have fitting records, and all callers hold such as may be held
record IsFit (fits : ℕ → List ℕ → Bool) (may_hold : List ℕ → Bool) (o : Object) : Type 0 where
  pub registers : (r : ℕ) → fits r (o.contents.registers r) ≡ true
  pub held : HeldFit may_hold o.held

record StaysFit (fits : ℕ → List ℕ → Bool) (may_hold : List ℕ → Bool) (after : Object) (call : Call) (reply : Reply) : Type 0 where
  pub told : tells_unfit fits may_hold call reply ≡ false
  pub fit : IsFit fits may_hold after

-- how far the line has come
record HasComeFit (fits : ℕ → List ℕ → Bool) (may_hold : List ℕ → Bool) (done : List Stand) (o : Object) : Type 0 where
  pub none : count_by (by_call (tells_unfit fits may_hold)) done ≡ 0
  pub fit : IsFit fits may_hold o

held_same : (may_hold : List ℕ → Bool) (held : ℕ → Option (List ℕ)) (x : ℕ) (h : Option (List ℕ)) → HeldFit may_hold held
    → ((words : List ℕ) → h ≡ Some words → may_hold words ≡ true) → HeldFit may_hold (set_at held x h)
held_same may_hold held x h all one k words at = ⊎_elim
    (λ e. one words (sym (ap (λ b. cond b h (held k)) e) ∙ at))
    (λ e. all k words (sym (ap (λ b. cond b h (held k)) e) ∙ at))
    (cases_Bool (eqb x k))

-- a look finds what is held
look_told : (may_hold : List ℕ → Bool) (held : Option (List ℕ)) → is_some held ≡ true → ((words : List ℕ) → held ≡ Some words → may_hold words ≡ true)
    → not (may_hold (unwrap_or held [])) ≡ false
look_told may_hold None there all = absurd (false≢true there)
look_told may_hold (Some words) there all = ap not (all words refl)

stored : (fits : ℕ → List ℕ → Bool) (registers : ℕ → List ℕ) (reg : ℕ) (new : List ℕ) → ((r : ℕ) → fits r (registers r) ≡ true) → fits reg new ≡ true
    → (r : ℕ) → fits r (set_at registers reg new r) ≡ true
stored fits registers reg new all one r = ⊎_elim
    (λ e. ap (λ b. fits r (cond b new (registers r))) e ∙ subst (λ n. fits n new ≡ true) (eqb-true reg r e) one)
    (λ e. ap (λ b. fits r (cond b new (registers r))) e ∙ all r)
    (cases_Bool (eqb reg r))

full_told : (fits : ℕ → List ℕ → Bool) (may_hold : List ℕ → Bool) (call : Call) (need free : ℕ) → tells_unfit fits may_hold call (Full need free) ≡ false
full_told fits may_hold (Load reg) need free = refl
full_told fits may_hold Look need free = refl
full_told fits may_hold _ need free = refl

module _ (fits : ℕ → List ℕ → Bool) (may_hold : List ℕ → Bool) (blank : FitsBlank fits) where
  swapped : (registers : ℕ → List ℕ) (reg : ℕ) (old new : List ℕ) → (fits reg old ≡ true → fits reg new ≡ true) → ((r : ℕ) → fits r (registers r) ≡ true)
      → (b : Bool) → is_same (registers reg) old ≡ b → (r : ℕ) → fits r (cond b (set_at registers reg new) registers r) ≡ true
  swapped registers reg old new gives all true same r =
      stored fits registers reg new all (gives (ap (fits reg) (sym (same_text (registers reg) old (sym same))) ∙ all reg)) r
  swapped registers reg old new gives all false same r = all r

  swap_told : (reg : ℕ) (old new : List ℕ) (b : Bool) → tells_unfit fits may_hold (Swap reg old new) (cond b Yes No) ≡ false
  swap_told reg old new true = refl
  swap_told reg old new false = refl

  -- what a caller holds stays
  holds_on : (x : ℕ) (o : Object) → IsFit fits may_hold o → HeldFit may_hold (set_at o.held x (o.held x))
  holds_on x o fit = held_same may_hold o.held x (o.held x) fit.held (fit.held x)

  made : (x : ℕ) (o : Object) (call : Call) → GivesFitting fits may_hold call → MayCall (o.held x) call → IsFit fits may_hold o
      → StaysFit fits may_hold (object_after o (record { caller = x; call = call })) call (reply_to o.contents (o.held x) call)
  made x o (Load reg) gives may fit = record { told = ap not (fit.registers reg); fit = record { registers = fit.registers; held = holds_on x o fit } }
  made x o (Store reg new) gives may fit = record {
    told = refl;
    fit = record { registers = stored fits o.contents.registers reg new fit.registers gives; held = holds_on x o fit };
  }
  made x o (Swap reg old new) gives may fit =
      let b = is_same (o.contents.registers reg) old in
      record {
        told = swap_told reg old new b;
        fit = record { registers = swapped o.contents.registers reg old new gives fit.registers b refl; held = holds_on x o fit };
      }
  made x o (Hold reg) gives may fit = record {
    told = refl;
    fit = record {
      registers = fit.registers;
      held = held_same may_hold o.held x (Some (o.contents.registers reg)) fit.held
          (λ words at. subst (λ (l : List ℕ). may_hold l ≡ true) (ap (λ (h : Option (List ℕ)). unwrap_or h []) at) (gives (o.contents.registers reg) (fit.registers reg)));
    };
  }
  made x o Look gives may fit = record { told = look_told may_hold (o.held x) may (fit.held x); fit = record { registers = fit.registers; held = holds_on x o fit } }
  made x o Release gives may fit = record { told = refl; fit = record { registers = fit.registers; held = held_same may_hold o.held x None fit.held (λ words at. absurd (none-some words at)) } }
  made x o _ gives may fit = record { told = refl; fit = record { registers = fit.registers; held = holds_on x o fit } }

  answered : (p : Plan) (stock x : ℕ) (o : Object) (log : List Entry) (call : Call) (reply : Reply) → GivesFitting fits may_hold call
      → MayCall (o.held x) call → IsReply p stock o.contents log (o.held x) call reply → IsFit fits may_hold o
      → StaysFit fits may_hold (cond (is_full reply) o (object_after o (record { caller = x; call = call }))) call reply
  answered p stock x o log call (Full need free) gives may right fit = record { told = full_told fits may_hold call need free; fit = fit }
  answered p stock x o log call reply gives may right fit =
      subst (λ (r : Reply). StaysFit fits may_hold (object_after o (record { caller = x; call = call })) call r) right (made x o call gives may fit)

  fit_on : (p : Plan) → EachKeeps p (λ (s : Stand). GivesFitting fits may_hold s.call) (HasComeFit fits may_hold)
  fit_on p done o log s gives right come =
      let one : StaysFit fits may_hold (after_stand o s) s.call s.reply = answered p s.stock s.by o log s.call s.reply gives right.legal.may right.reply come.fit in
      let test = by_call (tells_unfit fits may_hold) in
      record {
        none = count_push test done s ∙ (ap (λ b. count_by test done + cond b 1 0) one.told ∙ omega (arith, come.none));
        fit = one.fit;
      }

  pub records_fit : (seat : SeatData) (closed : ClosedData) → IsSeat seat → IsClosed seat closed → All (λ (s : Stand). GivesFitting fits may_hold s.call) closed.stands
      → HasFitting fits may_hold closed
  records_fit seat closed law is all =
      let begun : HasComeFit fits may_hold [] blank_object = record { none = refl; fit = record { registers = blank; held = λ x words at. absurd (none-some words at) } } in
      let come = line_keeps (λ (s : Stand). GivesFitting fits may_hold s.call) (HasComeFit fits may_hold) seat closed is all begun (fit_on closed.plan) in
      record {
        registers = λ r. ap (λ (c : Contents). fits r (c.registers r)) (sym is.line.contents) ∙ come.fit.registers r;
        none_unfit = sym (line_counts (by_call (tells_unfit fits may_hold)) seat closed law is) ∙ come.none;
      }
