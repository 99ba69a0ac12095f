-- How a call that keeps a node puts it back before it is answered.
use Rattle.std.proofs.Common.{◌≡◌, ◌∙◌, ℕ, ◌+◌, List, Option, length, sym, ap, subst, arith, inl, inr, ⊎_elim}
use Rattle.big_atomic.proofs.Deciding.{IsThere}
use Rattle.big_atomic.specs.Calling.{Calling}
use Rattle.big_atomic.specs.Calls.{register_at}
use Rattle.big_atomic.specs.Giving.{AtTurn, Begun, HasDecided}
use Rattle.node_pool.specs.Pool.{IsAllPutBack}
use Rattle.seat_history.specs.declared.call.Call.{Call}
use Rattle.seat_history.specs.declared.reply.Reply.{Reply}
use Rattle.step_rules.proofs.Numbers.Places.{there_at}
use Rattle.step_rules.specs.Claims.{OWN, WALK}
use Rattle.step_rules.specs.SeatData.{IsSeat, NoneAnnounced, ObjectData, SeatData}
use Rattle.step_rules.specs.Views.{claim_of, silent}
use Rattle.step_rules.specs.declared.view.Claim.{Claim}
use Rattle.step_rules.specs.declared.view.Counted.{Counted}
use Rattle.step_rules.specs.declared.view.View.{View}

-- a seat whose Own claim word is 0 has announced none of its nodes
pub none_announced : (nodes : List ℕ) (v : View) → (claim_of OWN v).word ≡ 0 → NoneAnnounced nodes v
none_announced nodes v none n there y at on =
    let word = on.at in absurd (omega (arith, ap (λ (x : Claim). x.word) (there_at v.claims OWN y (silent 0) at)))

module _ {u w : SeatData} (back : IsAllPutBack u w) where
  -- no step is made
  abbrev pub calling_back : {reg look : ℕ} {steps : List Counted} {before : SeatData} → Calling reg steps look before u → Calling reg steps look before w
  calling_back {reg} {look} {steps} {before} c =
      let g = c.goes in
      let l = c.looked in
      subst (λ (z : SeatData). Calling reg steps look before z) (sym back.same) (record {
        goes = record {
          only = g.only;
          trail = g.trail;
          seen = g.seen;
          last = g.last;
          paid = g.paid;
          few = g.few;
          object = g.object;
          first = g.first;
          stock = g.stock;
          sound = g.sound;
        };
        looked = record { looked = l.looked; from = l.from; upto = l.upto; few = l.few };
        hold = c.hold;
      })

  -- and the seat has as many nodes as before
  pub as_many : IsSeat u → IsSeat w → length w.free + length w.holding ≡ length u.free + length u.holding
  as_many one last =
      let was = one.long in
      let is = last.long in
      omega (arith, ap (λ (z : SeatData). length z.view.own) back.same)

module _ {shared : ObjectData} {reg : ℕ} {new : List ℕ} {done : Reply} {call : Call} {b : Begun shared reg new done call} {u w : SeatData} (back : IsAllPutBack u w)
    (law : IsSeat w) where
  abbrev pub at_back : {lost most : ℕ} → AtTurn b lost most u → AtTurn b lost most w
  at_back t =
      let p = t.past in record {
        past = record {
          steps = p.steps;
          calling = calling_back back p.calling;
          paced = p.paced;
          scans = p.scans;
          walk = ap (λ (z : SeatData). (claim_of WALK z.view).word) back.same ∙ p.walk;
          own = ap (λ (z : SeatData). (claim_of OWN z.view).word) back.same ∙ p.own;
          law = law;
          never = p.never;
          filled = p.filled;
          spent = p.spent;
        };
        turn = ⊎_elim
            (λ o. inl (record { looks = o.looks; nodes = as_many back p.law law ∙ o.nodes; retired = ap (λ (z : SeatData). z.view.retired) back.same ∙ o.retired }))
            (λ s. let some = s.1 in inr (s.0, omega (arith, as_many back p.law law))) t.turn;
      }

  pub decided_back : {version word : ℕ} {rec : List ℕ} {kept : Option ℕ} → HasDecided b version word rec kept u → IsThere b rec w
  decided_back d = record {
    at = at_back d.at;
    idle = back.holding;
    there = ap (λ (z : SeatData). register_at z.view (length z.view.seen) reg) back.same ∙ d.there;
    agrees = d.agrees;
  }
