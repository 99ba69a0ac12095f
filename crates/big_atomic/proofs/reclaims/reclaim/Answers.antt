use Rattle.std.proofs.Common.{◌≡◌, ◌∙◌, ap, arith, sym}
use Rattle.big_atomic.proofs.Scanning.{held_same, holding_stays, scan_view}
use Rattle.step_rules.specs.Claims.{BACK, HOLD, OWN}
use Rattle.step_rules.specs.SeatData.{SeatData, holds_record}
use Rattle.step_rules.specs.declared.view.Claim.{Claim}
use Rattle.big_atomic.proofs.reclaims.reclaim.Goals as goal

pub returns-clause-ready : goal.returns-clause-ready
returns-clause-ready c =
    let was = c.requires.ready in
    let s = c.scan.ensures.scanned in
    let holds : holds_record c.scan.new.seat.view ≡ holds_record c.args.seat.now.view = ap holds_record (scan_view s was.law c.scan.ensures.law) in record {
      ours = record {
        object = ap (λ (z : SeatData). z.object) s.same ∙ was.ours.object;
        plan = ap (λ (z : SeatData). z.view.plan) s.same ∙ was.ours.plan;
      };
      law = c.scan.ensures.law;
      idle = ap (λ (z : SeatData). z.holding) s.same ∙ was.idle;
      back = ap (λ (y : Claim). y.word) (s.claims BACK (λ e. absurd (omega arith))) ∙ was.back;
      walk = s.walk_none;
      own = ap (λ (y : Claim). y.word) (s.claims OWN (λ e. absurd (omega arith))) ∙ was.own;
      hold = λ none. ap (λ (y : Claim). y.word) (s.claims HOLD (λ e. absurd (omega arith))) ∙ was.hold (sym holds ∙ none);
      held = λ one. let h = was.held (sym holds ∙ one) in
          (h.0, holding_stays h.0 c.args.seat.now.view c.scan.new.seat.view (held_same s was.law c.scan.ensures.law) (s.claims HOLD (λ e. absurd (omega arith))) h.1);
    }
