-- What a closed board holds.
use Rattle.std.proofs.Common.{◌≡◌, ℕ, ◌+◌, ◌%◌, ◌^◌, List, count_by, refl, sym, ap, subst, ◌∙◌, arith}
use Rattle.big_atomic.proofs.CountingUp.{register_counts}
use Rattle.big_atomic.proofs.Fitting.{records_fit}
use Rattle.big_atomic.specs.Registers.{end_of}
use Rattle.board_example.proofs.Making.{fits_elsewhere}
use Rattle.board_example.specs.Ending.{IsEnding}
use Rattle.board_example.specs.Readings.{is_whole}
use Rattle.board_example.specs.Rules.{Kept, count_in, fits_board, is_yes}
use Rattle.step_rules.specs.Closing.{ClosedData, IsClosed}
use Rattle.step_rules.specs.SeatData.{IsSeat, SeatData}
use Rattle.step_rules.specs.declared.plan.Plan.{Plan}
use Rattle.step_rules.specs.declared.view.Stand.{Stand}

pub ended : (plan : Plan) (seat : SeatData) (closed : ClosedData) (won torn : ℕ) → IsSeat seat → IsClosed seat closed → seat.view.plan ≡ plan → Kept seat.view.stands won torn
    → IsEnding plan closed won torn
ended plan seat closed won torn law is of kept =
    let here : Kept closed.stands won torn = subst (λ (l : List Stand). Kept l won torn) (sym is.stands) kept in
    let fit = records_fit fits_board is_whole (λ r. refl) seat closed law is (λ k d l. (here.ours k d l).0) in
    let counts : count_in ((end_of closed).registers 0) % 2 ^ 64 ≡ (0 + count_by is_yes closed.stands) % 2 ^ 64 = register_counts 0 count_in seat closed law is (λ k d l. (here.ours k d l).1) in
    record {
      plan_is = is.plan ∙ of;
      closed_is = (seat, is);
      won_is = here.yes_is;
      counter = omega (arith, counts, here.yes_is);
      torn = here.torn_is ∙ ap (λ n. n % 2 ^ 64) fit.none_unfit;
      whole = λ r other. sym (fits_elsewhere r ((end_of closed).registers r) other) ∙ fit.registers r;
    }
