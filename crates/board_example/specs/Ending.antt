-- What a closed board holds.
use Rattle.std.specs.Prelude.{◌≡◌, ◌≢◌, ℕ, ◌%◌, ◌^◌, true}
use Rattle.big_atomic.specs.Registers.{end_of}
use Rattle.big_atomic.specs.Stands.{Counts}
use Rattle.board_example.specs.Readings.{is_whole}
use Rattle.board_example.specs.Rules.{count_in, is_yes}
use Rattle.step_rules.specs.Closing.{ClosedData, IsClosed}
use Rattle.step_rules.specs.SeatData.{SeatData}
use Rattle.step_rules.specs.declared.plan.Plan.{Plan}

-- an object of the plan was closed with all its seats: the counter is the number of answers Yes modulo 2^64, as it was counted, no reading was
-- torn, and the board is whole
pub record IsEnding (plan : Plan) (closed : ClosedData) (won bad : ℕ) : Type 0 where
  pub plan_is : closed.plan ≡ plan
  pub closed_is : (seat : SeatData) × IsClosed seat closed
  pub won_is : Counts is_yes closed.stands won
  pub counter : count_in ((end_of closed).registers 0) % 2 ^ 64 ≡ won
  pub torn : bad ≡ 0
  pub whole : (r : ℕ) → r ≢ 0 → is_whole ((end_of closed).registers r) ≡ true
