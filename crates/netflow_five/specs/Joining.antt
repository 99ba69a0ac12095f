-- What a line comes to where datagrams follow others.
use Rattle.std.specs.Prelude.{◌≡◌, ℕ, ◌+◌, List, [], ◌∷◌, ◌++◌, if◌then◌else◌}
use Rattle.netflow_five.specs.Gaps.{gap_between, is_loss}
use Rattle.netflow_five.specs.declared.engine_line.EngineLine.{EngineLine}
use Rattle.netflow_five.specs.declared.seq_mark.SeqMark.{SeqMark}

-- this gap lies between the last of some datagrams and the first of others
pub record Meet (sent later : List SeqMark) (gap : ℕ) : Type 0 where
  pub last : SeqMark
  pub first : SeqMark
  pub before : List SeqMark
  pub after : List SeqMark
  pub ends : sent ≡ before ++ last ∷ []
  pub begins : later ≡ first ∷ after
  pub between : gap ≡ gap_between last first

-- the line of both is the sum of the lines of each, and the gap between them is lost flows or a reset
pub record IsJoined (line other : EngineLine) (gap : ℕ) (both : EngineLine) : Type 0 where
  pub flows : both.flows ≡ line.flows + other.flows
  pub lost : both.lost ≡ line.lost + other.lost + (if is_loss gap then gap else 0)
  pub resets : both.resets ≡ line.resets + other.resets + (if is_loss gap then 0 else 1)
