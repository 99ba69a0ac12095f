use Rattle.std.proofs.Common.{ℕ, length, ap, arith}
use Rattle.step_rules.proofs.Ties.Tied.{few}
use Rattle.step_rules.proofs.seat.Seat.retired.Goals as goal

pub overflow_cast-result : goal.overflow_cast-result
overflow_cast-result c = omega (arith, few c.self.inside.inner.me.0 c.self.invariant.0.sound, c.len.ensures, ap (length {A = ℕ}) c.self.invariant.4)
