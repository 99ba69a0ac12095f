use Rattle.std.proofs.Common.{arith}
use Rattle.step_rules.proofs.Ties.Tied.{few}
use Rattle.step_rules.proofs.seat.Seat.free.Goals as goal

pub overflow_cast-result : goal.overflow_cast-result
overflow_cast-result c = let t = c.self.invariant.0 in let l = t.long in omega (arith, few c.self.inside.inner.me.0 t.sound, c.len.ensures)
