use Rattle.std.proofs.Common.{arith}
use Rattle.big_atomic.proofs.Reading.{hold_low, hold_on}
use Rattle.big_atomic.proofs.holds.held_node.Goals as goal

pub overflow_cast-result : goal.overflow_cast-result
overflow_cast-result c =
    let held = c.requires.held in
    let at = hold_on held.0 c.args.seat.now.view c.number.result c.claim_word.result held.1 c.claim_word.ensures.word c.number.ensures in
    omega (arith, at, hold_low held.0 c.args.seat.now.view held.1 c.claim_word.ensures.law.sound)
