use Rattle.std.proofs.Common.{arith, refl}
use Rattle.tally_core.proofs.Works.{begun, few_turns}
use Rattle.tally_core.proofs.drawing.add_batches.Goals as goal

pub draws-init : goal.draws-init
draws-init g c = record { drawing = begun c.requires.begun c.requires.some; stays = record { numbers = refl; first = refl } }

pub overflow_cast-turn : goal.overflow_cast-turn
overflow_cast-turn g c = omega (arith, few_turns c.draws.invariant.drawing.tells c.requires.of_pairs.1 c.requires.few, c.len-turn.ensures)
