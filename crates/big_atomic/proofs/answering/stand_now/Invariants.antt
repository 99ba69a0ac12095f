use Rattle.std.proofs.Common.{length}
use Rattle.big_atomic.proofs.answering.stand_now.Given as goal

abbrev pub ghosts-stand : goal.ghosts-stand
ghosts-stand a = record { place = length a.self.now.view.seen }
