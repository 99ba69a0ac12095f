use Rattle.big_atomic.specs.Calling.{refused_at}
use Rattle.big_atomic.proofs.swaps.refuse.Given as goal

abbrev pub ghosts-stand : goal.ghosts-stand
ghosts-stand g a = record { place = refused_at g.P.Place.place a.call a.self.now.view }
