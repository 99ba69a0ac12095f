use Rattle.big_atomic.specs.Calling.{tried_at}
use Rattle.big_atomic.proofs.swaps.compare_and_swap.Given as goal

-- the call's first look began the last three steps
abbrev pub ghosts-swap_claimed : goal.ghosts-swap_claimed
ghosts-swap_claimed a = record { place = tried_at a.reg a.seat.now.view }

abbrev pub ghosts-refuse : goal.ghosts-refuse
ghosts-refuse a = record { place = tried_at a.reg a.seat.now.view }
