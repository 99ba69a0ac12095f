-- What each step makes of its seat's view.
use Rattle.std.specs.Prelude.{ℕ, ◌+◌, ◌-◌, ◌||◌, true, false, [], ◌∷◌, ◌++◌, length, take, drop}
use Rattle.worker_gate.specs.Numbers.{all_below}
use Rattle.worker_gate.specs.declared.view.BatchPlan.{BatchPlan}
use Rattle.worker_gate.specs.declared.view.BatchView.{BatchView}

-- the first seat's view
abbrev pub starting : BatchPlan → BatchView
starting p = record { plan = p; numbers = all_below p.seats; drawn = []; found = 0; late = 0; pending = false; ended = false; fresh = true }

-- a cursor load that found x, below the count
abbrev pub pending_view : ℕ → BatchView → BatchView
pending_view x v = record v { found = x; pending = true; fresh = false }

-- a cursor load that found x, the count or more
abbrev pub ended_view : ℕ → BatchView → BatchView
ended_view x v = record v { found = x; ended = true; fresh = false }

-- a fetch-and-add that found x, below the count: the batch x is drawn
abbrev pub drawn_view : ℕ → BatchView → BatchView
drawn_view x v = record v { found = x; pending = false; drawn = v.drawn ++ x ∷ []; fresh = false }

-- a fetch-and-add that found x, the count or more: a late draw
abbrev pub late_view : ℕ → BatchView → BatchView
late_view x v = record v { found = x; pending = false; late = v.late + 1; ended = true; fresh = false }

-- a split: the seat without its last number, and a seat with that one
abbrev pub left_view : BatchView → BatchView
left_view v = record v { numbers = take (length v.numbers - 1) v.numbers }

abbrev pub right_view : BatchView → BatchView
right_view v = record v { numbers = drop (length v.numbers - 1) v.numbers }

-- a join: what the second seat drew stands behind what the first one drew
abbrev pub joined_view : BatchView → BatchView → BatchView
joined_view v w = record v { numbers = v.numbers ++ w.numbers; drawn = v.drawn ++ w.drawn; late = v.late + w.late; ended = v.ended || w.ended; fresh = false }

-- what is left of a seat that was joined
abbrev pub spent_view : BatchView
spent_view = record { plan = record { count = 0; seats = 0 }; numbers = []; drawn = []; found = 0; late = 0; pending = false; ended = false; fresh = false }
