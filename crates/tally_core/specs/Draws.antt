-- The batches of a tally's pairs, and who drew them.
use Rattle.std.specs.Prelude.{◌≡◌, ℕ, ◌+◌, ◌*◌, ◌-◌, ◌/◌, ◌==◌, zero, suc, List, [], ◌++◌, filter, flat_map, length, map, min}
use Rattle.std.specs.List.{between, range_with_len}
use Rattle.flow_fold.specs.Flows.{Flows}
use Rattle.tally_core.specs.declared.draws.Draw.{Draw}
use Rattle.worker_gate.specs.Numbers.{EachOnce}

-- how many batches so many pairs have: one for each 256 of them or part of these
abbrev pub batches_of : ℕ → ℕ
batches_of count = (count + 255) / 256

-- the pairs of the batch with the number i: those from the place 256 * i up to 256 * i + 256, or to the last one
abbrev pub batch_of : Flows → ℕ → Flows
batch_of pairs i = between (256 * i) (min (256 * i + 256) (length pairs)) pairs

-- the pairs of these batches, one batch's after the other's
abbrev pub drawn_pairs : Flows → List ℕ → Flows
drawn_pairs pairs batches = flat_map (batch_of pairs) batches

-- the places that the pairs of the batch i have among so many
abbrev pub batch_places : ℕ → ℕ → List ℕ
batch_places count i = range_with_len (256 * i) (min (256 * i + 256) count - 256 * i)

-- the places of the pairs of these batches, one batch's after the other's
abbrev pub drawn_places : ℕ → List ℕ → List ℕ
drawn_places count batches = flat_map (batch_places count) batches

-- the batches of draws, in their order
abbrev pub batches_in : List Draw → List ℕ
batches_in draws = map (λ (d : Draw). d.batch) draws

-- a worker's draws among them
abbrev pub draws_by : ℕ → List Draw → List Draw
draws_by w draws = filter (λ (d : Draw). d.worker == w) draws

-- the draws of the first n workers, by rising number
abbrev pub draws_below : ℕ → List Draw → List Draw
draws_below zero draws = []
draws_below (suc n) draws = draws_below n draws ++ draws_by n draws

-- workers of so many drew so many batches: their draws stand by rising worker, and are each batch once
pub record AreDraws (workers count : ℕ) (draws : List Draw) : Type 0 where
  pub rising : draws_below workers draws ≡ draws
  pub each_once : EachOnce count (batches_in draws)
