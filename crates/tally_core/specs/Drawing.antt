-- A worker of a tally, from its first draw to its last.
use Rattle.std.specs.Prelude.{◌≡◌, ℕ, ◌+◌, ◌<◌, ◌≤◌, Bool, true, false, List, [], flat_map, length, map, take, vec_capacity}
use Rattle.std.specs.List.{list_any}
use Rattle.big_atomic.specs.Seats.{IsUnused}
use Rattle.flow_fold.specs.Flows.{Flows}
use Rattle.step_rules.specs.SeatData.{ObjectData}
use Rattle.step_rules.specs.Views.{number}
use Rattle.tally_core.specs.Adding.{HasAdded}
use Rattle.tally_core.specs.Attempts.{AreUpdates, IsAdding}
use Rattle.tally_core.specs.Draws.{batches_of, drawn_pairs}
use Rattle.tally_core.specs.Workers.{IsDone}
use Rattle.tally_core.specs.declared.draws.Draw.{Draw}
use Rattle.tally_core.specs.declared.worker.Part.{Part}
use Rattle.tally_core.specs.declared.worker.Worker.{Worker}
use Rattle.worker_gate.specs.Rule.{one_if}
use Rattle.worker_gate.specs.Seats.{BatchSeatData, BatchesData, IsBatchOf, IsBatchSeat}

-- a worker's seat, and its part of a tally
abbrev pub Drawer : Type 0
Drawer = Worker Part

-- the batches are those of so many pairs
pub record AreBatchesOf (pairs : Flows) (workers : ℕ) (batches : BatchesData) : Type 0 where
  pub count : batches.plan.count ≡ batches_of (length pairs)
  pub seats : batches.plan.seats ≡ workers

-- a seat of the batches with one number
pub record IsOneOf (batches : BatchesData) (seat : BatchSeatData) : Type 0 where
  pub ours : IsBatchOf batches seat
  pub law : IsBatchSeat seat
  pub one : length seat.view.numbers ≡ 1

-- which nothing was drawn with
abbrev pub IsUndrawn : BatchesData → BatchSeatData → Type 0
IsUndrawn batches seat = IsOneOf batches seat × (seat.view.drawn ≡ [])

-- a worker tells the batches that its seat at the batches drew, in order
pub record TellsDrawn (batches : BatchesData) (one : Drawer) : Type 0 where
  pub seat : IsOneOf batches one.told.batches
  pub drawn : one.told.drawn.items ≡ one.told.batches.view.drawn

-- a worker that drew nothing yet, with room for all batches
pub record HasNoDraw (batches : BatchesData) (one : Drawer) : Type 0 where
  pub tells : TellsDrawn batches one
  pub none : one.told.drawn.items ≡ []
  pub not_full : one.told.full ≡ false
  pub room : batches.plan.count ≤ vec_capacity one.told.drawn

-- a worker before its first draw
pub record HasBegun (shared : ObjectData) (batches : BatchesData) (one : Drawer) : Type 0 where
  pub unused : IsUnused shared one.seat
  pub no_draw : HasNoDraw batches one

-- a worker between two draws: it added just the pairs of the batches that it drew, in order
pub record IsDrawing (shared : ObjectData) (batches : BatchesData) (pairs : Flows) (one : Drawer) : Type 0 where
  pub tells : TellsDrawn batches one
  pub room : batches.plan.count ≤ vec_capacity one.told.drawn
  pub not_full : one.told.full ≡ false
  pub adding : IsAdding shared (drawn_pairs pairs one.told.drawn.items) false one.seat

-- a worker that has done: its stands add the pairs of the batches that it drew, in order, and it was told that there is none left; or its last
-- stand is Full, and it went no further. The stands are of one update for each of these pairs, in order: those added, and then the next one where
-- the last stand is Full
pub record HasWorked (shared : ObjectData) (batches : BatchesData) (pairs : Flows) (drawer : Drawer) : Type 0 where
  pub done : IsDone shared drawer.seat
  pub one : length drawer.seat.view.numbers ≡ 1
  pub tells : TellsDrawn batches drawer
  pub ended : drawer.told.full ≡ false → drawer.told.batches.view.ended ≡ true
  pub added : HasAdded (drawn_pairs pairs drawer.told.drawn.items) drawer.told.full drawer.seat.view.stands
  pub updates : AreUpdates (take (added.count + one_if drawer.told.full) (drawn_pairs pairs drawer.told.drawn.items)) drawer.seat.view

-- a batch was drawn and its pairs were added, or the worker has done
abbrev pub HasDrawn : ObjectData → BatchesData → Flows → Bool → Drawer → Drawer → Type 0
HasDrawn shared batches pairs true before after = IsDrawing shared batches pairs after × (length before.told.drawn.items < length after.told.drawn.items)
HasDrawn shared batches pairs false before after = HasWorked shared batches pairs after

-- a worker's draws
abbrev pub drawn_by : ℕ → List ℕ → List Draw
drawn_by w drawn = map (λ (i : ℕ). record { worker = w; batch = i }) drawn

-- the draws of these workers, and the batches
abbrev pub draws_told : List Drawer → List Draw
draws_told drawers = flat_map (λ (one : Drawer). drawn_by (number one.seat.view) one.told.drawn.items) drawers

abbrev pub batches_told : List Drawer → List ℕ
batches_told drawers = flat_map (λ (one : Drawer). one.told.drawn.items) drawers

-- one of them was told that no batch is left
abbrev pub any_ended : List Drawer → Bool
any_ended drawers = list_any (λ (one : Drawer). one.told.batches.view.ended) drawers
