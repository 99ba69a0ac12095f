-- How many nodes a seat has.
use Rattle.std.specs.Prelude.{◌≡◌, ℕ, ◌+◌, ◌*◌, true, List, [], ◌∷◌, filter, length, take, if◌then◌else◌}
use Rattle.std.specs.List.{sum_by}
use mathlib.Core.Option.{some}
use lib.ListN.{get_elem?}
use Rattle.seat_history.specs.declared.entry.Entry.{Entry}
use Rattle.step_rules.specs.Records.{cost_at, gain_at, removes_of}
use Rattle.step_rules.specs.World.{Once, has}
use Rattle.step_rules.specs.declared.plan.Plan.{Plan}
use Rattle.step_rules.specs.declared.view.Stand.{Stand}

-- the nodes that a stand cost its seat, and that it gave it
abbrev pub stand_cost : Plan → List Entry → Stand → ℕ
stand_cost p seen s = if s.changes then cost_at p seen s.place s.call else 0

abbrev pub stand_gain : Plan → List Entry → Stand → ℕ
stand_gain p seen s = if s.changes then gain_at p seen s.place s.call else 0

-- the removes that it spent
abbrev pub stand_removes : Stand → ℕ
stand_removes s = if s.changes then removes_of s.call else 0

abbrev pub costs : Plan → List Entry → List Stand → ℕ
costs p seen stands = sum_by (stand_cost p seen) stands

abbrev pub gains : Plan → List Entry → List Stand → ℕ
gains p seen stands = sum_by (stand_gain p seen) stands

abbrev pub removals : List Stand → ℕ
removals stands = sum_by stand_removes stands

-- a seat of so many numbers: its nodes and the costs of its stands are its shares and the gains, and the removes left and made are its share
pub record IsStock (p : Plan) (count : ℕ) (seen : List Entry) (stands : List Stand) (nodes removes : ℕ) : Type 0 where
  pub even : nodes + costs p seen stands ≡ p.share * count + gains p seen stands
  pub removed : removes + removals stands ≡ p.removes * count

-- those of the stands that are of a seat with these numbers
abbrev pub stands_of : List ℕ → List Stand → List Stand
stands_of numbers stands = filter (λ (s : Stand). has numbers s.by) stands

-- the stand keeps the numbers that its seat held when the call was made, its caller's among them, and how many nodes it had: the shares, less
-- what the seat's stands before cost, and what they gave
pub record KeepsStock (p : Plan) (seen : List Entry) (before : List Stand) (s : Stand) : Type 0 where
  pub own : has s.numbers s.by ≡ true
  pub once : Once s.numbers
  pub even : s.stock + costs p seen (stands_of s.numbers before) ≡ p.share * length s.numbers + gains p seen (stands_of s.numbers before)

-- the stands are of a seat of one number
abbrev pub AreOfOne : ℕ → List Stand → Type 0
AreOfOne x stands = (i : ℕ) (s : Stand) → get_elem? stands i ≡ some s → s.numbers ≡ x ∷ []

-- all stands of a seat of one number keep its share, less what the stands before cost, and what they gave
abbrev pub StocksAre : Plan → List Entry → List Stand → Type 0
StocksAre p seen stands = (i : ℕ) (s : Stand) → get_elem? stands i ≡ some s → s.stock + costs p seen (take i stands) ≡ p.share + gains p seen (take i stands)
