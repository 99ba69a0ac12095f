-- What each kind of step tells: the number found, and the seat before and after it.
use Rattle.std.specs.Prelude.{◌≡◌, ℕ, ◌≤◌, ◌<◌}
use Rattle.atomic_table.specs.Table.{Me, Step}
use Rattle.worker_gate.specs.Seats.{IsLawful}
use Rattle.worker_gate.specs.Views.{drawn_view, ended_view, late_view, pending_view}
use Rattle.worker_gate.specs.declared.view.BatchView.{BatchView}

abbrev pub Mine : Type 0
Mine = Me ℕ BatchView

-- CURSOR LOAD
abbrev pub looked : Step ℕ → Mine → ℕ → Mine → Type 0
looked st m x n = (n.1 ≡ m.1) × (x < m.0.plan.count → n.0 ≡ pending_view x m.0) × (m.0.plan.count ≤ x → n.0 ≡ ended_view x m.0) × IsLawful n.0

-- CURSOR FETCH-AND-ADD
abbrev pub drew : Step ℕ → Mine → ℕ → Mine → Type 0
drew st m x n = (n.1 ≡ m.1) × (x < m.0.plan.count → n.0 ≡ drawn_view x m.0) × (m.0.plan.count ≤ x → n.0 ≡ late_view x m.0) × IsLawful n.0

-- a cursor load that changes nothing
abbrev pub settled : Step ℕ → Mine → ℕ → Mine → Type 0
settled st m x n = (n ≡ m) × IsLawful n.0
