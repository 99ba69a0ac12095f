-- The calls of a thread: what each is, its register, and the record that it brings.
use Rattle.std.specs.Prelude.{◌+◌, ◌-◌, ◌/◌, ◌%◌, ◌==◌, ℕ, if◌then◌else◌}
use Rattle.register_speed.specs.declared.asked.Asked.{Asked}
use Rattle.register_speed.specs.declared.asked.Kind.{Kind}
use Rattle.register_speed.specs.declared.asked.Kind.TheVariants.{Load, Store, Mix, Few}
use Rattle.register_speed.specs.declared.turns.Step.{Step}
use Rattle.register_speed.specs.declared.turns.Step.TheVariants.{Load as LoadStep, Store as StoreStep, Swap as SwapStep}
use Rattle.speed_runs.specs.Streams.{drawn}

-- what call i is: in a mix they are loads and compare-and-swaps in turn; with few changes each 20th is a compare-and-swap, and the others are loads
abbrev pub step_of : Kind → ℕ → Step
step_of Load i = LoadStep
step_of Store i = StoreStep
step_of Mix i = if i % 2 == 0 then LoadStep else SwapStep
step_of Few i = if i % 20 == 19 then SwapStep else LoadStep

-- how often a thread drew a register before its call i: a mix draws one for two calls, and few changes 19 for 20
abbrev pub draw_of : Kind → ℕ → ℕ
draw_of Mix i = i / 2
draw_of Few i = i - (i + 1) / 20
draw_of _ i = i

-- the register of a thread's call i
abbrev pub register_of : Asked → ℕ → ℕ → ℕ
register_of asked thread i = drawn asked.numbers.items asked.calls thread (draw_of asked.kind i) % asked.plan.registers
