-- What the program's words ask.
use Rattle.std.specs.Prelude.{◌≡◌, ◌^◌, ◌<◌, ◌≤◌, ℕ, List, slice_index}
use Rattle.register_speed.specs.declared.asked.Kind.{Kind}
use Rattle.step_rules.specs.declared.plan.Plan.{Plan}

-- threads, registers, calls and share can be met
pub record IsInRange (words : List ℕ) : Type 0 where
  pub threads : (0 < slice_index words 0) × (slice_index words 0 ≤ 64)
  pub registers : (0 < slice_index words 1) × (slice_index words 1 ≤ 64)
  pub share : (0 < slice_index words 3) × (slice_index words 3 ≤ 2 ^ 22)

-- the plan has what the words say, and changes for all calls; kind and numbers are those that were given
pub record IsAsked (words : List ℕ) (kind : Kind) (numbers : List ℕ) (plan : Plan) (calls : ℕ) (its_kind : Kind) (its_numbers : List ℕ) : Type 0 where
  pub seats : plan.seats ≡ slice_index words 0
  pub registers : plan.registers ≡ slice_index words 1
  pub calls_is : calls ≡ slice_index words 2
  pub share : plan.share ≡ slice_index words 3
  pub changes : plan.changes ≡ calls
  pub kind_is : its_kind ≡ kind
  pub numbers_is : its_numbers ≡ numbers
