-- What the program's words ask.
use Rattle.std.specs.Prelude.{◌≡◌, ◌+◌, ◌-◌, ◌/◌, ◌^◌, ◌<◌, ◌≤◌, ℕ, List, slice_index}
use Rattle.step_rules.specs.declared.plan.Plan.{Plan}
use Rattle.table_speed.specs.declared.asked.Kind.{Kind}
use Rattle.table_speed.specs.declared.asked.Kind.TheVariants.{Find, Few}

-- threads, buckets, keys, calls and share can be met
pub record IsInRange (words : List ℕ) : Type 0 where
  pub threads : (0 < slice_index words 0) × (slice_index words 0 ≤ 64)
  pub buckets : (0 < slice_index words 1) × (slice_index words 1 ≤ 2 ^ 20)
  pub keys : (0 < slice_index words 2) × (slice_index words 2 ≤ 2 ^ 24)
  pub calls : slice_index words 3 ≤ 2 ^ 31
  pub share : (0 < slice_index words 4) × (slice_index words 4 ≤ 2 ^ 22)

-- how many of so many key numbers are even
abbrev pub evens : ℕ → ℕ
evens keys = (keys + 1) / 2

-- how many calls each thread makes before the timed ones: before finds, few changes among them or none, the threads insert the even keys, as many each
abbrev pub filling_of : Kind → ℕ → ℕ → ℕ
filling_of Find keys seats = (evens keys + seats - 1) / seats
filling_of Few keys seats = (evens keys + seats - 1) / seats
filling_of _ keys seats = 0

-- the plan has what the words say, and changes for all calls; kind and numbers are those that were given
pub record IsAsked (words : List ℕ) (kind : Kind) (numbers : List ℕ) (plan : Plan) (keys filling calls : ℕ) (its_kind : Kind) (its_numbers : List ℕ) : Type 0 where
  pub seats : plan.seats ≡ slice_index words 0
  pub buckets : plan.buckets ≡ slice_index words 1
  pub keys_are : keys ≡ slice_index words 2
  pub calls_are : calls ≡ slice_index words 3
  pub share : plan.share ≡ slice_index words 4
  pub filling_is : filling ≡ filling_of kind keys plan.seats
  pub changes : plan.changes ≡ filling + calls
  pub kind_is : its_kind ≡ kind
  pub numbers_are : its_numbers ≡ numbers
