-- Which number of a plan is the first one out of its range, in the order of the fields.
use Rattle.std.specs.Prelude.{◌≡◌, ◌⊎◌, ◌^◌, ◌<◌, ◌≤◌}
use Rattle.step_rules.specs.declared.out_of_range.OutOfRange.{OutOfRange}
use Rattle.step_rules.specs.declared.out_of_range.OutOfRange.TheVariants.{Seats, Share, Registers, Buckets, Changes, Removes}
use Rattle.step_rules.specs.declared.plan.Plan.{Plan}

-- the fields before the registers are in range
pub record HasSeatsAndShare (p : Plan) : Type 0 where
  pub seats : (0 < p.seats) × (p.seats ≤ 64)
  pub share : (0 < p.share) × (p.share ≤ 2 ^ 22)

-- the number found is the plan's own and out of its range, and those of the fields before it are in range
abbrev pub IsFirstOutOfRange : Plan → OutOfRange → Type 0
IsFirstOutOfRange p (Seats found) = (found ≡ p.seats) × ((found ≡ 0) ⊎ (64 < found))
IsFirstOutOfRange p (Share found) = (found ≡ p.share) × ((found ≡ 0) ⊎ (2 ^ 22 < found)) × (0 < p.seats) × (p.seats ≤ 64)
IsFirstOutOfRange p (Registers found) = (found ≡ p.registers) × (64 < found) × HasSeatsAndShare p
IsFirstOutOfRange p (Buckets found) = (found ≡ p.buckets) × (2 ^ 20 < found) × HasSeatsAndShare p × (p.registers ≤ 64)
IsFirstOutOfRange p (Changes found) = (found ≡ p.changes) × (2 ^ 32 < found) × HasSeatsAndShare p × (p.registers ≤ 64) × (p.buckets ≤ 2 ^ 20)
IsFirstOutOfRange p (Removes found) = (found ≡ p.removes) × (2 ^ 20 < found) × HasSeatsAndShare p × (p.registers ≤ 64) × (p.buckets ≤ 2 ^ 20)
    × (p.changes ≤ 2 ^ 32)
