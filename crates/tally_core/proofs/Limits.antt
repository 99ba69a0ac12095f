-- The limits of a script keep its plan within those of all plans.
use Rattle.std.proofs.Common.{ℕ, ◌*◌, ◌^◌, ◌≤◌, List, length, refl, arith}
use Rattle.std.proofs.lemmas.Nat.{mul-le}
use Rattle.call_script.specs.Line.{MayHaveCallers}
use Rattle.call_script.specs.Run.{plan_of}
use Rattle.call_script.specs.Script.{MayRun}
use Rattle.seat_history.specs.Object.{blank_object}
use Rattle.seat_history.specs.declared.entry.Entry.{Entry}
use Rattle.step_rules.specs.Layout.{IsPlan, nodes}
use Rattle.tally_core.proofs.Begun.{few_removes}
use Rattle.tally_core.specs.Workers.{IsFor}

-- it isn't too large
pub fits : (callers buckets share : ℕ) (lines : List Entry) → MayHaveCallers callers → buckets ≤ 65536 → share ≤ 65536 → nodes (plan_of callers lines buckets share) ≤ 2 ^ 24
unfolding nodes
fits callers buckets share lines some few little = let all : callers * share ≤ 64 * 65536 = mul-le callers share 64 65536 some.1 little in omega (arith, all, few)

pub is_plan : (callers buckets share : ℕ) (lines : List Entry) → MayHaveCallers callers → length lines ≤ 65536 → buckets ≤ 65536 → (1 ≤ share) × (share ≤ 65536)
    → IsPlan (plan_of callers lines buckets share)
is_plan callers buckets share lines some few within shares = record {
  seats = (some.0, some.1);
  share = (shares.0, omega (arith, shares.1));
  registers = omega arith;
  buckets = omega (arith, within);
  changes = omega (arith, few);
  removes = omega (arith, few_removes lines, few);
}

pub is_for : (callers buckets share : ℕ) (lines : List Entry) → MayRun callers blank_object lines → length lines ≤ 65536 → 1 ≤ buckets → IsFor lines (plan_of callers lines buckets share)
is_for callers buckets share lines may few some = record { may = may; few = few; registers = refl; buckets = some; changes = refl; removes = refl }
