-- Scans: a retired node is given back once no claim word was found to name it.
use Rattle.std.specs.Prelude.{◌≡◌, ℕ, ◌+◌, ◌*◌, ◌<◌, ◌≤◌, true, List, length}
use Rattle.step_rules.specs.World.{has}
use Rattle.step_rules.specs.declared.layout.TheConstants.{CLAIMS}
use Rattle.step_rules.specs.declared.plan.Plan.{Plan}
use Rattle.step_rules.specs.declared.view.Scan.{Scan}

-- of the scan alone: its old nodes are retired ones, and it found no more nodes than it has read words
pub record ScanSound (p : Plan) (scan : Scan) (gone : List ℕ) : Type 0 where
  pub old : (n : ℕ) → has scan.old n ≡ true → has gone n ≡ true
  pub counted : length scan.found ≤ scan.next
  pub within : scan.next ≤ CLAIMS * p.seats

-- where these claims stand: an old node on which one stands in a word that the scan has read is among those found
pub record SeatScan (p : Plan) (guard : ℕ → ℕ) (scan : Scan) (gone : List ℕ) : Type 0 where
  pub sound : ScanSound p scan gone
  pub found : (w n : ℕ) → w < scan.next → guard w ≡ n + 1 → has scan.old n ≡ true → has scan.found n ≡ true
