-- What becomes of a seat's claims.
use Rattle.std.specs.Prelude.{◌≡◌, ◌≢◌, ℕ, ◌+◌, ◌/◌}
use Rattle.hazard_claims.specs.declared.claims.Claim.{Claim}
use Rattle.hazard_claims.specs.declared.claims.Claim.TheVariants.{Back, Walk, Own, Hold}
use Rattle.hazard_claims.specs.declared.answers.Recheck.{Recheck as Answer}
use Rattle.hazard_claims.specs.declared.answers.Recheck.TheVariants.{Same, Other}
use Rattle.step_rules.specs.Claims.{BACK, HOLD, OWN, WALK}
use Rattle.step_rules.specs.Kinds.Backup.{Looks}
use Rattle.step_rules.specs.Kinds.Claiming.{Claims}
use Rattle.step_rules.specs.Kinds.Walking.{Walks}
use Rattle.step_rules.specs.SeatData.{SeatData}
use Rattle.step_rules.specs.Steps.{stepped, unnoted}
use Rattle.step_rules.specs.Views.{announced_view, claim_of, cleared_view}
use Rattle.step_rules.specs.declared.view.Kind.TheVariants.{Recheck}
use Rattle.step_rules.specs.declared.view.View.{View}

-- the place of a claim's word among those of a number
abbrev pub claim_number : Claim → ℕ
claim_number Back = BACK
claim_number Walk = WALK
claim_number Own = OWN
claim_number Hold = HOLD

-- the claim's word names the node, by one claim store; under Back no link is noted then
abbrev pub IsAnnounced : Claim → ℕ → SeatData → SeatData → Type 0
IsAnnounced claim node old new = new ≡ stepped (announced_view (claim_number claim) node old.view) (unnoted (claim_number claim) old)

-- the claim's word is 0, by one claim clear; of Back, with no link noted then
abbrev pub IsReleased : Claim → SeatData → SeatData → Type 0
IsReleased claim old new = new ≡ stepped (cleared_view (claim_number claim) old.view) (unnoted (claim_number claim) old)

-- the claim stands from the recheck on: on Walk on the link that was announced, else on the node found
abbrev pub Stands : Claim → ℕ → ℕ → ℕ → View → View → Type 0
Stands Walk cell seen word old new = (n : ℕ) → (claim_of WALK old).word ≡ n + 1 → Walks cell seen word n old new
Stands claim cell seen word old new = Claims (claim_number claim) cell seen word old new

-- Same exactly where the node is the same, and then the claim stands; Other makes no claim stand and ends none
abbrev pub Answers : Claim → ℕ → ℕ → Answer → SeatData → SeatData → Type 0
Answers claim cell seen (Same word) old new = (word / 2 ≡ seen / 2) × Stands claim cell seen word old.view new.view
Answers claim cell seen (Other word) old new = (word / 2 ≢ seen / 2) × Looks (Recheck (claim_number claim) cell seen) cell word old.view new.view

-- one recheck, which changes no list of the seat
pub record Rechecked (claim : Claim) (cell seen : ℕ) (answer : Answer) (old new : SeatData) : Type 0 where
  pub answers : Answers claim cell seen answer old new
  pub same : new ≡ stepped new.view old
