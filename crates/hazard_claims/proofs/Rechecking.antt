-- What a recheck of each claim says.
use Rattle.std.proofs.Common.{◌≡◌, ◌≢◌, ℕ, ◌+◌, ◌/◌, refl, inl, inr, arith, ⊎_elim}
use Rattle.hazard_claims.specs.Claiming.{Rechecked, Stands, claim_number}
use Rattle.hazard_claims.specs.declared.claims.Claim.{Claim}
use Rattle.hazard_claims.specs.declared.claims.Claim.TheVariants.{Back, Walk, Own, Hold}
use Rattle.hazard_claims.specs.declared.answers.Recheck.TheVariants.{Same, Other}
use Rattle.step_rules.specs.Claims.{OWN, Tells, WALK}
use Rattle.step_rules.specs.Kinds.Claiming.{Claims}
use Rattle.step_rules.specs.Kinds.Walking.{MayRecheck}
use Rattle.step_rules.specs.SeatData.{SeatData}
use Rattle.step_rules.specs.Steps.{IsRechecked, IsWalked}
use Rattle.step_rules.specs.Views.{claim_of}
use Rattle.step_rules.specs.declared.view.View.{View}

none_own : (cell seen : ℕ) (v : View) → MayRecheck OWN cell seen v → ⊥
none_own cell seen v may = ⊎_elim (λ tells. ⊎_elim (λ e. absurd (omega arith)) (λ e. absurd (omega arith)) tells) (λ e. absurd (omega arith)) may.claim

pub rechecked_same : (claim : Claim) (cell seen word : ℕ) (old new : SeatData) → MayRecheck (claim_number claim) cell seen old.view
    → (Tells (claim_number claim) → IsRechecked (claim_number claim) cell seen word old new) → (claim_number claim ≡ WALK → IsWalked cell seen word old new)
    → word / 2 ≡ seen / 2 → Rechecked claim cell seen (Same word) old new
rechecked_same Back cell seen word old new may told walked near = let r = told (inl refl) in record { answers = (near, r.rechecks.same near); same = r.same }
rechecked_same Walk cell seen word old new may told walked near = let r = walked refl in record { answers = (near, λ n named. (r.walks n named).same near); same = r.same }
rechecked_same Own cell seen word old new may told walked near = absurd (none_own cell seen old.view may)
rechecked_same Hold cell seen word old new may told walked near = let r = told (inr refl) in record { answers = (near, r.rechecks.same near); same = r.same }

pub rechecked_other : (claim : Claim) (cell seen word : ℕ) (old new : SeatData) → MayRecheck (claim_number claim) cell seen old.view
    → (Tells (claim_number claim) → IsRechecked (claim_number claim) cell seen word old new) → (claim_number claim ≡ WALK → IsWalked cell seen word old new)
    → word / 2 ≢ seen / 2 → Rechecked claim cell seen (Other word) old new
rechecked_other Back cell seen word old new may told walked apart = let r = told (inl refl) in record { answers = (apart, r.rechecks.other apart); same = r.same }
rechecked_other Walk cell seen word old new may told walked apart =
    let r = walked refl in let w = may.walks refl in record { answers = (apart, (r.walks w.0 w.1.named).other apart); same = r.same }
rechecked_other Own cell seen word old new may told walked apart = absurd (none_own cell seen old.view may)
rechecked_other Hold cell seen word old new may told walked apart = let r = told (inr refl) in record { answers = (apart, r.rechecks.other apart); same = r.same }

-- a claim on Back or Hold that names the node of the word
pub may_recheck : (c cell seen : ℕ) (v : View) → Tells c → (claim_of c v).word ≡ seen / 2 + 1 → MayRecheck c cell seen v
may_recheck c cell seen v tells named = record {
  claim = inl tells;
  named = λ _. named;
  walks = λ is. absurd (⊎_elim (λ e. absurd (omega arith)) (λ e. absurd (omega arith)) tells);
}

pub stands_told : (claim : Claim) (cell seen word : ℕ) (old new : View) → Tells (claim_number claim) → Stands claim cell seen word old new → Claims (claim_number claim) cell seen word old new
stands_told Back cell seen word old new tells stands = stands
stands_told Walk cell seen word old new tells stands = absurd (⊎_elim (λ e. absurd (omega arith)) (λ e. absurd (omega arith)) tells)
stands_told Own cell seen word old new tells stands = absurd (⊎_elim (λ e. absurd (omega arith)) (λ e. absurd (omega arith)) tells)
stands_told Hold cell seen word old new tells stands = stands
