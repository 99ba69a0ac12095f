-- Reading a value from a text.
use Rattle.std.specs.Prelude.{◌≡◌, ◌≢◌, List, ℕ, ◌++◌, Option, Some, None}
use Rattle.std.specs.Borrow.{Bor}
use Rattle.flow_report.specs.Ranges.{AreTotalsInRange}
use Rattle.flow_report.specs.Text.{totals_text}
use Rattle.flow_report.specs.declared.totals.Totals.{Totals}

-- the text begins with the spelling of this value, which is in range, and goes on with the rest
pub record BeginsWith {X : Type 0} (spelling : X → List ℕ) (IsInRange : X → Type 0) (text : List ℕ) (value : X) (rest : List ℕ) : Type 0 where
  pub in_range : IsInRange value
  pub spelled : text ≡ spelling value ++ rest

-- the text begins with the spelling of no value that is in range
pub record BeginsWithNone {X : Type 0} (spelling : X → List ℕ) (IsInRange : X → Type 0) (text : List ℕ) : Type 0 where
  pub none : (value : X) (rest : List ℕ) → IsInRange value → text ≢ spelling value ++ rest

-- the value that the text begins with and the rest of the text, or none
abbrev pub IsFrontOf : {X : Type 0} (spelling : X → List ℕ) (IsInRange : X → Type 0) (text : List ℕ) → Option (X × Bor (List ℕ)) → Type 0
IsFrontOf spelling IsInRange text None = BeginsWithNone spelling IsInRange text
IsFrontOf spelling IsInRange text (Some front) = BeginsWith spelling IsInRange text front.0 front.1.now

-- the totals with which the text goes on after the front, and ends
abbrev pub EndsInTotals : (front text : List ℕ) → Option Totals → Type 0
EndsInTotals front text None = (totals : Totals) → AreTotalsInRange totals → text ≢ front ++ totals_text totals
EndsInTotals front text (Some totals) = AreTotalsInRange totals × (text ≡ front ++ totals_text totals)
