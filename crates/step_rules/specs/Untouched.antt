-- A cell that the history has no entry on.
use Rattle.std.specs.Prelude.{◌≡◌, ℕ, ◌*◌, ◌&&◌, ◌++◌, not, nat_lt, List, [], ◌∷◌, if◌then◌else◌}
use Rattle.seat_history.specs.Contents.{zeros}
use Rattle.step_rules.specs.Layout.{cells}
use Rattle.step_rules.specs.declared.layout.TheConstants.{END}
use Rattle.step_rules.specs.declared.plan.Plan.{Plan}

-- the next word of the node n at the start, and of the cell n: a bucket has no records
abbrev pub first_next : Plan → ℕ → ℕ
first_next p n = if nat_lt n (cells p) && not (nat_lt n p.registers) then END else 0

-- the words of the node n at the start, and the inline words of the cell n
abbrev pub first_words : Plan → ℕ → List ℕ
first_words p n = zeros ++ first_next p n ∷ []

-- the words of the cell k, and those of the node with its number, are as at the start
pub record IsUntouched (p : Plan) (k version backup : ℕ) (inline node : List ℕ) : Type 0 where
  pub version_is : version ≡ 0
  -- it names the node with the cell's number, unmarked
  pub backup_is : backup ≡ 2 * k
  pub inline_are : inline ≡ first_words p k
  pub node_are : node ≡ first_words p k
