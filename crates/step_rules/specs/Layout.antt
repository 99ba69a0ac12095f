-- Where the words of a shared object stand: the claim words of each number, then the cells, the registers first, then the nodes.
use Rattle.std.specs.Prelude.{ℕ, ◌+◌, ◌*◌, ◌^◌, ◌<◌, ◌≤◌}
use Rattle.step_rules.specs.declared.layout.TheConstants.{NODE_WIDTH, CELL_WIDTH, CLAIMS}
use Rattle.step_rules.specs.declared.plan.Plan.{Plan}

-- what every plan meets
pub record IsPlan (p : Plan) : Type 0 where
  pub seats : (0 < p.seats) × (p.seats ≤ 64)
  pub share : (0 < p.share) × (p.share ≤ 2 ^ 22)
  pub registers : p.registers ≤ 64
  pub buckets : p.buckets ≤ 2 ^ 20
  pub changes : p.changes ≤ 2 ^ 32
  pub removes : p.removes ≤ 2 ^ 20

-- the registers, and then the buckets
abbrev pub cells : Plan → ℕ
cells p = p.registers + p.buckets

-- each cell's first node, and then the share of each number
unfoldable pub nodes : Plan → ℕ
nodes p = p.seats * p.share + cells p

-- where the cells begin
abbrev pub cells_at : Plan → ℕ
cells_at p = CLAIMS * p.seats

-- where the nodes begin
abbrev pub nodes_at : Plan → ℕ
nodes_at p = cells_at p + CELL_WIDTH * cells p

-- how many words there are
abbrev pub words : Plan → ℕ
words p = nodes_at p + NODE_WIDTH * nodes p

-- the claim word c of the number x
abbrev pub claim_at : ℕ → ℕ → ℕ
claim_at x c = CLAIMS * x + c

-- the version of the cell k
abbrev pub version_at : Plan → ℕ → ℕ
version_at p k = cells_at p + CELL_WIDTH * k

-- the backup of the cell k
abbrev pub backup_at : Plan → ℕ → ℕ
backup_at p k = cells_at p + CELL_WIDTH * k + 1

-- the inline word j of the cell k
abbrev pub inline_at : Plan → ℕ → ℕ → ℕ
inline_at p k j = cells_at p + CELL_WIDTH * k + 2 + j

-- the word j of the node n
abbrev pub node_at : Plan → ℕ → ℕ → ℕ
node_at p n j = nodes_at p + NODE_WIDTH * n + j
