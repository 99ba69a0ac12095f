-- How large objects are.
use Rattle.std.proofs.Common.{◌≡◌, ℕ, ◌+◌, ◌*◌, ◌<◌, ◌≤◌, ◌-◌, ◌^◌, refl, arith, mul-le-mul}
use Rattle.step_rules.specs.Layout.{IsPlan, cells, node_at, nodes, words}
use Rattle.step_rules.specs.declared.layout.TheConstants.{MOST_NODES, NODE_WIDTH}
use Rattle.step_rules.specs.declared.plan.Plan.{Plan}

-- there is a word
pub some_word : (p : Plan) → IsPlan p → 0 < words p
some_word p is = let s = is.seats.0 in omega arith

-- there are at least as many nodes as cells, and the others are the shares
pub nodes_parts : (p : Plan) → nodes p ≡ p.seats * p.share + cells p
unfolding nodes
nodes_parts p = refl

-- the shares of all numbers
pub own_count : (p : Plan) → nodes p - cells p ≡ p.seats * p.share
own_count p = omega (arith, nodes_parts p)

-- a node's words are there
pub node_within : (p : Plan) (n j : ℕ) → n < nodes p → j < NODE_WIDTH → node_at p n j < words p
node_within p n j there inside = omega arith

-- no object has more words than this
pub words_fit : (p : Plan) → IsPlan p → nodes p ≤ MOST_NODES → words p < 2 ^ 32
words_fit p is few = let seats = is.seats.1 in let registers = is.registers in let buckets = is.buckets in omega arith

-- a node's number is small
pub nodes_low : (p : Plan) → IsPlan p → nodes p < 2 ^ 32
unfolding nodes
nodes_low p plan = let s = plan.seats in let h = plan.share in let r = plan.registers in let b = plan.buckets in
    let m : p.seats * p.share ≤ 64 * 2 ^ 22 = mul-le-mul (s.1) (h.1) in omega arith
