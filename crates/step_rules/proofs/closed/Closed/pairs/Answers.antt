use Rattle.std.proofs.Common.{◌≡◌, ℕ, ◌+◌, ◌*◌, ◌/◌, suc, get_or, length, IfOk, subst, sym, ap, ◌∙◌, arith}
use Rattle.std.specs.Mem.Slots.{slots_items}
use Rattle.seat_history.specs.History.{state_at}
use Rattle.seat_history.specs.Pairs.{ArePairsOf}
use Rattle.seat_history.specs.Plain.{found_in}
use Rattle.step_rules.proofs.Order.LastChains.{all_values, bucket_values}
use Rattle.step_rules.proofs.Numbers.Places.{there_at}
use Rattle.step_rules.specs.Closing.{ClosedData, HasBucket, IsChainAt, with_records}
use Rattle.step_rules.specs.History.{IsHistory}
use Rattle.step_rules.specs.Layout.{backup_at, cells_at, nodes, nodes_at}
use Rattle.step_rules.specs.Records.{records_at, records_of}
use Rattle.step_rules.specs.declared.closed.Closed.TheInside.{Inside}
use Rattle.step_rules.specs.declared.layout.TheConstants.{CELL_WIDTH}
use Rattle.step_rules.proofs.closed.Closed.pairs.Goals as goal

-- the chain of a bucket, as the words that are read tell it
bucket_chain : (s : Inside) (b count x : ℕ) → s.cells_start ≡ cells_at s.plan → s.nodes_start ≡ nodes_at s.plan → count ≡ nodes s.plan
    → (has : HasBucket s.plan (slots_items s.words.words) s.last.view.seen b)
    → get_or (slots_items s.words.words) (s.cells_start + CELL_WIDTH * (s.plan.registers + b) + 1) 0 ≡ x → IsChainAt (slots_items s.words.words) s.nodes_start count (x / 2) has.chain
bucket_chain s b count x cells_is nodes_is count_is has found =
    let word : get_or (slots_items s.words.words) (backup_at s.plan (s.plan.registers + b)) 0 ≡ x =
    (λ i. get_or (slots_items s.words.words) (sym cells_is i + CELL_WIDTH * (s.plan.registers + b) + 1) 0) ∙ found in
    subst (λ (z : ℕ × ℕ × ℕ). IsChainAt (slots_items s.words.words) z.0 z.1 (z.2 / 2) has.chain) (λ i. (sym nodes_is i, sym count_is i, word i)) has.at

pub read_chain-requires-clause-chain : goal.read_chain-requires-clause-chain
read_chain-requires-clause-chain c =
    let k = c.self.invariant in
    let has = k.2.bucket c.loop-bucket.bucket (let t = c.loop-bucket-test.true in omega arith) in
    let count = c.nodes-nodes.ensures ∙ ap (λ (z : ClosedData). nodes z.plan) (sym c.self.view_is) in
    let found = there_at (slots_items c.self.inside.words.words) _ c.word-backup.result 0 c.word-backup.ensures in
    (has.chain, bucket_chain c.self.inside c.loop-bucket.bucket _ c.word-backup.result k.6 k.7 count has found)

pub loop-bucket-preserved : goal.loop-bucket-preserved
loop-bucket-preserved c =
    let k = c.self.invariant in
    let b = c.loop-bucket.bucket in
    let has = k.2.bucket b (let t = c.loop-bucket-test.true in omega arith) in
    let count = c.nodes-nodes.ensures ∙ ap (λ (z : ClosedData). nodes z.plan) (sym c.self.view_is) in
    let found = there_at (slots_items c.self.inside.words.words) _ c.word-backup.result 0 c.word-backup.ensures in
    let chain = bucket_chain c.self.inside b _ c.word-backup.result k.6 k.7 count has found in
    let next : suc b ≡ b + 1 = omega arith in
    c.in_ok-read_chain.ensures.read has.chain chain
    ∙ (ap (λ f. with_records f (records_of has.chain)) c.loop-bucket.invariant
    ∙ (ap (λ rs. with_records (bucket_values c.args.self.now.plan c.args.self.now.history b) rs)
    (has.records ∙ ap (λ (z : ClosedData). records_at z.plan z.history (z.plan.registers + b)) c.self.view_is)
    ∙ ap (bucket_values c.args.self.now.plan c.args.self.now.history) next))

pub returns-clause-pairs : goal.returns-clause-pairs
returns-clause-pairs c =
    let k = c.self.invariant in
    let z = c.args.self.now in
    let end : c.loop-bucket.bucket ≡ c.self.inside.plan.buckets = let t = c.loop-bucket-test.false in let e = c.loop-bucket.auto.bucket-end in omega arith in
    let all : found_in c.loop-bucket.map ≡ (state_at z.history (length z.history)).values =
    c.loop-bucket.invariant
    ∙ (ap (bucket_values z.plan z.history) (end ∙ ap (λ (d : ClosedData). d.plan.buckets) c.self.view_is)
    ∙ (λ i n. all_values z.plan z.history n (subst (λ (d : ClosedData). IsHistory d.plan d.history) c.self.view_is k.8) i)) in
    subst (λ f. IfOk c.into_pairs.result (λ pairs. ArePairsOf f pairs)) all c.into_pairs.ensures.pairs
