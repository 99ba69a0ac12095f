use Rattle.std.proofs.Common.{◌≡◌, ◌<◌, length, ℕ, ◌+◌, ◌*◌, ◌/◌, get_or, length-set, subst, sym, ◌∙◌, arith}
use Rattle.std.proofs.lemmas.List.{ext_get_or}
use Rattle.std.specs.Mem.Slots.{slots_items, slots_counts}
use mathlib.Core.Option.{some}
use lib.ListN.{get_elem?}
use Rattle.seat_history.specs.History.{state_at}
use Rattle.seat_history.specs.declared.words.TheConstants.{WIDTH}
use Rattle.step_rules.specs.Closing.{ClosedData, EndsWith}
use Rattle.step_rules.specs.Layout.{cells_at}
use Rattle.step_rules.specs.declared.closed.Closed.TheInside.{Inside}
use Rattle.step_rules.specs.declared.layout.TheConstants.{CELL_WIDTH, NODE_WIDTH}
use Rattle.step_rules.proofs.Line.Closings.{RegisterAt, read_more, register_at}
use Rattle.step_rules.proofs.World.Sizes.{node_within, words_fit}
use Rattle.step_rules.proofs.closed.Closed.register.Goals as goal

-- a closed object as contracts see it
abbrev data_of : Inside → ClosedData
data_of s = record { plan = s.plan; history = s.last.view.seen; stands = s.last.view.stands; free = s.free.items; retired = s.retired.items }

at_word : (s : Inside) (seen : ClosedData) (reg x : ℕ) → EndsWith s.plan (slots_items s.words.words) s.last.view.seen → s.cells_start ≡ cells_at s.plan → data_of s ≡ seen
    → reg < seen.plan.registers
    → get_elem? (slots_items s.words.words) (s.cells_start + CELL_WIDTH * reg + 1) ≡ some x → RegisterAt s.plan (slots_items s.words.words) s.last.view.seen reg (x / 2)
at_word s seen reg x ends start is there found = register_at s.plan (slots_items s.words.words) s.last.view.seen reg (s.cells_start + CELL_WIDTH * reg + 1) x ends
    (subst (λ (z : ClosedData). reg < z.plan.registers) (sym is) there) (λ i. start i + CELL_WIDTH * reg + 1) found

pub overflow_mul-first : goal.overflow_mul-first
overflow_mul-first c = let k = c.self.invariant in let few = k.4 in
    let there = (at_word c.self.inside c.args.self.now c.args.reg c.word-backup.result k.2 k.6 c.self.view_is c.requires c.word-backup.ensures).there in omega arith

pub overflow_add-first : goal.overflow_add-first
overflow_add-first c = let k = c.self.invariant in
    let there = (at_word c.self.inside c.args.self.now c.args.reg c.word-backup.result k.2 k.6 c.self.view_is c.requires c.word-backup.ensures).there in let start = k.7 in
    let place = node_within c.self.inside.plan (c.word-backup.result / 2) 0 there (omega arith) in let fit = words_fit c.self.inside.plan k.5 k.4 in omega arith

pub overflow_add-first-in-loop-j : goal.overflow_add-first-in-loop-j
overflow_add-first-in-loop-j c = let k = c.self.invariant in
    let there = (at_word c.self.inside c.args.self.now c.args.reg c.word-backup.result k.2 k.6 c.self.view_is c.requires c.word-backup.ensures).there in let start = k.7 in
    let j = c.loop-j-test.true in
    let place = node_within c.self.inside.plan (c.word-backup.result / 2) c.loop-j.j there (omega arith) in let fit = words_fit c.self.inside.plan k.5 k.4 in omega arith

pub word-requires : goal.word-requires
word-requires c = let k = c.self.invariant in
    let there = (at_word c.self.inside c.args.self.now c.args.reg c.word-backup.result k.2 k.6 c.self.view_is c.requires c.word-backup.ensures).there in let start = k.7 in
    let j = c.loop-j-test.true in
    let place = node_within c.self.inside.plan (c.word-backup.result / 2) c.loop-j.j there (omega arith) in let wide = k.2.wide in let count = (slots_counts c.self.inside.words.words).0 in
    (omega arith, k.0)

pub loop-j-preserved : goal.loop-j-preserved
loop-j-preserved c = let k = c.self.invariant in let i = c.loop-j.invariant in let j = c.loop-j-test.true in let wide = i.wide in record {
  below = omega arith;
  wide = length-set c.loop-j.rec c.loop-j.j c.word.result ∙ i.wide;
  read = read_more c.loop-j.rec ((state_at c.args.self.now.history (length c.args.self.now.history)).registers c.args.reg) c.loop-j.j c.word.result (omega arith)
      (subst (λ (z : ClosedData). c.word.result ≡ get_or ((state_at z.history (length z.history)).registers c.args.reg) c.loop-j.j 0) c.self.view_is
      ((at_word c.self.inside c.args.self.now c.args.reg c.word-backup.result k.2 k.6 c.self.view_is c.requires c.word-backup.ensures).words c.loop-j.j c.word.result (omega arith)
      (subst (λ n. get_elem? (slots_items c.self.inside.words.words) (n + NODE_WIDTH * (c.word-backup.result / 2) + c.loop-j.j) ≡ some c.word.result) k.7 c.word.ensures)))
      i.read;
}

pub returns : goal.returns
returns c = let k = c.self.invariant in let i = c.loop-j.invariant in let below = i.below in let end = c.loop-j-test.false in let wide = i.wide in
    let want = subst (λ (z : ClosedData). length ((state_at z.history (length z.history)).registers c.args.reg) ≡ WIDTH) c.self.view_is (k.2.record_wide c.args.reg) in
    ext_get_or 0 c.loop-j.rec ((state_at c.args.self.now.history (length c.args.self.now.history)).registers c.args.reg) (i.wide ∙ sym want) (λ n lt. i.read n (omega arith))
