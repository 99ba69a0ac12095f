use Rattle.std.proofs.Common.{◌+◌, ◌*◌, ◌≤◌, ◌<◌, ◌^◌, ℕ, ◌∙◌, arith}
use Rattle.std.specs.Mem.Slots.{slots_items}
use Rattle.seat_history.specs.Plain.{found_in}
use Rattle.seat_history.specs.declared.words.TheConstants.{WIDTH}
use Rattle.step_rules.proofs.Order.LastChains.{ends_empty, ends_last, goes_on, node_room, not_past, starts}
use Rattle.step_rules.proofs.Numbers.Places.{there_at}
use Rattle.step_rules.specs.declared.layout.TheConstants.{NODE_WIDTH}
use Rattle.step_rules.proofs.last_chains.read_chain.Goals as goal

pub loop-turn-init : goal.loop-turn-init
loop-turn-init c chain is = starts (slots_items c.args.words.now.words) c.args.start c.args.nodes c.args.first (found_in c.args.map.now) chain is

-- the node's words are there
module _ (c : goal.In-loop-turn) where
  room : (count : ℕ) → c.args.start + NODE_WIDTH * c.args.nodes ≤ count → c.args.start + NODE_WIDTH * c.loop-turn.node + NODE_WIDTH ≤ count
  room count wide = let chain = c.requires.chain in node_room chain.1 (c.loop-turn.invariant chain.0 chain.1) count wide

  small : c.args.start + NODE_WIDTH * c.loop-turn.node + NODE_WIDTH < 2 ^ 32
  small = let s = c.requires.small in let r = room (c.args.start + NODE_WIDTH * c.args.nodes) (omega arith) in omega arith

pub overflow_mul-place : goal.overflow_mul-place
overflow_mul-place c = let s = small c in omega arith

pub overflow_add-place : goal.overflow_add-place
overflow_add-place c = let s = small c in omega arith

pub overflow_add-place-in-loop-turn : goal.overflow_add-place-in-loop-turn
overflow_add-place-in-loop-turn c = let s = small c in omega arith

pub word-next-requires : goal.word-next-requires
word-next-requires c = let r = room c _ c.requires.wide in (omega arith, c.requires.full)

pub returns-then-next : goal.returns-then-next
returns-then-next c = record {
  read = λ chain is. ends_empty is (c.loop-turn.invariant chain is)
      (there_at (slots_items c.args.words.now.words) (c.args.start + NODE_WIDTH * c.loop-turn.node + WIDTH) c.word-next.result 0 c.word-next.ensures ∙ c.if-next.true);
}

pub pair_at-requires-clause-there : goal.pair_at-requires-clause-there
pair_at-requires-clause-there c = let chain = c.requires.chain in
    let r = node_room chain.1 (c.loop-turn.invariant chain.0 chain.1) _ c.requires.wide in omega arith

pub returns-then-next-eq0 : goal.returns-then-next-eq0
returns-then-next-eq0 c = record {
  read = λ chain is. ends_last is (c.loop-turn.invariant chain is) c.pair_at.result.0 c.pair_at.result.1 (found_in c.insert.new.self)
      (there_at (slots_items c.args.words.now.words) (c.args.start + NODE_WIDTH * c.loop-turn.node + WIDTH) c.word-next.result 0 c.word-next.ensures ∙ c.if-next-eq0.true)
      c.pair_at.ensures.pair c.in_ok-insert.ensures.ok;
}

pub loop-turn-preserved : goal.loop-turn-preserved
loop-turn-preserved c chain is = goes_on is (c.loop-turn.invariant chain is) c.word-next.result c.pair_at.result.0 c.pair_at.result.1 (found_in c.insert.new.self)
    (there_at (slots_items c.args.words.now.words) (c.args.start + NODE_WIDTH * c.loop-turn.node + WIDTH) c.word-next.result 0 c.word-next.ensures)
    c.if-next.false c.if-next-eq0.false c.pair_at.ensures.pair c.in_ok-insert.ensures.ok

pub returns : goal.returns
returns c = record { read = λ chain is. absurd (not_past is (c.loop-turn.invariant chain is) c.loop-turn-test.false) }
