use Rattle.std.proofs.Common.{◌+◌, length-set, drop, sym, ◌∙◌, arith}
use Rattle.std.proofs.lemmas.List.{get_or-drop}
use Rattle.std.specs.Mem.Slots.{slots_items, slots_counts}
use Rattle.step_rules.proofs.Line.Closings.{read_more}
use Rattle.step_rules.proofs.Order.LastChains.{pair_read}
use Rattle.step_rules.proofs.Numbers.Places.{there_at}
use Rattle.step_rules.proofs.last_chains.pair_at.Goals as goal

pub loop-j-preserved : goal.loop-j-preserved
loop-j-preserved c =
    let i = c.loop-j.invariant in
    let wide = i.wide in
    let j = c.loop-j-test.true in
    let ws = slots_items c.args.words.now.words in record {
      below = omega arith;
      wide = length-set c.loop-j.val c.loop-j.j c.word-in-loop-j.result ∙ i.wide;
      read = λ k lt. read_more c.loop-j.val (drop (c.args.first + 2) ws) c.loop-j.j c.word-in-loop-j.result (omega arith)
          (sym (get_or-drop (c.args.first + 2) ws c.loop-j.j 0 ∙ there_at ws (c.args.first + 2 + c.loop-j.j) c.word-in-loop-j.result 0 c.word-in-loop-j.ensures))
          (λ m below. i.read m below ∙ sym (get_or-drop (c.args.first + 2) ws m 0)) k lt ∙ get_or-drop (c.args.first + 2) ws k 0;
    }

pub returns : goal.returns
returns c =
    let i = c.loop-j.invariant in
    let below = i.below in
    let end = c.loop-j-test.false in
    let room = c.requires.there in
    let ws = slots_items c.args.words.now.words in
    let count = (slots_counts c.args.words.now.words).0 in record {
      pair = pair_read ws c.args.first (record { k0 = c.word.result; k1 = c.word-2.result }) c.loop-j.val (omega arith)
          (sym (there_at ws c.args.first c.word.result 0 c.word.ensures)) (sym (there_at ws (c.args.first + 1) c.word-2.result 0 c.word-2.ensures)) i.wide
          (λ k lt. i.read k (omega arith));
    }
