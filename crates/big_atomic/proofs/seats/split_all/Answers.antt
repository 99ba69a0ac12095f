use Rattle.std.proofs.Common.{◌∙◌, arith, ap, reverse, subst, sym}
use Rattle.big_atomic.proofs.Sharing.{SplitSoFar, split_more, split_whole}
use Rattle.big_atomic.proofs.seats.split_all.Goals as goal

pub loop-alloc-preserved : goal.loop-alloc-preserved
loop-alloc-preserved c =
    let split = c.in_ok-split_last.ensures in
    let many = c.loop-alloc-test.true in
    let test = c.numbers.ensures in
    subst (SplitSoFar c.args.shared.now c.args.seat c.split_last.new.seat) (sym c.in_ok-push.ensures.items)
    (split_more c.args.shared.now c.args.seat c.loop-alloc.first c.split_last.new.seat c.in_ok-split_last.field-0 c.loop-alloc.seats.items c.loop-alloc.invariant split.split
    (omega arith) split.ready.0 split.ready.1)

pub returns : goal.returns
returns c =
    let few = c.loop-alloc-test.false in
    let test = c.numbers.ensures in record {
      split = split_whole c.args.shared.now c.args.seat c.loop-alloc.first c.loop-alloc.seats.items c.reverse.new.self.items c.loop-alloc.invariant (omega arith)
          (c.reverse.ensures.items ∙ ap reverse c.in_ok-push-2.ensures.items);
    }
