use Rattle.std.proofs.Common.{◌+◌, ◌-◌, ◌%◌, ◌^◌, refl, sym, arith}
use Rattle.netflow_five.proofs.Counted.{tally_more}
use Rattle.netflow_five.proofs.GapSums.{lost_one, no_reset, none_lost, one_reset}
use Rattle.netflow_five.proofs.tally.add_mark.Goals as goal

pub returns-then-gap-lt-RESET : goal.returns-then-gap-lt-RESET
returns-then-gap-lt-RESET c = λ sent is.
    let gap = (c.args.mark.sequence + (2 ^ 32 - c.args.tally.next)) % 2 ^ 32 in
    tally_more sent c.args.tally _ c.args.mark gap 0 is (omega arith) (sym (lost_one gap (omega arith))) (sym (no_reset gap (omega arith)))
    (omega arith) (omega arith) refl (omega arith) (omega arith) (omega arith)

pub returns-else-gap-lt-RESET : goal.returns-else-gap-lt-RESET
returns-else-gap-lt-RESET c = λ sent is.
    let gap = (c.args.mark.sequence + (2 ^ 32 - c.args.tally.next)) % 2 ^ 32 in
    tally_more sent c.args.tally _ c.args.mark 0 1 is (omega arith) (sym (none_lost gap (omega arith))) (sym (one_reset gap (omega arith)))
    (omega arith) (omega arith) refl (omega arith) (omega arith) refl
