use Rattle.std.proofs.Common.{◌≡◌, ◌+◌, ◌∷◌, arith, ap, drop, get_or}
use Rattle.std.proofs.lemmas.List.Sums.{sum_by-cons}
use Rattle.seat_history.specs.declared.call.Call.TheVariants.{Load}
use Rattle.seat_history.specs.declared.entry.Entry.{Entry}
use Rattle.step_rules.specs.Records.{removes_of}
use Rattle.tally_core.proofs.Begun.{few_removes}
use Rattle.tally_core.proofs.Coming.{drop_one}
use Rattle.tally_core.specs.Workers.{removes_in}
use Rattle.tally_core.proofs.opening.count_removes.Goals as goal

pub overflow_add-count : goal.overflow_add-count
overflow_add-count c =
    let rest = drop (c.loop-line.line-index + 1) c.args.lines.now in
    let line : Entry = get_or c.args.lines.now c.loop-line.line-index (record { caller = 0; call = Load 0 }) in
    let first : drop c.loop-line.line-index c.args.lines.now ≡ line ∷ rest = drop_one c.args.lines.now c.loop-line.line-index _ c.loop-line-test.true in
    omega (
      arith,
      c.loop-line.invariant,
      ap removes_in first,
      sum_by-cons (λ (z : Entry). removes_of z.call) line rest,
      few_removes c.args.lines.now,
      c.requires.few,
      c.removes_of-count.ensures,
    )
