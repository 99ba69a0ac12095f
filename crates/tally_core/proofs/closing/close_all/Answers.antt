use Rattle.std.proofs.Common.{◌∙◌, ap, length}
use Rattle.step_rules.proofs.Numbers.Sets.{length-count_up}
use Rattle.tally_core.proofs.Gathered.{has_closed, has_scanned}
use Rattle.tally_core.proofs.closing.close_all.Goals as goal

pub close-requires-clause-whole : goal.close-requires-clause-whole
close-requires-clause-whole g c =
    let whole = ap length c.requires.whole ∙ length-count_up 0 c.args.shared.plan.seats in
    ap length (has_scanned c.gather-seat.ensures.gathered whole c.scan.ensures.scanned c.scan.ensures.law).numbers ∙ whole

pub close-requires-clause-quiet : goal.close-requires-clause-quiet
close-requires-clause-quiet g c =
    let whole = ap length c.requires.whole ∙ length-count_up 0 c.args.shared.plan.seats in
    (has_scanned c.gather-seat.ensures.gathered whole c.scan.ensures.scanned c.scan.ensures.law).done.quiet

pub returns : goal.returns
returns g c =
    let whole = ap length c.requires.whole ∙ length-count_up 0 c.args.shared.plan.seats in record {
      closed = has_closed (has_scanned c.gather-seat.ensures.gathered whole c.scan.ensures.scanned c.scan.ensures.law) c.close.ensures.closed;
    }
