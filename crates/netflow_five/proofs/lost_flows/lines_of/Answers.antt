use Rattle.std.proofs.Common.{◌≡◌, subst, rules}
use Rattle.std.specs.Prelude.{map}
use Rattle.netflow_five.specs.Losses.{IsLosses}
use Rattle.netflow_five.proofs.Tallying.{entry_line, losses_from}
use Rattle.netflow_five.proofs.lost_flows.lines_of.Goals as goal

pub returns : goal.returns
returns c = λ marks h.
    let all : map entry_line c.args.tallies.now.entries ≡ c.of_vec.result = search rules in
    subst (IsLosses marks) all (losses_from marks c.args.tallies.now c.len.ensures.ordered h)
