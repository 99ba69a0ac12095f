use Rattle.std.proofs.Common.{Option, sym, subst}
use Rattle.flow_tally.specs.Input.{feed_shown}
use Rattle.flow_tally.specs.OutShown.{out_shown}
use Rattle.flow_tally.specs.Outcome.{Says}
use Rattle.flow_tally.specs.Words.{Command}
use Rattle.flow_tally.proofs.top.answer.Goals as goal

pub returns-in-Tally-clause-says : goal.returns-in-Tally-clause-says
returns-in-Tally-clause-says g c =
    let F = g.F.Feed in
    let O = g.O.Sink in
    let feed = feed_shown F.files F.faults F.failed F.current F.started F.left F.given c.args.feed.now c.tally.new.feed in
    let out = out_shown O.faults O.taken O.writes c.args.out.now c.tally.new.out in
    subst (λ (asked : Option Command). Says asked feed out c.tally.result.closed c.tally.result.status) (sym c.in-Tally.ensures) c.tally.ensures.says
