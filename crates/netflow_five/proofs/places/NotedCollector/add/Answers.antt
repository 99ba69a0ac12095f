use Rattle.std.proofs.Common.{◌∙◌, ℕ, List, length, ap, arith}
use Rattle.std.proofs.lemmas.List.{length-append}
use Rattle.netflow_five.specs.File.{joined}
use Rattle.netflow_five.proofs.Files.{joined_push, one_place_more}
use Rattle.netflow_five.proofs.places.NotedCollector.add.Goals as goal

pub returns-clause-holds : goal.returns-clause-holds
returns-clause-holds c = λ before had.
    let d = c.args.datagram.now.bytes.now in (
      ◌∙◌ {A = List (ℕ × ℕ)} c.in_ok-push.ensures.items (one_place_more before d c.args.self.now.items.items c.args.self.now.end c.count.result had.0 had.1 c.count.ensures),
      omega (arith, had.1, c.size.ensures, ap length (joined_push before d), length-append (joined before) d),
    )
