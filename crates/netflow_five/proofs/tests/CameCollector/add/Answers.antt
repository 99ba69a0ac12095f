use Rattle.std.proofs.Common.{ap, length, arith}
use Rattle.std.proofs.lemmas.List.{length-append}
use Rattle.netflow_five.specs.File.{joined}
use Rattle.netflow_five.proofs.Files.{joined_push}
use Rattle.netflow_five.proofs.tests.CameCollector.add.Goals as goal

pub returns-clause-holds : goal.returns-clause-holds
returns-clause-holds c = λ before had.
    let d = c.args.datagram.now.bytes.now in
    omega (arith, had, c.size.ensures, ap length (joined_push before d), length-append (joined before) d)
