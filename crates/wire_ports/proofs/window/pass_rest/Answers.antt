use Rattle.std.proofs.Common.{◌++◌, arith}
use Rattle.std.proofs.lemmas.List.{length-append}
use Rattle.wire_ports.proofs.FeedMoments.{given_more, given_to_end, ends_later}
use Rattle.wire_ports.proofs.window.pass_rest.Goals as goal

pub returns-in-Err-clause-end : goal.returns-in-Err-clause-end
returns-in-Err-clause-end g c =
    let before = c.pieces.invariant.read in
    ends_later c.pieces.passed c.args.most _ c.in-Err.end before.2 before.1 c.pieces.invariant.few c.in-Err.ensures.end

pub pieces-preserved : goal.pieces-preserved
pieces-preserved g c =
    let before = c.pieces.invariant.read in
    let more = c.in-Ok.ensures.read in
    record {
      few = omega (arith, c.in-Ok.ensures.most, c.pieces.invariant.few);
      read = (before.0 ++ more.bytes, omega (arith, before.1, more.count, length-append before.0 more.bytes), given_more before.2 more.given);
    }

pub returns-in-Ok-eq0-clause-rest : goal.returns-in-Ok-eq0-clause-rest
returns-in-Ok-eq0-clause-rest g c =
    let before = c.pieces.invariant.read in
    let more = c.in-Ok-eq0.ensures.read in
    record {
      bytes = before.0;
      count = before.1;
      given = (given_to_end before.2 more c.in-Ok-eq0.field-0-test).0;
      at_end = more.at_end c.in-Ok-eq0.field-0-test;
    }
