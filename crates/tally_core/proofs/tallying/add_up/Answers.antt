use Rattle.std.proofs.Common.{◌≡◌, ap, arith, length}
use Rattle.tally_core.proofs.OnObject.{all_found, more_found, too_many}
use Rattle.tally_core.proofs.tallying.add_up.Goals as goal

pub returns-then-up : goal.returns-then-up
returns-then-up g c = too_many c.in_ok-up.ensures.added c.if-up.true

pub returns-then-as_slice-flows : goal.returns-then-as_slice-flows
returns-then-as_slice-flows g c =
    let long : length c.as_slice.result.now ≡ length c.in_ok-found.found = ap length c.as_slice.ensures in
    more_found c.in_ok-up.ensures.added c.if-up.false c.in_ok-found.found c.in_ok-found.ensures.flows (omega (arith, long, c.if-as_slice-flows.true))

pub returns : goal.returns
returns g c =
    let long : length c.as_slice.result.now ≡ length c.in_ok-found.found = ap length c.as_slice.ensures in (
      all_found c.in_ok-up.ensures.added c.if-up.false c.in_ok-found.found c.in_ok-found.ensures.flows,
      omega (arith, long, c.if-as_slice-flows.false),
    )
