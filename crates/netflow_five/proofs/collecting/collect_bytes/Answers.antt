use Rattle.std.proofs.Common.{◌≡◌, Option, Some, length, subst, arith}
use Rattle.netflow_five.specs.Next.{StopsAt}
use Rattle.netflow_five.specs.declared.malformed.Malformed.{Malformed as Cause}
use Rattle.netflow_five.specs.declared.refused.Refused.TheVariants.{Malformed}
use Rattle.netflow_five.proofs.Files.{all_read, bad_here, only_memory}
use Rattle.netflow_five.proofs.collecting.collect_bytes.Goals as goal

pub returns-in-None-clause-ok : goal.returns-in-None-clause-ok
returns-in-None-clause-ok g c =
    let bytes = c.args.bytes.now in
    let at = c.in_ok-front.front.at in
    let front = c.in_ok-front.ensures.front in
    let end : at ≡ length bytes = subst (λ (o : Option Cause). StopsAt bytes at o) c.in-None.is c.in_ok-front.ensures.stops in
    (front.0, all_read bytes at front.0 front.1 (omega arith), front.2)

pub returns-in-Some-clause-err : goal.returns-in-Some-clause-err
returns-in-Some-clause-err g c =
    let bytes = c.args.bytes.now in
    let at = c.in_ok-front.front.at in
    let front = c.in_ok-front.ensures.front in
    let stops : StopsAt bytes at (Some c.in-Some.cause) = subst (λ (o : Option Cause). StopsAt bytes at o) c.in-Some.is c.in_ok-front.ensures.stops in
    bad_here bytes at front.0 c.in-Some.cause front.1 stops.0 stops.1

pub returns-in-Some-clause-only_memory : goal.returns-in-Some-clause-only_memory
returns-in-Some-clause-only_memory g c =
    only_memory c.args.bytes.now (Malformed c.in_ok-front.front.at c.in-Some.cause) (returns-in-Some-clause-err g c)
