use Rattle.std.proofs.Common.{ℕ, ◌+◌, [], ◌∷◌, ◌++◌, arith, subst, sym}
use Rattle.netflow_five.specs.Next.{ReadTo}
use Rattle.netflow_five.proofs.Files.{one_more}
use Rattle.netflow_five.proofs.Streams.{came_more}
use Rattle.netflow_five.proofs.collecting.collect_front.Goals as goal

pub datagrams-preserved : goal.datagrams-preserved
datagrams-preserved g c =
    let bytes = c.args.bytes.now in
    let at = c.datagrams.at in
    let d = c.in-Ok.datagram.bytes.now in
    let before = c.datagrams.invariant.read in
    let ds = before.0 in
    record {
      read = (
        ds ++ d ∷ [],
        subst (λ (n : ℕ). ReadTo bytes (at + n) (ds ++ d ∷ [])) (sym c.size-at.ensures)
            (one_more bytes at ds d before.1 c.in-Ok.datagram.whole c.in-Ok.ensures.place c.in-Ok.ensures.within),
        came_more g.C.Collector.holds _ _ _ ds (d ∷ []) before.2 c.in_ok-add-in-Ok.ensures.holds,
      );
      span = omega (arith, c.in_ok-add-in-Ok.ensures.span, c.datagrams.invariant.span, c.size-at.ensures);
    }
