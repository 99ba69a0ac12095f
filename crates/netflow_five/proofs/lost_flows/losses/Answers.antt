use Rattle.std.proofs.Common.{List, ap, length-take, subst, sym, take, arith}
use Rattle.std.specs.BTreeMap.{get, is_at}
use Rattle.std.specs.Map.{lookup}
use Rattle.std.proofs.lemmas.List.{take_more}
use Rattle.netflow_five.specs.Engines.{engine_cmp}
use Rattle.netflow_five.specs.Tallies.{HasTallied}
use Rattle.netflow_five.specs.declared.seq_mark.SeqMark.{SeqMark}
use Rattle.netflow_five.proofs.Tallying.{tallied_none}
use Rattle.netflow_five.proofs.lost_flows.losses.Goals as goal

pub loop-mark-init : goal.loop-mark-init
loop-mark-init c = tallied_none (get engine_cmp c.new-tallies.result) (λ engine. ap (lookup (is_at (engine_cmp engine))) c.new-tallies.ensures.empty)

pub add-requires : goal.add-requires
add-requires c =
    let before : List SeqMark = take c.loop-mark.mark-index c.args.marks.now in
    let size = length-take c.loop-mark.mark-index c.args.marks.now in
    record { few = (before, c.loop-mark.invariant, omega arith) }

pub loop-mark-preserved : goal.loop-mark-preserved
loop-mark-preserved c =
    let i = c.loop-mark.mark-index in
    let marks = c.args.marks.now in
    let nothing : SeqMark = record { engine_type = 0; engine_id = 0; sequence = 0; count = 0 } in
    subst (λ (ms : List SeqMark). HasTallied ms (get engine_cmp c.add.new.tallies)) (sym (take_more marks i nothing c.loop-mark-test.true))
    (c.in_ok-add.ensures (take i marks) c.loop-mark.invariant)
