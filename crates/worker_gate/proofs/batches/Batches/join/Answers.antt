use Rattle.std.proofs.Common.{◌∙◌, ap, arith, sym}
use Rattle.worker_gate.specs.Seats.{BatchSeatData, BatchesData}
use Rattle.worker_gate.proofs.Shares.{joins}
use Rattle.worker_gate.proofs.batches.Batches.join.Goals as goal

pub join_seat-requires : goal.join_seat-requires
join_seat-requires c = let object = sym (ap (λ (b : BatchesData). b.object) c.self.view_is) in let v = c.into.inside.inner in let w = c.from.inside.inner in (
  ap (λ (s : BatchSeatData). s.object) c.into.view_is ∙ (c.requires.ours.object ∙ object),
  ap (λ (s : BatchSeatData). s.object) c.from.view_is ∙ (c.requires.theirs.object ∙ object),
  c.from.invariant.0,
  omega (arith, c.self.invariant.1),
  joins c.self.inside.table.shared.key v.id v.me.0 w.id w.me.0 c.into.invariant.1 c.from.invariant.1 c.into.invariant.2.some_number,
)
