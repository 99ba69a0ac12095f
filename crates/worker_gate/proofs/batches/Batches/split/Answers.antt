use Rattle.std.proofs.Common.{◌<◌, ◌∙◌, ap, arith, subst, sym, length}
use Rattle.worker_gate.specs.Seats.{BatchSeatData, BatchesData}
use Rattle.worker_gate.proofs.Shares.{splits}
use Rattle.worker_gate.proofs.batches.Batches.split.Goals as goal

pub split_seat-inner-requires : goal.split_seat-inner-requires
split_seat-inner-requires c = let t = c.self.inside.table.shared in let v = c.seat.inside.inner.me.0 in (
  ap (λ (s : BatchSeatData). s.object) c.seat.view_is ∙ (c.requires.ours.object ∙ sym (ap (λ (b : BatchesData). b.object) c.self.view_is)),
  omega (arith, c.self.invariant.1),
  splits t.key c.seat.inside.inner.id v (ap (λ (s : BatchSeatData). s.view.fresh) c.seat.view_is ∙ c.requires.fresh)
      (subst (λ (s : BatchSeatData). 1 < length s.view.numbers) (sym c.seat.view_is) c.requires.more),
)
