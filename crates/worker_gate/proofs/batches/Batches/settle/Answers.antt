use Rattle.std.proofs.Common.{◌∙◌, ap, arith, sym}
use Rattle.worker_gate.specs.Seats.{BatchesData}
use Rattle.worker_gate.proofs.Keeps.{settles}
use Rattle.worker_gate.proofs.batches.Batches.settle.Goals as goal

pub load-requires : goal.load-requires
load-requires c = let t = c.self.inside.table.shared in let inner = c.args.inner.now in (
  c.requires.ours.0 ∙ sym (ap (λ (b : BatchesData). b.object) c.self.view_is),
  omega (arith, c.self.invariant.1),
  settles t.key t.table_id.slots inner.id inner.me (c.requires.ours.1 ∙ (sym (ap (λ (b : BatchesData). b.plan) c.self.view_is) ∙ c.self.invariant.0)) c.requires.numbered,
)
