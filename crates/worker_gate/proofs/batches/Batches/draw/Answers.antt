use Rattle.std.proofs.Common.{◌∙◌, ap, arith, sym}
use Rattle.worker_gate.specs.Seats.{BatchesData}
use Rattle.worker_gate.proofs.Keeps.{draws}
use Rattle.worker_gate.proofs.batches.Batches.draw.Goals as goal

pub fetch_add-requires : goal.fetch_add-requires
fetch_add-requires c = let t = c.self.inside.table.shared in let inner = c.args.inner.now in (
  c.requires.ours.0 ∙ sym (ap (λ (b : BatchesData). b.object) c.self.view_is),
  omega (arith, c.self.invariant.1),
  draws t.key t.table_id.slots inner.id inner.me (c.requires.ours.1 ∙ (sym (ap (λ (b : BatchesData). b.plan) c.self.view_is) ∙ c.self.invariant.0)) c.requires.numbered c.requires.pending.0,
)
