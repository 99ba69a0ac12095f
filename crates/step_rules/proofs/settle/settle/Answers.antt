use Rattle.std.proofs.Common.{◌<◌, ◌∙◌, ap, subst, sym, ℕ}
use Rattle.step_rules.specs.SeatData.{ObjectData}
use Rattle.step_rules.proofs.Rely.Owed.{settle_call}
use Rattle.step_rules.proofs.World.Sizes.{some_word}
use Rattle.step_rules.proofs.settle.settle.Goals as goal

pub load-requires : goal.load-requires
load-requires c = let t = c.shared.inside.table.shared in let k = c.shared.invariant in (
  c.requires.ours.0 ∙ sym (ap (λ (o : ObjectData). o.object) c.shared.view_is),
  subst (λ (n : ℕ). 0 < n) (sym k.3) (some_word c.shared.inside.plan k.0),
  settle_call t.key t.table_id.slots c.args.inner.now.id c.args.inner.now.me 0 c.requires.numbered
      (c.requires.ours.1 ∙ (sym (ap (λ (o : ObjectData). o.plan) c.shared.view_is) ∙ k.2)),
)
