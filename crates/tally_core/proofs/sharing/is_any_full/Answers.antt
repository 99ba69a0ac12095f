use Rattle.std.proofs.Common.{◌≡◌, ◌∙◌, ap, arith, false, ⊎_elim}
use Rattle.std.proofs.lemmas.Bool.{cases_lt}
use Rattle.std.proofs.lemmas.List.{get_or-map}
use Rattle.tally_core.specs.Drawing.{Drawer}
use Rattle.tally_core.specs.Tallying.{full_at}
use Rattle.tally_core.proofs.sharing.is_any_full.Goals as goal

pub loop-i-preserved : goal.loop-i-preserved
loop-i-preserved c w l =
    let drawers = c.args.drawers.now in
    let here : full_at drawers c.loop-i.i ≡ false = get_or-map (λ (one : Drawer). one.told.full) drawers c.loop-i.i c.index-drawers-i.result false c.loop-i-test.true
    ∙ c.if-drawers-i.false in
    ⊎_elim (λ before. c.loop-i.invariant w before) (λ at. let same : w ≡ c.loop-i.i = omega (arith, at, l) in ap (full_at drawers) same ∙ here) (cases_lt w c.loop-i.i)
