use Rattle.std.proofs.Common.{◌∙◌, arith, refl, rules, subst, sym}
use Rattle.std.proofs.lemmas.List.{take_more}
use Rattle.stock_room.proofs.Putting.{none_put}
use Rattle.stock_room.specs.Stock.{HasStocked}
use Rattle.stock_room.specs.declared.orders.Lot.{Lot}
use Rattle.stock_room.proofs.orders.put_all.Goals as goal

pub loop-lot-init : goal.loop-lot-init
loop-lot-init c = let changes = c.requires.unused.changes in
    (none_put c.args.shared.now c.args.seat c.requires.room c.requires.unused, omega (arith, changes), record { numbers = refl; first = refl })

pub loop-lot-preserved : goal.loop-lot-preserved
loop-lot-preserved c =
    let i = c.loop-lot.invariant in
    let e = c.if-not-put_in.ensures in
    let none : Lot = record { item = record { k0 = 0; k1 = 0 }; amount = 0 } in (
      subst (λ lots. HasStocked c.args.shared.now lots c.put_in.new.seat) (sym (take_more c.args.items.now c.loop-lot.lot-index none c.loop-lot-test.true)) (e.stocked (search rules) _ i.0),
      (let spends = e.spends in let left = i.1 in omega (arith, spends, left)),
      record { numbers = e.stays.numbers ∙ i.2.numbers; first = e.stays.first ∙ i.2.first },
    )
