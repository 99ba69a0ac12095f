use Rattle.std.proofs.Common.{◌∙◌, ◌++◌, ap, length, rules, subst, sym}
use Rattle.step_rules.proofs.Numbers.Sets.{length-count_up}
use Rattle.step_rules.specs.declared.plan.Plan.{Plan}
use Rattle.stock_room.proofs.Putting.{first_taken, kept}
use Rattle.stock_room.specs.Stock.{HasStocked}
use Rattle.stock_room.proofs.session.run.Goals as goal

pub join_all-requires-clause-first : goal.join_all-requires-clause-first
join_all-requires-clause-first g c = c.in-Some.ensures.stays.first ∙ (first_taken c.in-Ok-split_all.seats.items c.remove-first.new.self.items c.remove-first.result
    c.in-Ok.ensures.built.1 c.in-Ok-split_all.ensures.split (search rules) c.remove-first.ensures.value c.remove-first.ensures.items).0

pub join_all-requires-clause-theirs : goal.join_all-requires-clause-theirs
join_all-requires-clause-theirs g c = λ i d l. (c.in_ok-workers.ensures.stocked i d l).quiet

pub close-closed-requires-clause-whole : goal.close-closed-requires-clause-whole
close-closed-requires-clause-whole g c =
    let built = c.in-Ok.ensures.built.1 in
    let taken = first_taken c.in-Ok-split_all.seats.items c.remove-first.new.self.items c.remove-first.result built c.in-Ok-split_all.ensures.split (search rules)
    c.remove-first.ensures.value c.remove-first.ensures.items in
    ap length (c.join_all.ensures.joined.numbers ∙ ((λ i. c.in-Some.ensures.stays.numbers i ++ c.in_ok-workers.ensures.back.numbers i) ∙ taken.1))
    ∙ (length-count_up 0 _ ∙ ap (λ (p : Plan). p.seats) (sym built.plan))

pub returns : goal.returns
returns g c = kept c.in-Ok.shared c.args.asked.now.items.items c.in-Some.keeper c.in_ok-workers.workers.items c.join_all.new.first c.close-closed.result c.in-Ok-pairs.pairs
    (subst (λ items. HasStocked c.in-Ok.shared items c.in-Some.keeper) c.deref.ensures.value c.in-Some.ensures.stocked) c.in_ok-workers.ensures.stocked
    c.join_all.ensures.joined.stands c.close-closed.ensures.law c.close-closed.ensures.closed c.in-Ok-pairs.ensures.pairs
