use Rattle.std.proofs.Common.{rules, subst, sym}
use Rattle.cache_hash.proofs.Ended.{removed}
use Rattle.cache_hash.specs.Calls.{IsRemoved}
use Rattle.cache_hash.specs.declared.answers.Remove.{Remove}
use Rattle.cache_hash.proofs.removes.remove.Goals as goal

pub change-told-requires-clause-wide : goal.change-told-requires-clause-wide
change-told-requires-clause-wide c = (search rules, search rules)

pub returns-clause-removed : goal.returns-clause-removed
returns-clause-removed c = subst (λ (answer : Remove). IsRemoved c.args.key answer c.args.seat.now c.change-told.new.seat) (sym c.remove_told.ensures)
    (removed c.change-told.result c.change-told.ensures.ended)
