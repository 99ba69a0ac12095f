use Rattle.std.proofs.Common.{rules, subst, sym}
use Rattle.cache_hash.proofs.Ended.{replaced}
use Rattle.cache_hash.specs.Calls.{IsReplaced}
use Rattle.cache_hash.specs.declared.answers.Replace.{Replace}
use Rattle.cache_hash.proofs.replaces.replace.Goals as goal

pub change-told-requires-clause-wide : goal.change-told-requires-clause-wide
change-told-requires-clause-wide c = ((search rules, search rules), record { long = search rules; below = λ j. search rules })

pub returns-clause-replaced : goal.returns-clause-replaced
returns-clause-replaced c = subst (λ (answer : Replace). IsReplaced c.args.key c.args.old c.args.new answer c.args.seat.now c.change-told.new.seat) (sym c.replace_told.ensures)
    (replaced c.change-told.result c.change-told.ensures.ended)
