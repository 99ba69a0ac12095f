use Rattle.std.proofs.Common.{rules, subst, sym}
use Rattle.cache_hash.proofs.Ended.{inserted}
use Rattle.cache_hash.specs.Calls.{IsInserted}
use Rattle.cache_hash.specs.declared.answers.Insert.{Insert}
use Rattle.cache_hash.proofs.inserts.insert.Goals as goal

pub change-told-requires-clause-wide : goal.change-told-requires-clause-wide
change-told-requires-clause-wide c = ((search rules, search rules), record { long = search rules; below = λ j. search rules })

pub returns-clause-inserted : goal.returns-clause-inserted
returns-clause-inserted c = subst (λ (answer : Insert). IsInserted c.args.key c.args.val answer c.args.seat.now c.change-told.new.seat) (sym c.insert_told.ensures)
    (inserted c.change-told.result c.change-told.ensures.ended)
