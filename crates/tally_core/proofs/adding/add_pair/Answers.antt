use Rattle.std.proofs.Common.{rules, subst}
use Rattle.cache_hash.specs.Calls.{IsUpdated}
use Rattle.cache_hash.specs.declared.answers.Update.TheVariants.{Done as UpdateDone, Full as UpdateFull}
use Rattle.tally_core.proofs.Attempts.{update_done, update_full, updated_as}
use Rattle.tally_core.specs.Attempts.{PutsMerged}
use Rattle.tally_core.proofs.adding.add_pair.Goals as goal

pub returns-in-Done-clause-added : goal.returns-in-Done-clause-added
returns-in-Done-clause-added c added was = update_done (c.args.key, c.args.value) c.in-Done.ensures.ready (search rules) was
    (subst (λ key. IsUpdated key (PutsMerged c.args.value) (UpdateDone c.in-Done.there) c.args.seat.now c.update.new.seat) c.words_of_key.ensures
    (updated_as {wider = PutsMerged c.args.value} (λ there val puts. search rules) c.in-Done.ensures.updated))

pub returns-in-Full-clause-added : goal.returns-in-Full-clause-added
returns-in-Full-clause-added c added was = update_full (c.args.key, c.args.value) c.in-Full.ensures.ready (search rules) was
    (subst (λ key. IsUpdated key (PutsMerged c.args.value) (UpdateFull c.in-Full.need c.in-Full.free) c.args.seat.now c.update.new.seat) c.words_of_key.ensures
    (updated_as {wider = PutsMerged c.args.value} (λ there val puts. search rules) c.in-Full.ensures.updated))
