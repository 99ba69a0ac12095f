use Rattle.std.proofs.Common.{◌∙◌, refl, subst}
use Rattle.cache_hash.proofs.Ended.{ended_as}
use Rattle.cache_hash.proofs.Updating.{updated}
use Rattle.cache_hash.proofs.Progress.{going_of}
use Rattle.cache_hash.proofs.Turning.{begins, first_turn, next_turn, turn_smaller}
use Rattle.step_rules.specs.Layout.{IsPlan}
use Rattle.cache_hash.proofs.updates.update.Goals as goal

pub bucket_cell-cell-requires-clause-plan : goal.bucket_cell-cell-requires-clause-plan
bucket_cell-cell-requires-clause-plan g c = subst IsPlan c.requires.ready.ours.plan c.requires.ready.law.sound.plan

pub turns-init : goal.turns-init
turns-init g c =
    let b = begins c.args.key c.requires.ready c.requires.some c.requires.left in
    (b, refl, λ there change come. absurd come, first_turn b c.bucket_cell-cell.ensures.cell c.claim_versioned-start.ensures.started)

pub try_update-requires-clause-past : goal.try_update-requires-clause-past
try_update-requires-clause-past g c = let i = c.turns.invariant in (i.0, i.2, i.3)

pub returns-in-Ends : goal.returns-in-Ends
returns-in-Ends g c =
    let i = c.turns.invariant in
    let t = c.in-Ends.ensures.turned i.0 i.2 i.3 in
    let e = t.turned in record {
      ready = e.0;
      updated = updated c.in-Ends.told c.update_told.ensures (t.same ∙ i.1) (ended_as t.by e.1.1);
    }

pub claim_versioned-start-requires-in-turns-clause-ours : goal.claim_versioned-start-requires-in-turns-clause-ours
claim_versioned-start-requires-in-turns-clause-ours g c =
    let i = c.turns.invariant in
    let t = c.in-Moved.ensures.turned i.0 i.2 i.3 in
    going_of t.turned.so_far.going

pub turns-smaller : goal.turns-smaller
turns-smaller g c =
    let i = c.turns.invariant in
    let t = c.in-Moved.ensures.turned i.0 i.2 i.3 in
    turn_smaller i.3 t.same t.turned c.claim_versioned-start-in-turns.ensures.started

pub turns-preserved : goal.turns-preserved
turns-preserved g c =
    let i = c.turns.invariant in
    let t = c.in-Moved.ensures.turned i.0 i.2 i.3 in
    (t.now, t.same ∙ i.1, t.by, next_turn t.turned c.claim_versioned-start-in-turns.ensures.started)
