use Rattle.std.proofs.Common.{refl, subst}
use Rattle.cache_hash.proofs.Turning.{begins, first_turn, may_ask}
use Rattle.step_rules.specs.Layout.{IsPlan}
use Rattle.cache_hash.proofs.tests.stops.change_until.Goals as goal

pub bucket_cell-cell-requires-clause-plan : goal.bucket_cell-cell-requires-clause-plan
bucket_cell-cell-requires-clause-plan c = subst IsPlan c.requires.ready.ours.plan c.requires.ready.law.sound.plan

pub walk_until-requires : goal.walk_until-requires
walk_until-requires c =
    let b = begins c.args.key c.requires.ready c.requires.some c.requires.left in
    record {
      past = (
        b,
        λ there change come. absurd come,
        may_ask c.requires.removes c.requires.wide refl,
        first_turn b c.bucket_cell-cell.ensures.cell c.claim_versioned-start.ensures.started,
      );
    }
