use Rattle.std.proofs.Common.{◌≡◌, ◌∙◌, ◌+◌, ◌++◌, ◌∷◌, [], append-nil, append_assoc, ap, arith, false, length, length-append, subst, sym, take, true}
use Rattle.std.proofs.lemmas.List.{length-take, take_more}
use Rattle.flow_fold.specs.Flows.{Flows}
use Rattle.flow_fold.specs.declared.key.Key.{Key}
use Rattle.flow_fold.specs.declared.value.Value.{Value}
use Rattle.step_rules.specs.Layout.{IsPlan}
use Rattle.tally_core.proofs.SeatStands.{stays_on}
use Rattle.tally_core.specs.Attempts.{IsAdding}
use Rattle.tally_core.proofs.adding.add_pairs.Goals as goal

abbrev none : Key × Value
none = (record { k0 = 0; k1 = 0 }, record { packets = 0; octets = 0; first = 0; last = 0; flags = 0 })

pub loop-i-init : goal.loop-i-init
loop-i-init c = record {
  adding = λ added was. subst (λ (l : Flows). IsAdding c.args.shared.now l false c.args.seat.now) (sym (append-nil added)) was;
  stays = record { numbers = Rattle.std.proofs.Common.refl; first = Rattle.std.proofs.Common.refl };
}

pub add_pair-requires : goal.add_pair-requires
add_pair-requires c =
    let added = c.requires.adding.0 in
    let front = take c.loop-i.i c.args.pairs.now in record {
      adding = (
        added ++ front,
        c.reclaim_many.ensures.adding (added ++ front) (c.loop-i.invariant.adding added c.requires.adding.1),
        omega (arith, c.requires.adding.2, length-append added front, length-take c.loop-i.i c.args.pairs.now, c.loop-i-test.true),
      );
    }

pub loop-i-preserved : goal.loop-i-preserved
loop-i-preserved c =
    let front = take c.loop-i.i c.args.pairs.now in record {
      adding = λ added was.
          subst (λ (l : Flows). IsAdding c.args.shared.now l false c.add_pair.new.seat)
          (append_assoc added front _ ∙ ap (λ (l : Flows). added ++ l) (sym (take_more c.args.pairs.now c.loop-i.i none c.loop-i-test.true)))
          (c.if-not-add_pair.ensures.added (added ++ front) (c.reclaim_many.ensures.adding (added ++ front) (c.loop-i.invariant.adding added was)));
      stays = stays_on (stays_on c.loop-i.invariant.stays c.reclaim_many.ensures.stays) c.if-not-add_pair.ensures.stays;
    }

pub returns-then-not-add_pair-clause-added : goal.returns-then-not-add_pair-clause-added
returns-then-not-add_pair-clause-added c = λ added was. record {
  count = c.loop-i.i;
  within = omega (arith, c.loop-i-test.true);
  adding =
      let front = take c.loop-i.i c.args.pairs.now in
      subst (λ (l : Flows). IsAdding c.args.shared.now l true c.add_pair.new.seat)
      (append_assoc added front _ ∙ ap (λ (l : Flows). added ++ l) (sym (take_more c.args.pairs.now c.loop-i.i none c.loop-i-test.true)))
      (c.if-not-add_pair.ensures.added (added ++ front) (c.reclaim_many.ensures.adding (added ++ front) (c.loop-i.invariant.adding added was)));
  all = λ e. let h : true ≡ false = e in absurd cc;
}

pub returns-clause-added : goal.returns-clause-added
returns-clause-added c = λ added was. record {
  count = c.loop-i.i;
  within = omega (arith, c.loop-i.auto.i-end);
  adding =
      let same : c.loop-i.i ≡ c.loop-i.i + 0 = omega arith in
      subst (λ n. IsAdding c.args.shared.now (added ++ take n c.args.pairs.now) false c.loop-i.seat) same (c.loop-i.invariant.adding added was);
  all = λ _. omega (arith, c.loop-i-test.false, c.loop-i.auto.i-end);
}

pub reclaim_many-requires : goal.reclaim_many-requires
reclaim_many-requires c = record {
  adding = (c.requires.adding.0 ++ take c.loop-i.i c.args.pairs.now, c.loop-i.invariant.adding c.requires.adding.0 c.requires.adding.1);
}

pub load_pairs_ahead-requires : goal.load_pairs_ahead-requires
load_pairs_ahead-requires c =
    let ready = (c.loop-i.invariant.adding c.requires.adding.0 c.requires.adding.1).ready in record {
      plan = subst IsPlan ready.ours.plan ready.law.sound.plan;
      some = (c.loop-i.invariant.adding c.requires.adding.0 c.requires.adding.1).some;
    }
