use Rattle.std.proofs.Common.{refl, sym, ap, ◌∙◌, subst, arith, true, false}
use Rattle.seat_history.specs.declared.call.Call.{Call}
use Rattle.seat_history.specs.declared.reply.Reply.{Reply}
use Rattle.step_rules.proofs.Rely.Owed.{meets, stand_call}
use Rattle.step_rules.proofs.Line.Records.{else_holding}
use Rattle.step_rules.specs.Holding.{holds_after}
use Rattle.step_rules.proofs.Ties.Tied.{lawful, whole_stood}
use Rattle.step_rules.specs.Kinds.Standing.{MayStand}
use Rattle.step_rules.specs.SeatData.{SeatData}
use Rattle.step_rules.proofs.steps.stand.stand_told.Goals as goal

pub load-requires : goal.load-requires
load-requires g c =
    let s = c.shared.invariant in
    let t = g.T.Telling in
    let m = meets c.seat.view_is c.shared.view_is c.requires.ours c.shared.invariant.2 c.shared.invariant.3 in
    let may = subst (λ (d : SeatData). MayStand g.P.Place.place c.args.call c.args.reply d.view) (sym c.seat.view_is) c.requires.may.stand in (
      m.table,
      (let seats = s.0.seats in let count = s.3 in omega arith),
      stand_call _ _ _ _ _ c.seat.invariant.0.sound.some_number m.key_is g.P.Place.place t.call t.reply
          (subst (λ (z : Call × Reply). MayStand g.P.Place.place z.0 z.1 c.seat.inside.inner.me.0) (λ k. (c.requires.told.0 k, c.requires.told.1 k)) may),
    )

pub invariant_of-seat : goal.invariant_of-seat
invariant_of-seat g c = let told = c.load.ensures.2 in
    whole_stood c.seat.inside c.seat.invariant c.load.new.seat told.0 told.1 g.P.Place.place g.T.Telling.call g.T.Telling.reply true (told.2 refl)
    (sym (ap (holds_after c.seat.inside.holds_record) (sym c.requires.told.0 ∙ c.in-Hold.is)))

pub invariant_of-seat-in-Release : goal.invariant_of-seat-in-Release
invariant_of-seat-in-Release g c = let told = c.load.ensures.2 in
    whole_stood c.seat.inside c.seat.invariant c.load.new.seat told.0 told.1 g.P.Place.place g.T.Telling.call g.T.Telling.reply false (told.2 refl)
    (sym (ap (holds_after c.seat.inside.holds_record) (sym c.requires.told.0 ∙ c.in-Release.is)))

pub invariant_of-seat-in_default : goal.invariant_of-seat-in_default
invariant_of-seat-in_default g c = let told = c.load.ensures.2 in
    whole_stood c.seat.inside c.seat.invariant c.load.new.seat told.0 told.1 g.P.Place.place g.T.Telling.call g.T.Telling.reply _ (told.2 refl)
    (else_holding c.seat.inside.holds_record c.args.call c.in_default.not-Hold c.in_default.not-Release ∙ ap (holds_after c.seat.inside.holds_record) c.requires.told.0)

pub returns-in-Hold-clause-law : goal.returns-in-Hold-clause-law
returns-in-Hold-clause-law g c = lawful (record c.seat.inside { inner = c.load.new.seat; fresh = false; holds_record = true }) (invariant_of-seat g c)

pub returns-in-Release-clause-law : goal.returns-in-Release-clause-law
returns-in-Release-clause-law g c = lawful (record c.seat.inside { inner = c.load.new.seat; fresh = false; holds_record = false }) (invariant_of-seat-in-Release g c)

pub returns-in_default-clause-law : goal.returns-in_default-clause-law
returns-in_default-clause-law g c = lawful (record c.seat.inside { inner = c.load.new.seat; fresh = false }) (invariant_of-seat-in_default g c)
