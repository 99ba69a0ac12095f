use Rattle.std.proofs.Common.{ℕ, ◌<◌, false, sym, ◌∙◌, subst, ⊎_elim}
use Rattle.step_rules.proofs.Rely.Owed.{meets, recheck_call}
use Rattle.step_rules.proofs.Ties.Tied.{data_of, lawful, whole_rechecked, whole_walked}
use Rattle.atomic_table.specs.Seated.{TableId}
use Rattle.step_rules.specs.Claims.{Tells}
use Rattle.step_rules.specs.Kinds.Claiming.{Rechecks}
use Rattle.step_rules.specs.Kinds.Walking.{MayRecheck, WalkRechecks}
use Rattle.step_rules.specs.Layout.{backup_at, cells}
use Rattle.step_rules.specs.SeatData.{SeatData}
use Rattle.step_rules.specs.Steps.{IsRechecked, IsWalked, stepped}
use Rattle.step_rules.specs.declared.plan.Plan.{Plan}
use Rattle.step_rules.specs.declared.seat.Seat.TheInside.{Inside}
use Rattle.step_rules.proofs.steps.claim.recheck_told.Goals as goal

-- a seat as contracts see it, of this object
abbrev data_at : Inside → TableId → SeatData
data_at s object = record (data_of s) { object = object }

pub load-requires : goal.load-requires
load-requires g c =
    let r = g.R.Rechecking in
    let v = c.seat.inside.inner.me.0 in
    let m = meets c.seat.view_is c.shared.view_is c.requires.ours c.shared.invariant.2 c.shared.invariant.3 in
    let may = subst (λ (d : SeatData). MayRecheck c.args.claim c.args.cell c.args.seen d.view) (sym c.seat.view_is) c.requires.may in (
      m.table,
      m.within _ c.backup_place-place.ensures.1,
      recheck_call _ _ _ _ _ c.seat.invariant.0.sound.some_number m.key_is r.claim c.args.cell r.seen
          (m.at (λ p. backup_at p c.args.cell) _ c.backup_place-place.ensures.0)
          (subst (λ (p : Plan). c.args.cell < cells p) m.plan c.requires.there)
          (subst (λ (z : ℕ × ℕ). MayRecheck z.0 c.args.cell z.1 v) (λ i. (c.requires.told.0 i, c.requires.told.1 i)) may),
    )

pub invariant_of-seat : goal.invariant_of-seat
invariant_of-seat g c =
    let r = g.R.Rechecking in
    let v = c.seat.inside.inner.me.0 in
    let at = (meets c.seat.view_is c.shared.view_is c.requires.ours c.shared.invariant.2 c.shared.invariant.3).at (λ p. backup_at p c.args.cell) _ c.backup_place-place.ensures.0 in
    let given = subst (λ (d : SeatData). MayRecheck c.args.claim c.args.cell c.args.seen d.view) (sym c.seat.view_is) c.requires.may in
    let may = subst (λ (z : ℕ × ℕ). MayRecheck z.0 c.args.cell z.1 v) (λ i. (c.requires.told.0 i, c.requires.told.1 i)) given in
    ⊎_elim
    (λ tells. let told = c.load.ensures.2.0 tells in
    whole_rechecked c.seat.inside c.seat.invariant c.load.new.seat told.0 told.1 r.claim c.args.cell r.seen c.load.result tells (may.named tells) (told.2 c.args.cell at))
    (λ walk. let w = may.walks walk in
    let told = c.load.ensures.2.1 walk w.0 w.1.named in
    whole_walked c.seat.inside c.seat.invariant c.load.new.seat told.0 told.1 c.args.cell r.seen c.load.result w.0 w.1.named (told.2 c.args.cell at))
    may.claim

pub returns-clause-told : goal.returns-clause-told
returns-clause-told g c tells =
    let r = g.R.Rechecking in
    let s = c.seat.inside in
    let v = s.inner.me.0 in
    let at = (meets c.seat.view_is c.shared.view_is c.requires.ours c.shared.invariant.2 c.shared.invariant.3).at (λ p. backup_at p c.args.cell) _ c.backup_place-place.ensures.0 in
    let told = c.load.ensures.2.0 (subst (λ (x : ℕ). Tells x) c.requires.told.0 tells) in
    subst (λ (d : SeatData). IsRechecked c.args.claim c.args.cell c.args.seen c.load.result d (stepped c.load.new.seat.me.0 (data_at s c.load.new.seat.table_id))) c.seat.view_is (record {
      rechecks = subst (λ (z : ℕ × ℕ). Rechecks z.0 c.args.cell z.1 c.load.result v c.load.new.seat.me.0) (λ i. (sym c.requires.told.0 i, sym c.requires.told.1 i)) (told.2 c.args.cell at);
      same = λ i. stepped c.load.new.seat.me.0 (data_at s (c.load.ensures.0 i));
    })

pub returns-clause-walked : goal.returns-clause-walked
returns-clause-walked g c walk =
    let r = g.R.Rechecking in
    let s = c.seat.inside in
    let v = s.inner.me.0 in
    let at = (meets c.seat.view_is c.shared.view_is c.requires.ours c.shared.invariant.2 c.shared.invariant.3).at (λ p. backup_at p c.args.cell) _ c.backup_place-place.ensures.0 in
    subst (λ (d : SeatData). IsWalked c.args.cell c.args.seen c.load.result d (stepped c.load.new.seat.me.0 (data_at s c.load.new.seat.table_id))) c.seat.view_is (record {
      walks = λ n named. subst (λ (z : ℕ). WalkRechecks c.args.cell z c.load.result n v c.load.new.seat.me.0) (sym c.requires.told.1)
          ((c.load.ensures.2.1 (sym c.requires.told.0 ∙ walk) n named).2 c.args.cell at);
      same = λ i. stepped c.load.new.seat.me.0 (data_at s (c.load.ensures.0 i));
    })

pub returns-clause-law : goal.returns-clause-law
returns-clause-law g c = lawful (record c.seat.inside { inner = c.load.new.seat; fresh = false }) (invariant_of-seat g c)
