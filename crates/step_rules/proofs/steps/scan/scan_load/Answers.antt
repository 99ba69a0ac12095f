use Rattle.std.proofs.Common.{◌≡◌, ◌≢◌, false, ◌+◌, suc, ◌*◌, ◌<◌, ◌++◌, ℕ, List, cond, eqb, length, sym, ap, ◌∙◌, subst, arith}
use Rattle.step_rules.proofs.Rely.Owed.{meets, scan_call}
use Rattle.step_rules.proofs.Ties.Scanned.{freed_then, last_word, scanned_last, whole_freed, whole_noted}
use Rattle.step_rules.proofs.Ties.Tied.{lawful, within_room}
use Rattle.step_rules.specs.Kinds.Claiming.{MayScan}
use Rattle.step_rules.specs.SeatData.{ObjectData, SeatData}
use Rattle.step_rules.specs.declared.layout.TheConstants.{CLAIMS}
use Rattle.step_rules.specs.declared.plan.Plan.{Plan}
use Rattle.step_rules.proofs.steps.scan.scan_load.Goals as goal

pub load-found-requires : goal.load-found-requires
load-found-requires c =
    let s = c.shared.invariant in
    let m = meets c.seat.view_is c.shared.view_is c.requires.ours c.shared.invariant.2 c.shared.invariant.3 in
    let may = subst (λ (d : SeatData). MayScan c.args.word d.view) (sym c.seat.view_is) c.requires.may in (
      m.table,
      (let there : c.args.word < CLAIMS * c.shared.inside.plan.seats = subst (λ (p : Plan). c.args.word < CLAIMS * p.seats) (m.key_is ∙ sym s.2) may.0 in let count = s.3 in omega arith),
      scan_call _ _ _ _ _ c.seat.invariant.0.sound.some_number m.key_is may,
    )

pub part-requires-clause-room : goal.part-requires-clause-room
part-requires-clause-room c =
    let s = c.seat.inside in
    let t = c.seat.invariant.0 in
    let l = t.long in
    let r = t.room_free in
    omega (arith, within_room s.first s.inner.me.0 t.sound, ap (length {A = ℕ}) c.seat.invariant.4)

pub invariant_of-seat : goal.invariant_of-seat
invariant_of-seat c =
    let told = c.load-found.ensures.2 in
    let w = c.args.word in
    let last = last_word _ _ w
    (ap (λ (o : ObjectData). o.plan) c.shared.view_is ∙ (meets c.seat.view_is c.shared.view_is c.requires.ours c.shared.invariant.2 c.shared.invariant.3).plan) c.if-seat-shared.true in
    let put = c.part.ensures in
    whole_freed c.seat.inside c.seat.invariant w c.load-found.result c.old_end-seat-inside.result c.note.new.list (record {
      end = c.old_end-seat-inside.ensures ∙ ap (λ (l : List ℕ). cond (eqb c.args.word 0) (length l) c.seat.inside.scan_old) c.deref.ensures.value;
      named = c.note.ensures.named;
      long = c.note.ensures.long;
    })
    c.load-found.new.seat told.0 told.1 (told.2.2 last) c.part.new.free c.part.new.retired c.part.new.found put.free put.room_free put.room_retired put.retired put.found
    (put.room_found ∙ c.note.ensures.capacity)

pub returns-then-seat-shared-clause-seat : goal.returns-then-seat-shared-clause-seat
returns-then-seat-shared-clause-seat c =
    let told = c.load-found.ensures.2 in
    let w = c.args.word in
    let last = last_word _ _ w
    (ap (λ (o : ObjectData). o.plan) c.shared.view_is ∙ (meets c.seat.view_is c.shared.view_is c.requires.ours c.shared.invariant.2 c.shared.invariant.3).plan) c.if-seat-shared.true in
    scanned_last c.seat.inside c.load-found.new.seat c.part.new.free.items w c.load-found.result _ c.seat.view_is c.load-found.ensures.0 last (told.2.2 last)
    (c.part.ensures.free ∙ ap (λ l. c.seat.inside.free.items ++ l)
    (freed_then c.seat.inside c.seat.invariant w c.load-found.result c.old_end-seat-inside.result c.note.new.list (record {
      end = c.old_end-seat-inside.ensures ∙ ap (λ (l : List ℕ). cond (eqb c.args.word 0) (length l) c.seat.inside.scan_old) c.deref.ensures.value;
      named = c.note.ensures.named;
      long = c.note.ensures.long;
    })))

-- not the last word
not_last : (p q : Plan) (w : ℕ) → p ≡ q → w < CLAIMS * q.seats → (w + 1 ≡ CLAIMS * p.seats → ⊥) → suc w < CLAIMS * q.seats
not_last p q w same inside ne = let e = ap (λ (z : Plan). CLAIMS * z.seats) same in let n : w + 1 ≢ CLAIMS * q.seats = λ t. ne (t ∙ sym e) in omega arith

pub invariant_of-seat-else-seat-shared : goal.invariant_of-seat-else-seat-shared
invariant_of-seat-else-seat-shared c =
    let told = c.load-found.ensures.2 in
    let w = c.args.word in
    let may = subst (λ (d : SeatData). MayScan w d.view) (sym c.seat.view_is) c.requires.may in
    let on = not_last _ _ w
    (ap (λ (o : ObjectData). o.plan) c.shared.view_is ∙ (meets c.seat.view_is c.shared.view_is c.requires.ours c.shared.invariant.2 c.shared.invariant.3).plan) may.0 c.if-seat-shared.false in
    whole_noted c.seat.inside c.seat.invariant w c.load-found.result c.old_end-seat-inside.result c.note.new.list (record {
      end = c.old_end-seat-inside.ensures ∙ ap (λ (l : List ℕ). cond (eqb c.args.word 0) (length l) c.seat.inside.scan_old) c.deref.ensures.value;
      named = c.note.ensures.named;
      long = c.note.ensures.long;
    })
    c.load-found.new.seat told.0 told.1 (told.2.1 on) c.note.ensures.capacity

pub returns-then-seat-shared-clause-law : goal.returns-then-seat-shared-clause-law
returns-then-seat-shared-clause-law c = lawful (record c.seat.inside {
  inner = c.load-found.new.seat;
  fresh = false;
  free = c.part.new.free;
  retired = c.part.new.retired;
  scan_next = 0;
  scan_old = 0;
  scan_found = c.part.new.found;
}) (invariant_of-seat c)

pub returns-else-seat-shared-clause-law : goal.returns-else-seat-shared-clause-law
returns-else-seat-shared-clause-law c = lawful (record c.seat.inside {
  inner = c.load-found.new.seat;
  fresh = false;
  scan_next = c.args.word + 1;
  scan_old = c.old_end-seat-inside.result;
  scan_found = c.note.new.list;
}) (invariant_of-seat-else-seat-shared c)
