-- A cell that the seat made no change of was changed by another caller, where it names another node than the Back claim's.
use Rattle.std.proofs.Common.{◌≡◌, ◌∙◌, ℕ, ◌/◌, suc, zero, true, List, [], ◌∷◌, ◌++◌, drop, length, refl, sym, ap, subst, arith, inl, ⊎_elim}
use Rattle.std.proofs.lemmas.Bool.{cases_Bool, cases_eq}
use Rattle.std.proofs.lemmas.List.{drop-append-le, get_or-set_other}
use Rattle.chain_links.proofs.Passing.{announced_kept, announced_names, claim_at_low, come_sound}
use Rattle.chain_links.specs.Parts.{HasDone, Part, fills, notes, passes, reads, takes}
use Rattle.chain_links.specs.Walking.{ChangedByAnother, HasBack, HasCome, HasPassed, HasStrayed, IsChangedByAnother, MadeNoChange, NoneOf}
use Rattle.hazard_claims.specs.Claiming.{IsAnnounced}
use Rattle.hazard_claims.specs.declared.claims.Claim.TheVariants.{Walk}
use Rattle.seat_history.specs.declared.entry.Entry.{Entry}
use Rattle.step_rules.specs.Claims.{BACK, On, WALK}
use Rattle.step_rules.specs.History.{NoneBy, NoneOn, cell_of}
use Rattle.step_rules.specs.Kinds.Backup.{Looks}
use Rattle.step_rules.specs.Kinds.Walking.{Walks}
use Rattle.step_rules.specs.SeatData.{SeatData}
use Rattle.step_rules.specs.Sound.{Sound}
use Rattle.step_rules.specs.Views.{claim_of, silent, walked_claim}
use Rattle.step_rules.specs.World.{has}
use Rattle.step_rules.specs.declared.plan.Plan.{Plan}
use Rattle.step_rules.specs.declared.view.Claim.{Claim}
use Rattle.step_rules.specs.declared.view.Held.{Held}
use Rattle.step_rules.specs.declared.view.Kind.TheVariants.{Recheck}
use Rattle.step_rules.specs.declared.view.View.{View}

-- where no entry is on the cell, none is on it by some callers
pub none_of_on : (p : Plan) (k : ℕ) (numbers : List ℕ) (es : List Entry) → NoneOn p k es → NoneOf p k numbers es
none_of_on p k numbers [] none = tt
none_of_on p k numbers (e ∷ r) none = ((λ on. absurd (none.0 on)), none_of_on p k numbers r none.1)

-- and where none is by these callers
none_of_by : (p : Plan) (k : ℕ) (numbers : List ℕ) (es : List Entry) → ((y : ℕ) → has numbers y ≡ true → NoneBy y es) → NoneOf p k numbers es
none_of_by p k numbers [] none = tt
none_of_by p k numbers (e ∷ r) none = (
  (λ on. ⊎_elim (λ is. absurd ((none e.caller is).0 refl)) (λ not. not) (cases_Bool (has numbers e.caller))),
  none_of_by p k numbers r (λ y is. (none y is).1),
)

none_of-append : (p : Plan) (k : ℕ) (numbers : List ℕ) (a b : List Entry) → NoneOf p k numbers a → NoneOf p k numbers b → NoneOf p k numbers (a ++ b)
none_of-append p k numbers [] b h g = g
none_of-append p k numbers (e ∷ a) b h g = (h.0, none_of-append p k numbers a b h.1 g)

-- where an entry is on the cell, and none by these callers, it is another's
some_other : (p : Plan) (k : ℕ) (numbers : List ℕ) (es : List Entry) → NoneOf p k numbers es → ¬ NoneOn p k es → IsChangedByAnother p k numbers es
some_other p k numbers [] none some_on = absurd (some_on tt)
some_other p k numbers (e ∷ r) none some_on = ⊎_elim
    (λ on. record { place = 0; entry = e; at = refl; cell_is = on; another = none.0 on })
    (λ apart. let q = some_other p k numbers r none.1 (λ rest. some_on (apart, rest)) in
    record { place = suc q.place; entry = q.entry; at = q.at; cell_is = q.cell_is; another = q.another })
    (cases_eq (cell_of p e.call) k)

-- the Back claim stays, and still no change of the cell is the seat's
pub record Unchanged (cell : ℕ) (old now : SeatData) : Type 0 where
  pub back : claim_of BACK now.view ≡ claim_of BACK old.view
  pub none : MadeNoChange cell old.view → MadeNoChange cell now.view

unchanged_then : {cell : ℕ} {a b c : SeatData} → Unchanged cell a b → Unchanged cell b c → Unchanged cell a c
unchanged_then p q = record { back = q.back ∙ p.back; none = λ h. q.none (p.none h) }

-- a step that sees nothing new
still : {cell : ℕ} (old now : SeatData) → claim_of BACK now.view ≡ claim_of BACK old.view → now.view.plan ≡ old.view.plan → now.view.numbers ≡ old.view.numbers
    → now.view.seen ≡ old.view.seen → Unchanged cell old now
still {cell} old now back plan numbers seen = record {
  back = back;
  none = λ h. subst (λ (z : Plan × List ℕ × Claim × List Entry). NoneOf z.0 cell z.1 (drop z.2.at z.3)) (λ i. (sym plan i, sym numbers i, sym back i, sym seen i)) h;
}

-- one that is told by an equation
by_same : {cell : ℕ} (old now then : SeatData) → now ≡ then → claim_of BACK then.view ≡ claim_of BACK old.view → then.view.plan ≡ old.view.plan → then.view.numbers ≡ old.view.numbers
    → then.view.seen ≡ old.view.seen → Unchanged cell old now
by_same {cell} old now then same back plan numbers seen = subst (λ (z : SeatData). Unchanged cell old z) (sym same) (still old then back plan numbers seen)

announced_unchanged : {cell : ℕ} (link : ℕ) (old now : SeatData) → IsAnnounced Walk link old now → Unchanged cell old now
announced_unchanged link old now a = still old now (announced_kept link old now a).back
    (ap (λ (z : SeatData). z.view.plan) a) (ap (λ (z : SeatData). z.view.numbers) a) (ap (λ (z : SeatData). z.view.seen) a)

-- a recheck that found Back's node
walked_unchanged : (cell seen found link : ℕ) (old now : SeatData) → Sound old.view → Walks cell seen found link old.view now.view → Unchanged cell old now
walked_unchanged cell seen found link old now sound w = record {
  back = back;
  none = λ _. subst (λ (z : Plan × List ℕ × Claim × List Entry). NoneOf z.0 cell z.1 (drop z.2.at z.3))
      (λ i. ((sym w.after i).plan, (sym w.after i).numbers, sym back i, (sym w.after i).seen))
      (none_of_on old.view.plan cell old.view.numbers (drop (claim_of BACK old.view).at w.log) (w.calm (claim_of BACK old.view) (claim_at_low BACK old.view sound (omega arith))));
}
  where
    back : claim_of BACK now.view ≡ claim_of BACK old.view
    back = ap (λ (z : View). claim_of BACK z) w.after
        ∙ get_or-set_other old.view.claims WALK BACK (walked_claim link cell (length w.log) old.view) (silent 0) (λ e. absurd (omega arith))

passed_unchanged : (cell seen : ℕ) (page : Held) (old now : SeatData) → Sound old.view → HasPassed cell seen page old now → Unchanged cell old now
passed_unchanged cell seen page old now sound h =
    unchanged_then (announced_unchanged page.node old h.announced h.announces)
    (unchanged_then
    (walked_unchanged cell seen h.found page.node h.announced h.rechecked h.announced_sound (h.rechecks.answers.1 page.node (announced_names page.node old h.announced sound h.announces)))
    (by_same h.rechecked now _ h.reads.same refl refl refl refl))

pub come_unchanged : (cell seen n : ℕ) (old now : SeatData) → HasCome cell seen n old now → Unchanged cell old now
come_unchanged cell seen zero old now h = by_same old now _ h.2.same refl refl refl refl
come_unchanged cell seen (suc n) old now h =
    unchanged_then (come_unchanged cell seen n old h.0 h.2) (passed_unchanged cell seen h.1 h.0 now (come_sound cell seen n old h.0 h.2) h.4)

-- the parts of a copy
pub done_unchanged : (cell seen : ℕ) (parts : List Part) (old now : SeatData) → Sound old.view → HasDone cell seen parts old now → Unchanged cell old now
done_unchanged cell seen [] old now sound h = by_same old now old h refl refl refl refl
done_unchanged cell seen (reads page ∷ parts) old now sound h = unchanged_then (by_same old h.0 _ h.1.same refl refl refl refl) (done_unchanged cell seen parts h.0 now h.2 h.3)
done_unchanged cell seen (passes page ∷ parts) old now sound h = unchanged_then (passed_unchanged cell seen page old h.0 sound h.1) (done_unchanged cell seen parts h.0 now h.2 h.3)
done_unchanged cell seen (notes link ∷ parts) old now sound h = unchanged_then (by_same old h.0 _ h.1 refl refl refl refl) (done_unchanged cell seen parts h.0 now h.2 h.3)
done_unchanged cell seen (takes node ∷ parts) old now sound h = unchanged_then (by_same old h.0 _ h.1.same refl refl refl refl) (done_unchanged cell seen parts h.0 now h.2 h.3)
done_unchanged cell seen (fills held ∷ parts) old now sound h = unchanged_then (by_same old h.0 _ h.1.same refl refl refl refl) (done_unchanged cell seen parts h.0 now h.2 h.3)

-- the cell was found to name another node
module _ (cell seen link : ℕ) (old now : SeatData) (b : HasBack cell old.view) (same : b.node ≡ seen / 2) (made : MadeNoChange cell old.view) (s : HasStrayed cell seen link old now) where
  abbrev v : View
  v = s.announced.view

  abbrev y : Claim
  y = claim_of BACK v

  looks : Looks (Recheck WALK cell seen) cell s.found v now.view
  looks = s.rechecks.answers.1

  kept : Unchanged cell old s.announced
  kept = announced_unchanged link old s.announced s.announces

  on : On y b.node
  on = subst (λ (x : Claim). On x b.node) (sym kept.back) b.stands

  cell_is : y.cell ≡ cell
  cell_is = ap (λ (x : Claim). x.cell) kept.back ∙ b.cell_is

  some_on : ¬ NoneOn v.plan cell (drop y.at looks.log)
  some_on = looks.gone BACK b.node y (claim_at_low BACK v s.announced_sound (omega arith)) (inl refl) on cell_is (λ e. s.rechecks.answers.0 (e ∙ same))

  longer : drop y.at looks.log ≡ drop y.at v.seen ++ looks.rest
  longer = ap (drop y.at) looks.seen
      ∙ drop-append-le y.at v.seen looks.rest (s.announced_sound.claims.told BACK b.node y (claim_at_low BACK v s.announced_sound (omega arith)) (inl refl) on).began

  all_none : NoneOf v.plan cell v.numbers (drop y.at looks.log)
  all_none = subst (NoneOf v.plan cell v.numbers) (sym longer)
      (none_of-append v.plan cell v.numbers (drop y.at v.seen) looks.rest (kept.none made) (none_of_by v.plan cell v.numbers looks.rest looks.others))

  pub strayed_another : ChangedByAnother cell now.view
  strayed_another = subst (λ (z : View). ChangedByAnother cell z) (sym looks.after) (some_other v.plan cell v.numbers (drop y.at looks.log) all_none some_on)
