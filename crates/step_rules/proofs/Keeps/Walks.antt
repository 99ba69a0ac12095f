-- RECHECK of a claim on Walk keeps the rule.
use Rattle.std.proofs.Common.{◌≡◌, ◌≢◌, ℕ, ◌/◌, ◌<◌, List, [], length, drop, refl, sym, ap, ◌∙◌, subst, arith, ⊎_elim, inl}
use Rattle.std.proofs.lemmas.Bool.{cases_eq}
use mathlib.Core.Option.{none, some, some-injective}
use lib.ListN.{get_elem?}
use Rattle.atomic_table.specs.Table.{step, Allows}
use Rattle.seat_history.specs.declared.entry.Entry.{Entry}
use Rattle.step_rules.specs.Cells.{IsCell}
use Rattle.step_rules.specs.Claims.{BACK, Tells, WALK}
use Rattle.step_rules.specs.History.{NoneOn}
use Rattle.step_rules.specs.Kinds.Walking.{MayWalk, Walks, WalkRechecks}
use Rattle.step_rules.specs.Layout.{backup_at, cells, nodes}
use Rattle.step_rules.specs.Nodes.{IsNode}
use Rattle.step_rules.specs.Plays.{Mine, walked}
use Rattle.step_rules.specs.Rule.{Holds, backup_word}
use Rattle.step_rules.specs.Views.{claimed_pages, silent, walked_claim, walked_view, words_in}
use Rattle.step_rules.specs.World.{Chained, World, Live, Own, Retired}
use Rattle.step_rules.specs.declared.plan.Plan.{Plan}
use Rattle.step_rules.specs.declared.view.Claim.{Claim}
use Rattle.step_rules.specs.declared.view.Held.{Held}
use Rattle.step_rules.specs.declared.view.Kind.TheVariants.{Recheck}
use Rattle.step_rules.specs.declared.view.View.{View}
use Rattle.step_rules.proofs.World.Chains.{chained_at}
use Rattle.step_rules.proofs.Rely.Claimed.{MayBecome, standing_may}
use Rattle.step_rules.proofs.World.Frames.{backup_is, one_cell}
use Rattle.step_rules.proofs.Order.Fronts.{chained_once}
use Rattle.step_rules.proofs.Keeps.Claiming.{stands_then}
use Rattle.step_rules.proofs.Rely.Moments.{Made, Moment, load_owed, moment, seat, world}
use Rattle.step_rules.proofs.Ties.Owns.{words_at}
use Rattle.step_rules.proofs.Numbers.Places.{there_at}
use Rattle.step_rules.proofs.Rely.Seeing.{seeing, sees, sees_falls, sees_recent, sees_told}
use Rattle.step_rules.proofs.Numbers.Sets.{at_has}

pub walk_tells : Tells WALK → ⊥
walk_tells tells = ⊎_elim (λ q. omega arith) (λ q. omega arith) tells

module _ (m : Moment) (k y n : ℕ) (inside : k < cells m.view.plan) (may_walk : MayWalk k y n m.view) (same : backup_word m.view.plan m.ws k / 2 ≡ y / 2) where
  abbrev p : Plan
  p = m.view.plan

  abbrev W : World
  W = world m

  abbrev v : View
  v = m.view

  abbrev log : List Entry
  log = m.unwritten.log

  abbrev pub walking_view : View
  walking_view = walked_view n k y (backup_word p m.ws k) log v

  cell : IsCell p W k
  cell = m.rule.cells.cell k inside

  -- Back stands on the cell's node
  same_back : W.backup may_walk.back.cell / 2 ≡ y / 2
  same_back = ap (λ j. W.backup j / 2) may_walk.cell ∙ same

  -- the chain is still the one that Back stands on
  chain_is : W.chain k ≡ claimed_pages v
  chain_is = subst (λ j. W.chain j ≡ may_walk.back.pages) may_walk.cell ((seat m).claims.pages BACK (y / 2) may_walk.back may_walk.claimed (inl refl) may_walk.stands same_back)
      ∙ ap (λ (z : Claim). z.pages) (sym (there_at v.claims BACK may_walk.back (silent 0) may_walk.claimed))

  page : (i : ℕ) × (g : Held) × (get_elem? (claimed_pages v) i ≡ some g) × (g.node ≡ n)
  page = at_has (claimed_pages v) n may_walk.page

  chained : Chained W (Live k) (claimed_pages v) 0
  chained = subst (λ l. Chained W (Live k) l 0) chain_is cell.chained

  words : words_in (claimed_pages v) n ≡ page.1.words
  words = words_at n (claimed_pages v) page.0 page.1 (chained_once W (Live k) (claimed_pages v) chained) page.2 page.3

  node : IsNode p page.1
  node = cell.node page.0 page.1 (ap (λ l. get_elem? l page.0) chain_is ∙ page.2)

  facts : (W.class page.1.node ≡ Live k) × (W.node page.1.node ≡ page.1.words)
  facts = chained_at W (Live k) (claimed_pages v) 0 page.0 page.1 chained page.2

  class_is : W.class n ≡ Live k
  class_is = ap W.class (sym page.3) ∙ facts.0

  may : MayBecome p W m.id WALK log (walked_claim n k (length log) v)
  may = standing_may p W m.id WALK log n (words_in (claimed_pages v) n) k [] (length log)
      (subst (λ j. j < nodes p) page.3 node.there)
      (ap length words ∙ node.wide)
      (ap W.node (sym page.3) ∙ (facts.1 ∙ sym words))
      (λ tells. absurd (walk_tells tells))
      (λ t own. absurd (let q : Live k ≡ Own t = sym class_is ∙ own in cc))
      (λ t gone. absurd (let q : Live k ≡ Retired t = sym class_is ∙ gone in cc))
      (λ tells. absurd (walk_tells tells))
      (λ tells. absurd (walk_tells tells))
      (λ tells. absurd (walk_tells tells))

  pub walk_made : Made m m.ws walking_view
  walk_made = stands_then m WALK k y (walked_claim n k (length log) v) inside (omega arith) (λ e. omega arith) may may_walk.named

  pub walk_told : Walks k y (backup_word p m.ws k) n v walking_view
  walk_told = let seen = (seat m).seen in record {
    log = log;
    after = refl;
    rest = seen.rest;
    seen = seen.whole;
    recent = sees_recent m (Recheck WALK k y) k inside;
    calm = λ b e. subst (λ (z : Claim). NoneOn p k (drop z.at log)) (some-injective may_walk.back b (sym may_walk.claimed ∙ e))
        (subst (λ j. NoneOn p j (drop may_walk.back.at log)) may_walk.cell ((seat m).claims.calm BACK (y / 2) may_walk.back may_walk.claimed (inl refl) may_walk.stands same_back));
    falls = sees_falls m (Recheck WALK k y) k inside;
  }

pub walks : (slots id : ℕ) (me : Mine) (k y n : ℕ) → 0 < length me.0.numbers → k < cells me.0.plan → MayWalk k y n me.0
    → Allows (Holds me.0.plan) slots id me (backup_at me.0.plan k) (λ x. x) (walked y n (step slots (backup_at me.0.plan k) 0 0 none) me)
walks slots id me k y n numbered inside may s r _ at _ =
    let v = me.0 in
    let m = moment id me numbered s r at in
    let x = backup_word v.plan s.words k in
    let found = backup_is v.plan s.words k inside in
    ⊎_elim
    (λ (same : x / 2 ≡ y / 2). let w = walking_view m k y n inside may same in
    load_owed id me numbered s r at _ (backup_at v.plan k) w (walk_made m k y n inside may same) refl numbered (λ i e. let q = one_cell v.plan k i e in
    subst (λ (z : ℕ × ℕ). WalkRechecks z.0 y z.1 n v w) (λ j. (q j, sym found j)) (record { same = λ _. walk_told m k y n inside may same; other = λ ne. absurd (ne same) })))
    (λ (other : x / 2 ≢ y / 2). let w = seeing m (Recheck WALK k y) k inside in
    load_owed id me numbered s r at _ (backup_at v.plan k) w (sees m (Recheck WALK k y) k inside (λ j e. cc)) refl numbered (λ i e. let q = one_cell v.plan k i e in
    subst (λ (z : ℕ × ℕ). WalkRechecks z.0 y z.1 n v w) (λ j. (q j, sym found j)) (record { same = λ same. absurd (other same); other = λ _. sees_told m (Recheck WALK k y) k inside })))
    (cases_eq (x / 2) (y / 2))
