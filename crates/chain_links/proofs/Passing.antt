-- What the steps of a walk leave: the Back claim and its chain stay, and each link is read as the chain has it.
use Rattle.std.proofs.Common.{◌≡◌, ◌∙◌, ℕ, ◌+◌, ◌/◌, ◌<◌, suc, zero, true, List, length, refl, sym, ap, subst, arith, inl, inr, ⊎_elim}
use Rattle.std.proofs.lemmas.List.{get_or-set_other, get_or-set_same}
use mathlib.Core.Option.{some}
use lib.ListN.{get_elem?}
use Rattle.chain_links.specs.Walking.{HasBack, HasCome, HasPassed}
use Rattle.hazard_claims.specs.Claiming.{IsAnnounced, Rechecked}
use Rattle.hazard_claims.specs.declared.answers.Recheck.TheVariants.{Same}
use Rattle.hazard_claims.specs.declared.claims.Claim.TheVariants.{Walk}
use Rattle.node_pool.specs.Pool.{IsRead}
use Rattle.step_rules.proofs.Numbers.Places.{at_there}
use Rattle.step_rules.specs.Claims.{BACK, IsClaim, On, WALK}
use Rattle.step_rules.specs.Kinds.Walking.{MayRecheck, Walks}
use Rattle.step_rules.specs.Layout.{cells}
use Rattle.step_rules.specs.SeatData.{IsOf, ObjectData, SeatData}
use Rattle.step_rules.specs.Sound.{Sound}
use Rattle.step_rules.specs.Steps.{MayLoad}
use Rattle.step_rules.specs.Views.{announced, claim_of, claimed_pages, silent, walked_claim, words_in}
use Rattle.step_rules.specs.World.{has, nodes_of}
use Rattle.step_rules.specs.declared.view.Claim.{Claim}
use Rattle.step_rules.specs.declared.view.Held.{Held}
use Rattle.step_rules.specs.declared.view.View.{View}

pub claim_at_low : (c : ℕ) (v : View) → Sound v → c < 4 → get_elem? v.claims c ≡ some (claim_of c v)
claim_at_low c v sound low = at_there v.claims c (silent 0) (omega (arith, sound.claims.four))

pub back_claim : (cell : ℕ) (v : View) → Sound v → (b : HasBack cell v) → IsClaim v.plan v.seen (claim_of BACK v) b.node
back_claim cell v sound b = sound.claims.told BACK b.node (claim_of BACK v) (claim_at_low BACK v sound (omega arith)) (inl refl) b.stands

pub back_inside : (cell : ℕ) (v : View) → Sound v → HasBack cell v → cell < cells v.plan
back_inside cell v sound b = subst (λ k. k < cells v.plan) b.cell_is (back_claim cell v sound b).cell

-- the Back claim, the links noted, the object and the plan stay
pub record Kept (old now : SeatData) : Type 0 where
  pub back : claim_of BACK now.view ≡ claim_of BACK old.view
  pub noted : now.noted ≡ old.noted
  pub object : now.object ≡ old.object
  pub plan : now.view.plan ≡ old.view.plan

pub kept_then : {a b c : SeatData} → Kept a b → Kept b c → Kept a c
kept_then p q = record { back = q.back ∙ p.back; noted = q.noted ∙ p.noted; object = q.object ∙ p.object; plan = q.plan ∙ p.plan }

pub kept_pages : {old now : SeatData} → Kept old now → claimed_pages now.view ≡ claimed_pages old.view
kept_pages k = ap (λ (x : Claim). x.pages) k.back

abbrev pub kept_back : {cell : ℕ} {old now : SeatData} → Kept old now → HasBack cell old.view → HasBack cell now.view
kept_back k b = record { node = b.node; stands = subst (λ (x : Claim). On x b.node) (sym k.back) b.stands; cell_is = ap (λ (x : Claim). x.cell) k.back ∙ b.cell_is }

pub kept_of : {shared : ObjectData} {old now : SeatData} → Kept old now → IsOf shared old → IsOf shared now
kept_of k of = record { object = k.object ∙ of.object; plan = k.plan ∙ of.plan }

pub read_kept : {node : ℕ} {words : List ℕ} {old now : SeatData} → IsRead node words old now → Kept old now
read_kept r = record {
  back = ap (λ (z : SeatData). claim_of BACK z.view) r.same;
  noted = ap (λ (z : SeatData). z.noted) r.same;
  object = ap (λ (z : SeatData). z.object) r.same;
  plan = ap (λ (z : SeatData). z.view.plan) r.same;
}

pub announced_kept : (link : ℕ) (old now : SeatData) → IsAnnounced Walk link old now → Kept old now
announced_kept link old now a = record {
  back = ap (λ (z : SeatData). claim_of BACK z.view) a ∙ get_or-set_other old.view.claims WALK BACK (announced WALK link old.view) (silent 0) (λ e. absurd (omega arith));
  noted = ap (λ (z : SeatData). z.noted) a;
  object = ap (λ (z : SeatData). z.object) a;
  plan = ap (λ (z : SeatData). z.view.plan) a;
}

pub announced_names : (link : ℕ) (old now : SeatData) → Sound old.view → IsAnnounced Walk link old now → (claim_of WALK now.view).word ≡ link + 1
announced_names link old now sound a =
    ap (λ (z : SeatData). (claim_of WALK z.view).word) a
    ∙ ap (λ (x : Claim). x.word) (get_or-set_same old.view.claims WALK (announced WALK link old.view) (silent 0) (omega (arith, sound.claims.four)))

pub may_recheck_link : (cell seen link : ℕ) (old mid : SeatData) → Sound old.view → Sound mid.view → (b : HasBack cell old.view)
    → b.node ≡ seen / 2 → has (nodes_of (claimed_pages old.view)) link ≡ true
    → IsAnnounced Walk link old mid → MayRecheck WALK cell seen mid.view
may_recheck_link cell seen link old mid sound sound_mid b same page a =
    let k = announced_kept link old mid a in record {
      claim = inr refl;
      named = λ tells. absurd (⊎_elim (λ e. absurd (omega arith)) (λ e. absurd (omega arith)) tells);
      walks = λ _. (
        link,
        record {
          back = claim_of BACK mid.view;
          claimed = claim_at_low BACK mid.view sound_mid (omega arith);
          stands = subst (λ (n : ℕ). On (claim_of BACK mid.view) n) same (subst (λ (x : Claim). On x b.node) (sym k.back) b.stands);
          cell = ap (λ (x : Claim). x.cell) k.back ∙ b.cell_is;
          page = subst (λ (l : List Held). has (nodes_of l) link ≡ true) (sym (kept_pages k)) page;
          named = announced_names link old mid sound a;
        },
      );
    }

-- the recheck found Back's node
module _ (cell seen found link : ℕ) (mid re : SeatData) (sound : Sound mid.view) (named : (claim_of WALK mid.view).word ≡ link + 1) (r : Rechecked Walk cell seen (Same found) mid re) where
  walks : Walks cell seen found link mid.view re.view
  walks = r.answers.1 link named

  pub rechecked_kept : Kept mid re
  rechecked_kept = record {
    back = ap (λ (z : View). claim_of BACK z) walks.after
        ∙ get_or-set_other mid.view.claims WALK BACK (walked_claim link cell (length walks.log) mid.view) (silent 0) (λ e. absurd (omega arith));
    noted = ap (λ (z : SeatData). z.noted) r.same;
    object = ap (λ (z : SeatData). z.object) r.same;
    plan = ap (λ (z : View). z.plan) walks.after;
  }

  walk_is : claim_of WALK re.view ≡ walked_claim link cell (length walks.log) mid.view
  walk_is = ap (λ (z : View). claim_of WALK z) walks.after
      ∙ get_or-set_same mid.view.claims WALK (walked_claim link cell (length walks.log) mid.view) (silent 0) (omega (arith, sound.claims.four))

  pub walk_stands : On (claim_of WALK re.view) link
  walk_stands = subst (λ (x : Claim). On x link) (sym walk_is) (record { on = refl; at = refl })

  pub walk_image : (claim_of WALK re.view).image ≡ words_in (claimed_pages mid.view) link
  walk_image = ap (λ (x : Claim). x.image) walk_is

pub may_load_link : (cell seen found link : ℕ) (old mid re : SeatData) → Sound old.view → Sound mid.view → Sound re.view
    → IsAnnounced Walk link old mid → Rechecked Walk cell seen (Same found) mid re → MayLoad link re
may_load_link cell seen found link old mid re sound sound_mid sound_re a r =
    inr (WALK, claim_of WALK re.view, claim_at_low WALK re.view sound_re (omega arith), walk_stands cell seen found link mid re sound_mid (announced_names link old mid sound a) r)

-- one more link was read
module _ (cell seen : ℕ) (page : Held) (old now : SeatData) (sound : Sound old.view) (h : HasPassed cell seen page old now) where
  names : (claim_of WALK h.announced.view).word ≡ page.node + 1
  names = announced_names page.node old h.announced sound h.announces

  pub passed_kept : Kept old now
  passed_kept = kept_then (kept_then (announced_kept page.node old h.announced h.announces)
      (rechecked_kept cell seen h.found page.node h.announced h.rechecked h.announced_sound names h.rechecks)) (read_kept h.reads)

  pub passed_words : page.words ≡ words_in (claimed_pages old.view) page.node
  passed_words =
      h.reads.claimed WALK (claim_of WALK h.rechecked.view) (claim_at_low WALK h.rechecked.view h.rechecked_sound (omega arith))
      (walk_stands cell seen h.found page.node h.announced h.rechecked h.announced_sound names h.rechecks)
      ∙ (walk_image cell seen h.found page.node h.announced h.rechecked h.announced_sound names h.rechecks
      ∙ ap (λ (l : List Held). words_in l page.node) (kept_pages (announced_kept page.node old h.announced h.announces)))

pub come_sound : (cell seen n : ℕ) (old now : SeatData) → HasCome cell seen n old now → Sound now.view
come_sound cell seen zero old now h = h.3
come_sound cell seen (suc n) old now h = h.4.sound

pub come_kept : (cell seen n : ℕ) (old now : SeatData) → HasCome cell seen n old now → Kept old now
come_kept cell seen zero old now h = read_kept h.2
come_kept cell seen (suc n) old now h =
    kept_then (come_kept cell seen n old h.0 h.2) (passed_kept cell seen h.1 h.0 now (come_sound cell seen n old h.0 h.2) h.4)
