-- The steps of a walk as those of a call.
use Rattle.std.proofs.Common.{◌≡◌, ◌∙◌, ℕ, ◌+◌, ◌/◌, ◌≤◌, suc, zero, Bool, true, false, not, cond, eq-eqb, ne_eqb, List, [], ◌∷◌, ◌++◌, Some, length, drop, refl, sym, ap, subst, arith, inl, inr}
use Rattle.std.proofs.Math.ListN.{drop_of_length-le}
use Rattle.std.proofs.lemmas.List.{get_or-set_other, get_or-set_same}
use Rattle.big_atomic.proofs.Claimed.{loads_still, loads_unscanned, looks_then, none_later, read_goes}
use Rattle.big_atomic.proofs.Goings.{LooksAt, goes_look, goes_lost, goes_none, goes_still, goes_then, looks_at, moved_since}
use Rattle.big_atomic.proofs.Pacing.{paces_still, paces_then}
use Rattle.big_atomic.proofs.Paid.{lost-append, still_exchanges, still_lost}
use Rattle.big_atomic.specs.Calling.{AreLooks, Goes, HasClaim, HasFound, OnlySteps, Paces}
use Rattle.big_atomic.specs.Turns.{is_lost, lost_steps}
use Rattle.chain_links.proofs.Passing.{Kept, announced_kept, announced_names, back_claim, claim_at_low, come_sound, kept_back, passed_kept, read_kept, rechecked_kept}
use Rattle.chain_links.specs.Walking.{HasBack, HasCome, HasMoved, HasPassed, HasStrayed}
use Rattle.hazard_claims.specs.Claiming.{IsAnnounced}
use Rattle.hazard_claims.specs.declared.claims.Claim.TheVariants.{Walk}
use Rattle.hazard_claims.specs.Scanning.{ClearsWalk}
use Rattle.node_pool.specs.Pool.{IsRead, load_steps}
use Rattle.seat_history.specs.declared.entry.Entry.{Entry}
use Rattle.step_rules.proofs.Ties.Notes.{only_stepped, only_stepped_then}
use Rattle.step_rules.proofs.Line.Trails.{longer_seen}
use Rattle.step_rules.specs.Claims.{BACK, HOLD, OWN, WALK}
use Rattle.step_rules.specs.History.{NoneOn}
use Rattle.step_rules.specs.Kinds.Walking.{Walks}
use Rattle.step_rules.specs.SeatData.{SeatData}
use Rattle.step_rules.specs.Sound.{Sound}
use Rattle.step_rules.specs.Steps.{OnlyStepped, Sees, stepped}
use Rattle.step_rules.specs.Views.{announced, announced_view, claim_of, cleared_view, counted, look_at, silent, stock, walked_claim}
use Rattle.step_rules.specs.declared.plan.Plan.{Plan}
use Rattle.step_rules.specs.declared.view.Claim.{Claim}
use Rattle.step_rules.specs.declared.view.Counted.{Counted}
use Rattle.step_rules.specs.declared.view.Held.{Held}
use Rattle.step_rules.specs.declared.view.Kind.TheVariants.{ClaimClear, ClaimStore, Recheck}
use Rattle.step_rules.specs.declared.view.View.{View}

-- looks and loads that leave the seat's lists, but for the links noted, and its claims on Own and Hold. So many claims serve before them, and
-- so many after them
pub record OnlyLooks (from to cell : ℕ) (steps : List Counted) (old now : SeatData) : Type 0 where
  pub goes : Goes cell (Some (length old.view.seen)) steps old now
  pub looks : AreLooks steps
  pub paced : Paces from to steps
  pub same : OnlyStepped old now
  pub retired : now.view.retired ≡ old.view.retired
  pub hold : claim_of HOLD now.view ≡ claim_of HOLD old.view
  pub own : claim_of OWN now.view ≡ claim_of OWN old.view

pub only_looks_then : {from mid to : ℕ} (cell : ℕ) (a b : List Counted) (u v w : SeatData) → OnlyLooks from mid cell a u v → OnlyLooks mid to cell b v w → OnlyLooks from to cell (a ++ b) u w
only_looks_then cell a b u v w p q = record {
  goes = goes_then p.goes q.goes;
  looks = looks_then a b p.looks q.looks;
  paced = paces_then p.paced q.paced;
  same = only_stepped_then u v w p.same q.same;
  retired = q.retired ∙ p.retired;
  hold = q.hold ∙ p.hold;
  own = q.own ∙ p.own;
}

read_part : (cell node : ℕ) (words : List ℕ) (old now : SeatData) → IsRead node words old now → Sound now.view → OnlyLooks 1 1 cell (load_steps node 0 words (length old.view.seen)) old now
read_part cell node words old now r sound =
    let steps = load_steps node 0 words (length old.view.seen) in record {
      goes = read_goes cell node words old now r sound;
      looks = record {
        none_exchanged = still_exchanges steps (loads_still node 0 (length old.view.seen) words);
        none_scanned = loads_unscanned node 0 (length old.view.seen) words;
      };
      paced = paces_still 1 steps (loads_still node 0 (length old.view.seen) words);
      same = only_stepped old now r.same;
      retired = ap (λ (z : SeatData). z.view.retired) r.same;
      hold = ap (λ (z : SeatData). claim_of HOLD z.view) r.same;
      own = ap (λ (z : SeatData). claim_of OWN z.view) r.same;
    }

abbrev announce_step : ℕ → SeatData → Counted
announce_step link old = counted (ClaimStore WALK link) (link + 1) (length old.view.seen)

announce_part : (cell link : ℕ) (old now : SeatData) → IsAnnounced Walk link old now → Sound now.view → OnlyLooks 1 1 cell (announce_step link old ∷ []) old now
announce_part cell link old now a sound =
    let view : now.view ≡ announced_view WALK link old.view = ap (λ (z : SeatData). z.view) a in record {
      goes = goes_still cell (announce_step link old ∷ []) old now (subst (λ (z : View). OnlySteps old.view z) (sym view) refl)
          (ap (λ (z : View). z.trail) view) (ap (λ (z : View). z.seen) view) refl (ap (λ (z : SeatData). z.object) a) (ap (λ (z : SeatData). z.first) a) (ap stock view) sound;
      looks = record { none_exchanged = refl; none_scanned = refl };
      paced = paces_still 1 (announce_step link old ∷ []) refl;
      same = only_stepped old now a;
      retired = ap (λ (z : View). z.retired) view;
      hold = ap (λ (z : View). claim_of HOLD z) view ∙ get_or-set_other old.view.claims WALK HOLD (announced WALK link old.view) (silent 0) (λ e. absurd (omega arith));
      own = ap (λ (z : View). claim_of OWN z) view ∙ get_or-set_other old.view.claims WALK OWN (announced WALK link old.view) (silent 0) (λ e. absurd (omega arith));
    }

-- a recheck of Walk that found Back's node
module _ (cell seen found link : ℕ) (old now : SeatData) (near : found / 2 ≡ seen / 2) (walks : Walks cell seen found link old.view now.view) (same : now ≡ stepped now.view old)
    (before : Sound old.view) (sound : Sound now.view) where
  abbrev recheck_step : Counted
  recheck_step = counted (Recheck WALK cell seen) found (length now.view.seen)

  seen_is : now.view.seen ≡ walks.log
  seen_is = ap (λ (z : View). z.seen) walks.after

  look : LooksAt cell recheck_step old now
  look = record {
    only = subst (λ (z : View). OnlySteps old.view z) (sym walks.after) refl;
    trail = ap (λ (z : View). z.trail) walks.after ∙ ap (λ (s : List Entry). old.view.trail ++ counted (Recheck WALK cell seen) found (length s) ∷ []) (sym seen_is);
    seen = (walks.rest, seen_is ∙ walks.seen);
    whole = refl;
    look = eq-eqb cell cell refl;
    object = ap (λ (z : SeatData). z.object) same;
    first = ap (λ (z : SeatData). z.first) same;
    stock = ap stock walks.after;
    before = before;
    sound = sound;
  }

  recheck_part : OnlyLooks 1 1 cell (recheck_step ∷ []) old now
  recheck_part = record {
    goes = goes_look (Some (length old.view.seen)) look (ap not (eq-eqb (found / 2) (seen / 2) near));
    looks = record { none_exchanged = refl; none_scanned = refl };
    paced = record { rounds = omega arith; tries = omega arith };
    same = only_stepped old now same;
    retired = ap (λ (z : View). z.retired) walks.after;
    hold = ap (λ (z : View). claim_of HOLD z) walks.after ∙ get_or-set_other old.view.claims WALK HOLD (walked_claim link cell (length walks.log) old.view) (silent 0) (λ e. absurd (omega arith));
    own = ap (λ (z : View). claim_of OWN z) walks.after ∙ get_or-set_other old.view.claims WALK OWN (walked_claim link cell (length walks.log) old.view) (silent 0) (λ e. absurd (omega arith));
  }

  recheck_found : HasFound cell found now.view
  recheck_found = ap (λ (z : View). z.look) walks.after ∙ ap (λ (s : List Entry). Some (look_at cell found (length s))) (sym seen_is)

-- the word found last stays so after an announcement
still_found : {cell word : ℕ} (link : ℕ) (old now : SeatData) → IsAnnounced Walk link old now → HasFound cell word old.view → HasFound cell word now.view
still_found {cell} {word} link old now a found = ap (λ (z : SeatData). z.view.look) a ∙ (found ∙ ap (λ (z : SeatData). Some (look_at cell word (length z.view.seen))) (sym a))

-- a recheck that found Back's node found the mark at most cleared
walk_falls : (cell seen found word link : ℕ) (old now : SeatData) → Walks cell seen found link old.view now.view → Sound old.view → HasBack cell old.view → HasFound cell word old.view → found ≤ word
walk_falls cell seen found word link old now walks sound b last =
    let back = claim_of BACK old.view in
    let calm : NoneOn old.view.plan cell (drop back.at walks.log) = walks.calm back (claim_at_low BACK old.view sound (omega arith)) in
    walks.falls (look_at cell word (length old.view.seen)) last refl
    (none_later old.view.plan cell back.at old.view.seen walks.log (back_claim cell old.view sound b).began (walks.rest, walks.seen) calm)

-- a walk so far: its steps, the word found last, which has Back's node, its mark at most cleared since the first word, and no entry on the cell
-- since the Back claim began to stand
pub record Way (cell seen first : ℕ) (old now : SeatData) : Type 0 where
  pub steps : List Counted
  pub part : OnlyLooks 1 1 cell steps old now
  pub kept : lost_steps steps ≡ 0
  pub back : claim_of BACK now.view ≡ claim_of BACK old.view
  pub noted : now.noted ≡ old.noted
  pub word : ℕ
  pub found : HasFound cell word now.view
  pub near : word / 2 ≡ seen / 2
  pub fell : word ≤ first
  pub calm : NoneOn now.view.plan cell (drop (claim_of BACK now.view).at now.view.seen)

pub way_kept : {cell seen first : ℕ} {old now : SeatData} → Way cell seen first old now → Kept old now
way_kept w = record { back = w.back; noted = w.noted; object = w.part.goes.object; plan = ap (λ (z : View). z.plan) w.part.goes.only }

way_first : (cell seen word node : ℕ) (words : List ℕ) (old now : SeatData) → HasClaim BACK cell word old
    → word / 2 ≡ seen / 2 → IsRead node words old now → Sound now.view → Way cell seen word old now
way_first cell seen word node words old now claim near r sound = record {
  steps = load_steps node 0 words (length old.view.seen);
  part = read_part cell node words old now r sound;
  kept = still_lost (load_steps node 0 words (length old.view.seen)) (loads_still node 0 (length old.view.seen) words);
  back = ap (λ (z : SeatData). claim_of BACK z.view) r.same;
  noted = ap (λ (z : SeatData). z.noted) r.same;
  word = word;
  found = ap (λ (z : SeatData). z.view.look) r.same ∙ (claim.found ∙ ap (λ (z : SeatData). Some (look_at cell word (length z.view.seen))) (sym r.same));
  near = near;
  fell = omega arith;
  calm = subst (λ (l : List Entry). NoneOn now.view.plan cell l) (sym (ap (λ (z : SeatData). drop (claim_of BACK z.view).at z.view.seen) r.same
      ∙ (ap (λ n. drop n old.view.seen) claim.now_at ∙ drop_of_length-le old.view.seen (omega arith)))) tt;
}

-- one more link was passed: its steps, and the word found in the cell, which has Back's node, its mark at most cleared since the word found last
pub record PassedLink (cell seen : ℕ) (old now : SeatData) : Type 0 where
  pub steps : List Counted
  pub part : OnlyLooks 1 1 cell steps old now
  pub kept : lost_steps steps ≡ 0
  pub word : ℕ
  pub found : HasFound cell word now.view
  pub near : word / 2 ≡ seen / 2
  pub fell : (last : ℕ) → HasFound cell last old.view → word ≤ last
  pub calm : NoneOn now.view.plan cell (drop (claim_of BACK now.view).at now.view.seen)

pub link_passed : (cell seen : ℕ) (page : Held) (old now : SeatData) → Sound old.view → HasBack cell old.view → HasPassed cell seen page old now → PassedLink cell seen old now
link_passed cell seen page old now sound b h =
    let naming = announced_names page.node old h.announced sound h.announces in
    let r = h.rechecks in
    let walks : Walks cell seen h.found page.node h.announced.view h.rechecked.view = r.answers.1 page.node naming in
    let near : h.found / 2 ≡ seen / 2 = r.answers.0 in
    let announcing = announce_part cell page.node old h.announced h.announces h.announced_sound in
    let second = recheck_part cell seen h.found page.node h.announced h.rechecked near walks r.same h.announced_sound h.rechecked_sound in
    let third = read_part cell page.node page.words h.rechecked now h.reads h.sound in
    let a : List Counted = announce_step page.node old ∷ [] in
    let c : List Counted = counted (Recheck WALK cell seen) h.found (length h.rechecked.view.seen) ∷ [] in
    let d = load_steps page.node 0 page.words (length h.rechecked.view.seen) in
    let k_announced = announced_kept page.node old h.announced h.announces in
    let k_rechecked = rechecked_kept cell seen h.found page.node h.announced h.rechecked h.announced_sound naming r in
    let calm : NoneOn h.announced.view.plan cell (drop (claim_of BACK h.announced.view).at walks.log) =
    walks.calm (claim_of BACK h.announced.view) (claim_at_low BACK h.announced.view h.announced_sound (omega arith)) in
    let seen_is : now.view.seen ≡ walks.log = ap (λ (z : SeatData). z.view.seen) h.reads.same ∙ ap (λ (z : View). z.seen) walks.after in
    let back_is : claim_of BACK now.view ≡ claim_of BACK h.announced.view = (read_kept h.reads).back ∙ k_rechecked.back in
    let plan_is : now.view.plan ≡ h.announced.view.plan = (read_kept h.reads).plan ∙ k_rechecked.plan in record {
      steps = a ++ (c ++ d);
      part = only_looks_then cell a (c ++ d) old h.announced now announcing (only_looks_then cell c d h.announced h.rechecked now second third);
      kept =
          let stays : is_lost (counted (Recheck WALK cell seen) h.found (length h.rechecked.view.seen)) ≡ false = ap not
          (eq-eqb (h.found / 2) (seen / 2) near) in
          let none : lost_steps c ≡ 0 = ap (λ (b : Bool). length (cond b c [])) stays in
          omega (arith, lost-append c d, still_lost d (loads_still page.node 0 (length h.rechecked.view.seen) page.words));
      word = h.found;
      found = ap (λ (z : SeatData). z.view.look) h.reads.same ∙ (recheck_found cell seen h.found page.node h.announced h.rechecked near walks r.same h.announced_sound h.rechecked_sound
          ∙ ap (λ (z : SeatData). Some (look_at cell h.found (length z.view.seen))) (sym h.reads.same));
      near = near;
      fell = λ last found. walk_falls cell seen h.found last page.node h.announced h.rechecked walks h.announced_sound (kept_back k_announced b)
          (still_found page.node old h.announced h.announces found);
      calm = subst (λ (z : Plan × Claim × List Entry). NoneOn z.0 cell (drop z.1.at z.2)) (λ i. (sym plan_is i, sym back_is i, sym seen_is i)) calm;
    }

way_on : (cell seen first : ℕ) (page : Held) (old mid now : SeatData) → Way cell seen first old mid → Sound mid.view → HasBack cell old.view → HasPassed cell seen page mid now
    → Way cell seen first old now
way_on cell seen first page old mid now w sound b h =
    let p = link_passed cell seen page mid now sound (kept_back (way_kept w) b) h in
    let k = passed_kept cell seen page mid now sound h in record {
      steps = w.steps ++ p.steps;
      part = only_looks_then cell w.steps p.steps old mid now w.part p.part;
      kept = let kept = w.kept in let kept_then = p.kept in omega (arith, lost-append w.steps p.steps);
      back = k.back ∙ w.back;
      noted = k.noted ∙ w.noted;
      word = p.word;
      found = p.found;
      near = p.near;
      fell = let fell = p.fell w.word w.found in let fell_before = w.fell in omega arith;
      calm = p.calm;
    }

pub come_way : (cell seen word n : ℕ) (old now : SeatData) → HasClaim BACK cell word old → word / 2 ≡ seen / 2 → HasBack cell old.view → HasCome cell seen n old now → Way cell seen word old now
come_way cell seen word zero old now claim near b h = way_first cell seen word h.0.node h.0.words old now claim near h.2 h.3
come_way cell seen word (suc n) old now claim near b h =
    way_on cell seen word h.1 old h.0 now (come_way cell seen word n old h.0 claim near b h.2) (come_sound cell seen n old h.0 h.2) b h.4

-- looks that were lost: since they began the history has an entry on the cell, and no claim serves any more
pub record Lost (cell : ℕ) (old now : SeatData) : Type 0 where
  pub steps : List Counted
  pub part : OnlyLooks 1 0 cell steps old now
  pub changed : ¬ NoneOn now.view.plan cell (drop (length old.view.seen) now.view.seen)

-- a link was announced, and another node found
pub strayed_lost : (cell seen word link : ℕ) (old now : SeatData) → HasFound cell word old.view → word / 2 ≡ seen / 2 → HasStrayed cell seen link old now → Lost cell old now
strayed_lost cell seen word link old now last near s =
    let a : List Counted = announce_step link old ∷ [] in
    let c : List Counted = counted (Recheck WALK cell seen) s.found (length now.view.seen) ∷ [] in
    let first = announce_part cell link old s.announced s.announces s.announced_sound in
    let sees : Sees (Recheck WALK cell seen) cell s.found s.announced now = record { looks = s.rechecks.answers.1; same = s.rechecks.same } in
    let found : HasFound cell word s.announced.view = still_found link old s.announced s.announces last in
    let moved : ¬ NoneOn s.announced.view.plan cell (drop (length s.announced.view.seen) now.view.seen) = moved_since sees found (λ e. s.rechecks.answers.0 (e ∙ near)) in
    let view = sees.looks.after in
    let strayed : is_lost (counted (Recheck WALK cell seen) s.found (length now.view.seen)) ≡ true = ap not (ne_eqb (s.found / 2) (seen / 2) s.rechecks.answers.0) in
    let one : lost_steps c ≡ 1 = ap (λ (b : Bool). length (cond b c [])) strayed in
    let second : OnlyLooks 1 0 cell c s.announced now = record {
      goes = goes_lost (looks_at (eq-eqb cell cell refl) sees s.announced_sound s.sound) moved;
      looks = record { none_exchanged = refl; none_scanned = refl };
      paced = record { rounds = omega arith; tries = omega arith };
      same = only_stepped s.announced now s.rechecks.same;
      retired = ap (λ (z : View). z.retired) view;
      hold = ap (λ (z : View). claim_of HOLD z) view;
      own = ap (λ (z : View). claim_of OWN z) view;
    } in record {
      steps = a ++ c;
      part = only_looks_then cell a c old s.announced now first second;
      changed = subst (λ (z : Plan × ℕ). ¬ NoneOn z.0 cell (drop z.1 now.view.seen)) (λ i. (sym (ap (λ (z : View). z.plan) view) i, ap (λ (z : SeatData). length z.view.seen) s.announces i)) moved;
    }

pub moved_lost : (cell seen word : ℕ) (old now : SeatData) → HasClaim BACK cell word old → word / 2 ≡ seen / 2 → HasBack cell old.view → HasMoved cell seen old now → Lost cell old now
moved_lost cell seen word old now claim near b m =
    let w = come_way cell seen word m.passed old m.mid claim near b m.come in
    let l = strayed_lost cell seen w.word m.page.node m.mid now w.found w.near m.strayed in record {
      steps = w.steps ++ l.steps;
      part = only_looks_then cell w.steps l.steps old m.mid now w.part l.part;
      changed = λ none. l.changed (none_later now.view.plan cell (length old.view.seen) m.mid.view.seen now.view.seen
          (longer_seen old.view.seen m.mid.view.seen w.part.goes.seen) l.part.goes.seen none);
    }

-- THE WALK CLAIM ENDS, where its word isn't 0
pub record Cleared (cell : ℕ) (mid now : SeatData) : Type 0 where
  pub steps : List Counted
  pub part : OnlyLooks 1 1 cell steps mid now
  pub none : (claim_of WALK now.view).word ≡ 0
  pub seen : now.view.seen ≡ mid.view.seen
  pub noted : now.noted ≡ mid.noted

pub cleared_part : (cell : ℕ) (mid now : SeatData) → mid.fresh ≡ false → Sound mid.view → Sound now.view → ClearsWalk mid now → Cleared cell mid now
cleared_part cell mid now used sound last (inl q) = subst (λ (z : SeatData). Cleared cell mid z) (sym q.0) (record {
  steps = [];
  part = record {
    goes = goes_none cell mid sound;
    looks = record { none_exchanged = refl; none_scanned = refl };
    paced = paces_still 1 [] refl;
    same = λ i. record mid { fresh = used i };
    retired = refl;
    hold = refl;
    own = refl;
  };
  none = q.1;
  seen = refl;
  noted = refl;
})
cleared_part cell mid now used sound last (inr q) =
    let step : List Counted = counted (ClaimClear WALK) 0 (length mid.view.seen) ∷ [] in
    let view : now.view ≡ cleared_view WALK mid.view = ap (λ (z : SeatData). z.view) q in record {
      steps = step;
      part = record {
        goes = goes_still cell step mid now (subst (λ (z : View). OnlySteps mid.view z) (sym view) refl) (ap (λ (z : View). z.trail) view) (ap (λ (z : View). z.seen) view) refl
            (ap (λ (z : SeatData). z.object) q) (ap (λ (z : SeatData). z.first) q) (ap stock view) last;
        looks = record { none_exchanged = refl; none_scanned = refl };
        paced = paces_still 1 step refl;
        same = only_stepped mid now q;
        retired = ap (λ (z : View). z.retired) view;
        hold = ap (λ (z : View). claim_of HOLD z) view ∙ get_or-set_other mid.view.claims WALK HOLD (silent 0) (silent 0) (λ e. absurd (omega arith));
        own = ap (λ (z : View). claim_of OWN z) view ∙ get_or-set_other mid.view.claims WALK OWN (silent 0) (silent 0) (λ e. absurd (omega arith));
      };
      none = ap (λ (z : View). (claim_of WALK z).word) view
          ∙ ap (λ (x : Claim). x.word) (get_or-set_same mid.view.claims WALK (silent 0) (silent 0) (omega (arith, sound.claims.four)));
      seen = ap (λ (z : View). z.seen) view;
      noted = ap (λ (z : SeatData). z.noted) q;
    }
