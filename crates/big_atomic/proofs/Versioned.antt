-- How a change begins its turns: it finds the version of its cell, and then claims the node that the cell names.
use Rattle.std.proofs.Common.{◌≡◌, ◌∙◌, ℕ, ◌+◌, ◌-◌, ◌*◌, ◌/◌, ◌<◌, List, [], ◌∷◌, ◌++◌, Option, None, Some, eq-eqb, length, append_assoc, refl, sym, ap, subst, arith, inl}
use Rattle.std.proofs.lemmas.Bool.{false≢true}
use Rattle.big_atomic.proofs.Answered.{goes_of}
use Rattle.big_atomic.proofs.Claimed.{claimed_read, loads_still, lost_longer, looks_then, seen_first, seen_further, stays_then}
use Rattle.big_atomic.proofs.Goings.{goes_still, goes_then, looked_then}
use Rattle.big_atomic.proofs.Marking.{turn_more}
use Rattle.big_atomic.proofs.Pacing.{paces_still, paces_then}
use Rattle.big_atomic.proofs.Paid.{lost-append, node_stores-append, paid_cons, still_lost}
use Rattle.big_atomic.specs.Calling.{Goes, HasFound, HasRead, HasSeen, HasStarted, HasStartedRecord, HasTurned, IsLooked, LookedOnce, OnlySteps, Stays, turn_steps}
use Rattle.big_atomic.specs.Marks.{HasVersion}
use Rattle.hazard_claims.specs.declared.answers.Recheck.TheVariants.{Other, Same}
use Rattle.node_pool.specs.Pool.{load_steps}
use Rattle.step_rules.specs.Claims.{BACK}
use Rattle.step_rules.specs.SeatData.{IsOf, IsSeat, ObjectData, SeatData}
use Rattle.step_rules.specs.Sound.{Sound}
use Rattle.step_rules.specs.Steps.{stepped}
use Rattle.step_rules.specs.Views.{counted, number, stock, version_view}
use Rattle.step_rules.specs.declared.plan.Plan.{Plan}
use Rattle.step_rules.specs.declared.view.Counted.{Counted}
use Rattle.step_rules.specs.declared.view.Kind.TheVariants.{ClaimStore, Recheck, VersionLoad}
use Rattle.step_rules.specs.declared.view.View.{View}

-- ONE VERSION LOAD
module _ {k u : ℕ} (before mid : SeatData) (is : mid ≡ stepped (version_view k u before.view) before) where
  abbrev pub load : Counted
  load = counted (VersionLoad k) u (length before.view.seen)

  pub begin_ours : {shared : ObjectData} → IsOf shared before → IsOf shared mid
  begin_ours {shared} of = subst (IsOf shared) (sym is) (record { object = of.object; plan = of.plan })

  pub begin_stays : (c : ℕ) → Stays c before mid
  begin_stays c = subst (λ (m : SeatData). Stays c before m) (sym is) (record { same = refl; retired = refl; own = refl; others = λ d ne. refl })

  pub begin_goes : Sound mid.view → Goes k (Some (length before.view.seen)) (load ∷ []) before mid
  begin_goes sound =
      let view : mid.view ≡ version_view k u before.view = ap (λ (z : SeatData). z.view) is in
      goes_still k (load ∷ []) before mid (subst (λ (z : View). OnlySteps before.view z) (sym view) refl)
      (ap (λ (z : View). z.trail) view) (ap (λ (z : View). z.seen) view) refl (ap (λ (z : SeatData). z.object) is) (ap (λ (z : SeatData). z.first) is)
      (ap stock view) sound

  -- before steps that hold whatever was found before them
  pub goes_begun : {found : Option ℕ} {steps : List Counted} {now : SeatData} → Goes k found steps mid now → Goes k found (load ∷ steps) before now
  goes_begun {found} {steps} {now} goes = subst (λ (m : SeatData). Goes k found steps m now → Goes k found (load ∷ steps) before now) (sym is)
      (λ g. record {
        only = g.only;
        trail = g.trail ∙ append_assoc before.view.trail (load ∷ []) steps;
        seen = g.seen;
        last = g.last;
        paid = paid_cons before.view.plan k (number before.view) now.view.seen found load steps (λ lost. absurd (false≢true lost)) g.paid;
        few = g.few;
        object = g.object;
        first = g.first;
        stock = g.stock;
        sound = g.sound;
      })
      goes

  pub looked_begun : {look : ℕ} {steps : List Counted} {now : SeatData} → IsLooked k steps look mid now → IsLooked k (load ∷ steps) look before now
  looked_begun {look} {steps} {now} looked = subst (λ (m : SeatData). IsLooked k steps look m now → IsLooked k (load ∷ steps) look before now) (sym is)
      (λ l. record { looked = l.looked; from = l.from; upto = l.upto; few = l.few }) looked

  abbrev pub seen_begun : {c word claims : ℕ} {now : SeatData} → HasSeen c k word claims mid now → HasSeen c k word claims before now
  seen_begun {c} {word} {claims} {now} s = record {
    steps = load ∷ s.steps;
    look = s.look;
    goes = λ found. goes_begun (s.goes found);
    looked = looked_begun s.looked;
    looks = record { none_exchanged = s.looks.none_exchanged; none_scanned = s.looks.none_scanned };
    paced = record { rounds = s.paced.rounds; tries = s.paced.tries };
    none_filled = s.none_filled;
    stored = s.stored;
    stays = stays_then c before mid now (begin_stays c) s.stays;
    found = s.found;
  }

  -- after turns that were lost
  abbrev pub seen_again : {c word : ℕ} {first : SeatData} → Sound mid.view → HasSeen c k word 0 first before → HasSeen c k word 0 first mid
  seen_again {c} {word} {first} sound s = record {
    steps = s.steps ++ load ∷ [];
    look = s.look;
    goes = λ found. goes_then (s.goes found) (begin_goes sound);
    looked = looked_then (s.goes None) s.looked (begin_goes sound);
    looks = looks_then s.steps (load ∷ []) s.looks (record { none_exchanged = refl; none_scanned = refl });
    paced = paces_then s.paced (paces_still 0 (load ∷ []) refl);
    none_filled = let none = s.none_filled in omega (arith, node_stores-append s.steps (load ∷ []));
    stored = λ serves. absurd (omega arith);
    stays = stays_then c first before mid s.stays (begin_stays c);
    found = subst (λ (m : SeatData). HasFound k word m.view) (sym is) s.found;
  }

-- THE TURNS of a change that began at `before`: the version was found since the last lost one, and the word last
pub record AtStart (k version word : ℕ) (before now : SeatData) : Type 0 where
  pub sees : HasSeen BACK k word 0 before now
  pub loaded : HasVersion k version sees.steps
  pub law : IsSeat now

pub start_first : {k u word : ℕ} (before mid now : SeatData) → mid ≡ stepped (version_view k u before.view) before → LookedOnce k word mid now → IsSeat now
    → AtStart k u word before now
unfolding seen_first
start_first {k} {u} {word} before mid now is looked law =
    let s : HasSeen BACK k word 0 mid now = seen_first BACK k word mid now looked in
    record { sees = seen_begun before mid is s; loaded = record { front = []; saw = length before.view.seen; rest = s.steps; whole = refl; kept = refl }; law = law }

pub start_again : {k version u seen word : ℕ} {before mid : SeatData} (turned now : SeatData) → AtStart k version seen before mid
    → HasTurned BACK k seen (Other word) mid turned
    → now ≡ stepped (version_view k u turned.view) turned → IsSeat now → AtStart k u word before now
start_again {k} {u = u} {word = word} {before = before} turned now s t is law =
    let sees : HasSeen BACK k word 0 before turned = seen_further s.sees t.0 (let one = t.1 in omega arith) in
    record {
      sees = seen_again turned now is law.sound sees;
      loaded = record { front = sees.steps; saw = length turned.view.seen; rest = []; whole = refl; kept = refl };
      law = law;
    }

pub again_ours : {k version seen word : ℕ} {shared : ObjectData} {before mid turned : SeatData} → AtStart k version seen before mid
    → HasTurned BACK k seen (Other word) mid turned → IsOf shared before
    → IsOf shared turned
again_ours s t of = goes_of t.0.goes (goes_of (s.sees.goes None) of)

-- and more was seen
pub start_smaller : {k u seen word : ℕ} (mid turned now : SeatData) → HasTurned BACK k seen (Other word) mid turned
    → now ≡ stepped (version_view k u turned.view) turned → IsSeat now
    → now.view.plan.seats * now.view.plan.changes - length now.view.seen < mid.view.plan.seats * mid.view.plan.changes - length mid.view.seen
start_smaller {k} mid turned now t is law =
    let plan : now.view.plan ≡ mid.view.plan = ap (λ (z : SeatData). z.view.plan) is ∙ ap (λ (z : View). z.plan) t.0.goes.only in
    let all = ap (λ (p : Plan). p.seats * p.changes) plan in
    let same = ap (λ (z : SeatData). length z.view.seen) is in
    let longer = lost_longer k (length mid.view.seen) turned.view.plan turned.view.seen t.2 in
    let within = law.sound.within in omega arith

pub start_claimed : {k version seen word : ℕ} {before mid now : SeatData} → AtStart k version seen before mid → HasTurned BACK k seen (Same word) mid now
    → HasStarted k version word before now
unfolding seen_further
start_claimed {k} {version} {seen} {word} {before} {mid} {now} s t =
    let turn : List Counted = turn_steps BACK k seen word mid now in
    let announce : Counted = counted (ClaimStore BACK (seen / 2)) (seen / 2 + 1) (length mid.view.seen) in
    let recheck : Counted = counted (Recheck BACK k seen) word (length now.view.seen) in
    let h = s.loaded in
    let kept = h.kept in
    let none = t.1 in (
      (seen_further s.sees t.0 (omega arith), t.2),
      record {
        loaded = record {
          front = h.front;
          saw = h.saw;
          rest = h.rest ++ turn;
          whole = ap (λ (l : List Counted). l ++ turn) h.whole ∙ append_assoc h.front (counted (VersionLoad k) version h.saw ∷ h.rest) turn;
          kept = omega (arith, lost-append h.rest turn);
        };
        looked = record {
          front = h.rest ++ announce ∷ [];
          look = recheck;
          back = [];
          whole = sym (append_assoc h.rest (announce ∷ []) (recheck ∷ []));
          looks = eq-eqb k k refl;
          found = refl;
        };
      },
    )

-- and the claimed node's record was read
pub start_read : {k version word : ℕ} {rec : List ℕ} {before mid now : SeatData} → k < before.view.plan.registers → HasStarted k version word before mid
    → HasRead (word / 2) rec mid now
    → Sound now.view → HasStartedRecord k version word rec before now
unfolding claimed_read
start_read {k} {version} {word} {rec} {before} {mid} {now} there h r sound = (
  claimed_read (inl refl) there h.0 r sound,
  turn_more h.0.0.steps (load_steps (word / 2) 0 r.words (length mid.view.seen))
      (still_lost (load_steps (word / 2) 0 r.words (length mid.view.seen)) (loads_still (word / 2) 0 (length mid.view.seen) r.words)) h.1,
)
