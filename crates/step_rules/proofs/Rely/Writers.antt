-- Changes in flight, and versions found, as a seat's own steps go on.
use Rattle.std.proofs.Common.{◌≡◌, ◌≢◌, ℕ, ◌+◌, List, [], ◌∷◌, ◌++◌, get_or, set, sym, ap, ◌∙◌, subst, arith, ⊎_elim}
use Rattle.std.proofs.lemmas.List.{get_or-set_other}
use Rattle.atomic_table.proofs.Lists.{at_longer}
use Rattle.seat_history.specs.declared.entry.Entry.{Entry}
use Rattle.step_rules.specs.Claims.{OWN, SeatClaims}
use Rattle.step_rules.specs.Versions.{SeatVersions}
use Rattle.step_rules.specs.Views.{silent}
use Rattle.step_rules.specs.World.{World}
use Rattle.step_rules.specs.Writers.{Flies, HasLocked, LeavesLocks, SeatWriter, Sites, sites}
use Rattle.step_rules.specs.declared.plan.Plan.{Plan}
use Rattle.step_rules.specs.declared.view.Claim.{Claim}
use Rattle.step_rules.specs.declared.view.Counted.{Counted}
use Rattle.step_rules.specs.declared.view.Kind.TheVariants.{VersionLoad}
use Rattle.step_rules.specs.declared.view.Stage.TheVariants.{Grounded, Locked, Released, Waiting}
use Rattle.step_rules.specs.declared.view.Writer.{Writer}
use Rattle.step_rules.proofs.Numbers.Places.{at_more}
use Rattle.step_rules.proofs.Rely.Advance.{claim_found}
use Rattle.step_rules.proofs.World.Silent.{Quiet}

-- one more step, which loads no version
pub versions_step : {version : ℕ → ℕ} {trail : List Counted} (c : Counted) → ((k : ℕ) → c.kind ≢ VersionLoad k) → SeatVersions version trail → SeatVersions version (trail ++ c ∷ [])
versions_step {trail = trail} c other o = record {
  found = λ k u f. ⊎_elim
      (λ q. o.found k u (record { place = f.place; step = f.step; at = q.1; kind = f.kind; found = f.found }))
      (λ q. absurd (other k (ap (λ (z : Counted). z.kind) q.1 ∙ f.kind)))
      (at_more trail c f.step f.place f.at);
}

pub no_versions : (version : ℕ → ℕ) → SeatVersions version []
no_versions version = record { found = λ k u f. absurd (let e = f.at in cc) }

-- a flight that has locked or released flies
pub locked_flies : (w : Writer) → w.stage ≡ Locked → Flies w
locked_flies w e g = let q : Locked ≡ Grounded = sym e ∙ g in cc

pub released_flies : (w : Writer) → w.stage ≡ Released → Flies w
released_flies w e g = let q : Released ≡ Grounded = sym e ∙ g in cc

pub waiting_flies : (w : Writer) → w.stage ≡ Waiting → Flies w
waiting_flies w e g = let q : Waiting ≡ Grounded = sym e ∙ g in cc

pub has_locked_flies : (w : Writer) → HasLocked w → Flies w
has_locked_flies w h = ⊎_elim (λ e. locked_flies w e) (λ e. released_flies w e) h

-- nothing is known of a seat without a flight
pub writer_none : {p : Plan} {X : Sites} {s : ℕ} {seen : List Entry} {mine : Claim} {w : Writer} → (Flies w → ⊥) → ((k : ℕ) → X.locker k ≡ s + 1 → ⊥) → SeatWriter p X s seen mine w
writer_none {w = w} none unlocked = record {
  sound = record {
    cell = λ flies. absurd (none flies);
    own = λ flies. absurd (none flies);
    change = λ flies. absurd (none flies);
    even = λ has. absurd (none (has_locked_flies w has));
    latest = λ has. absurd (none (has_locked_flies w has));
    stores = λ e. absurd (none (locked_flies w e));
  };
  before = λ flies. absurd (none flies);
  last = λ flies. absurd (none flies);
  free = λ flies. absurd (none flies);
  locked = λ e. absurd (none (locked_flies w e));
  released = λ e. absurd (none (released_flies w e));
  locks = λ k e. absurd (unlocked k e);
  stays = λ flies. absurd (none flies);
  later = λ flies. absurd (none flies);
  sourced = λ e. absurd (none (released_flies w e));
}

-- more of the history is seen
pub writer_more : {p : Plan} {X : Sites} {s : ℕ} {seen : List Entry} {mine : Claim} {w : Writer} (rest : List Entry) → SeatWriter p X s seen mine w → SeatWriter p X s (seen ++ rest) mine w
writer_more {seen = seen} {w = w} rest o = record {
  sound = record {
    cell = o.sound.cell;
    own = o.sound.own;
    change = λ flies. let e = o.sound.change flies in (e.0, at_longer seen rest w.change e.0 e.1, e.2);
    even = o.sound.even;
    latest = o.sound.latest;
    stores = o.sound.stores;
  };
  before = o.before;
  last = o.last;
  free = o.free;
  locked = o.locked;
  released = o.released;
  locks = o.locks;
  stays = o.stays;
  later = o.later;
  sourced = o.sourced;
}

-- another claim than Own changes
pub writer_claimed : {p : Plan} {X : Sites} {s : ℕ} {seen : List Entry} {w : Writer} (claims : List Claim) (c : ℕ) (x : Claim) → c ≢ OWN
    → SeatWriter p X s seen (get_or claims OWN (silent 0)) w → SeatWriter p X s seen (get_or (set claims c x) OWN (silent 0)) w
writer_claimed {p = p} {X = X} {s = s} {seen = seen} {w = w} claims c x ne o =
    subst (λ (y : Claim). SeatWriter p X s seen y w) (sym (get_or-set_other claims c OWN x (silent 0) (λ e. ne (sym e)))) o

-- where no claim names a node, nothing flies
pub quiet_grounded : {p : Plan} {W : World} {s : ℕ} {numbers : List ℕ} {least : ℕ} {seen : List Entry} {claims : List Claim} {w : Writer} → SeatClaims p W s numbers least seen claims
    → SeatWriter p (sites W) s seen (get_or claims OWN (silent 0)) w → Quiet claims → Flies w → ⊥
quiet_grounded {claims = claims} k o quiet flies = let on = o.sound.own flies in let named = on.at in
    let none = quiet OWN (get_or claims OWN (silent 0)) (claim_found k OWN (omega arith)) in omega arith

-- and no cell is locked
pub quiet_unlocked : {p : Plan} {W : World} {s : ℕ} {numbers : List ℕ} {least : ℕ} {seen : List Entry} {claims : List Claim} {w : Writer} → SeatClaims p W s numbers least seen claims
    → SeatWriter p (sites W) s seen (get_or claims OWN (silent 0)) w → Quiet claims → (j : ℕ) → W.locker j ≡ s + 1 → ⊥
quiet_unlocked {w = w} k o quiet j e = quiet_grounded k o quiet (locked_flies w (o.locks j e).0)

-- versions, inline words, lockers and sources stay
pub locks_stay : (s : ℕ) (X Y : Sites) → ((k : ℕ) → Y.version k ≡ X.version k) → ((k : ℕ) → Y.inline k ≡ X.inline k) → ((k : ℕ) → Y.locker k ≡ X.locker k) → ((k u : ℕ) → Y.source k u ≡ X.source k u)
    → LeavesLocks s X Y
locks_stay s X Y version inline locker source = record {
  version = λ k. let e = version k in omega arith;
  locked = λ k e. (locker k ∙ e, version k, inline k);
  locks = λ k e. sym (locker k) ∙ e;
  source = λ k u _. source k u;
  inline = λ k _ _. inline k;
}
