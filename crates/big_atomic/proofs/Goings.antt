-- Steps of a call, one after the other, until it stands.
use Rattle.std.proofs.Common.{◌≡◌, ◌≢◌, ◌∙◌, ℕ, ◌/◌, ◌≤◌, suc, zero, Bool, true, false, cond, List, [], ◌∷◌, ◌++◌, Option, Some}
use Rattle.std.proofs.Common.{is_some, length, drop, append-nil, append_assoc, refl, sym, ap, subst, arith}
use Rattle.std.specs.Prelude.{slice_index}
use Rattle.std.proofs.lemmas.List.{drop-append-le}
use Rattle.std.proofs.Math.Seq.{drop-append_seam}
use mathlib.Core.Option.{some}
use lib.ListN.{get_elem?}
use Rattle.big_atomic.proofs.Paid.{AreStill, changes-append, last_look-append, lost-append, others_change, paid_kept, paid_look, paid_more, paid_still, paid_then, saw_within, still_last, still_lost}
use Rattle.big_atomic.specs.Calling.{Calling, Goes, HasFound, IsLooked, OnlySteps}
use Rattle.big_atomic.specs.Turns.{TurnsArePaid, changes_on, is_lost, last_look, lost_steps}
use Rattle.seat_history.specs.declared.entry.Entry.{Entry}
use Rattle.step_rules.proofs.Rely.Advance.{goes_further}
use Rattle.step_rules.proofs.Line.Records.{held_longer}
use Rattle.step_rules.proofs.Line.Trails.{goes_on_same, longer_seen}
use Rattle.step_rules.specs.Claims.{HOLD}
use Rattle.step_rules.specs.History.{GoesOn, NoneOn}
use Rattle.step_rules.specs.Kinds.Standing.{first_look, is_look}
use Rattle.step_rules.specs.Lawful.{held_by}
use Rattle.step_rules.specs.SeatData.{SeatData, holds_record}
use Rattle.step_rules.specs.Sound.{Sound}
use Rattle.step_rules.specs.Steps.{Sees}
use Rattle.step_rules.specs.Views.{claim_of, counted, look_at, number, stock}
use Rattle.step_rules.specs.declared.plan.Plan.{Plan}
use Rattle.step_rules.specs.declared.view.Counted.{Counted}
use Rattle.step_rules.specs.declared.view.Kind.{Kind}
use Rattle.step_rules.specs.declared.view.View.{View}

-- the first look in a trail that goes on
pub looked_more : (k since n : ℕ) (t more : List Counted) → since ≤ length t → first_look k (drop since t) ≡ Some n → first_look k (drop since (t ++ more)) ≡ Some n
looked_more k zero n [] more within e = absurd cc
looked_more k (suc since) n [] more within e = absurd (omega arith)
looked_more k (suc since) n (c ∷ t) more within e = looked_more k since n t more (omega arith) e
looked_more k zero n (c ∷ t) more within e = go (is_look k c.kind) (λ h. looked_more k zero n t more (omega arith) h) e
  where
    go : (b : Bool) → (first_look k t ≡ Some n → first_look k (t ++ more) ≡ Some n) → cond b (Some c.seen) (first_look k t) ≡ Some n → cond b (Some c.seen) (first_look k (t ++ more)) ≡ Some n
    go true rest e = e
    go false rest e = rest e

-- a look after a trail whose steps saw no more than m: the first look saw no more than m
pub looked_after : (k since m n : ℕ) (t steps : List Counted) → since ≤ length t → ((i : ℕ) (c : Counted) → get_elem? t i ≡ some c → c.seen ≤ m) → first_look k steps ≡ Some n → n ≤ m
    → (j : ℕ) × (first_look k (drop since (t ++ steps)) ≡ Some j) × (j ≤ m)
looked_after k zero m n [] steps within each e low = (n, e, low)
looked_after k (suc since) m n [] steps within each e low = absurd (omega arith)
looked_after k (suc since) m n (c ∷ t) steps within each e low = looked_after k since m n t steps (omega arith) (λ i d at. each (suc i) d at) e low
looked_after k zero m n (c ∷ t) steps within each e low = go (is_look k c.kind) (looked_after k zero m n t steps (omega arith) (λ i d at. each (suc i) d at) e low)
  where
    go : (b : Bool) → (j : ℕ) × (first_look k (t ++ steps) ≡ Some j) × (j ≤ m) → (j : ℕ) × (cond b (Some c.seen) (first_look k (t ++ steps)) ≡ Some j) × (j ≤ m)
    go true rest = (c.seen, refl, each 0 c refl)
    go false rest = rest

-- what was seen from a place on, in two parts
pub drop_parts : (n : ℕ) (b c : List Entry) → n ≤ length b → (next : GoesOn b c) → drop n c ≡ drop n b ++ drop (length b) c
drop_parts n b c low next = ap (drop n) next.1 ∙ (drop-append-le n b next.0 low ∙ ap (λ r. drop n b ++ r) (sym (ap (drop (length b)) next.1 ∙ drop-append_seam b next.0)))

pub only_then : (u v w : View) → OnlySteps u v → OnlySteps v w → OnlySteps u w
only_then u v w p q = q ∙ ap
    (λ (z : View). record z {
      seen = w.seen;
      own = w.own;
      retired = w.retired;
      look = w.look;
      trail = w.trail;
      claims = w.claims;
      scan = w.scan;
      reader = w.reader;
      writer = w.writer;
    })
    p

-- lost steps in two stretches of the history
pub few_then : (p : Plan) (k x n : ℕ) (a b : List Counted) (seen seen' : List Entry) → n ≤ length seen → GoesOn seen seen' → lost_steps a ≤ changes_on p k x (drop n seen)
    → lost_steps b ≤ changes_on p k x (drop (length seen) seen')
    → lost_steps (a ++ b) ≤ changes_on p k x (drop n seen')
few_then p k x n a b seen seen' low on first second =
    let lost = lost-append a b in
    let sum = ap (changes_on p k x) (drop_parts n seen seen' low on) ∙ changes-append p k x (drop n seen) (drop (length seen) seen') in omega arith

-- the lost steps of the second part, by the plan and the number of the seat at first
pub few_before : {found : Option ℕ} (k : ℕ) (b : List Counted) (u v w : SeatData) → OnlySteps u.view v.view → Goes k found b v w
    → lost_steps b ≤ changes_on u.view.plan k (number u.view) (drop (length v.view.seen) w.view.seen)
few_before k b u v w only q = subst (λ (z : Plan × ℕ). lost_steps b ≤ changes_on z.0 k z.1 (drop (length v.view.seen) w.view.seen)) (λ i. (ap (λ (z : View). z.plan) only i, ap number only i)) q.few

-- steps one after the other
pub goes_then : {k : ℕ} {found : Option ℕ} {a b : List Counted} {u v w : SeatData} → Goes k found a u v → Goes k (Some (length v.view.seen)) b v w → Goes k found (a ++ b) u w
goes_then {k} {found} {a} {b} {u} {v} {w} p q =
    let plan : v.view.plan ≡ u.view.plan = ap (λ (z : View). z.plan) p.only in
    let numbers : v.view.numbers ≡ u.view.numbers = ap (λ (z : View). z.numbers) p.only in
    let paid : TurnsArePaid u.view.plan k (number u.view) w.view.seen (last_look k found a) b =
    subst (λ (z : Plan × List ℕ × Option ℕ). TurnsArePaid z.0 k (slice_index z.1 0) w.view.seen z.2 b) (λ i. (plan i, numbers i, sym p.last i)) q.paid in
    record {
      only = only_then u.view v.view w.view p.only q.only;
      trail = q.trail ∙ (ap (λ t. t ++ b) p.trail ∙ append_assoc u.view.trail a b);
      seen = goes_further u.view.seen v.view.seen w.view.seen q.seen.0 p.seen q.seen.1;
      last = last_look-append k found a b ∙ (ap (λ (f : Option ℕ). last_look k f b) p.last ∙ q.last);
      paid = paid_then u.view.plan k (number u.view) w.view.seen found a b
          (paid_more u.view.plan k (number u.view) v.view.seen w.view.seen found a q.seen (saw_within v.view u.view.trail a p.sound p.trail) p.paid) paid;
      few = few_then u.view.plan k (number u.view) (length u.view.seen) a b v.view.seen w.view.seen (longer_seen u.view.seen v.view.seen p.seen) q.seen p.few (few_before k b u v w p.only q);
      object = q.object ∙ p.object;
      first = q.first ∙ p.first;
      stock = q.stock ∙ p.stock;
      sound = q.sound;
    }

-- steps that looked at no cell and saw no more
pub goes_still : (k : ℕ) (steps : List Counted) (u w : SeatData) → OnlySteps u.view w.view → w.view.trail ≡ u.view.trail ++ steps → w.view.seen ≡ u.view.seen → AreStill steps
    → w.object ≡ u.object → w.first ≡ u.first → stock w.view ≡ stock u.view → Sound w.view → Goes k (Some (length u.view.seen)) steps u w
goes_still k steps u w only trail seen quiet object first kept sound = record {
  only = only;
  trail = trail;
  seen = subst (λ s. GoesOn u.view.seen s) (sym seen) (goes_on_same u.view.seen);
  last = still_last k (Some (length u.view.seen)) steps quiet ∙ ap (λ (s : List Entry). Some (length s)) (sym seen);
  paid = paid_still u.view.plan k (number u.view) w.view.seen (Some (length u.view.seen)) steps quiet;
  few = omega (arith, still_lost steps quiet);
  object = object;
  first = first;
  stock = kept;
  sound = sound;
}

pub goes_none : (k : ℕ) (u : SeatData) → Sound u.view → Goes k (Some (length u.view.seen)) [] u u
goes_none k u sound = goes_still k [] u u refl (sym (append-nil u.view.trail)) refl refl refl refl refl sound

last_one : (k : ℕ) (found : Option ℕ) (step : Counted) (seen : List Entry) → is_look k step.kind ≡ true → step.seen ≡ length seen → last_look k found (step ∷ []) ≡ Some (length seen)
last_one k found step seen look whole = ap (λ (b : Bool). cond b (Some step.seen) found) look ∙ ap (λ (n : ℕ). Some n) whole

pub lost_most : (step : Counted) → lost_steps (step ∷ []) ≤ 1
lost_most step = go (is_lost step)
  where
    go : (b : Bool) → length (cond b (step ∷ []) []) ≤ 1
    go true = omega arith
    go false = omega arith

-- one step, which looks at the cell k
pub record LooksAt (k : ℕ) (step : Counted) (u w : SeatData) : Type 0 where
  pub only : OnlySteps u.view w.view
  pub trail : w.view.trail ≡ u.view.trail ++ step ∷ []
  pub seen : GoesOn u.view.seen w.view.seen
  pub whole : step.seen ≡ length w.view.seen
  pub look : is_look k step.kind ≡ true
  pub object : w.object ≡ u.object
  pub first : w.first ≡ u.first
  pub stock : stock w.view ≡ stock u.view
  pub before : Sound u.view
  pub sound : Sound w.view

-- a look is such a step
pub seen_on : {kind : Kind} {k x : ℕ} {u w : SeatData} → Sees kind k x u w → GoesOn u.view.seen w.view.seen
seen_on sees = (sees.looks.rest, ap (λ (z : View). z.seen) sees.looks.after ∙ sees.looks.seen)

pub looks_at : {kind : Kind} {k x : ℕ} {u w : SeatData} → is_look k kind ≡ true → Sees kind k x u w → Sound u.view → Sound w.view → LooksAt k (counted kind x (length w.view.seen)) u w
looks_at {kind = kind} {k = k} {x = x} {u = u} {w = w} look sees before sound =
    let l = sees.looks in
    let log : w.view.seen ≡ l.log = ap (λ (z : View). z.seen) l.after in record {
      only = subst (λ (z : View). OnlySteps u.view z) (sym l.after) refl;
      trail = ap (λ (z : View). z.trail) l.after ∙ ap (λ (s : List Entry). u.view.trail ++ counted kind x (length s) ∷ []) (sym log);
      seen = seen_on sees;
      whole = refl;
      look = look;
      object = ap (λ (z : SeatData). z.object) sees.same;
      first = ap (λ (z : SeatData). z.first) sees.same;
      stock = ap stock l.after;
      before = before;
      sound = sound;
    }

-- the word that it found is the one found last
pub found_at_look : {kind : Kind} {k x : ℕ} {u w : SeatData} → Sees kind k x u w → HasFound k x w.view
found_at_look {k = k} {x = x} sees =
    let l = sees.looks in ap (λ (z : View). z.look) l.after ∙ ap (λ (s : List Entry). Some (look_at k x (length s))) (sym (ap (λ (z : View). z.seen) l.after))

-- where it has another node than the one found last before, the history has an entry on the cell since
pub moved_since : {kind : Kind} {k x word : ℕ} {u w : SeatData} → Sees kind k x u w → HasFound k word u.view → x / 2 ≢ word / 2 → ¬ NoneOn u.view.plan k (drop (length u.view.seen) w.view.seen)
moved_since {k = k} {word = word} {u = u} sees found far =
    let l = sees.looks in
    subst (λ (s : List Entry). ¬ NoneOn u.view.plan k (drop (length u.view.seen) s)) (sym (ap (λ (z : View). z.seen) l.after)) (l.moved (look_at k word (length u.view.seen)) found refl far)

-- it isn't lost
pub goes_look : {k : ℕ} {step : Counted} {u w : SeatData} (found : Option ℕ) → LooksAt k step u w → is_lost step ≡ false → Goes k found (step ∷ []) u w
goes_look {k = k} {step = step} {u = u} {w = w} found l kept = record {
  only = l.only;
  trail = l.trail;
  seen = l.seen;
  last = last_one k found step w.view.seen l.look l.whole;
  paid = paid_kept u.view.plan k (number u.view) w.view.seen found step kept;
  few = omega (arith, ap (λ (b : Bool). length (cond b (step ∷ []) [])) kept);
  object = l.object;
  first = l.first;
  stock = l.stock;
  sound = l.sound;
}

-- since the look before it the history has an entry on the cell, so it may be lost
pub goes_lost : {k : ℕ} {step : Counted} {u w : SeatData} → LooksAt k step u w → ¬ NoneOn u.view.plan k (drop (length u.view.seen) w.view.seen) → Goes k (Some (length u.view.seen)) (step ∷ []) u w
goes_lost {k = k} {step = step} {u = u} {w = w} l some_on =
    let only = l.only in
    let change = others_change k u.view w.view l.before l.sound (ap (λ (z : View). z.plan) only) (ap (λ (z : View). z.numbers) only) (ap (λ (z : View). z.stands) only) l.seen some_on in record {
      only = only;
      trail = l.trail;
      seen = l.seen;
      last = last_one k (Some (length u.view.seen)) step w.view.seen l.look l.whole;
      paid = paid_look u.view.plan k (number u.view) (length u.view.seen) w.view.seen step l.look l.whole change;
      few = omega (arith, lost_most step, change);
      object = l.object;
      first = l.first;
      stock = l.stock;
      sound = l.sound;
    }

-- further steps after the first look
pub looked_then : {k look : ℕ} {found : Option ℕ} {a b : List Counted} {u v w : SeatData} → Goes k found a u v → IsLooked k a look u v → Goes k (Some (length v.view.seen)) b v w
    → IsLooked k (a ++ b) look u w
looked_then {k} {look} {a} {b} {u} {v} {w} p l q = record {
  looked = looked_more k zero look a b (omega arith) l.looked;
  from = l.from;
  upto = let upto = l.upto in let longer = longer_seen v.view.seen w.view.seen q.seen in omega arith;
  few = few_then u.view.plan k (number u.view) look a b v.view.seen w.view.seen l.upto q.seen l.few (few_before k b u v w p.only q);
}

pub calling_then : {reg look : ℕ} {a b : List Counted} {u v w : SeatData} → Calling reg a look u v → Goes reg (Some (length v.view.seen)) b v w → claim_of HOLD w.view ≡ claim_of HOLD v.view
    → Calling reg (a ++ b) look u w
calling_then c q hold = record {
  goes = goes_then c.goes q;
  looked = looked_then c.goes c.looked q;
  hold = hold ∙ c.hold;
}

-- the call has looked since its seat's last stand
pub looked_before : {found : Option ℕ} {reg look : ℕ} {steps : List Counted} {v w : SeatData} (q : ℕ) → Sound v.view → Goes reg found steps v w → IsLooked reg steps look v w → look ≤ q
    → (n : ℕ) × (first_look reg (drop w.view.since w.view.trail) ≡ Some n) × (n ≤ q)
looked_before {reg} {look} {steps} {v} {w} q sound p l low =
    let from = l.from in
    let since : w.view.since ≡ v.view.since = ap (λ (z : View). z.since) p.only in
    subst (λ (z : ℕ × List Counted). (n : ℕ) × (first_look reg (drop z.0 z.1) ≡ Some n) × (n ≤ q)) (λ i. (sym since i, sym p.trail i))
    (looked_after reg v.view.since q look v.view.trail steps sound.trail.within (λ i c at. let each = sound.trail.each i c at in omega arith) l.looked low)

-- the held record stays as more is seen
pub held_stays : {found : Option ℕ} {reg : ℕ} {steps : List Counted} {v w : SeatData} → Sound v.view → Goes reg found steps v w
    → held_by w.view.seen (number w.view) w.view.stands ≡ held_by v.view.seen (number v.view) v.view.stands
held_stays {v} {w} sound p =
    (λ i. held_by w.view.seen (ap number p.only i) (ap (λ (z : View). z.stands) p.only i)) ∙ held_longer v.view p.seen.0 w.view.seen sound.lawful p.seen.1

pub free_stays : {found : Option ℕ} {reg : ℕ} {steps : List Counted} {v w : SeatData} → Sound v.view → Goes reg found steps v w → holds_record v.view ≡ false → holds_record w.view ≡ false
free_stays sound p free = ap is_some (held_stays sound p) ∙ free
