-- What the parts of a copy leave.
use Rattle.std.proofs.Common.{◌≡◌, ◌∙◌, ℕ, ◌+◌, List, [], ◌∷◌, ◌++◌, length, refl, sym, ap, subst, arith}
use Rattle.std.proofs.lemmas.List.{get_or-set_other}
use Rattle.chain_links.proofs.Passing.{announced_names}
use Rattle.chain_links.specs.Following.{HasNoted}
use Rattle.chain_links.specs.Parts.{HasDone, IsSameSeat, OnlyCopied, Part, fills, notes, pages_read, passes, reads, takes, with_note}
use Rattle.chain_links.specs.Walking.{HasPassed, HasStrayed}
use Rattle.hazard_claims.specs.Claiming.{IsAnnounced}
use Rattle.hazard_claims.specs.declared.claims.Claim.TheVariants.{Walk}
use Rattle.node_pool.specs.Pool.{IsAllPutBack, IsFilled, IsRead, IsTaken}
use Rattle.step_rules.proofs.Keeps.Stores.{stored_nodes}
use Rattle.step_rules.proofs.Ties.Tied.{moved_times}
use Rattle.step_rules.specs.Bags.{times}
use Rattle.step_rules.specs.Claims.{BACK, WALK}
use Rattle.step_rules.specs.Kinds.Walking.{Walks}
use Rattle.step_rules.specs.SeatData.{IsOf, ObjectData, SeatData}
use Rattle.step_rules.specs.Sound.{Sound}
use Rattle.step_rules.specs.Steps.{stepped}
use Rattle.step_rules.specs.Views.{announced, claim_of, silent, walked_claim}
use Rattle.step_rules.specs.World.{nodes_of}
use Rattle.step_rules.specs.declared.view.Held.{Held}
use Rattle.step_rules.specs.declared.view.View.{View}

-- one after the other
pub only_then : {a b c : SeatData} → OnlyCopied a b → OnlyCopied b c → OnlyCopied a c
only_then {c = c} p q = record {
  same = q.same ∙ ap (λ (z : SeatData). record z {
    view = record z.view { seen = c.view.seen; look = c.view.look; own = c.view.own; claims = c.view.claims; trail = c.view.trail };
    free = c.free;
    holding = c.holding;
    noted = c.noted;
    fresh = c.fresh;
  }) p.same;
  claims = λ k ne. q.claims k ne ∙ p.claims k ne;
  nodes = q.nodes ∙ p.nodes;
  lists = λ m. q.lists m ∙ p.lists m;
}

pub only_none : (seat : SeatData) → OnlyCopied seat seat
only_none seat = record { same = refl; claims = λ c ne. refl; nodes = refl; lists = λ m. refl }

pub only_back : {old now : SeatData} → OnlyCopied old now → claim_of BACK now.view ≡ claim_of BACK old.view
only_back o = o.claims BACK (λ e. absurd (omega arith))

pub only_of : {shared : ObjectData} {old now : SeatData} → OnlyCopied old now → IsOf shared old → IsOf shared now
only_of o of = record { object = ap (λ (z : SeatData). z.object) o.same ∙ of.object; plan = ap (λ (z : SeatData). z.view.plan) o.same ∙ of.plan }

-- by its view alone
abbrev IsSameView : View → View → Type 0
IsSameView v w = w ≡ record v { seen = w.seen; look = w.look; own = w.own; claims = w.claims; trail = w.trail }

viewed : (old now : SeatData) → now ≡ stepped now.view old → IsSameView old.view now.view → IsSameSeat old now
viewed old now same view = same ∙ (ap (λ (z : View). stepped z old) view ∙ (λ i. record old {
  view = record old.view { seen = now.view.seen; look = now.view.look; own = now.view.own; claims = now.view.claims; trail = now.view.trail };
  free = (sym same i).free;
  holding = (sym same i).holding;
  noted = (sym same i).noted;
  fresh = (sym same i).fresh;
}))

-- of each part
pub only_read : {node : ℕ} {words : List ℕ} {old now : SeatData} → IsRead node words old now → OnlyCopied old now
only_read {old = old} r = subst (λ (z : SeatData). OnlyCopied old z) (sym r.same) (record { same = refl; claims = λ c ne. refl; nodes = refl; lists = λ m. refl })

pub only_noted : (link : ℕ) {old now : SeatData} → now ≡ with_note link old → OnlyCopied old now
only_noted link {old = old} n = subst (λ (z : SeatData). OnlyCopied old z) (sym n) (record { same = refl; claims = λ c ne. refl; nodes = refl; lists = λ m. refl })

pub only_taken : {node : ℕ} {old now : SeatData} → IsTaken node old now → OnlyCopied old now
only_taken {node} {old} {now} t = record {
  same = subst (λ (z : SeatData). IsSameSeat old z) (sym t.same) refl;
  claims = λ c ne. ap (λ (z : SeatData). claim_of c z.view) t.same;
  nodes = ap (λ (z : SeatData). nodes_of z.view.own) t.same ∙ stored_nodes node 0 0 old.view.own;
  lists = moved_times node old.free now.free old.holding now.holding t.free t.holding;
}

pub only_filled : {node : ℕ} {words : List ℕ} {old now : SeatData} → IsFilled node words old now → OnlyCopied old now
only_filled {old = old} f = record {
  same = subst (λ (z : SeatData). IsSameSeat old z) (sym f.same) refl;
  claims = λ c ne. ap (λ (z : SeatData). claim_of c z.view) f.same;
  nodes = f.nodes;
  lists = λ m. ap (λ (z : SeatData). times m z.free + times m z.holding) f.same;
}

only_announced : (link : ℕ) (old now : SeatData) → IsAnnounced Walk link old now → OnlyCopied old now
only_announced link old now a = subst (λ (z : SeatData). OnlyCopied old z) (sym a) (record {
  same = refl;
  claims = λ c ne. get_or-set_other old.view.claims WALK c (announced WALK link old.view) (silent 0) ne;
  nodes = refl;
  lists = λ m. refl;
})

only_walked : (cell seen found link : ℕ) (old now : SeatData) → Walks cell seen found link old.view now.view → now ≡ stepped now.view old → OnlyCopied old now
only_walked cell seen found link old now w same = record {
  same = viewed old now same (subst (λ (z : View). IsSameView old.view z) (sym w.after) refl);
  claims = λ c ne. ap (λ (z : View). claim_of c z) w.after ∙ get_or-set_other old.view.claims WALK c (walked_claim link cell (length w.log) old.view) (silent 0) ne;
  nodes = ap (λ (z : View). nodes_of z.own) w.after;
  lists = λ m. ap (λ (z : SeatData). times m z.free + times m z.holding) same;
}

pub only_passed : {cell seen : ℕ} {page : Held} {old now : SeatData} → Sound old.view → HasPassed cell seen page old now → OnlyCopied old now
only_passed {cell} {seen} {page} {old} {now} sound h =
    only_then (only_announced page.node old h.announced h.announces) (only_then
    (only_walked cell seen h.found page.node h.announced h.rechecked (h.rechecks.answers.1 page.node (announced_names page.node old h.announced sound h.announces)) h.rechecks.same)
    (only_read h.reads))

pub only_strayed : {cell seen link : ℕ} {old now : SeatData} → HasStrayed cell seen link old now → OnlyCopied old now
only_strayed {link = link} {old = old} {now = now} s = only_then (only_announced link old s.announced s.announces) (record {
  same = viewed s.announced now s.rechecks.same (subst (λ (z : View). IsSameView s.announced.view z) (sym s.rechecks.answers.1.after) refl);
  claims = λ c ne. ap (λ (z : View). claim_of c z) s.rechecks.answers.1.after;
  nodes = ap (λ (z : View). nodes_of z.own) s.rechecks.answers.1.after;
  lists = λ m. ap (λ (z : SeatData). times m z.free + times m z.holding) s.rechecks.same;
})

pub only_freed : {old now : SeatData} → IsAllPutBack old now → OnlyCopied old now
only_freed {old} {now} f = record {
  same = subst (λ (z : SeatData). IsSameSeat old z) (sym f.same) refl;
  claims = λ c ne. ap (λ (z : SeatData). claim_of c z.view) f.same;
  nodes = ap (λ (z : SeatData). nodes_of z.view.own) f.same;
  lists = λ m. omega (arith, f.free m, ap (times m) f.holding);
}

-- parts in a row
pub done_then : (cell seen : ℕ) (a b : List Part) (u v w : SeatData) → HasDone cell seen a u v → HasDone cell seen b v w → HasDone cell seen (a ++ b) u w
done_then cell seen [] b u v w p q = subst (λ (z : SeatData). HasDone cell seen b z w) p q
done_then cell seen (part ∷ a) b u v w p q = (p.0, p.1, p.2, done_then cell seen a b p.0 v w p.3 q)

pub read_then : (a b : List Part) → pages_read (a ++ b) ≡ pages_read a ++ pages_read b
read_then [] b = refl
read_then (reads page ∷ a) b = ap (λ (l : List Held). page ∷ l) (read_then a b)
read_then (passes page ∷ a) b = ap (λ (l : List Held). page ∷ l) (read_then a b)
read_then (notes link ∷ a) b = read_then a b
read_then (takes node ∷ a) b = read_then a b
read_then (fills held ∷ a) b = read_then a b

-- the lists, and the own nodes, through a link that was passed and noted
pub record StaysBut (noted : List ℕ) (old now : SeatData) : Type 0 where
  pub free : now.free ≡ old.free
  pub holding : now.holding ≡ old.holding
  pub own : now.view.own ≡ old.view.own
  pub noted_is : now.noted ≡ noted

pub noted_stays : {cell seen : ℕ} {page : Held} {old now : SeatData} → Sound old.view → HasNoted cell seen page old now → StaysBut (old.noted ++ page.node ∷ []) old now
noted_stays {cell} {seen} {page} {old} {now} sound n =
    let h = n.passes in
    let w : Walks cell seen h.found page.node h.announced.view h.rechecked.view = h.rechecks.answers.1 page.node (announced_names page.node old h.announced sound h.announces) in record {
      free = ap (λ (z : SeatData). z.free) n.notes ∙ (ap (λ (z : SeatData). z.free) h.reads.same ∙ (ap (λ (z : SeatData). z.free) h.rechecks.same ∙ ap (λ (z : SeatData). z.free) h.announces));
      holding = ap (λ (z : SeatData). z.holding) n.notes
          ∙ (ap (λ (z : SeatData). z.holding) h.reads.same ∙ (ap (λ (z : SeatData). z.holding) h.rechecks.same ∙ ap (λ (z : SeatData). z.holding) h.announces));
      own = ap (λ (z : SeatData). z.view.own) n.notes
          ∙ (ap (λ (z : SeatData). z.view.own) h.reads.same ∙ (ap (λ (z : View). z.own) w.after ∙ ap (λ (z : SeatData). z.view.own) h.announces));
      noted_is = ap (λ (z : SeatData). z.noted) n.notes
          ∙ ap (λ (l : List ℕ). l ++ page.node ∷ []) (ap (λ (z : SeatData). z.noted) h.reads.same ∙ (ap (λ (z : SeatData). z.noted) h.rechecks.same ∙ ap (λ (z : SeatData). z.noted) h.announces));
    }

pub strayed_holding : {cell seen link : ℕ} {old now : SeatData} → HasStrayed cell seen link old now → now.holding ≡ old.holding
strayed_holding s = ap (λ (z : SeatData). z.holding) s.rechecks.same ∙ ap (λ (z : SeatData). z.holding) s.announces
