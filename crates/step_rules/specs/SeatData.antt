-- A seat and a shared object, as contracts see them.
use Rattle.std.specs.Prelude.{◌≡◌, ℕ, ◌+◌, ◌*◌, ◌^◌, ◌<◌, ◌≤◌, Bool, true, false, List, [], ◌∷◌, ◌++◌, length, Some, is_some, not, ◌&&◌, ◌==◌, map, replicate, take, if◌then◌else◌}
use mathlib.Core.Option.{some}
use lib.ListN.{get_elem?}
use Rattle.atomic_table.specs.Seated.{TableId}
use Rattle.atomic_table.specs.Table.{Me}
use Rattle.seat_history.specs.declared.call.Call.{Call}
use Rattle.step_rules.specs.Bags.{IsWithout, times}
use Rattle.step_rules.specs.Claims.{HOLD, OWN, On}
use Rattle.step_rules.specs.Lawful.{held_by}
use Rattle.step_rules.specs.Sound.{Sound}
use Rattle.step_rules.specs.Views.{claim_of, count_up, number, silent}
use Rattle.step_rules.specs.World.{has, nodes_of}
use Rattle.step_rules.specs.declared.layout.TheConstants.{CLAIMS}
use Rattle.step_rules.specs.declared.plan.Plan.{Plan}
use Rattle.step_rules.specs.declared.view.Claim.{Claim}
use Rattle.step_rules.specs.declared.view.View.{View}

-- which object it is, and the plan that it was built from
pub record ObjectData : Type 0 where
  pub object : TableId
  pub plan : Plan

-- which object a seat is of, what it knows, which of its own nodes are free and which are held, and the links that the change in preparation
-- leaves out, in the chain's order
pub record SeatData : Type 0 where
  pub object : TableId
  pub view : View
  pub free : List ℕ
  pub holding : List ℕ
  pub noted : List ℕ
  -- whether it is the first seat, and whether it made no step but splits
  pub first : Bool
  pub fresh : Bool

-- the seat is of this object
pub record IsOf (shared : ObjectData) (seat : SeatData) : Type 0 where
  pub object : seat.object ≡ shared.object
  pub plan : seat.view.plan ≡ shared.plan

-- whether a record is held under the least number
abbrev pub holds_record : View → Bool
holds_record v = is_some (held_by v.seen (number v) v.stands)

-- the seat's Hold claim stands on the node of the record that it holds
pub record IsHolding (words : List ℕ) (v : View) : Type 0 where
  pub held : held_by v.seen (number v) v.stands ≡ Some words
  pub node : ℕ
  pub stands : On (claim_of HOLD v) node
  pub image : (claim_of HOLD v).image ≡ words ++ 0 ∷ []

abbrev pub is_empty : List ℕ → Bool
is_empty [] = true
is_empty _ = false

-- what stands in the claim words of the least number
abbrev pub claim_words : View → List ℕ
claim_words v = map (λ (x : Claim). x.word) v.claims

abbrev pub all_zero : List ℕ → Bool
all_zero [] = true
all_zero (x ∷ xs) = (x == 0) && all_zero xs

-- no record and no node is held, and the claim words are 0
abbrev pub is_quiet : SeatData → Bool
is_quiet seat = not (holds_record seat.view) && (is_empty seat.holding && all_zero (claim_words seat.view))

-- a seat that made no step but splits
pub record IsFresh (v : View) (unused held : List ℕ) : Type 0 where
  pub numbers : v.numbers ≡ count_up (number v) (length v.numbers)
  pub free : unused ≡ nodes_of v.own
  pub holding : held ≡ []
  pub retired : v.retired ≡ []
  pub seen : v.seen ≡ []
  pub stands : v.stands ≡ []
  pub trail : v.trail ≡ []
  pub claims : v.claims ≡ replicate CLAIMS (silent 0)
  pub scan : v.scan ≡ record { next = 0; old = []; found = [] }
  pub changes : v.changes ≡ v.plan.changes * length v.numbers
  pub removes : v.removes ≡ v.plan.removes * length v.numbers

-- the seat's own Own claim stands on no free node
abbrev pub NoneAnnounced : List ℕ → View → Type 0
NoneAnnounced free v = (n : ℕ) → has free n ≡ true → (y : Claim) → get_elem? v.claims OWN ≡ some y → ¬ On y n

-- how many nodes each of a seat's lists has room for: the first seat's for those of all numbers
abbrev pub room_of : Bool → View → ℕ
room_of first v = v.plan.share * (if first then v.plan.seats else length v.numbers) + v.plan.removes * (if first then v.plan.seats else length v.numbers)

-- what ties the seat's own numbers and lists to its view
pub record IsTied (me : Me Call View) (count : ℕ) (first is_fresh holds_one : Bool) (free holding noted words : List ℕ) (for_free for_holding for_retired for_noted : ℕ) : Type 0 where
  pub slots : me.1 ≡ []
  pub sound : Sound me.0
  pub numbers : count ≡ length me.0.numbers
  pub holds : holds_one ≡ holds_record me.0
  pub lists : (n : ℕ) → times n free + times n holding ≡ times n (nodes_of me.0.own)
  pub long : length free + length holding ≡ length me.0.own
  pub claims : words ≡ claim_words me.0
  pub own_free : NoneAnnounced free me.0
  pub room_free : room_of first me.0 ≤ for_free
  pub room_holding : room_of first me.0 ≤ for_holding
  pub room_retired : room_of first me.0 ≤ for_retired
  pub room_noted : room_of first me.0 ≤ for_noted
  pub few_noted : length noted < 2 ^ 32
  pub fresh : is_fresh ≡ true → IsFresh me.0 free holding

-- the own node is held, and is taken from the free ones where it was free; nothing else changes
pub record Takes (node : ℕ) (old new : SeatData) : Type 0 where
  pub held : has old.holding node ≡ true → new ≡ old
  pub took : has old.holding node ≡ false → (new.holding ≡ old.holding ++ node ∷ []) × IsWithout node old.free new.free
  pub same : new ≡ record old { free = new.free; holding = new.holding }

-- what ties a seat's scan to its view: the old nodes are the first of those retired
pub record IsScan (v : View) (next old : ℕ) (found : List ℕ) (for_found : ℕ) : Type 0 where
  pub next_is : next ≡ v.scan.next
  pub old_is : v.scan.old ≡ take old v.retired
  pub old_within : old ≤ length v.retired
  pub found_is : (n : ℕ) → has found n ≡ has v.scan.found n
  pub long : length found ≡ length v.scan.found
  pub room : CLAIMS * v.plan.seats ≤ for_found

-- what holds of every seat
pub record IsSeat (seat : SeatData) : Type 0 where
  pub sound : Sound seat.view
  -- its own nodes are free or held, each once
  pub lists : (n : ℕ) → times n seat.free + times n seat.holding ≡ times n (nodes_of seat.view.own)
  pub long : length seat.free + length seat.holding ≡ length seat.view.own
  pub own_free : NoneAnnounced seat.free seat.view
  pub unused : seat.fresh ≡ true → IsFresh seat.view seat.free seat.holding
