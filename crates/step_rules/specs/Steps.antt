-- What a step leaves of its seat.
use Rattle.std.specs.Prelude.{◌≡◌, ◌≢◌, ℕ, ◌+◌, ◌*◌, ◌-◌, ◌<◌, ◌≤◌, true, false, List, [], ◌∷◌, ◌++◌, Some, ◌⊎◌, ⊤, suc, zero, filter, map, slice_index, slice_index_or}
use Rattle.std.specs.Prelude.{Bool, length, take, drop, ◌==◌, if◌then◌else◌}
use Rattle.seat_history.specs.declared.call.Call.{Call}
use Rattle.seat_history.specs.declared.call.Call.TheVariants.{Look, Release}
use Rattle.seat_history.specs.declared.reply.Reply.{Reply}
use Rattle.seat_history.specs.declared.reply.Reply.TheVariants.{Full}
use mathlib.Core.Option.{some}
use lib.ListN.{get_elem?}
use Rattle.step_rules.specs.Claims.{BACK, HOLD, OWN, WALK, On}
use Rattle.step_rules.specs.History.{GoesOn, cell_of}
use Rattle.step_rules.specs.Kinds.Backup.{Looks, Wins}
use Rattle.step_rules.specs.Kinds.Claiming.{Frees, Rechecks}
use Rattle.step_rules.specs.Kinds.Standing.{MayStand, first_look}
use Rattle.step_rules.specs.Kinds.Walking.{WalkRechecks}
use Rattle.step_rules.specs.SeatData.{IsHolding, SeatData, holds_record, is_quiet}
use Rattle.step_rules.specs.Views.{claim_of, dropped_of, fresh_of, is_freed, joined_view, left_view, number, right_view, scanned_view}
use Rattle.step_rules.specs.World.{has, nodes_of}
use Rattle.step_rules.specs.Layout.{claim_at}
use Rattle.step_rules.specs.declared.layout.TheConstants.{CLAIMS}
use Rattle.step_rules.specs.declared.view.Claim.{Claim}
use Rattle.step_rules.specs.declared.view.Counted.{Counted}
use Rattle.step_rules.specs.declared.view.Kind.{Kind}
use Rattle.step_rules.specs.declared.view.Kind.TheVariants.{ScanLoad}
use Rattle.step_rules.specs.declared.view.Stage.TheVariants.{Locked}
use Rattle.step_rules.specs.declared.view.View.{View}

-- the seat made a step and has this view; its lists stay
abbrev pub stepped : View → SeatData → SeatData
stepped view seat = record seat { view = view; fresh = false }

-- a step at the claim word c takes back what is noted where this is Back
abbrev pub unnoted : ℕ → SeatData → SeatData
unnoted c seat = record seat { noted = if c == BACK then [] else seat.noted }

-- the seat made steps and has this view; its lists stay, but for the links noted
abbrev pub OnlyStepped : SeatData → SeatData → Type 0
OnlyStepped before now = now ≡ record (stepped now.view before) { noted = now.noted }

-- a claim of the seat stands on the node
abbrev pub IsClaimed : ℕ → View → Type 0
IsClaimed n v = (c : ℕ) × (y : Claim) × (get_elem? v.claims c ≡ some y) × On y n

-- the node is one of the seat's own: it is free or held
abbrev pub IsOwn : ℕ → SeatData → Type 0
IsOwn n seat = (has seat.free n ≡ true) ⊎ (has seat.holding n ≡ true)

-- the seat may load the node: it holds it, or a claim of it stands on it
abbrev pub MayLoad : ℕ → SeatData → Type 0
MayLoad n seat = (has seat.holding n ≡ true) ⊎ IsClaimed n seat.view

-- the seat's Own claim doesn't stand on the node
abbrev pub IsUnannounced : ℕ → View → Type 0
IsUnannounced n v = (y : Claim) → get_elem? v.claims OWN ≡ some y → ¬ On y n

-- the claim c may be stored for the node n: on Own the seat holds the node, and on Hold it holds no record
pub record MayClaim (c n : ℕ) (seat : SeatData) : Type 0 where
  pub claim : c < CLAIMS
  pub own : c ≡ OWN → has seat.holding n ≡ true
  pub hold : c ≡ HOLD → holds_record seat.view ≡ false
  pub unlocked : c ≡ OWN → seat.view.writer.stage ≢ Locked

-- a recheck of the claim c, which names the node of the word x, found the word y in the cell k
pub record IsRechecked (c k x y : ℕ) (old new : SeatData) : Type 0 where
  pub rechecks : Rechecks c k x y old.view new.view
  pub same : new ≡ stepped new.view old

-- a recheck of the claim on Walk, whose word names a link of the claimed chain, found the word y in the cell k
pub record IsWalked (k x y : ℕ) (old new : SeatData) : Type 0 where
  pub walks : (n : ℕ) → (claim_of WALK old.view).word ≡ n + 1 → WalkRechecks k x y n old.view new.view
  pub same : new ≡ stepped new.view old

-- a load of the claim word w by a scan, which found x; at the last one the freed nodes are free
pub record IsScanned (w x : ℕ) (old new : SeatData) : Type 0 where
  pub on : suc w < CLAIMS * old.view.plan.seats → new ≡ stepped (scanned_view w x old.view) old
  pub frees : suc w ≡ CLAIMS * old.view.plan.seats → Frees w x old.view new.view
  pub freed : suc w ≡ CLAIMS * old.view.plan.seats → new.free ≡ old.free ++ filter (is_freed (scanned_view w x old.view).scan) old.view.retired
  pub same : new ≡ record (stepped new.view old) { free = new.free }

-- a look at the cell k that found the word x
pub record Sees (kind : Kind) (k x : ℕ) (old new : SeatData) : Type 0 where
  pub looks : Looks kind k x old.view new.view
  pub same : new ≡ stepped new.view old

-- the nodes that the seat holds are the front that the call makes, from the node n on
abbrev pub HoldsFront : ℕ → Call → SeatData → Type 0
HoldsFront n call seat = (m : ℕ) → has seat.holding m ≡ has (nodes_of (fresh_of n call seat.view)) m

-- of the claimed chain the first node falls out by the call, and then the links noted
abbrev pub DropsNoted : Call → SeatData → Type 0
DropsNoted call seat = nodes_of (drop 1 (dropped_of call seat.view)) ≡ seat.noted

-- an exchange of the cell k from the word x to the held node n, which won: the held nodes are the cell's
pub record Won (k x n : ℕ) (call : Call) (old new : SeatData) : Type 0 where
  pub wins : Wins k x n call old.view new.view
  pub holding : new.holding ≡ []
  pub same : new ≡ record old { view = new.view; fresh = false; holding = new.holding }

-- the seat has looked at the call's cell since its last stand, at the latest at this place; a held record needs no look
abbrev pub HasLooked : ℕ → Call → View → Type 0
HasLooked q Look v = ⊤
HasLooked q Release v = ⊤
HasLooked q call v = (n : ℕ) × (first_look (cell_of v.plan call) (drop v.since v.trail) ≡ Some n) × (n ≤ q)

-- the loads of a whole scan from the word w on, n of them
abbrev pub scan_kinds : ℕ → ℕ → List Kind
scan_kinds w zero = []
scan_kinds w (suc n) = ScanLoad w ∷ scan_kinds (suc w) n

abbrev pub kinds_of : List Counted → List Kind
kinds_of steps = map (λ (step : Counted). step.kind) steps

-- what was found by the load of the word w of a scan
abbrev pub found_at : ℕ → List Counted → ℕ
found_at w loads = slice_index (map (λ (step : Counted). step.found) loads) w

-- and whether a claim of the seat stood in it then
abbrev pub stood_at : ℕ → List Counted → Bool
stood_at w loads = slice_index_or (map (λ (step : Counted). step.stood) loads) w false

-- the Hold word named the node of the held record, and a claim stood in it
pub record FindsHeld (v : View) (loads : List Counted) : Type 0 where
  pub words : List ℕ
  pub holds : IsHolding words v
  pub names : found_at (claim_at (number v) HOLD) loads ≡ holds.node + 1
  pub stood : stood_at (claim_at (number v) HOLD) loads ≡ true

-- the seat's own claim words, as the loads of a scan found them: Walk and Own are 0, Back is 0 or a claim that stood, and Hold is 0, or the
-- claim that stands on the held record's node
pub record FindsOwnWords (v : View) (loads : List Counted) : Type 0 where
  pub back : (found_at (claim_at (number v) BACK) loads ≡ 0) ⊎ (stood_at (claim_at (number v) BACK) loads ≡ true)
  pub walk : found_at (claim_at (number v) WALK) loads ≡ 0
  pub own : found_at (claim_at (number v) OWN) loads ≡ 0
  pub hold : (found_at (claim_at (number v) HOLD) loads ≡ 0) ⊎ FindsHeld v loads

-- among the steps is a whole scan, which found the seat's own words so
pub record HasScanned (v : View) (steps : List Counted) : Type 0 where
  pub front : List Counted
  pub loads : List Counted
  pub back : List Counted
  pub whole : steps ≡ front ++ (loads ++ back)
  pub kinds : kinds_of loads ≡ scan_kinds 0 (CLAIMS * v.plan.seats)
  pub own_words : FindsOwnWords v loads

-- the seat may answer a call that changes nothing, at the place q
pub record MayAnswer (q : ℕ) (call : Call) (reply : Reply) (seat : SeatData) : Type 0 where
  pub stand : MayStand q call reply seat.view
  pub looked : HasLooked q call seat.view
  pub full : (need free : ℕ) → reply ≡ Full need free → (free ≡ length seat.free) × (seat.holding ≡ []) × HasScanned seat.view (drop seat.view.since seat.view.trail)

-- where a seat's free nodes are cut at a split
abbrev pub cut : SeatData → ℕ
cut seat = seat.view.plan.share * (length seat.view.numbers - 1)

-- a fresh seat was cut in two: the new one has the greatest number and its share
pub record IsSplit (old kept made : SeatData) : Type 0 where
  pub left : kept ≡ record old { view = left_view old.view; free = take (cut old) old.free }
  pub right : made ≡ record {
    object = old.object;
    view = right_view old.view;
    free = drop (cut old) old.free;
    holding = [];
    noted = [];
    first = false;
    fresh = true;
  }

-- all that a quiet seat had is the first seat's, which is quiet again; what the two had seen is in what it has seen now
pub record IsJoined (old from new : SeatData) : Type 0 where
  pub seat : new ≡ record old { view = joined_view old.view from.view; free = old.free ++ from.free; fresh = false }
  pub seen : GoesOn old.view.seen new.view.seen
  pub seen_from : GoesOn from.view.seen new.view.seen
  pub quiet : is_quiet new ≡ true
