-- What a whole scan leaves.
use Rattle.std.specs.Prelude.{◌≡◌, ◌≢◌, ◌<◌, ◌⊎◌, ℕ, ◌+◌, ◌*◌, ◌≤◌, true, Bool, not, List, [], ◌∷◌, ◌++◌, filter, map, length}
use Rattle.step_rules.specs.Claims.{WALK}
use Rattle.step_rules.specs.Layout.{claim_at}
use Rattle.step_rules.specs.SeatData.{SeatData, is_quiet}
use Rattle.step_rules.specs.Steps.{found_at, kinds_of, scan_kinds, stepped, stood_at}
use Rattle.step_rules.specs.Views.{claim_of, cleared_view, counted, number}
use Rattle.step_rules.specs.World.{has}
use Rattle.step_rules.specs.declared.layout.TheConstants.{CLAIMS}
use Rattle.step_rules.specs.declared.view.Counted.{Counted}
use Rattle.step_rules.specs.declared.view.Kind.TheVariants.{ClaimClear}

-- the Walk claim's word was 0, or one claim clear made it so
abbrev pub ClearsWalk : SeatData → SeatData → Type 0
ClearsWalk old new = ((new ≡ old) × ((claim_of WALK old.view).word ≡ 0)) ⊎ (new ≡ stepped (cleared_view WALK old.view) old)

-- a found word names the node n
abbrev pub names : ℕ → List Counted → Bool
names n loads = has (map (λ (step : Counted). step.found) loads) (n + 1)

-- the Walk claim was cleared, if its word wasn't 0, and then all claim words were loaded in turn
pub record IsScan (old new : SeatData) : Type 0 where
  pub clear : List Counted
  pub cleared : (clear ≡ []) ⊎ (clear ≡ counted (ClaimClear WALK) 0 (length old.view.seen) ∷ [])
  pub walk_none : (claim_of WALK new.view).word ≡ 0
  pub loads : List Counted
  pub kinds : kinds_of loads ≡ scan_kinds 0 (CLAIMS * old.view.plan.seats)
  pub trail : new.view.trail ≡ old.view.trail ++ (clear ++ loads)
  -- just the retired nodes that none of the words found names are free now, besides those that were
  pub retired : new.view.retired ≡ filter (λ n. names n loads) old.view.retired
  pub free : new.free ≡ old.free ++ filter (λ n. not (names n loads)) old.view.retired
  pub few : length new.view.retired ≤ CLAIMS * old.view.plan.seats
  -- a seat that holds all numbers and is quiet has no retired nodes then
  pub none : length old.view.numbers ≡ old.view.plan.seats → is_quiet old ≡ true → new.view.retired ≡ []
  -- the words found in the seat's own claim words are those that stand there
  pub own_words : (c : ℕ) → c < CLAIMS → found_at (claim_at (number old.view) c) loads ≡ (claim_of c new.view).word
  -- and a claim stood in them just where one of the seat stands
  pub own_stood : (c : ℕ) → c < CLAIMS → stood_at (claim_at (number old.view) c) loads ≡ (claim_of c new.view).stands
  pub same : new ≡ stepped (record old.view {
    own = new.view.own;
    retired = new.view.retired;
    trail = new.view.trail;
    claims = new.view.claims;
    scan = new.view.scan;
  }) (record old { free = new.free })
  pub claims : (c : ℕ) → c ≢ WALK → claim_of c new.view ≡ claim_of c old.view
