-- What a walk along the claimed chain does and says.
use Rattle.std.specs.Prelude.{◌≡◌, ℕ, ◌*◌, ◌-◌, List, [], ◌∷◌, Option, Some, None, drop, length, false, suc, zero, ⊤}
use mathlib.Core.Option.{some}
use lib.ListN.{get_elem?}
use Rattle.chain_links.specs.declared.answers.Walk.{Walk as Answer}
use Rattle.chain_links.specs.declared.answers.Walk.TheVariants.{Found, End, Moved}
use Rattle.hazard_claims.specs.Claiming.{IsAnnounced, Rechecked}
use Rattle.hazard_claims.specs.declared.answers.Recheck.TheVariants.{Same, Other}
use Rattle.hazard_claims.specs.declared.claims.Claim.TheVariants.{Walk}
use Rattle.node_pool.specs.Pool.{IsRead}
use Rattle.seat_history.specs.Key.{key_number}
use Rattle.seat_history.specs.declared.entry.Entry.{Entry}
use Rattle.seat_history.specs.declared.key.KeyWords.{KeyWords}
use Rattle.step_rules.specs.Claims.{BACK, On}
use Rattle.step_rules.specs.History.{cell_of}
use Rattle.step_rules.specs.Records.{place_in, value_in}
use Rattle.step_rules.specs.SeatData.{SeatData}
use Rattle.step_rules.specs.Sound.{Sound}
use Rattle.step_rules.specs.Views.{claim_of, claimed_pages, claimed_records}
use Rattle.step_rules.specs.World.{has}
use Rattle.step_rules.specs.declared.plan.Plan.{Plan}
use Rattle.step_rules.specs.declared.view.Held.{Held}
use Rattle.step_rules.specs.declared.view.View.{View}

-- the seat's Back claim stands on a node of the cell
pub record HasBack (cell : ℕ) (v : View) : Type 0 where
  pub node : ℕ
  pub stands : On (claim_of BACK v) node
  pub cell_is : (claim_of BACK v).cell ≡ cell

-- of these entries none is on the cell k and of one of these callers
abbrev pub NoneOf : Plan → ℕ → List ℕ → List Entry → Type 0
NoneOf p k numbers [] = ⊤
NoneOf p k numbers (e ∷ r) = (cell_of p e.call ≡ k → has numbers e.caller ≡ false) × NoneOf p k numbers r

-- of these entries one is on the cell k, and of none of these callers
pub record IsChangedByAnother (p : Plan) (k : ℕ) (numbers : List ℕ) (es : List Entry) : Type 0 where
  pub place : ℕ
  pub entry : Entry
  pub at : get_elem? es place ≡ some entry
  pub cell_is : cell_of p entry.call ≡ k
  pub another : has numbers entry.caller ≡ false

-- what the seat has seen of the history since the recheck from which its Back claim stands
abbrev pub since_claim : View → List Entry
since_claim v = drop (claim_of BACK v).at v.seen

-- the seat made no change of the cell since then
abbrev pub MadeNoChange : ℕ → View → Type 0
MadeNoChange cell v = NoneOf v.plan cell v.numbers (since_claim v)

-- another caller did
abbrev pub ChangedByAnother : ℕ → View → Type 0
ChangedByAnother cell v = IsChangedByAnother v.plan cell v.numbers (since_claim v)

-- the link was announced in Walk, the cell was found to name the node of `seen` still, and the link's words were read
pub record HasPassed (cell seen : ℕ) (page : Held) (before now : SeatData) : Type 0 where
  pub announced : SeatData
  pub rechecked : SeatData
  pub found : ℕ
  pub announces : IsAnnounced Walk page.node before announced
  pub announced_sound : Sound announced.view
  pub rechecks : Rechecked Walk cell seen (Same found) announced rechecked
  pub rechecked_sound : Sound rechecked.view
  pub reads : IsRead page.node page.words rechecked now
  pub sound : Sound now.view

-- the link was announced in Walk, and the cell was found to name another node than that of `seen`
pub record HasStrayed (cell seen link : ℕ) (before now : SeatData) : Type 0 where
  pub announced : SeatData
  pub found : ℕ
  pub announces : IsAnnounced Walk link before announced
  pub announced_sound : Sound announced.view
  pub rechecks : Rechecked Walk cell seen (Other found) announced now
  pub sound : Sound now.view

-- one more link
abbrev pub HasTurned : ℕ → ℕ → ℕ → Option (List ℕ) → SeatData → SeatData → Type 0
HasTurned cell seen link None before now = HasStrayed cell seen link before now
HasTurned cell seen link (Some words) before now = HasPassed cell seen (record { node = link; words = words }) before now

-- the first node of the claimed chain was read, and after it n links in their order, each once; no step but these was made
abbrev pub HasCome : ℕ → ℕ → ℕ → SeatData → SeatData → Type 0
HasCome cell seen zero before now = (page : Held) × (get_elem? (claimed_pages before.view) 0 ≡ some page) × IsRead page.node page.words before now × Sound now.view
HasCome cell seen (suc n) before now = (mid : SeatData) × (page : Held) × HasCome cell seen n before mid
    × (get_elem? (claimed_pages before.view) (suc n) ≡ some page) × HasPassed cell seen page mid now

-- after some links the cell was found to name another node, by a change of another caller
pub record HasMoved (cell seen : ℕ) (before now : SeatData) : Type 0 where
  pub passed : ℕ
  pub mid : SeatData
  pub page : Held
  pub come : HasCome cell seen passed before mid
  pub link : get_elem? (claimed_pages before.view) (suc passed) ≡ some page
  pub strayed : HasStrayed cell seen page.node mid now
  pub another : ChangedByAnother cell now.view

-- Found exactly where the key's record stands there on the claimed chain, End exactly where the key has none on it
abbrev pub Says : ℕ → KeyWords → ℕ → Answer → SeatData → SeatData → Type 0
Says cell key seen (Found at val) before now =
    HasCome cell seen at before now × (place_in (claimed_records before.view) (key_number key) ≡ at) × (value_in (claimed_records before.view) (key_number key) ≡ Some val)
Says cell key seen (End count) before now =
    HasCome cell seen (count - 1) before now × (length (claimed_records before.view) ≡ count) × (value_in (claimed_records before.view) (key_number key) ≡ None)
Says cell key seen Moved before now = HasMoved cell seen before now

-- a walk from the node that the Back claim stands on
pub record IsWalked (cell : ℕ) (key : KeyWords) (answer : Answer) (before now : SeatData) : Type 0 where
  pub node : ℕ
  pub back : On (claim_of BACK before.view) node
  pub says : Says cell key (2 * node) answer before now
