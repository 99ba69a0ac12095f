-- The last part of a change of any cell, and what becomes of it.
use Rattle.std.specs.Prelude.{◌≡◌, ℕ, ◌+◌, ◌/◌, ◌≤◌, List, [], ◌++◌}
use Rattle.big_atomic.specs.Calling.{HasFound, HasLost, HasWon}
use Rattle.big_atomic.specs.Marks.{Tries}
use Rattle.big_atomic.specs.declared.answers.Install.{Install as Answer}
use Rattle.big_atomic.specs.declared.answers.Install.TheVariants.{Installed, Moved}
use Rattle.cache_copy.specs.Refreshing.{OnlyRefreshed, Refreshes}
use Rattle.cache_copy.specs.declared.answers.Refresh.{Refresh}
use Rattle.hazard_claims.specs.Claiming.{IsAnnounced}
use Rattle.hazard_claims.specs.declared.claims.Claim.TheVariants.{Own}
use Rattle.seat_history.specs.declared.call.Call.{Call}
use Rattle.step_rules.specs.Bags.{times}
use Rattle.step_rules.specs.Claims.{OWN}
use Rattle.step_rules.specs.Kinds.Backup.{MayExchange}
use Rattle.step_rules.specs.SeatData.{SeatData}
use Rattle.step_rules.specs.Sound.{Sound}
use Rattle.step_rules.specs.Steps.{stepped}
use Rattle.step_rules.specs.Views.{announced_view, cleared_view}
use Rattle.step_rules.specs.declared.view.Counted.{Counted}
use Rattle.step_rules.specs.declared.view.View.{View}

-- the exchange of the cell from the word to the held node may be tried for the call, once the node is announced
abbrev pub MayInstall : ℕ → ℕ → ℕ → Call → View → Type 0
MayInstall cell seen node call v = MayExchange cell seen node call (announced_view OWN node v)

-- the word that was found last in the cell, at the end of what is seen, is this one, or this one with its mark cleared
pub record HasNear (cell seen : ℕ) (v : View) : Type 0 where
  pub word : ℕ
  pub found : HasFound cell word v
  pub near : word / 2 ≡ seen / 2
  pub fell : word ≤ seen

-- what an exchange answers: it won, or it found another node
abbrev pub Exchanged : ℕ → ℕ → ℕ → Call → Answer → SeatData → SeatData → Type 0
Exchanged cell seen node call Installed before after = HasWon cell seen node call before after
Exchanged cell seen node call (Moved word) before after = HasLost cell seen word before after

-- the cell's inline words were refreshed by the version as far as may be: these steps tried to clear the mark
pub record TriesMark (cell node version : ℕ) (before after : SeatData) : Type 0 where
  pub answer : Refresh
  pub refreshes : Refreshes cell node version answer before after
  pub only : OnlyRefreshed before after
  pub steps : List Counted
  pub trail : after.view.trail ≡ before.view.trail ++ steps
  pub tries : Tries cell node version steps

-- the node was announced, its exchange won, the cell was refreshed, and the Own claim was ended: the call is the entry at its stand's place
pub record HasInstalled (cell version seen node : ℕ) (call : Call) (before after : SeatData) : Type 0 where
  pub announced : SeatData
  pub exchanged : SeatData
  pub refreshed : SeatData
  pub announces : IsAnnounced Own node before announced
  pub sound : Sound announced.view
  pub won : HasWon cell seen node call announced exchanged
  pub marked : TriesMark cell node version exchanged refreshed
  pub ends : after ≡ stepped (cleared_view OWN refreshed.view) refreshed

-- the node was announced, the exchange found a word with another node, and the Own claim was ended: the held nodes stay
pub record HasMissed (cell seen node word : ℕ) (before after : SeatData) : Type 0 where
  pub announced : SeatData
  pub exchanged : SeatData
  pub announces : IsAnnounced Own node before announced
  pub sound : Sound announced.view
  pub lost : HasLost cell seen word announced exchanged
  pub ends : after ≡ stepped (cleared_view OWN exchanged.view) exchanged

-- an install that keeps the held nodes where the exchange found another node
abbrev pub InstallTried : ℕ → ℕ → ℕ → ℕ → Call → Answer → SeatData → SeatData → Type 0
InstallTried cell version seen node call Installed before after = HasInstalled cell version seen node call before after
InstallTried cell version seen node call (Moved word) before after = HasMissed cell seen node word before after

-- the node was announced, the exchange found a word with another node, and the Own claim was ended; every node that was held is free again
pub record HasMoved (cell seen node word : ℕ) (before after : SeatData) : Type 0 where
  pub announced : SeatData
  pub exchanged : SeatData
  pub announces : IsAnnounced Own node before announced
  pub sound : Sound announced.view
  pub lost : HasLost cell seen word announced exchanged
  pub holding : after.holding ≡ []
  pub free : (n : ℕ) → times n after.free ≡ times n before.free + times n before.holding
  pub ends : after ≡ record (stepped (cleared_view OWN exchanged.view) exchanged) { free = after.free; holding = after.holding }

-- Installed exactly where the exchange won, and Moved exactly where it found another node
abbrev pub Installs : ℕ → ℕ → ℕ → ℕ → Call → Answer → SeatData → SeatData → Type 0
Installs cell version seen node call Installed before after = HasInstalled cell version seen node call before after
Installs cell version seen node call (Moved word) before after = HasMoved cell seen node word before after
