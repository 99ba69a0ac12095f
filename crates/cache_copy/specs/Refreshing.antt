-- A change in flight, what its refresh found, the refresh's own steps, and what it leaves of its seat.
use Rattle.std.specs.Prelude.{◌≡◌, ◌≢◌, ℕ, ◌+◌, ◌*◌, ◌^◌, ◌<◌, ◌≤◌, suc, List, [], ◌∷◌, ◌++◌, length}
use Rattle.cache_copy.specs.declared.answers.Refresh.{Refresh}
use Rattle.cache_copy.specs.declared.answers.Refresh.TheVariants.{Refreshed, LeftStale}
use Rattle.cache_copy.specs.declared.answers.Stale.TheVariants.{Odd, Last, Moved, Replaced}
use Rattle.step_rules.specs.Claims.{OWN}
use Rattle.step_rules.specs.History.{GoesOn}
use Rattle.step_rules.specs.SeatData.{SeatData}
use Rattle.step_rules.specs.Steps.{Sees, stepped}
use Rattle.step_rules.specs.Versions.{IsEven, IsOdd}
use Rattle.step_rules.specs.Views.{claim_of, counted, missed_view}
use Rattle.step_rules.specs.Writers.{Flies}
use Rattle.step_rules.specs.declared.layout.TheConstants.{NODE_WIDTH}
use Rattle.step_rules.specs.declared.view.Counted.{Counted}
use Rattle.step_rules.specs.declared.view.Kind.TheVariants.{InlineStore, MarkClear, VersionLock, VersionRelease}
use Rattle.step_rules.specs.declared.view.Stage.TheVariants.{Locked, Released}
use Rattle.step_rules.specs.declared.view.View.{View}
use Rattle.step_rules.specs.declared.view.Writer.{Writer}

-- a change that installed the node n in the cell k is in flight
pub record IsInFlight (k n : ℕ) (v : View) : Type 0 where
  pub flies : Flies v.writer
  pub cell : v.writer.cell ≡ k
  pub node : v.writer.node ≡ n

-- the words of the node that it installed: its Own claim stands there
abbrev pub own_words : View → List ℕ
own_words v = (claim_of OWN v).image

-- stores of these words into the inline words of the cell k from the word j on
abbrev pub copy_steps : ℕ → ℕ → List ℕ → ℕ → List Counted
copy_steps k j [] seen = []
copy_steps k j (w ∷ ws) seen = counted (InlineStore k j w) w seen ∷ copy_steps k (suc j) ws seen

-- a lock of the cell from the version u, such stores, and the release
abbrev pub write_steps : ℕ → ℕ → List ℕ → ℕ → List Counted
write_steps k u ws seen = counted (VersionLock k u) u seen ∷ (copy_steps k 0 ws seen ++ counted (VersionRelease k u) (u + 2) seen ∷ [])

-- the view after them
abbrev pub written_view : ℕ → ℕ → View → View
written_view k u v = record v {
  trail = v.trail ++ write_steps k u (own_words v) (length v.seen);
  writer = record v.writer { stage = Released; version = u; stores = NODE_WIDTH };
}

-- the lock found another version
pub record FoundMoved (k u : ℕ) (before now : SeatData) : Type 0 where
  pub even : IsEven u
  pub small : u < 2 ^ 63
  pub found : ℕ
  pub moved : found ≢ u
  pub after : now ≡ stepped (missed_view k u found before.view) before

-- the cell was locked, all words of the node were stored and the lock was released; then the clear of the mark found the word x
pub record HasCopied (k n u x : ℕ) (before now : SeatData) : Type 0 where
  pub even : IsEven u
  pub small : u < 2 ^ 63
  pub whole : length (own_words before.view) ≡ NODE_WIDTH
  pub clear : Sees (MarkClear k n) k x (stepped (written_view k u before.view) before) now
  pub trail : now.view.trail ≡ before.view.trail ++ (write_steps k u (own_words before.view) (length before.view.seen)
      ++ counted (MarkClear k n) x (length now.view.seen) ∷ [])
  pub writer : now.view.writer ≡ record before.view.writer { stage = Released; version = u; stores = NODE_WIDTH }

-- the cause of each answer, with the steps that were made, one after the other
abbrev pub Refreshes : ℕ → ℕ → ℕ → Refresh → SeatData → SeatData → Type 0
Refreshes k n u (LeftStale Odd) before now = IsOdd u × (now ≡ before)
Refreshes k n u (LeftStale Last) before now = IsEven u × (2 ^ 63 ≤ u) × (now ≡ before)
Refreshes k n u (LeftStale Moved) before now = FoundMoved k u before now
Refreshes k n u (LeftStale Replaced) before now = (x : ℕ) × (x ≢ 2 * n + 1) × HasCopied k n u x before now
Refreshes k n u Refreshed before now = HasCopied k n u (2 * n + 1) before now

-- how far a change in flight is, where it stays the same change
abbrev pub further : Writer → Writer → Writer
further w u = record w { stage = u.stage; version = u.version; stores = u.stores }

-- of the seat only what it has seen, which goes on, its last look, its trail and how far its change is are others, and no lock is held that
-- wasn't
pub record OnlyRefreshed (before now : SeatData) : Type 0 where
  pub same : now ≡ record before {
    view = record before.view { seen = now.view.seen; look = now.view.look; trail = now.view.trail; writer = further before.view.writer now.view.writer };
    fresh = now.fresh;
  }
  pub seen : GoesOn before.view.seen now.view.seen
  pub unlocked : before.view.writer.stage ≢ Locked → now.view.writer.stage ≢ Locked

-- it has locked the cell k, where it installed the node n, and has stored no word yet
pub record HasLock (k n : ℕ) (v : View) : Type 0 where
  pub locked : v.writer.stage ≡ Locked
  pub cell : v.writer.cell ≡ k
  pub node : v.writer.node ≡ n
  pub none_stored : v.writer.stores ≡ 0

-- the view after the stores of all its words
abbrev pub copied_view : ℕ → View → View
copied_view k v = record v { trail = v.trail ++ copy_steps k 0 (own_words v) (length v.seen); writer = record v.writer { stores = NODE_WIDTH } }
