-- Versions and inline words: what their steps ask of a seat.
use Rattle.std.specs.Prelude.{◌≡◌, ℕ, ◌^◌, ◌<◌, true, length, slice_index, take}
use Rattle.step_rules.specs.Claims.{OWN}
use Rattle.step_rules.specs.Readers.{IsFirst}
use Rattle.step_rules.specs.Records.{records_at}
use Rattle.step_rules.specs.Versions.{FoundVersion, IsEven}
use Rattle.step_rules.specs.Views.{claim_of}
use Rattle.step_rules.specs.Writers.{Flies}
use Rattle.step_rules.specs.declared.layout.TheConstants.{NODE_WIDTH}
use Rattle.step_rules.specs.declared.view.Stage.TheVariants.{Locked, Released}
use Rattle.step_rules.specs.declared.view.View.{View}

-- a change in flight in the cell k may lock it from the even version u, which the seat found there before its exchange
pub record MayLock (k u : ℕ) (v : View) : Type 0 where
  pub flies : Flies v.writer
  pub cell : v.writer.cell ≡ k
  pub even : IsEven u
  pub small : u < 2 ^ 63
  pub found : FoundVersion k u v.writer.before

-- it has locked the cell, and x is the word j of its node, after as many words as it has stored
pub record MayCopy (k j x : ℕ) (v : View) : Type 0 where
  pub locked : v.writer.stage ≡ Locked
  pub cell : v.writer.cell ≡ k
  pub next : v.writer.stores ≡ j
  pub inside : j < NODE_WIDTH
  pub word : x ≡ slice_index (claim_of OWN v).image j

-- it has locked the cell from the version u, and has stored all words
pub record MayRelease (k u : ℕ) (v : View) : Type 0 where
  pub locked : v.writer.stage ≡ Locked
  pub cell : v.writer.cell ≡ k
  pub version : v.writer.version ≡ u
  pub stores : v.writer.stores ≡ NODE_WIDTH

-- it has released the cell k, where it installed the node n
pub record MayUnmark (k n : ℕ) (v : View) : Type 0 where
  pub released : v.writer.stage ≡ Released
  pub cell : v.writer.cell ≡ k
  pub node : v.writer.node ≡ n

-- a read of the cell k under an even version goes on with the inline word j
pub record MayRead (k j : ℕ) (v : View) : Type 0 where
  pub cell : v.reader.cell ≡ k
  pub even : IsEven v.reader.version
  pub next : length v.reader.words ≡ j
  pub inside : j < NODE_WIDTH

-- it has read all words, and then found the backup unmarked
pub record MayEndRead (k : ℕ) (v : View) : Type 0 where
  pub cell : v.reader.cell ≡ k
  pub even : IsEven v.reader.version
  pub unmarked : v.reader.unmarked ≡ true

-- and where it finds its version again, its words are those of the first node that the cell had where the backup was unmarked
abbrev pub EndsRead : ℕ → ℕ → View → Type 0
EndsRead k x v = x ≡ v.reader.version → IsFirst (records_at v.plan (take v.reader.at v.seen) k) v.reader.words
