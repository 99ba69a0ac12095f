-- A copy along the claimed chain, as far as it has come, and given up.
use Rattle.std.specs.Prelude.{◌≡◌, ℕ, ◌+◌, ◌*◌, ◌-◌, true, false, suc, List, [], ◌∷◌, ◌++◌, Option, Some, None, drop, length, slice_index, take}
use mathlib.Core.Option.{some}
use lib.ListN.{get_elem?}
use Rattle.chain_links.specs.Parts.{HasDone, OnlyCopied, Part, pages_read, with_note}
use Rattle.chain_links.specs.Walking.{ChangedByAnother, HasBack, HasPassed, HasStrayed, MadeNoChange}
use Rattle.chain_links.specs.declared.answers.Front.{Front}
use Rattle.chain_links.specs.declared.answers.Front.TheVariants.{Ready, Moved}
use Rattle.chain_links.specs.declared.copied.Copied.{Copied}
use Rattle.node_pool.specs.Pool.{IsAllPutBack}
use Rattle.seat_history.specs.declared.words.TheConstants.{WIDTH}
use Rattle.step_rules.specs.Bags.{times}
use Rattle.step_rules.specs.Claims.{BACK, On}
use Rattle.step_rules.specs.Fronts.{IsFront, fallen_of, front_of, with_words}
use Rattle.step_rules.specs.Records.{Edit as Change, out, records_of, set, with_value}
use Rattle.step_rules.specs.SeatData.{IsSeat, SeatData}
use Rattle.step_rules.specs.Views.{claim_of, claimed_pages, claimed_records}
use Rattle.step_rules.specs.World.{Linked, has, nodes_of}
use Rattle.step_rules.specs.declared.view.Held.{Held}

-- the words go on to a link of the claimed chain, which isn't noted
pub record HasNext (words : List ℕ) (seat : SeatData) : Type 0 where
  pub link : ℕ
  pub named : slice_index words WIDTH ≡ link + 1
  pub page : has (nodes_of (drop 1 (claimed_pages seat.view))) link ≡ true
  pub unnoted : has seat.noted link ≡ false

-- the link was announced, the cell was found to name another node than that of `seen`, and every node that was held is free again
pub record HasTurnedBack (cell seen link : ℕ) (before now : SeatData) : Type 0 where
  pub strayed : SeatData
  pub strays : HasStrayed cell seen link before strayed
  pub frees : IsAllPutBack strayed now

-- the link was passed and noted
pub record HasNoted (cell seen : ℕ) (page : Held) (before now : SeatData) : Type 0 where
  pub passed : SeatData
  pub passes : HasPassed cell seen page before passed
  pub notes : now ≡ with_note page.node passed

-- what comes of the link that the words go on to
abbrev pub IsFollowed : ℕ → ℕ → List ℕ → Option (List ℕ) → SeatData → SeatData → Type 0
IsFollowed cell seen words None before now = HasTurnedBack cell seen (slice_index words WIDTH - 1) before now
IsFollowed cell seen words (Some found) before now = HasNoted cell seen (record { node = slice_index words WIDTH - 1; words = found }) before now

-- what a copy from this seat rests on
pub record CopiesFrom (cell : ℕ) (before : SeatData) : Type 0 where
  pub law : IsSeat before
  pub back : HasBack cell before.view
  pub unchanged : MadeNoChange cell before.view
  pub idle : before.holding ≡ []

-- the first nodes of the claimed chain were read, up to the one at this place, which has these words, and its links up to there are noted; the
-- records before that place are copied to held nodes, the last of which goes on to the node `last`, which is held too; `head` is the first
pub record IsCopying (cell at head last : ℕ) (words : List ℕ) (before now : SeatData) : Type 0 where
  pub from : CopiesFrom cell before
  pub law : IsSeat now
  pub parts : List Part
  pub done : HasDone cell (2 * from.back.node) parts before now
  pub read : pages_read parts ≡ take (suc at) (claimed_pages before.view)
  pub node : ℕ
  pub place : get_elem? (claimed_pages before.view) at ≡ some (record { node = node; words = words })
  pub noted : now.noted ≡ nodes_of (take at (drop 1 (claimed_pages before.view)))
  pub filled : List ℕ
  pub long : length filled ≡ at
  pub holding : now.holding ≡ filled ++ last ∷ []
  pub tail : List ℕ
  pub heads : filled ++ last ∷ [] ≡ head ∷ tail
  pub linked : Linked (with_words now.view.own filled) (suc last)
  pub records : records_of (with_words now.view.own filled) ≡ take at (claimed_records before.view)
  pub only : OnlyCopied before now

-- some nodes of the chain were read, in their order, and at the next link the copy turned back, after a change of another caller: every node
-- that was taken is free again
pub record HasGivenUp (cell : ℕ) (before now : SeatData) : Type 0 where
  pub first : ℕ
  pub stands : On (claim_of BACK before.view) first
  pub parts : List Part
  pub mid : SeatData
  pub done : HasDone cell (2 * first) parts before mid
  pub passed : ℕ
  pub read : pages_read parts ≡ take (suc passed) (claimed_pages before.view)
  pub page : Held
  pub link : get_elem? (claimed_pages before.view) (suc passed) ≡ some page
  pub turned : HasTurnedBack cell (2 * first) page.node mid now
  pub another : ChangedByAnother cell now.view
  pub holding : now.holding ≡ []
  pub free : (m : ℕ) → times m now.free ≡ times m before.free
  pub only : OnlyCopied before now

abbrev pub IsCopiedTo : ℕ → ℕ → Option Copied → SeatData → SeatData → Type 0
IsCopiedTo cell at None before now = HasGivenUp cell before now
IsCopiedTo cell at (Some copied) before now = IsCopying cell at copied.head copied.last copied.words before now

-- the seat holds the front of the change, whose nodes were free, and the links that fall out are noted; nodes of the chain were read, each once
-- and in their order
pub record HasFront (cell node : ℕ) (change : Change) (before now : SeatData) : Type 0 where
  pub first : ℕ
  pub stands : On (claim_of BACK before.view) first
  pub parts : List Part
  pub done : HasDone cell (2 * first) parts before now
  pub passed : ℕ
  pub read : pages_read parts ≡ take (suc passed) (claimed_pages before.view)
  pub front : IsFront node change now.view
  pub held : (m : ℕ) → has now.holding m ≡ has (nodes_of (front_of node change now.view)) m
  pub free : (m : ℕ) → times m now.free + times m now.holding ≡ times m before.free
  pub noted : nodes_of (drop 1 (fallen_of change now.view)) ≡ now.noted
  pub only : OnlyCopied before now

-- what comes of a change of the record at a place: it has a new value, or falls out
abbrev pub IsReplaced : ℕ → ℕ → List ℕ → Front → SeatData → SeatData → Type 0
IsReplaced cell at val (Ready node) before now = (rec : List ℕ) × (get_elem? (claimed_records before.view) at ≡ some rec) × HasFront cell node (set at (with_value rec val)) before now
IsReplaced cell at val Moved before now = HasGivenUp cell before now

abbrev pub IsRemoved : ℕ → ℕ → Front → SeatData → SeatData → Type 0
IsRemoved cell at (Ready node) before now = HasFront cell node (out at) before now
IsRemoved cell at Moved before now = HasGivenUp cell before now
