-- The files that a tally reads, and the first of them that can't be tallied.
use Rattle.std.specs.Prelude.{◌≡◌, ℕ, ◌+◌, ◌^◌, ◌<◌, ◌≤◌, Bool, true, List, [], length, option_map, map, take, Option, Some, None, slice_get}
use Rattle.std.specs.List.{AllByRecursion}
use Rattle.wire_ports.specs.Ports.{Names, HasRisen, IsStartFailure, bytes_under}
use Rattle.wire_ports.specs.declared.feed.FailedIn.{FailedIn}
use Rattle.wire_ports.specs.declared.feed.FailedIn.TheVariants.{Read}
use Rattle.netflow_five.specs.File.{joined, IsWellFormed, IsBad}
use Rattle.netflow_five.specs.declared.malformed.Malformed.{Malformed}
use Rattle.flow_tally.specs.declared.status.Status.{Status}
use Rattle.flow_tally.specs.declared.status.Status.TheVariants.{OpenFault, ReadFault, BadDatagram, InputTooLarge, NoMemory}

-- the most bytes of all files together
abbrev pub most_bytes : ℕ
most_bytes = 2 ^ 28

-- the bytes of the files of these names, in order, where the feed tells them; else some bytes for each
abbrev pub AreContents : Option Names → List (List ℕ) → List (List ℕ) → Type 0
AreContents None files contents = length contents ≡ length files
AreContents (Some names) files contents = contents ≡ map (bytes_under names) files

-- these are the bytes of this name, where the feed tells them
abbrev pub IsBytesOf : Option Names → List ℕ → List ℕ → Type 0
IsBytesOf None name bytes = Unit {0}
IsBytesOf (Some names) name bytes = bytes ≡ bytes_under names name

-- each is well formed, and together they are within the limit
pub record AreGood (contents : List (List ℕ)) : Type 0 where
  pub each : AllByRecursion IsWellFormed contents
  pub within : length (joined contents) ≤ most_bytes

-- the file with this number, counted from 1, has this name, and the files before it are good
pub record IsAt (names : Option Names) (files : List (List ℕ)) (file : ℕ) (before : List (List ℕ)) (name : List ℕ) : Type 0 where
  pub number : file ≡ length before + 1
  pub name_there : slice_get files (length before) ≡ Some name
  pub told : AreContents names (take (length before) files) before
  pub good : AreGood before

-- what a feed told in a run: its files; its faults and its last failure before and after; the number of the
-- file that was started last, whether it still is, what is left of it, and how many of its bytes were read
pub record FeedShown : Type 0 where
  pub names : Option Names
  pub before : ℕ
  pub after : ℕ
  pub failed_before : Option (ℕ × FailedIn)
  pub failed : Option (ℕ × FailedIn)
  pub current : ℕ
  pub started : Bool
  pub left : Option (List ℕ)
  pub given : ℕ

-- that, by what the feed tells of its old and new state
abbrev pub feed_shown : {Feed : Type 0} → (Feed → Option Names) → (Feed → ℕ) → (Feed → Option (ℕ × FailedIn)) → (Feed → ℕ) → (Feed → Bool) → (Feed → Option (List ℕ))
    → (Feed → ℕ) → Feed → Feed → FeedShown
feed_shown files faults failed current started left given old new = record {
  names = files old;
  before = faults old;
  after = faults new;
  failed_before = failed old;
  failed = failed new;
  current = current new;
  started = started new;
  left = left new;
  given = given new;
}

-- no call of the feed failed, and the file with this number was started last
pub record StopsAt (file : ℕ) (feed : FeedShown) : Type 0 where
  pub last : feed.current ≡ file
  pub no_fault : feed.after ≡ feed.before
  pub no_failure : feed.failed ≡ feed.failed_before

-- no call of the feed failed; of so many files the last was started last, and nothing of it is left
pub record IsReadOut (count : ℕ) (feed : FeedShown) : Type 0 where
  pub last : 0 < count → feed.current ≡ count
  pub started : 0 < count → feed.started ≡ true
  pub none_left : 0 < count → feed.left ≡ option_map (λ _. []) feed.names
  pub no_fault : feed.after ≡ feed.before
  pub no_failure : feed.failed ≡ feed.failed_before

-- the bytes of this file and of those before it are more than the limit, where the feed tells them
abbrev pub IsTooLarge : Option Names → List (List ℕ) → List ℕ → Type 0
IsTooLarge None before name = Unit {0}
IsTooLarge (Some names) before name = most_bytes < length (joined before) + length (bytes_under names name)

-- the file is within the limit and has no further datagram from the offset on, for this cause
pub record IsBadFile (names : Option Names) (before : List (List ℕ)) (name bytes : List ℕ) (offset : ℕ) (cause : Malformed) : Type 0 where
  pub told : IsBytesOf names name bytes
  pub within : length (joined before) + length bytes ≤ most_bytes
  pub bad : IsBad bytes offset cause

-- this file is the first that isn't good: with those before it has too many bytes
abbrev pub IsFirstTooLarge : Option Names → List (List ℕ) → ℕ → Type 0
IsFirstTooLarge names files file = (before : List (List ℕ)) × (name : List ℕ) × IsAt names files file before name × IsTooLarge names before name

-- this file is the first that isn't good: from the offset on it has no further datagram, for this cause
abbrev pub IsFirstBad : Option Names → List (List ℕ) → ℕ → ℕ → Malformed → Type 0
IsFirstBad names files file offset cause = (before : List (List ℕ)) × (name : List ℕ) × (bytes : List ℕ) × IsAt names files file before name
    × IsBadFile names before name bytes offset cause

-- of this file and the good ones before it one byte more than the limit was read, whatever the feed tells of its files
abbrev pub IsReadPast : List (List ℕ) → ℕ → FeedShown → Type 0
IsReadPast files file feed = (before : List (List ℕ)) × (name : List ℕ) × IsAt feed.names files file before name
    × (length (joined before) + feed.given ≡ most_bytes + 1)

-- no call of the feed failed, and the file with this number was started last and read past the limit
pub record StopsPast (files : List (List ℕ)) (file : ℕ) (feed : FeedShown) : Type 0 where
  pub stops : StopsAt file feed
  pub past : IsReadPast files file feed

-- why the files can't be tallied, and that no later one was started; nothing says when memory runs out
abbrev pub RefusesFiles : List (List ℕ) → FeedShown → Status → Type 0
RefusesFiles files feed (OpenFault file) = (before : List (List ℕ)) × (name : List ℕ) × IsAt feed.names files file before name
    × HasRisen feed.before feed.after × IsStartFailure feed.names name file feed.failed × (feed.current ≡ file)
RefusesFiles files feed (ReadFault file) = (before : List (List ℕ)) × (name : List ℕ) × IsAt feed.names files file before name
    × HasRisen feed.before feed.after × (feed.failed ≡ Some (file, Read)) × (feed.current ≡ file)
RefusesFiles files feed (InputTooLarge file) = IsFirstTooLarge feed.names files file × StopsPast files file feed
RefusesFiles files feed (BadDatagram file offset cause) = IsFirstBad feed.names files file offset cause × StopsAt file feed
RefusesFiles files feed NoMemory = Unit {0}
RefusesFiles files feed _ = ⊥
