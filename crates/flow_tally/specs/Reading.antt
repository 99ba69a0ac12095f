-- What the reading of one file gives, and of all.
use Rattle.std.specs.Prelude.{◌≡◌, ℕ, ◌+◌, ◌<◌, ◌≤◌, List, length, Option, Some, None, Result, Ok, Err, Vec}
use Rattle.std.specs.declared.alloc.Global.{Global}
use Rattle.wire_ports.specs.Ports.{Names, HasRisen, IsStartFailure, bytes_under}
use Rattle.wire_ports.specs.declared.feed.FailedIn.TheVariants.{Read}
use Rattle.netflow_five.specs.File.{joined, IsFile, IsBad}
use Rattle.netflow_five.specs.Next.{CameTo}
use Rattle.netflow_five.specs.declared.file_end.FileEnd.{FileEnd}
use Rattle.netflow_five.specs.declared.file_end.FileEnd.TheVariants as ending
use Rattle.flow_tally.specs.Input.{AreGood, IsBytesOf, FeedShown, IsReadOut, StopsAt}
use Rattle.flow_tally.specs.Gathered.{HasGathered}
use Rattle.flow_tally.specs.TallyOutcome.{AreTallied, files_in}
use Rattle.flow_tally.specs.Words.{Source}
use Rattle.flow_tally.specs.declared.status.Status.{Status}
use Rattle.flow_tally.specs.declared.status.Status.TheVariants.{OpenFault, ReadFault, BadDatagram, InputTooLarge, NoMemory}
use Rattle.flow_tally.specs.declared.gathered.Gathered.{Gathered}

-- the file has more than so many bytes, where the feed tells them
abbrev pub IsLongerFile : ℕ → Option Names → List ℕ → Type 0
IsLongerFile most None name = Unit {0}
IsLongerFile most (Some names) name = most < length (bytes_under names name)

-- what the reading of the file with this name and number gives
abbrev pub Reads : ℕ → FeedShown → List ℕ → ℕ → Result (Vec ℕ Global) Status → Type 0
Reads most feed name file (Ok bytes) = (length bytes.items ≤ most) × IsBytesOf feed.names name bytes.items × IsReadOut file feed
Reads most feed name file (Err (OpenFault number)) = (number ≡ file) × HasRisen feed.before feed.after × IsStartFailure feed.names name number feed.failed
Reads most feed name file (Err (ReadFault number)) = (number ≡ file) × HasRisen feed.before feed.after × (feed.failed ≡ Some (number, Read))
Reads most feed name file (Err (InputTooLarge number)) = (number ≡ file) × IsLongerFile most feed.names name × StopsAt file feed × (feed.given ≡ most + 1)
Reads most feed name file (Err NoMemory) = Unit {0}
Reads most feed name file (Err _) = ⊥

-- what the reading and decoding of a file gives; at Ok how many bytes it has
abbrev pub AddsFile : ℕ → FeedShown → List ℕ → ℕ → Gathered → Gathered → Result ℕ Status → Type 0
AddsFile most feed name file old new (Ok n) = (n ≤ most) × (bytes : List ℕ) × (ds : List (List ℕ))
    × (n ≡ length bytes) × IsBytesOf feed.names name bytes × IsFile bytes ds
    × CameTo (λ gathered collected. HasGathered collected gathered) old ds new × IsReadOut file feed
AddsFile most feed name file old new (Err (BadDatagram number offset cause)) = (number ≡ file) × (bytes : List ℕ)
    × IsBytesOf feed.names name bytes × (length bytes ≤ most) × IsBad bytes offset cause × StopsAt file feed
AddsFile most feed name file old new (Err status) = Reads most feed name file (Err status)

-- the files are good, and what was gathered is of the datagrams that they are
pub record IsGatheredOf (contents ds : List (List ℕ)) (gathered : Gathered) : Type 0 where
  pub good : AreGood contents
  pub file : IsFile (joined contents) ds
  pub all : HasGathered ds gathered

-- all files were read, and what is tallied was gathered
abbrev pub HasRead : FeedShown → Source → Gathered → Type 0
HasRead feed source gathered = IsReadOut (length (files_in source)) feed
    × (contents : List (List ℕ)) × (ds : List (List ℕ)) × AreTallied feed.names source contents × IsGatheredOf contents ds gathered

-- the status of a file that wasn't added
abbrev pub status_of : ℕ → FileEnd → Status
status_of file ending.Failed = ReadFault file
status_of file ending.TooLarge = InputTooLarge file
status_of file (ending.Malformed offset cause) = BadDatagram file offset cause
status_of file ending.NoMemory = NoMemory
