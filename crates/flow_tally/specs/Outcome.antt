-- What the words and the files determine, and what each status says of a run.
use Rattle.std.specs.Prelude.{◌≡◌, ◌⊎◌, ℕ, ◌≤◌, List, [], ◌∷◌, length, Option, Some, None}
use Rattle.wire_ports.specs.Bytes.{Appends}
use Rattle.wire_ports.specs.Ports.{Names, HasRisen}
use Rattle.flow_tally.specs.DriveOutcome.{IsDriveOutcome, IsDriven}
use Rattle.flow_tally.specs.Input.{FeedShown, IsReadOut, RefusesFiles, StopsAt, StopsPast}
use Rattle.flow_tally.specs.OutShown.{OutShown, IsUntouched, TookAll, TookFront}
use Rattle.flow_tally.specs.TallyOutcome.{IsGenerated, IsPrinted, IsPrintedOn, IsTallyOutcome, files_in, most_nodes, nodes_of}
use Rattle.flow_tally.specs.Words.{Command, OfTally, OfDrive}
use Rattle.flow_tally.specs.declared.status.Status.{Status}
use Rattle.flow_tally.specs.declared.status.Status.TheVariants.{Done, Usage, OpenFault, ReadFault, WriteFault, BadDatagram, TooManyFlows, InputTooLarge, BadScript, NoMemory, PlanTooLarge}
use Rattle.step_rules.specs.Closing.{ClosedData}

-- the names of the files that are read, in order
abbrev pub files_of : Option Command → List (List ℕ)
files_of None = []
files_of (Some (OfTally tally)) = files_in tally.source
files_of (Some (OfDrive drive)) = drive.file ∷ []

-- the nodes of the command's object are within the limit
abbrev pub PlanFits : Option Command → Type 0
PlanFits None = Unit {0}
PlanFits (Some (OfTally tally)) = nodes_of tally ≤ most_nodes
PlanFits (Some (OfDrive drive)) = Unit {0}

-- the status that the words come to with the files under these names; devices and memory aside
abbrev pub IsOutcome : Option Command → Option Names → Status → Type 0
IsOutcome None names status = status ≡ Usage
IsOutcome (Some (OfTally tally)) names status = IsTallyOutcome tally names status
IsOutcome (Some (OfDrive drive)) names status = IsDriveOutcome drive names status

-- the same, where the feed tells its files
abbrev pub Determines : Option Command → Names → Status → Type 0
Determines asked names status = IsOutcome asked (Some names) status

-- the text is the output that the words ask for, with the files under these names, by this closed object
abbrev pub IsOutput : Option Command → Option Names → ClosedData → List ℕ → Type 0
IsOutput None names closed text = ⊥
IsOutput (Some (OfTally tally)) names closed text = IsPrintedOn tally names closed text
IsOutput (Some (OfDrive drive)) names closed text = IsDriven drive names closed text

-- the plan fits, all files were read, and the text is the output
abbrev pub Prints : Option Command → FeedShown → ClosedData → List ℕ → Type 0
Prints asked feed closed text = PlanFits asked × IsReadOut (length (files_of asked)) feed × IsOutput asked feed.names closed text

-- how far the files were read: up to the one that is refused, past the limit where that is the cause, and all of them at too many flows
abbrev pub HasStopped : Option Command → FeedShown → Status → Type 0
HasStopped asked feed (BadDatagram file offset cause) = StopsAt file feed
HasStopped asked feed (InputTooLarge file) = StopsPast (files_of asked) file feed
HasStopped asked feed (BadScript fault) = StopsAt 1 feed
HasStopped asked feed (TooManyFlows limit) = IsReadOut (length (files_of asked)) feed
HasStopped asked feed _ = Unit {0}

-- why there is no output; nothing says when memory runs out
abbrev pub Refuses : Option Command → FeedShown → Status → Type 0
Refuses asked feed Done = ⊥
Refuses asked feed (OpenFault file) = PlanFits asked × RefusesFiles (files_of asked) feed (OpenFault file)
Refuses asked feed (ReadFault file) = PlanFits asked × RefusesFiles (files_of asked) feed (ReadFault file)
Refuses asked feed NoMemory = Unit {0}
Refuses asked feed status = IsOutcome asked feed.names status × HasStopped asked feed status

-- the object is there, and gives the text
abbrev pub GivenBy : (ClosedData → List ℕ → Type 0) → Option ClosedData → List ℕ → Type 0
GivenBy gives closed text = (object : ClosedData) × (closed ≡ Some object) × gives object text

-- how a run ends whose output some object gives: at Done the sink took all of it, at a fault of the output so many first bytes; each other status is a refusal,
-- at which nothing was written and no object is there
abbrev pub Ends : (ClosedData → List ℕ → Type 0) → (Status → Type 0) → OutShown → Option ClosedData → Status → Type 0
Ends gives refuses out closed Done = (text : List ℕ) × GivenBy gives closed text × TookAll text out
Ends gives refuses out closed (WriteFault written) = (text : List ℕ) × GivenBy gives closed text × TookFront text written out
Ends gives refuses out closed status = refuses status × IsUntouched out × (closed ≡ None)

-- what a status says of a run with these words
abbrev pub Says : Option Command → FeedShown → OutShown → Option ClosedData → Status → Type 0
Says asked feed out closed status = Ends (Prints asked feed) (Refuses asked feed) out closed status

-- what the sink took: the output at Done, so many first bytes of it at a fault of the output, and else nothing
abbrev pub HasOutput : Option Command → Names → OutShown → Option ClosedData → Status → Type 0
HasOutput asked names out closed status = Ends (IsOutput asked (Some names)) (λ _. Unit {0}) out closed status

-- the words ask for a tally, and the text is what is printed of it with the files under these names
abbrev pub IsPrintedOf : Option Command → Names → List ℕ → Type 0
IsPrintedOf (Some (OfTally tally)) names text = IsPrinted tally (Some names) text
IsPrintedOf _ names text = ⊥

-- the words name no file: they fit no command, or ask for a tally of generated datagrams
abbrev pub NamesNoFile : Option Command → Type 0
NamesNoFile None = Unit {0}
NamesNoFile (Some (OfTally tally)) = IsGenerated tally.source
NamesNoFile (Some (OfDrive drive)) = ⊥

-- the words fit no command or name no file, or the plan is too large
abbrev pub LeavesFeed : Option Command → Status → Type 0
LeavesFeed asked Usage = Unit {0}
LeavesFeed asked (PlanTooLarge nodes) = Unit {0}
LeavesFeed asked _ = NamesNoFile asked

-- but for a feed that failed and for want of memory, it is the status that words and files determine; where the output failed, that is Done
abbrev pub IsDecided : Option Command → Names → Status → Type 0
IsDecided asked names (OpenFault file) = Unit {0}
IsDecided asked names (ReadFault file) = Unit {0}
IsDecided asked names (WriteFault written) = Determines asked names Done
IsDecided asked names NoMemory = Unit {0}
IsDecided asked names status = Determines asked names status

-- all that holds of a run with these words: what its status says; and where the feed tells its files, that it is decided by words and files, which status it
-- then is where neither the feed nor the output failed, what the output took, and that this is the report
pub record HasRun (asked : Option Command) (feed : FeedShown) (out : OutShown) (closed : Option ClosedData) (status : Status) : Type 0 where
  pub says : Says asked feed out closed status
  pub determined : (names : Names) → feed.names ≡ Some names → IsDecided asked names status
  pub complete : (names : Names) (outcome : Status) → feed.names ≡ Some names → Determines asked names outcome
      → ¬ HasRisen feed.before feed.after → ¬ HasRisen out.before out.after → (status ≡ outcome) ⊎ (status ≡ NoMemory)
  pub output : (names : Names) → feed.names ≡ Some names → HasOutput asked names out closed status
  pub report : (names : Names) (text : List ℕ) → feed.names ≡ Some names → IsPrintedOf asked names text → status ≡ Done
      → Appends out.taken_before text out.taken_after
