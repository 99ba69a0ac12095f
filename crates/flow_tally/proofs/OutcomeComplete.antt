-- What a status says of a run is what words and files determine, devices and memory aside.
use Rattle.std.specs.Prelude.{◌⊎◌}
use Rattle.std.proofs.Common.{◌≡◌, ℕ, Option, Some, None, List, refl, subst, inl, inr}
use Rattle.wire_ports.specs.Bytes.{Appends}
use Rattle.wire_ports.specs.Ports.{Names, HasRisen}
use Rattle.flow_tally.specs.DriveOutcome.{IsDriven, IsGoodScript}
use Rattle.flow_tally.specs.Input.{FeedShown}
use Rattle.flow_tally.specs.OutShown.{OutShown}
use Rattle.flow_tally.specs.Outcome.{Says, Prints, Refuses, Determines, IsDecided, IsOutput, HasOutput, HasRun, IsPrintedOf}
use Rattle.flow_tally.specs.TallyOutcome.{IsPrinted, IsPrintedOn}
use Rattle.flow_tally.specs.Words.{Tally, Drive, Command, OfTally, OfDrive}
use Rattle.flow_tally.specs.declared.status.Status.{Status}
use Rattle.flow_tally.specs.declared.status.Status.TheVariants.{Done, Usage, OpenFault, ReadFault, WriteFault, BadDatagram, TooManyFlows, InputTooLarge, BadScript, NoMemory, PlanTooLarge}
use Rattle.flow_tally.proofs.OutcomeEnds.{ends_more}
use Rattle.flow_tally.proofs.OutcomeOne.{one_outcome}
use Rattle.flow_tally.proofs.OutcomeReport.{one_report}
use Rattle.step_rules.specs.Closing.{ClosedData}

-- a report by a closed object is a report
is_report : (text : List ℕ) (tally : Tally) (names : Option Names) (closed : ClosedData) → IsPrintedOn tally names closed text → IsPrinted tally names text
is_report text tally names closed (contents, ds, flows, told, made, few, added, is) = (contents, ds, flows, told, made, few, is)

-- what has come of a script is a script
good_script : {text : List ℕ} (drive : Drive) (names : Option Names) (closed : ClosedData) → IsDriven drive names closed text → IsGoodScript drive names
good_script drive names closed (bytes, callers, entries, driven, told, is, has, words) = (bytes, callers, entries, told, is)

-- a feed that tells these files
abbrev telling : FeedShown → Names → FeedShown
telling feed names = record feed { names = Some names }

-- where there is an output, Done is determined
output_decided : (asked : Option Command) (feed : FeedShown) (names : Names) (object : ClosedData) (text : List ℕ) → Prints asked (telling feed names) object text → Determines asked names Done
output_decided None feed names object text prints = absurd prints.2
output_decided (Some (OfTally tally)) feed names object text prints = (prints.0, text, is_report text tally (Some names) object prints.2)
output_decided (Some (OfDrive drive)) feed names object text prints = good_script drive (Some names) object prints.2

module _ (asked : Option Command) (feed : FeedShown) (out : OutShown) (closed : Option ClosedData) (names : Names) where
  -- what a status says of a run whose feed tells its files
  says_told : (status : Status) → feed.names ≡ Some names → Says asked feed out closed status → Says asked (telling feed names) out closed status
  says_told status told says = subst (λ (n : Option Names). Says asked (record feed { names = n }) out closed status) told says

  decided_there : (status : Status) → Says asked (telling feed names) out closed status → IsDecided asked names status
  decided_there Done (text, (object, is, prints), took) = output_decided asked feed names object text prints
  decided_there (WriteFault written) (text, (object, is, prints), took) = output_decided asked feed names object text prints
  decided_there Usage says = says.0.0
  decided_there (OpenFault file) says = tt
  decided_there (ReadFault file) says = tt
  decided_there NoMemory says = tt
  decided_there (BadDatagram file offset cause) says = says.0.0
  decided_there (TooManyFlows limit) says = says.0.0
  decided_there (InputTooLarge file) says = says.0.0
  decided_there (BadScript fault) says = says.0.0
  decided_there (PlanTooLarge nodes) says = says.0.0

  -- it is what words and files determine
  pub decided : (status : Status) → feed.names ≡ Some names → Says asked feed out closed status → IsDecided asked names status
  decided status told says = decided_there status (says_told status told says)

  -- the output is the one that the words ask for, whole, in part or not at all
  pub has_output : (status : Status) → feed.names ≡ Some names → Says asked feed out closed status → HasOutput asked names out closed status
  has_output status told says =
      let there = telling feed names in
      ends_more (Prints asked there) (IsOutput asked (Some names)) (Refuses asked there) (λ _. Unit {0}) (λ _ _ prints. prints.2) (λ _ _. tt) out closed status (says_told status told says)

module _ (asked : Option Command) (feed : FeedShown) (out : OutShown) (closed : Option ClosedData) (names : Names) (status : Status) where
  -- the status that is determined is told, unless a device failed or memory ran out
  pub complete : (result : Status) → feed.names ≡ Some names → Says asked feed out closed result → Determines asked names status
      → ¬ HasRisen feed.before feed.after → ¬ HasRisen out.before out.after → (result ≡ status) ⊎ (result ≡ NoMemory)
  complete (OpenFault file) told says is read written = absurd (read says.0.1.3)
  complete (ReadFault file) told says is read written = absurd (read says.0.1.3)
  complete (WriteFault n) told says is read written = absurd (written says.2.risen)
  complete NoMemory told says is read written = inr refl
  complete Done told says is read written = inl (one_outcome asked names Done status (decided asked feed out closed names Done told says) is)
  complete Usage told says is read written = inl (one_outcome asked names Usage status (decided asked feed out closed names Usage told says) is)
  complete (BadDatagram f o c) told says is read written =
      inl (one_outcome asked names (BadDatagram f o c) status (decided asked feed out closed names (BadDatagram f o c) told says) is)
  complete (TooManyFlows n) told says is read written = inl (one_outcome asked names (TooManyFlows n) status (decided asked feed out closed names (TooManyFlows n) told says) is)
  complete (InputTooLarge f) told says is read written = inl (one_outcome asked names (InputTooLarge f) status (decided asked feed out closed names (InputTooLarge f) told says) is)
  complete (BadScript x) told says is read written = inl (one_outcome asked names (BadScript x) status (decided asked feed out closed names (BadScript x) told says) is)
  complete (PlanTooLarge n) told says is read written = inl (one_outcome asked names (PlanTooLarge n) status (decided asked feed out closed names (PlanTooLarge n) told says) is)

-- at Done the output is the report that words and files determine
pub reported : (asked : Option Command) (feed : FeedShown) (out : OutShown) (closed : Option ClosedData) (names : Names) (text : List ℕ) (result : Status) → feed.names ≡ Some names
    → Says asked feed out closed result → IsPrintedOf asked names text → result ≡ Done → Appends out.taken_before text out.taken_after
reported None feed out closed names text result told says is done = absurd is
reported (Some (OfDrive drive)) feed out closed names text result told says is done = absurd is
reported (Some (OfTally tally)) feed out closed names text result told says is done =
    let (wrote, (object, there, prints), took) = says_told (Some (OfTally tally)) feed out closed names Done told (subst (λ (s : Status). Says (Some (OfTally tally)) feed out closed s) done says) in
    subst (λ (z : List ℕ). Appends out.taken_before z out.taken_after) (one_report tally names wrote text (is_report wrote tally (Some names) object prints.2) is) took.all

-- all that holds of a run follows from what its status says
pub has_run : (asked : Option Command) (feed : FeedShown) (out : OutShown) (closed : Option ClosedData) (status : Status) → Says asked feed out closed status → HasRun asked feed out closed status
has_run asked feed out closed status says = record {
  says = says;
  determined = λ names told. decided asked feed out closed names status told says;
  complete = λ names outcome told is read written. complete asked feed out closed names outcome status told says is read written;
  output = λ names told. has_output asked feed out closed names status told says;
  report = λ names text told is done. reported asked feed out closed names text status told says is done;
}
