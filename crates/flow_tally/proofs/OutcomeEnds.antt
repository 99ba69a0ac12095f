-- Runs that end: by a text that was written, for want of memory, and in a wider sense.
use Rattle.std.proofs.Common.{◌≡◌, ℕ, Option, Some, List}
use Rattle.flow_tally.specs.OutShown.{OutShown, Took}
use Rattle.flow_tally.specs.Input.{FeedShown}
use Rattle.flow_tally.specs.Outcome.{Ends, GivenBy, Prints, Refuses, Says}
use Rattle.flow_tally.specs.Telling.{HasNumbers}
use Rattle.flow_tally.specs.Words.{Command}
use Rattle.flow_tally.specs.declared.status.Status.{Status}
use Rattle.flow_tally.specs.declared.status.Status.TheVariants.{Done, Usage, OpenFault, ReadFault, WriteFault, BadDatagram, TooManyFlows, InputTooLarge, BadScript, NoMemory, PlanTooLarge}
use Rattle.step_rules.specs.Closing.{ClosedData}

module _ (gives : ClosedData → List ℕ → Type 0) (refuses : Status → Type 0) (out : OutShown) (closed : Option ClosedData) where
  -- a text that was written, whole or in part
  pub took_ends : (text : List ℕ) (status : Status) → GivenBy gives closed text → Took text out status → Ends gives refuses out closed status
  took_ends text Done given took = (text, given, took)
  took_ends text (WriteFault written) given took = (text, given, took)
  took_ends text Usage given took = absurd took
  took_ends text (OpenFault file) given took = absurd took
  took_ends text (ReadFault file) given took = absurd took
  took_ends text (BadDatagram file offset cause) given took = absurd took
  took_ends text (TooManyFlows limit) given took = absurd took
  took_ends text (InputTooLarge file) given took = absurd took
  took_ends text (BadScript fault) given took = absurd took
  took_ends text NoMemory given took = absurd took
  took_ends text (PlanTooLarge nodes) given took = absurd took

  -- a run that ended before its output may end for want of memory as well
  pub may_want_memory : (status : Status) → HasNumbers status → refuses NoMemory → Ends gives refuses out closed status → Ends gives refuses out closed NoMemory
  may_want_memory Done before memory ends = absurd before
  may_want_memory Usage before memory ends = absurd before
  may_want_memory (WriteFault written) before memory ends = absurd before
  may_want_memory NoMemory before memory ends = absurd before
  may_want_memory (OpenFault file) before memory ends = (memory, ends.1, ends.2)
  may_want_memory (ReadFault file) before memory ends = (memory, ends.1, ends.2)
  may_want_memory (BadDatagram file offset cause) before memory ends = (memory, ends.1, ends.2)
  may_want_memory (TooManyFlows limit) before memory ends = (memory, ends.1, ends.2)
  may_want_memory (InputTooLarge file) before memory ends = (memory, ends.1, ends.2)
  may_want_memory (BadScript fault) before memory ends = (memory, ends.1, ends.2)
  may_want_memory (PlanTooLarge nodes) before memory ends = (memory, ends.1, ends.2)

module _ (gives prints : ClosedData → List ℕ → Type 0) (refuses stops : Status → Type 0) (more : (object : ClosedData) (text : List ℕ) → gives object text → prints object text)
    (less : (status : Status) → refuses status → stops status) (out : OutShown) (closed : Option ClosedData) where
  -- an end in one sense of outputs and refusals is one in a wider sense
  pub ends_more : (status : Status) → Ends gives refuses out closed status → Ends prints stops out closed status
  ends_more Done (text, (object, is, given), took) = (text, (object, is, more object text given), took)
  ends_more (WriteFault written) (text, (object, is, given), took) = (text, (object, is, more object text given), took)
  ends_more Usage ends = (less Usage ends.0, ends.1, ends.2)
  ends_more (OpenFault file) ends = (less (OpenFault file) ends.0, ends.1, ends.2)
  ends_more (ReadFault file) ends = (less (ReadFault file) ends.0, ends.1, ends.2)
  ends_more (BadDatagram file offset cause) ends = (less (BadDatagram file offset cause) ends.0, ends.1, ends.2)
  ends_more (TooManyFlows limit) ends = (less (TooManyFlows limit) ends.0, ends.1, ends.2)
  ends_more (InputTooLarge file) ends = (less (InputTooLarge file) ends.0, ends.1, ends.2)
  ends_more (BadScript fault) ends = (less (BadScript fault) ends.0, ends.1, ends.2)
  ends_more NoMemory ends = (less NoMemory ends.0, ends.1, ends.2)
  ends_more (PlanTooLarge nodes) ends = (less (PlanTooLarge nodes) ends.0, ends.1, ends.2)

-- an output that was written, by the object that is handed out
pub written_says : {last : Option ClosedData} (asked : Option Command) (feed : FeedShown) (out : OutShown) (closed : ClosedData) (text : List ℕ) (status : Status)
    → last ≡ Some closed → Prints asked feed closed text → Took text out status → Says asked feed out last status
written_says {last = last} asked feed out closed text status same prints took = took_ends (Prints asked feed) (Refuses asked feed) out last text status (closed, same, prints) took
