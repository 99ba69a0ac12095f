-- What a tally determines: its flows, what is printed of them, and why nothing is.
use Rattle.std.specs.Prelude.{◌≡◌, ℕ, ◌+◌, ◌*◌, ◌^◌, ◌<◌, ◌≤◌, List, [], ◌∷◌, length, map, Option, Result, Ok, Err}
use Rattle.wire_ports.specs.Ports.{Names}
use Rattle.netflow_five.specs.File.{joined, IsFile, all_records}
use Rattle.netflow_five.specs.Generating.{generated}
use Rattle.netflow_five.specs.Losses.{IsLosses}
use Rattle.netflow_five.specs.Mark.{mark_of}
use Rattle.netflow_five.specs.declared.engine_line.EngineLine.{EngineLine}
use Rattle.netflow_five.specs.declared.seq_mark.SeqMark.{SeqMark}
use Rattle.flow_fold.specs.Flows.{Flows, HasRisingKeys, value_in}
use Rattle.flow_fold.specs.Fold.{IsFold}
use Rattle.flow_fold.specs.Pair.{pairs_of}
use Rattle.flow_report.specs.Text.{last_line_of, report_text}
use Rattle.flow_report.specs.declared.totals.Totals.{Totals}
use Rattle.flow_tally.specs.Input.{AreContents, AreGood, IsFirstTooLarge, IsFirstBad}
use Rattle.flow_tally.specs.Words.{Source, Files, Generated, Tally}
use Rattle.flow_tally.specs.declared.answer.Answer.{Answer}
use Rattle.flow_tally.specs.declared.status.Status.{Status}
use Rattle.flow_tally.specs.declared.status.Status.TheVariants.{Done, BadDatagram, TooManyFlows, InputTooLarge, NoMemory, PlanTooLarge}
use Rattle.step_rules.specs.Closing.{ClosedData}
use Rattle.tally_core.specs.Adding.{IsTallied, plan_of_tally}
use Rattle.tally_core.specs.declared.draws.Draw.{Draw}

-- the nodes that a table for the tally has: a share of 2F + 4W + 1 for each of W workers, and one for each bucket
abbrev pub nodes_of : Tally → ℕ
nodes_of tally = tally.workers * (2 * tally.flows + 4 * tally.workers + 1) + tally.buckets

-- the most nodes of a table
abbrev pub most_nodes : ℕ
most_nodes = 2 ^ 24

-- the files that are read; none where the datagrams are generated
abbrev pub files_in : Source → List (List ℕ)
files_in (Files files) = files
files_in (Generated start datagrams) = []

-- the datagrams are generated, so that no file is read
abbrev pub IsGenerated : Source → Type 0
IsGenerated (Files files) = ⊥
IsGenerated (Generated start datagrams) = Unit {0}

-- the bytes that are tallied: those of the files under these names, or what the generator makes
abbrev pub AreTallied : Option Names → Source → List (List ℕ) → Type 0
AreTallied names (Files files) contents = AreContents names files contents
AreTallied names (Generated start datagrams) contents = contents ≡ generated start datagrams ∷ []

-- the text is what is printed of flows and of the datagrams with these marks: the report with a line for each engine, or its last line alone where the datagrams
-- are generated
abbrev pub IsTextOf : Source → List SeqMark → Flows → Totals → List ℕ → Type 0
IsTextOf (Files files) marks flows totals text = (engines : List EngineLine) × IsLosses marks engines × (text ≡ report_text flows engines totals)
IsTextOf (Generated start datagrams) marks flows totals text = text ≡ last_line_of flows totals

-- the contents are good and joined they are these datagrams, whose records have these flows, by rising key
pub record IsTally (contents ds : List (List ℕ)) (flows : Flows) : Type 0 where
  pub good : AreGood contents
  pub file : IsFile (joined contents) ds
  pub rising : HasRisingKeys flows
  pub fold : IsFold (pairs_of ds) (value_in flows)

-- how many records and datagrams there are
abbrev pub totals_of : List (List ℕ) → Totals
totals_of ds = record { records = length (all_records ds); datagrams = length ds }

-- the keys and values of all records were added up to these flows on the closed object, by workers that drew their batches
abbrev pub IsAddedUp : Tally → List (List ℕ) → Flows → ClosedData → Type 0
IsAddedUp tally ds flows closed =
    let pairs = pairs_of ds in (draws : List Draw) × IsTallied (plan_of_tally pairs tally.workers tally.flows tally.buckets) pairs flows closed draws

-- what the answer of a tally says of its contents and of the object on which their records were added up, or why there is none
abbrev pub GivesText : Tally → List (List ℕ) → List (List ℕ) → Result Answer Status → Type 0
GivesText tally contents ds (Ok answer) = (flows : Flows) × IsTally contents ds flows × (length flows ≤ tally.flows)
    × IsAddedUp tally ds flows answer.closed × IsTextOf tally.source (map mark_of ds) flows (totals_of ds) answer.text.items
GivesText tally contents ds (Err (TooManyFlows most)) = (flows : Flows) × IsTally contents ds flows × (most ≡ tally.flows) × (tally.flows < length flows)
GivesText tally contents ds (Err NoMemory) = Unit {0}
GivesText tally contents ds (Err _) = ⊥

-- the text is what is printed of the flows and the datagrams of what is tallied; there are no more flows than the tally may have
abbrev pub IsPrinted : Tally → Option Names → List ℕ → Type 0
IsPrinted tally names text = (contents : List (List ℕ)) × (ds : List (List ℕ)) × (flows : Flows)
    × AreTallied names tally.source contents × IsTally contents ds flows × (length flows ≤ tally.flows)
    × IsTextOf tally.source (map mark_of ds) flows (totals_of ds) text

-- and it is that of the flows that the records were added up to on this closed object
abbrev pub IsPrintedOn : Tally → Option Names → ClosedData → List ℕ → Type 0
IsPrintedOn tally names closed text = (contents : List (List ℕ)) × (ds : List (List ℕ)) × (flows : Flows)
    × AreTallied names tally.source contents × IsTally contents ds flows × (length flows ≤ tally.flows) × IsAddedUp tally ds flows closed
    × IsTextOf tally.source (map mark_of ds) flows (totals_of ds) text

-- what is tallied has more flows than the tally may have
abbrev pub HasTooManyFlows : Tally → Option Names → Type 0
HasTooManyFlows tally names = (contents : List (List ℕ)) × (ds : List (List ℕ)) × (flows : Flows)
    × AreTallied names tally.source contents × IsTally contents ds flows × (tally.flows < length flows)

-- the status that a tally comes to with the files under these names
abbrev pub IsTallyOutcome : Tally → Option Names → Status → Type 0
IsTallyOutcome tally names Done = (nodes_of tally ≤ most_nodes) × (text : List ℕ) × IsPrinted tally names text
IsTallyOutcome tally names (PlanTooLarge nodes) = (nodes ≡ nodes_of tally) × (most_nodes < nodes)
IsTallyOutcome tally names (TooManyFlows limit) = (nodes_of tally ≤ most_nodes) × (limit ≡ tally.flows) × HasTooManyFlows tally names
IsTallyOutcome tally names (InputTooLarge file) = (nodes_of tally ≤ most_nodes) × IsFirstTooLarge names (files_in tally.source) file
IsTallyOutcome tally names (BadDatagram file offset cause) = (nodes_of tally ≤ most_nodes) × IsFirstBad names (files_in tally.source) file offset cause
IsTallyOutcome tally names _ = ⊥
