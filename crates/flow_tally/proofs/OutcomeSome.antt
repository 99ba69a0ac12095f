-- Words and files determine some status.
use Rattle.std.specs.Prelude.{slice_get, map}
use Rattle.std.proofs.Common.{◌≡◌, ◌∙◌, ℕ, ◌+◌, ◌≤◌, Option, Some, None, List, [], ◌∷◌, ◌++◌, length, take, drop, refl, ap, inl, inr, arith}
use Rattle.std.proofs.lemmas.Bool.{cases_lt}
use Rattle.std.proofs.lemmas.List.{length-append}
use Rattle.std.proofs.lemmas.Option.{slice_get-get_or}
use Rattle.wire_ports.specs.Ports.{Names, bytes_under}
use Rattle.netflow_five.specs.File.{joined, IsWellFormed}
use Rattle.netflow_five.specs.Generating.{generated}
use Rattle.netflow_five.specs.Mark.{mark_of}
use Rattle.netflow_five.proofs.Files.{joined_well}
use Rattle.netflow_five.proofs.SomeFault.{whole_or_bad}
use Rattle.flow_fold.specs.Pair.{pairs_of}
use Rattle.flow_fold.proofs.SomeFold.{some_fold}
use Rattle.call_script.specs.Cut.{lines_of}
use Rattle.call_script.specs.Script.{Reading, Good, Bad, Many, ReadAs}
use Rattle.call_script.specs.declared.bad_script.BadScript.TheVariants.{BadLine, TooMany}
use Rattle.call_script.proofs.SomeReading.{bytes_read}
use Rattle.call_script.proofs.Tuples.{drop_first, drop_nothing}
use Rattle.flow_tally.specs.DriveOutcome.{IsDriveOutcome}
use Rattle.flow_tally.specs.Input.{most_bytes, AreContents, AreGood}
use Rattle.flow_tally.specs.Outcome.{Determines}
use Rattle.flow_tally.specs.TallyOutcome.{AreTallied, IsTally, IsTallyOutcome, most_nodes, nodes_of, totals_of}
use Rattle.flow_tally.proofs.Inputs.{alone, good_more, next_file, told_more}
use Rattle.flow_tally.proofs.OutcomeReport.{some_text}
use Rattle.flow_tally.proofs.Sources.{generated_good}
use Rattle.flow_tally.specs.Words.{Source, Files, Generated, Tally, Drive, Command, OfTally, OfDrive, HasFewDatagrams, IsWithin}
use Rattle.flow_tally.specs.declared.status.Status.{Status}
use Rattle.flow_tally.specs.declared.status.Status.TheVariants.{Done, Usage, BadDatagram, TooManyFlows, InputTooLarge, BadScript, PlanTooLarge}

-- the first i files are good, and these are their bytes
record AreRead (names : Names) (files : List (List ℕ)) (i : ℕ) (contents : List (List ℕ)) : Type 0 where
  count : length contents ≡ i
  told : AreContents (Some names) (take i files) contents
  good : AreGood contents

none_read : (names : Names) (files : List (List ℕ)) → AreRead names files 0 []
none_read names files = record { count = refl; told = refl; good = record { each = tt; within = omega arith } }

read_more : (names : Names) (files contents : List (List ℕ)) (i : ℕ) (name : List ℕ) → slice_get files i ≡ Some name → AreRead names files i contents
    → IsWellFormed (bytes_under names name) → length (joined contents) + length (bytes_under names name) ≤ most_bytes → AreRead names files (i + 1) (contents ++ bytes_under names name ∷ [])
read_more names files contents i name is read well within = record {
  count = omega (arith, read.count, length-append contents (bytes_under names name ∷ []));
  told = told_more (Some names) files contents i name (bytes_under names name) read.count is read.told refl;
  good = good_more contents (bytes_under names name) read.good well within;
}

module _ (tally : Tally) (names : Names) where
  abbrev SomeForTally : Type 0
  SomeForTally = (status : Status) × IsTallyOutcome tally (Some names) status

  -- contents that are good
  good_contents : nodes_of tally ≤ most_nodes → (contents : List (List ℕ)) → AreTallied (Some names) tally.source contents → AreGood contents → SomeForTally
  good_contents fits contents told good =
      let ds = joined_well contents good.each in
      let flows = some_fold (pairs_of ds.0) in
      let made : IsTally contents ds.0 flows.0 = record { good = good; file = ds.1; rising = flows.1; fold = flows.2 } in
      elim (cases_lt tally.flows (length flows.0)) [
        | inl many ↦ (TooManyFlows tally.flows, (fits, refl, (contents, ds.0, flows.0, told, made, many)))
        | inr few ↦ let text = some_text (map mark_of ds.0) flows.0 (totals_of ds.0) tally.source in (Done, (fits, text.0, (contents, ds.0, flows.0, told, made, few, text.1)))
      ]

module _ (tally : Tally) (names : Names) (files : List (List ℕ)) where
  abbrev of_files : Tally
  of_files = record tally { source = Files files }

  -- the files left, after those that are good
  files_read : nodes_of of_files ≤ most_nodes → (left : List (List ℕ)) (i : ℕ) (contents : List (List ℕ)) → AreRead names files i contents → drop i files ≡ left → SomeForTally of_files names
  files_read fits [] i contents read rest =
      good_contents of_files names fits contents (read.told ∙ ap (map (bytes_under names)) (drop_nothing files i rest)) read.good
  files_read fits (name ∷ left) i contents read rest =
      let bytes = bytes_under names name in
      let next = drop_first files i name [] left rest in
      let there : slice_get files i ≡ Some name = slice_get-get_or files i [] next.0 ∙ ap (λ (n : List ℕ). Some n) next.1 in
      let at = next_file (Some names) files contents i name (i + 1) there refl read.count read.told read.good in
      elim (cases_lt most_bytes (length (joined contents) + length bytes)) [
        | inl large ↦ (InputTooLarge (i + 1), (fits, (contents, name, at, large)))
        | inr within ↦ elim (whole_or_bad bytes) [
          | inr (offset, cause, bad) ↦ (BadDatagram (i + 1) offset cause, (fits, (contents, name, bytes, at, record { told = refl; within = within; bad = bad })))
          | inl well ↦ files_read fits left (i + 1) (contents ++ bytes ∷ []) (read_more names files contents i name there read well within) next.2
        ]
      ]

module _ (tally : Tally) (names : Names) where
  -- a plan that fits
  fitting : (source : Source) → HasFewDatagrams source → nodes_of tally ≤ most_nodes → SomeForTally (record tally { source = source }) names
  fitting (Files files) within fits = files_read tally names files fits files 0 [] (none_read names files) refl
  fitting (Generated start datagrams) within fits =
      good_contents (record tally { source = Generated start datagrams }) names fits (generated start datagrams ∷ []) refl (generated_good start datagrams within)

  some_for_tally : HasFewDatagrams tally.source → SomeForTally tally names
  some_for_tally within = elim (cases_lt most_nodes (nodes_of tally)) [
    | inl large ↦ (PlanTooLarge (nodes_of tally), (refl, large))
    | inr fits ↦ fitting tally.source within fits
  ]

module _ (drive : Drive) (names : Names) where
  abbrev file_bytes : List ℕ
  file_bytes = bytes_under names drive.file

  abbrev SomeForDrive : Type 0
  SomeForDrive = (status : Status) × IsDriveOutcome drive (Some names) status

  script_read : length file_bytes ≤ most_bytes → (reading : Reading) → ReadAs (lines_of file_bytes) reading → SomeForDrive
  script_read within (Good callers entries) reads = (Done, (file_bytes, callers, entries, refl, record { within = within; reads = reads }))
  script_read within (Bad line cause) reads = (BadScript (BadLine line cause), (file_bytes, refl, record { within = within; reads = reads }))
  script_read within (Many line) reads = (BadScript (TooMany line), (file_bytes, refl, record { within = within; reads = reads }))

  some_for_drive : SomeForDrive
  some_for_drive = elim (cases_lt most_bytes (length file_bytes)) [
    | inl large ↦ (InputTooLarge 1, ([], drive.file, alone (Some names) drive.file 1 refl, omega (arith, large)))
    | inr within ↦ let reading = bytes_read file_bytes in script_read within reading.0 reading.1
  ]

-- words and files determine some status
pub some_outcome : (asked : Option Command) (names : Names) → IsWithin asked → (status : Status) × Determines asked names status
some_outcome None names within = (Usage, refl)
some_outcome (Some (OfTally tally)) names within = some_for_tally tally names within
some_outcome (Some (OfDrive drive)) names within = some_for_drive drive names
