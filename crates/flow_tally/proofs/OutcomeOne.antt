-- Words and files determine one status at most.
use Rattle.std.proofs.Common.{◌≡◌, ◌∙◌, ℕ, ◌≤◌, Option, Some, None, refl, sym, ap, arith}
use Rattle.wire_ports.specs.Ports.{Names}
use Rattle.netflow_five.specs.declared.malformed.Malformed.{Malformed}
use Rattle.flow_tally.specs.Outcome.{Determines}
use Rattle.flow_tally.specs.TallyOutcome.{IsTallyOutcome, files_in, most_nodes, nodes_of}
use Rattle.flow_tally.specs.Words.{Tally, Command, OfTally, OfDrive}
use Rattle.flow_tally.proofs.OutcomeDrive.{one_for_drive}
use Rattle.flow_tally.specs.declared.status.Status.{Status}
use Rattle.flow_tally.specs.declared.status.Status.TheVariants.{Done, Usage, OpenFault, ReadFault, WriteFault, BadDatagram, TooManyFlows, InputTooLarge, BadScript, NoMemory, PlanTooLarge}
use Rattle.flow_tally.proofs.OutcomeFirstFile.{one_large, bad_not_large, one_bad_file}
use Rattle.flow_tally.proofs.OutcomeReport.{report_not_many}
use Rattle.flow_tally.proofs.Sources.{good_not_bad, good_not_large}

module _ (tally : Tally) (names : Names) where
  -- a plan within the limit isn't too large
  plan_fits : (nodes : ℕ) → IsTallyOutcome tally (Some names) (PlanTooLarge nodes) → nodes_of tally ≤ most_nodes → ⊥
  plan_fits nodes large fits = omega (arith, large.0, large.1, fits)

  -- where there is a report no file is too large
  done_not_large : (file : ℕ) → IsTallyOutcome tally (Some names) Done → IsTallyOutcome tally (Some names) (InputTooLarge file) → ⊥
  done_not_large file (fits, text, (contents, ds, flows, told, made, few, is)) large = good_not_large names contents file tally.source told made.good large.1

  -- and none is bad
  done_not_bad : (file offset : ℕ) (cause : Malformed) → IsTallyOutcome tally (Some names) Done → IsTallyOutcome tally (Some names) (BadDatagram file offset cause) → ⊥
  done_not_bad file offset cause (fits, text, (contents, ds, flows, told, made, few, is)) bad = good_not_bad names contents file offset cause tally.source told made.good bad.1

  -- and there aren't too many flows
  done_not_many : (limit : ℕ) → IsTallyOutcome tally (Some names) Done → IsTallyOutcome tally (Some names) (TooManyFlows limit) → ⊥
  done_not_many limit done many = report_not_many tally names done.1 done.2 many.2

  -- where there are too many flows no file is too large
  many_not_large : (limit file : ℕ) → IsTallyOutcome tally (Some names) (TooManyFlows limit) → IsTallyOutcome tally (Some names) (InputTooLarge file) → ⊥
  many_not_large limit file (fits, is, (contents, ds, flows, told, made, more)) large = good_not_large names contents file tally.source told made.good large.1

  -- and none is bad
  many_not_bad : (limit file offset : ℕ) (cause : Malformed) → IsTallyOutcome tally (Some names) (TooManyFlows limit) → IsTallyOutcome tally (Some names) (BadDatagram file offset cause) → ⊥
  many_not_bad limit file offset cause (fits, is, (contents, ds, flows, told, made, more)) bad = good_not_bad names contents file offset cause tally.source told made.good bad.1

  one_for_tally : (s t : Status) → IsTallyOutcome tally (Some names) s → IsTallyOutcome tally (Some names) t → s ≡ t
  one_for_tally Done Done a b = refl
  one_for_tally Done (PlanTooLarge m) a b = absurd (plan_fits m b a.0)
  one_for_tally Done (TooManyFlows m) a b = absurd (done_not_many m a b)
  one_for_tally Done (InputTooLarge g) a b = absurd (done_not_large g a b)
  one_for_tally Done (BadDatagram g p d) a b = absurd (done_not_bad g p d a b)
  one_for_tally (PlanTooLarge n) Done a b = absurd (plan_fits n a b.0)
  one_for_tally (PlanTooLarge n) (PlanTooLarge m) a b = ap (λ (k : ℕ). PlanTooLarge k) (a.0 ∙ sym b.0)
  one_for_tally (PlanTooLarge n) (TooManyFlows m) a b = absurd (plan_fits n a b.0)
  one_for_tally (PlanTooLarge n) (InputTooLarge g) a b = absurd (plan_fits n a b.0)
  one_for_tally (PlanTooLarge n) (BadDatagram g p d) a b = absurd (plan_fits n a b.0)
  one_for_tally (TooManyFlows n) Done a b = absurd (done_not_many n b a)
  one_for_tally (TooManyFlows n) (PlanTooLarge m) a b = absurd (plan_fits m b a.0)
  one_for_tally (TooManyFlows n) (TooManyFlows m) a b = ap (λ (k : ℕ). TooManyFlows k) (a.1 ∙ sym b.1)
  one_for_tally (TooManyFlows n) (InputTooLarge g) a b = absurd (many_not_large n g a b)
  one_for_tally (TooManyFlows n) (BadDatagram g p d) a b = absurd (many_not_bad n g p d a b)
  one_for_tally (InputTooLarge f) Done a b = absurd (done_not_large f b a)
  one_for_tally (InputTooLarge f) (PlanTooLarge m) a b = absurd (plan_fits m b a.0)
  one_for_tally (InputTooLarge f) (TooManyFlows m) a b = absurd (many_not_large m f b a)
  one_for_tally (InputTooLarge f) (InputTooLarge g) a b = ap (λ (k : ℕ). InputTooLarge k) (one_large names (files_in tally.source) f g a.1 b.1)
  one_for_tally (InputTooLarge f) (BadDatagram g p d) a b = absurd (bad_not_large names (files_in tally.source) g f p d b.1 a.1)
  one_for_tally (BadDatagram f o c) Done a b = absurd (done_not_bad f o c b a)
  one_for_tally (BadDatagram f o c) (PlanTooLarge m) a b = absurd (plan_fits m b a.0)
  one_for_tally (BadDatagram f o c) (TooManyFlows m) a b = absurd (many_not_bad m f o c b a)
  one_for_tally (BadDatagram f o c) (InputTooLarge g) a b = absurd (bad_not_large names (files_in tally.source) f g o c a.1 b.1)
  one_for_tally (BadDatagram f o c) (BadDatagram g p d) a b =
      let same = one_bad_file names (files_in tally.source) f g o p c d a.1 b.1 in
      ap (λ (k : ℕ). BadDatagram k o c) same.0 ∙ ap (λ (k : ℕ). BadDatagram g k c) same.1 ∙ ap (λ (k : Malformed). BadDatagram g p k) same.2
  one_for_tally Usage t a b = absurd a
  one_for_tally (OpenFault f) t a b = absurd a
  one_for_tally (ReadFault f) t a b = absurd a
  one_for_tally (WriteFault w) t a b = absurd a
  one_for_tally NoMemory t a b = absurd a
  one_for_tally (BadScript x) t a b = absurd a
  one_for_tally s Usage a b = absurd b
  one_for_tally s (OpenFault f) a b = absurd b
  one_for_tally s (ReadFault f) a b = absurd b
  one_for_tally s (WriteFault w) a b = absurd b
  one_for_tally s NoMemory a b = absurd b
  one_for_tally s (BadScript x) a b = absurd b

-- two statuses that words and files determine are one
pub one_outcome : (asked : Option Command) (names : Names) (s t : Status) → Determines asked names s → Determines asked names t → s ≡ t
one_outcome None names s t a b = a ∙ sym b
one_outcome (Some (OfTally tally)) names s t a b = one_for_tally tally names s t a b
one_outcome (Some (OfDrive drive)) names s t a b = one_for_drive drive names s t a b
