-- What is tallied, of files or of the generator.
use Rattle.std.proofs.Common.{◌≡◌, ◌∙◌, ℕ, ◌≤◌, Option, Some, List, [], ◌∷◌, sym, arith}
use Rattle.std.proofs.lemmas.List.{length-append}
use Rattle.wire_ports.specs.Ports.{Names}
use Rattle.netflow_five.specs.Generating.{generated}
use Rattle.netflow_five.specs.declared.malformed.Malformed.{Malformed}
use Rattle.netflow_five.proofs.Generated.{generated_file, length-generated}
use Rattle.flow_tally.specs.Input.{AreGood, IsAt, IsFirstTooLarge, IsFirstBad}
use Rattle.flow_tally.specs.TallyOutcome.{AreTallied, files_in}
use Rattle.flow_tally.specs.Words.{Source, Files, Generated}
use Rattle.flow_tally.proofs.OutcomeFirstFile.{large_is_none, bad_file_is_none}

-- two contents of one source are the same
pub one_contents : (names : Names) (source : Source) (a b : List (List ℕ)) → AreTallied (Some names) source a → AreTallied (Some names) source b → a ≡ b
one_contents names (Files files) a b told also = told ∙ sym also
one_contents names (Generated start datagrams) a b told also = told ∙ sym also

no_file : (names : Option Names) (file : ℕ) (before : List (List ℕ)) (name : List ℕ) → ¬ IsAt names [] file before name
no_file names file before name here = absurd (cc here.name_there)

module _ (names : Names) (contents : List (List ℕ)) (file : ℕ) where
  -- good contents have no file that is too large
  pub good_not_large : (source : Source) → AreTallied (Some names) source contents → AreGood contents → ¬ IsFirstTooLarge (Some names) (files_in source) file
  good_not_large (Files files) told good large = large_is_none names files contents file large told good
  good_not_large (Generated start datagrams) told good (before, name, here, large) = no_file (Some names) file before name here

  -- and none that is bad
  pub good_not_bad : (offset : ℕ) (cause : Malformed) (source : Source) → AreTallied (Some names) source contents → AreGood contents
      → ¬ IsFirstBad (Some names) (files_in source) file offset cause
  good_not_bad offset cause (Files files) told good bad = bad_file_is_none names files contents file offset cause bad told good
  good_not_bad offset cause (Generated start datagrams) told good (before, name, bytes, here, bad) = no_file (Some names) file before name here

-- what the generator makes is good
pub generated_good : (start datagrams : ℕ) → datagrams ≤ 65536 → AreGood (generated start datagrams ∷ [])
generated_good start datagrams few = record {
  each = (generated_file start datagrams, tt);
  within = omega (arith, few, length-generated start datagrams, length-append (generated start datagrams) []);
}
