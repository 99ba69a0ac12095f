-- The command lines that are taken, by clap's own definition.
use Rattle.std.specs.Prelude.{◌≡◌, ◌≢◌, ◌≤◌, ℕ, List, [], ◌∷◌, map, Option, Some, None, option_map, codes, true, if◌then◌else◌}
use Rattle.std.specs.Str.{bytes_eq}
use Rattle.std.specs.String.{string_bytes}
use Rattle.clap.specs.Lexer.{usize_max}
use Rattle.clap.specs.Words.{Row, Rule, Text, App, new_app, new_rule, with_rule, matches_of, fault_of, first_of, all_of, Kinds}
use Rattle.flow_tally.specs.Numbers.{number_or, number_up_to}
use Rattle.clap.specs.declared.error.kind.ErrorKind.{ErrorKind}
use Rattle.clap.specs.declared.error.kind.ErrorKind.TheVariants.{OutOfMemory}
use Rattle.flow_tally.specs.declared.words.Asked.{Asked}
use Rattle.flow_tally.specs.declared.drive_words.DriveWords.{DriveWords}
use Rattle.flow_tally.specs.declared.source.Source as declared
use Rattle.flow_tally.specs.declared.source.Source.TheVariants as sources
use Rattle.flow_tally.specs.declared.tally_words.TallyWords.{TallyWords}
use Rattle.flow_tally.specs.declared.words.Asked.TheVariants as asked_as

-- an option with this long name alone, set by one value
abbrev pub option_rule : Text → Rule
option_rule name = record (new_rule name) { long = Some name }

-- one positional argument with one or more values
abbrev pub files_rule : Rule
files_rule = record (new_rule (codes "FILE")) { required = true; range = Some (record { start_inclusive = 1; end_inclusive = usize_max }) }

-- one required positional argument with this name
abbrev pub required_rule : Text → Rule
required_rule name = record (new_rule name) { required = true }

-- a command of this name with the three numbers of a tally
abbrev pub numbered_app : Text → App
numbered_app name = with_rule (with_rule (with_rule (new_app name) (option_rule (codes "workers"))) (option_rule (codes "flows"))) (option_rule (codes "buckets"))

-- `tally`: the numbers and the files
abbrev pub tally_app : App
tally_app = with_rule (numbered_app (codes "tally")) files_rule

-- `trial`: the numbers, where the generator starts and how many datagrams it makes
abbrev pub trial_app : App
trial_app = with_rule (with_rule (numbered_app (codes "trial")) (required_rule (codes "START"))) (required_rule (codes "N"))

-- `drive`: the numbers of a script's object, and the script's file
abbrev pub drive_app : App
drive_app = with_rule (with_rule (with_rule (new_app (codes "drive")) (option_rule (codes "buckets"))) (option_rule (codes "share"))) (required_rule (codes "FILE"))

-- where a tally's datagrams come from: the files of these names, or the generator, from a start and their number
pub data Source : Type 0 where
  Files : List Text → Source
  Generated : ℕ → ℕ → Source

-- a tally's numbers, and where its datagrams come from
pub record Tally : Type 0 where
  pub workers : ℕ
  pub flows : ℕ
  pub buckets : ℕ
  pub source : Source

-- a drive's numbers, and its script's file
pub record Drive : Type 0 where
  pub buckets : ℕ
  pub share : ℕ
  pub file : Text

-- what a command line asks for
pub data Command : Type 0 where
  OfTally : Tally → Command
  OfDrive : Drive → Command

-- the tally of these datagrams with these numbers, where each was in its range
abbrev pub tally_of_numbers : Option Source → Option ℕ → Option ℕ → Option ℕ → Option Command
tally_of_numbers (Some s) (Some w) (Some f) (Some b) = Some (OfTally (record { workers = w; flows = f; buckets = b; source = s }))
tally_of_numbers _ _ _ _ = None

-- the tally of these datagrams that the values given ask for
abbrev pub tally_with : Option Source → List Row → Option Command
tally_with source rows = tally_of_numbers source (number_or 4 1 64 (first_of (codes "workers") rows))
    (number_or 65536 1 1048576 (first_of (codes "flows") rows))
    (number_or 65536 1 1048576 (first_of (codes "buckets") rows))

-- the tally of files that the values given ask for
abbrev pub tally_from : List Row → Option Command
tally_from rows = tally_with (option_map Files (all_of (codes "FILE") rows)) rows

-- the generator's datagrams, where the start and their number were in their ranges
abbrev pub generated_of : Option ℕ → Option ℕ → Option Source
generated_of (Some start) (Some datagrams) = Some (Generated start datagrams)
generated_of _ _ = None

-- the tally of generated datagrams that the values given ask for
abbrev pub trial_from : List Row → Option Command
trial_from rows = tally_with (generated_of (number_up_to 18446744073709551615 (first_of (codes "START") rows)) (number_up_to 65536 (first_of (codes "N") rows))) rows

-- the drive of this file with these numbers, where each was in its range
abbrev pub drive_of : Option ℕ → Option ℕ → Option Text → Option Command
drive_of (Some b) (Some q) (Some name) = Some (OfDrive (record { buckets = b; share = q; file = name }))
drive_of _ _ _ = None

-- the drive that the values given ask for
abbrev pub drive_from : List Row → Option Command
drive_from rows = drive_of (number_or 16 1 65536 (first_of (codes "buckets") rows))
    (number_or 4096 1 65536 (first_of (codes "share") rows))
    (first_of (codes "FILE") rows)

-- the kinds of fault that clap finds in the words by a command's definition
unfoldable pub faults_in : App → List Text → Kinds
faults_in app ws = fault_of app ws

-- the values that it takes from them
unfoldable pub rows_in : App → List Text → List Row
rows_in app ws = matches_of app ws

-- what is asked for, where no fault was found
abbrev pub unless_faulty : {T : Type 0} → Kinds → Option T → Option T
unless_faulty [] asked = asked
unless_faulty (k ∷ kinds) asked = None

-- what the words ask for by a command's definition, and None where they don't fit
abbrev pub asked_by : App → (List Row → Option Command) → List Text → Option Command
asked_by app from ws = unless_faulty (faults_in app ws) (from (rows_in app ws))

-- what the program's words ask for, and None where they fit no command
abbrev pub words_asked : List Text → Option Command
words_asked [] = None
words_asked (command ∷ rest) = if bytes_eq command (codes "tally") then asked_by tally_app tally_from (command ∷ rest)
    else if bytes_eq command (codes "trial") then asked_by trial_app trial_from (command ∷ rest)
    else if bytes_eq command (codes "drive") then asked_by drive_app drive_from (command ∷ rest) else None

-- no more datagrams are asked of the generator than it may make
abbrev pub HasFewDatagrams : Source → Type 0
HasFewDatagrams (Files names) = Unit {0}
HasFewDatagrams (Generated start datagrams) = datagrams ≤ 65536

-- what words ask of the generator is within its limit
abbrev pub IsWithin : Option Command → Type 0
IsWithin (Some (OfTally tally)) = HasFewDatagrams tally.source
IsWithin _ = Unit {0}

-- the datagrams that this source stands for
abbrev pub source_in : declared.Source → Source
source_in (sources.Files names) = Files (map string_bytes names.items)
source_in (sources.Generated generator) = Generated generator.start generator.datagrams

-- the tally that these words ask for
abbrev pub tally_in : TallyWords → Tally
tally_in t = record { workers = t.workers; flows = t.flows; buckets = t.buckets; source = source_in t.source }

-- the drive that these words ask for
abbrev pub drive_in : DriveWords → Drive
drive_in d = record { buckets = d.buckets; share = d.share; file = string_bytes d.file }

-- what was answered is this, unless memory ran out
abbrev pub Gives : Asked → Option Command → Type 0
Gives (asked_as.Tally t) asked = asked ≡ Some (OfTally (tally_in t))
Gives (asked_as.Drive d) asked = asked ≡ Some (OfDrive (drive_in d))
Gives asked_as.Usage asked = asked ≡ None
Gives asked_as.NoMemory asked = Unit {0}

-- a refusal of clap is one of the words, but for want of memory
abbrev pub IsRefusal : ErrorKind → Asked → Type 0
IsRefusal kind (asked_as.Tally t) = ⊥
IsRefusal kind (asked_as.Drive d) = ⊥
IsRefusal kind asked_as.Usage = kind ≢ OutOfMemory
IsRefusal kind asked_as.NoMemory = Unit {0}

-- what was answered is a refusal of words with these faults, unless memory ran out
abbrev pub RefusesWords : Kinds → Asked → Type 0
RefusesWords kinds (asked_as.Tally t) = ⊥
RefusesWords kinds (asked_as.Drive d) = ⊥
RefusesWords kinds asked_as.Usage = kinds ≢ []
RefusesWords kinds asked_as.NoMemory = Unit {0}
