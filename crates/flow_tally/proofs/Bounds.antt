-- What words ask of the generator is within its limit.
use Rattle.std.specs.Prelude.{if◌then◌else◌}
use Rattle.std.specs.Str.{bytes_eq}
use Rattle.std.proofs.Common.{◌≡◌, ◌≤◌, Bool, true, false, ℕ, List, [], ◌∷◌, Option, Some, None, codes, option_map, refl}
use Rattle.std.proofs.lemmas.Option.{none-some}
use Rattle.clap.specs.Words.{App, Kinds, Row, Text, all_of, first_of}
use Rattle.flow_tally.specs.Numbers.{number_up_to}
use Rattle.flow_tally.specs.Words.{Command, Files, HasFewDatagrams, IsWithin, Source, generated_of, tally_of_numbers}
use Rattle.flow_tally.specs.Words.{asked_by, drive_app, drive_from, drive_of, faults_in, rows_in, tally_app, tally_from, trial_app, trial_from, unless_faulty, words_asked}
use Rattle.flow_tally.proofs.Digits.{at_most}

-- where there is a source, it has few datagrams
abbrev HasFew : Option Source → Type 0
HasFew None = Unit {0}
HasFew (Some source) = HasFewDatagrams source

numbers_within : (source : Option Source) (w f b : Option ℕ) → HasFew source → IsWithin (tally_of_numbers source w f b)
numbers_within (Some source) (Some w) (Some f) (Some b) few = few
numbers_within (Some source) (Some w) (Some f) None few = tt
numbers_within (Some source) (Some w) None b few = tt
numbers_within (Some source) None f b few = tt
numbers_within None w f b few = tt

files_few : (names : Option (List Text)) → HasFew (option_map Files names)
files_few None = tt
files_few (Some names) = tt

generated_few : (start n : Option ℕ) → ((m : ℕ) → n ≡ Some m → m ≤ 65536) → HasFew (generated_of start n)
generated_few (Some start) (Some n) most = most n refl
generated_few (Some start) None most = tt
generated_few None n most = tt

given_at_most : (text : Option Text) (m : ℕ) → number_up_to 65536 text ≡ Some m → m ≤ 65536
given_at_most None m e = absurd (none-some m e)
given_at_most (Some text) m e = at_most 0 65536 text m e

tally_rows_within : (rows : List Row) → IsWithin (tally_from rows)
tally_rows_within rows = numbers_within (option_map Files (all_of (codes "FILE") rows)) _ _ _ (files_few (all_of (codes "FILE") rows))

trial_rows_within : (rows : List Row) → IsWithin (trial_from rows)
trial_rows_within rows =
    let start = number_up_to 18446744073709551615 (first_of (codes "START") rows) in
    let n = number_up_to 65536 (first_of (codes "N") rows) in
    numbers_within (generated_of start n) _ _ _ (generated_few start n (given_at_most (first_of (codes "N") rows)))

drive_within : (b q : Option ℕ) (name : Option Text) → IsWithin (drive_of b q name)
drive_within (Some b) (Some q) (Some name) = tt
drive_within (Some b) (Some q) None = tt
drive_within (Some b) None name = tt
drive_within None q name = tt

drive_rows_within : (rows : List Row) → IsWithin (drive_from rows)
drive_rows_within rows = drive_within _ _ _

unless_within : (kinds : Kinds) (asked : Option Command) → IsWithin asked → IsWithin (unless_faulty kinds asked)
unless_within [] asked within = within
unless_within (k ∷ kinds) asked within = tt

by_within : (app : App) (from : List Row → Option Command) (ws : List Text) → ((rows : List Row) → IsWithin (from rows)) → IsWithin (asked_by app from ws)
by_within app from ws within = unless_within (faults_in app ws) (from (rows_in app ws)) (within (rows_in app ws))

either_within : (b : Bool) (this that : Option Command) → IsWithin this → IsWithin that → IsWithin (if b then this else that)
either_within true this that within other = within
either_within false this that within other = other

pub asked_is_within : (ws : List Text) → IsWithin (words_asked ws)
asked_is_within [] = tt
asked_is_within (command ∷ rest) =
    let ws = command ∷ rest in
    let tally = by_within tally_app tally_from ws tally_rows_within in
    let trial = by_within trial_app trial_from ws trial_rows_within in
    let drive = by_within drive_app drive_from ws drive_rows_within in
    either_within (bytes_eq command (codes "tally")) _ _ tally
    (either_within (bytes_eq command (codes "trial")) _ _ trial (either_within (bytes_eq command (codes "drive")) _ None drive tt))
