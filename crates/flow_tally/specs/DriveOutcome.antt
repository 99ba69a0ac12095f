-- What the file of a drive determines.
use Rattle.std.specs.Prelude.{◌≡◌, ℕ, ◌≤◌, List, [], ◌∷◌, length, Option, MatchOption, Result, Ok, Err}
use Rattle.wire_ports.specs.Ports.{Names}
use Rattle.seat_history.specs.declared.entry.Entry.{Entry}
use Rattle.call_script.specs.Cut.{lines_of}
use Rattle.call_script.specs.Script.{Good, ReadAs, bad_reading}
use Rattle.call_script.specs.Text.{driven_text}
use Rattle.call_script.specs.declared.bad_script.BadScript.{BadScript as ScriptFault}
use Rattle.call_script.specs.declared.driven.Driven.{Driven}
use Rattle.call_script.specs.Run.{plan_of}
use Rattle.flow_tally.specs.Input.{most_bytes, IsBytesOf, IsFirstTooLarge}
use Rattle.flow_tally.specs.Words.{Drive}
use Rattle.flow_tally.specs.declared.answer.Answer.{Answer}
use Rattle.flow_tally.specs.declared.status.Status.{Status}
use Rattle.flow_tally.specs.declared.status.Status.TheVariants.{Done, InputTooLarge, BadScript, NoMemory}
use Rattle.step_rules.specs.Closing.{ClosedData}
use Rattle.step_rules.specs.declared.plan.Plan.{Plan}
use Rattle.tally_core.specs.Driving.{HasDriven}

-- the bytes are within the limit and read as a script of these calls
pub record IsScriptOf (bytes : List ℕ) (callers : ℕ) (entries : List Entry) : Type 0 where
  pub within : length bytes ≤ most_bytes
  pub reads : ReadAs (lines_of bytes) (Good callers entries)

-- the file is a script
abbrev pub IsGoodScript : Drive → Option Names → Type 0
IsGoodScript drive names = (bytes : List ℕ) × (callers : ℕ) × (entries : List Entry) × IsBytesOf names drive.file bytes × IsScriptOf bytes callers entries

-- the object on which the drive calls the lines of so many callers
abbrev pub drive_plan : Drive → ℕ → List Entry → Plan
drive_plan drive callers entries = plan_of callers entries drive.buckets drive.share

-- the text is what comes of the file's script on the closed object
abbrev pub IsDriven : Drive → Option Names → ClosedData → List ℕ → Type 0
IsDriven drive names closed text = (bytes : List ℕ) × (callers : ℕ) × (entries : List Entry) × (driven : Driven)
    × IsBytesOf names drive.file bytes × IsScriptOf bytes callers entries × HasDriven (drive_plan drive callers entries) entries driven closed × (text ≡ driven_text driven)

-- the bytes are within the limit and have this first bad line, or one line too many
pub record IsFaultOf (bytes : List ℕ) (fault : ScriptFault) : Type 0 where
  pub within : length bytes ≤ most_bytes
  pub reads : MatchOption (bad_reading fault) ⊥ (λ reading. ReadAs (lines_of bytes) reading)

-- the file is no script
abbrev pub HasFault : Drive → Option Names → ScriptFault → Type 0
HasFault drive names fault = (bytes : List ℕ) × IsBytesOf names drive.file bytes × IsFaultOf bytes fault

-- what a file's bytes give: what comes of their script on a closed object, or why there is none
abbrev pub GivesScriptText : Drive → List ℕ → Result Answer Status → Type 0
GivesScriptText drive bytes (Ok answer) = (callers : ℕ) × (entries : List Entry) × (driven : Driven)
    × ReadAs (lines_of bytes) (Good callers entries) × HasDriven (drive_plan drive callers entries) entries driven answer.closed × (answer.text.items ≡ driven_text driven)
GivesScriptText drive bytes (Err (BadScript fault)) = MatchOption (bad_reading fault) ⊥ (λ reading. ReadAs (lines_of bytes) reading)
GivesScriptText drive bytes (Err NoMemory) = Unit {0}
GivesScriptText drive bytes (Err _) = ⊥

-- the status that a drive comes to with the file under these names
abbrev pub IsDriveOutcome : Drive → Option Names → Status → Type 0
IsDriveOutcome drive names Done = IsGoodScript drive names
IsDriveOutcome drive names (InputTooLarge file) = IsFirstTooLarge names (drive.file ∷ []) file
IsDriveOutcome drive names (BadScript fault) = HasFault drive names fault
IsDriveOutcome drive names _ = ⊥
