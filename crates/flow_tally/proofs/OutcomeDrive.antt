-- A drive has one outcome, and what its file's reading comes to.
use Rattle.std.specs.Prelude.{slice_get, MatchOption, Err}
use Rattle.std.proofs.Common.{◌≡◌, ◌∙◌, ℕ, ◌<◌, ◌≤◌, Option, Some, None, List, [], ◌∷◌, length, refl, sym, ap, subst, arith}
use Rattle.wire_ports.specs.Ports.{Names, bytes_under}
use Rattle.netflow_five.specs.File.{joined}
use Rattle.seat_history.specs.declared.entry.Entry.{Entry}
use Rattle.call_script.specs.Cut.{lines_of}
use Rattle.call_script.specs.Script.{Reading, Good, Bad, Many, ReadAs, bad_reading}
use Rattle.call_script.specs.declared.bad_script.BadScript.{BadScript as ScriptFault}
use Rattle.call_script.specs.declared.bad_script.BadScript.TheVariants.{BadLine, TooMany, NoMemory as OutOfMemory}
use Rattle.call_script.proofs.OneReading.{one_reading}
use Rattle.flow_tally.specs.DriveOutcome.{IsDriveOutcome, IsGoodScript, HasFault}
use Rattle.flow_tally.specs.Input.{most_bytes, FeedShown, IsFirstTooLarge, RefusesFiles}
use Rattle.flow_tally.specs.Outcome.{Refuses}
use Rattle.flow_tally.specs.Reading.{Reads}
use Rattle.flow_tally.specs.Words.{Drive, OfDrive}
use Rattle.flow_tally.specs.declared.status.Status.{Status}
use Rattle.flow_tally.specs.declared.status.Status.TheVariants.{Done, Usage, OpenFault, ReadFault, WriteFault, BadDatagram, TooManyFlows, InputTooLarge, BadScript, NoMemory, PlanTooLarge}
use Rattle.flow_tally.proofs.Inputs.{one_refused}

-- the one file of a list is the first
alone : (x name : List ℕ) (before : List (List ℕ)) → slice_get (x ∷ []) (length before) ≡ Some name → (length before ≡ 0) × (x ≡ name)
alone x name [] there = (refl, cc there)
alone x name (y ∷ ys) there = absurd (cc there)

nothing_before : (before : List (List ℕ)) → length before ≡ 0 → before ≡ []
nothing_before [] none = refl
nothing_before (x ∷ xs) none = absurd (omega arith)

-- a file that is too large is this one, and has more bytes than may be
first_large : (drive : Drive) (names : Names) (file : ℕ) → IsFirstTooLarge (Some names) (drive.file ∷ []) file → (file ≡ 1) × (most_bytes < length (bytes_under names drive.file))
first_large drive names file (before, name, at, large) =
    let one = alone drive.file name before at.name_there in
    let none = nothing_before before one.0 in
    let zero : length (joined before) ≡ 0 = ap (λ (b : List (List ℕ)). length (joined b)) none in
    (omega (arith, at.number, one.0), omega (arith, large, zero, ap (λ (n : List ℕ). length (bytes_under names n)) one.1))

-- bytes within the limit aren't too large
fits : (drive : Drive) (names : Names) (file : ℕ) (bytes : List ℕ) → bytes ≡ bytes_under names drive.file → length bytes ≤ most_bytes → IsFirstTooLarge (Some names) (drive.file ∷ []) file → ⊥
fits drive names file bytes told within large = omega (arith, (first_large drive names file large).1, within, ap length told)

reading_there : (o : Option Reading) (lines : List (List ℕ)) → MatchOption o ⊥ (λ reading. ReadAs lines reading) → (x : Reading) × (o ≡ Some x) × ReadAs lines x
reading_there None lines h = absurd h
reading_there (Some x) lines h = (x, refl, h)

same_fault : (a b : ScriptFault) (x : Reading) → bad_reading a ≡ Some x → bad_reading b ≡ Some x → a ≡ b
same_fault OutOfMemory b x is also = absurd (cc is)
same_fault a OutOfMemory x is also = absurd (cc also)
same_fault (BadLine l c) (BadLine m d) x is also =
    let e : Some (Bad l c) ≡ Some (Bad m d) = is ∙ sym also in
    let line : l ≡ m = cc e in
    let cause : c ≡ d = cc e in
    λ i. BadLine (line i) (cause i)
same_fault (BadLine l c) (TooMany m) x is also = let e : Some (Bad l c) ≡ Some (Many m) = is ∙ sym also in absurd (cc e)
same_fault (TooMany l) (BadLine m d) x is also = let e : Some (Many l) ≡ Some (Bad m d) = is ∙ sym also in absurd (cc e)
same_fault (TooMany l) (TooMany m) x is also =
    let e : Some (Many l) ≡ Some (Many m) = is ∙ sym also in
    let line : l ≡ m = cc e in
    ap (λ (k : ℕ). TooMany k) line

never_good : (fault : ScriptFault) (callers : ℕ) (entries : List Entry) → bad_reading fault ≡ Some (Good callers entries) → ⊥
never_good (BadLine l c) callers entries is = absurd (cc is)
never_good (TooMany l) callers entries is = absurd (cc is)
never_good OutOfMemory callers entries is = absurd (cc is)

-- a file that is no script has one fault
one_fault : (drive : Drive) (names : Names) (a b : ScriptFault) → HasFault drive (Some names) a → HasFault drive (Some names) b → a ≡ b
one_fault drive names a b (bytes, told, fault) (others, also, second) =
    let p = reading_there (bad_reading a) (lines_of bytes) fault.reads in
    let q = reading_there (bad_reading b) (lines_of others) second.reads in
    let here : ReadAs (lines_of bytes) q.0 = subst (λ (z : List ℕ). ReadAs (lines_of z) q.0) (also ∙ sym told) q.2 in
    let same : q.0 ≡ p.0 = one_reading (lines_of bytes) q.0 p.0 here p.2 in
    same_fault a b p.0 p.1 (q.1 ∙ ap (λ (r : Reading). Some r) same)

-- a script has none
no_fault : (drive : Drive) (names : Names) (fault : ScriptFault) → IsGoodScript drive (Some names) → HasFault drive (Some names) fault → ⊥
no_fault drive names fault (bytes, callers, entries, told, is) (others, also, bad) =
    let q = reading_there (bad_reading fault) (lines_of others) bad.reads in
    let here : ReadAs (lines_of bytes) q.0 = subst (λ (z : List ℕ). ReadAs (lines_of z) q.0) (also ∙ sym told) q.2 in
    let same : q.0 ≡ Good callers entries = one_reading (lines_of bytes) q.0 (Good callers entries) here is.reads in
    never_good fault callers entries (q.1 ∙ ap (λ (r : Reading). Some r) same)

done_not_large : (drive : Drive) (names : Names) (file : ℕ) → IsDriveOutcome drive (Some names) Done → IsDriveOutcome drive (Some names) (InputTooLarge file) → ⊥
done_not_large drive names file (bytes, callers, entries, told, is) large = fits drive names file bytes told is.within large

bad_not_large : (drive : Drive) (names : Names) (file : ℕ) (fault : ScriptFault) → HasFault drive (Some names) fault → IsDriveOutcome drive (Some names) (InputTooLarge file) → ⊥
bad_not_large drive names file fault (bytes, told, bad) large = fits drive names file bytes told bad.within large

module _ (drive : Drive) (names : Names) where
  pub one_for_drive : (s t : Status) → IsDriveOutcome drive (Some names) s → IsDriveOutcome drive (Some names) t → s ≡ t
  one_for_drive Done Done a b = refl
  one_for_drive Done (InputTooLarge g) a b = absurd (done_not_large drive names g a b)
  one_for_drive Done (BadScript y) a b = absurd (no_fault drive names y a b)
  one_for_drive (InputTooLarge f) Done a b = absurd (done_not_large drive names f b a)
  one_for_drive (InputTooLarge f) (InputTooLarge g) a b = ap (λ (k : ℕ). InputTooLarge k) ((first_large drive names f a).0 ∙ sym (first_large drive names g b).0)
  one_for_drive (InputTooLarge f) (BadScript y) a b = absurd (bad_not_large drive names f y b a)
  one_for_drive (BadScript x) Done a b = absurd (no_fault drive names x b a)
  one_for_drive (BadScript x) (InputTooLarge g) a b = absurd (bad_not_large drive names g x a b)
  one_for_drive (BadScript x) (BadScript y) a b = ap (λ (k : ScriptFault). BadScript k) (one_fault drive names x y a b)
  one_for_drive Usage t a b = absurd a
  one_for_drive (OpenFault f) t a b = absurd a
  one_for_drive (ReadFault f) t a b = absurd a
  one_for_drive (WriteFault w) t a b = absurd a
  one_for_drive (BadDatagram f o c) t a b = absurd a
  one_for_drive (TooManyFlows n) t a b = absurd a
  one_for_drive NoMemory t a b = absurd a
  one_for_drive (PlanTooLarge n) t a b = absurd a
  one_for_drive s Usage a b = absurd b
  one_for_drive s (OpenFault f) a b = absurd b
  one_for_drive s (ReadFault f) a b = absurd b
  one_for_drive s (WriteFault w) a b = absurd b
  one_for_drive s (BadDatagram f o c) a b = absurd b
  one_for_drive s (TooManyFlows n) a b = absurd b
  one_for_drive s NoMemory a b = absurd b
  one_for_drive s (PlanTooLarge n) a b = absurd b

-- a file that is read alone and fails refuses the drive
pub read_refuses : (drive : Drive) (feed : FeedShown) (name : List ℕ) (status : Status) → name ≡ drive.file
    → feed.current ≡ 1 → Reads most_bytes feed name 1 (Err status) → Refuses (Some (OfDrive drive)) feed status
read_refuses drive feed name status is last reads =
    let here = subst (λ (z : List ℕ). Reads most_bytes feed z 1 (Err status)) is reads in
    refuses status (one_refused feed drive.file status last here) here
  where
    refuses : (s : Status) → RefusesFiles (drive.file ∷ []) feed s → Reads most_bytes feed drive.file 1 (Err s) → Refuses (Some (OfDrive drive)) feed s
    refuses Done r h = absurd h
    refuses Usage r h = absurd h
    refuses (OpenFault file) r h = (tt, r)
    refuses (ReadFault file) r h = (tt, r)
    refuses (WriteFault written) r h = absurd h
    refuses (BadDatagram file offset cause) r h = absurd h
    refuses (TooManyFlows limit) r h = absurd h
    refuses (InputTooLarge file) r h = r
    refuses (BadScript fault) r h = absurd h
    refuses NoMemory r h = tt
    refuses (PlanTooLarge nodes) r h = absurd h
