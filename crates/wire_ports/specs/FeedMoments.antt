-- What a feed tells at one moment, and what reads of the started file came to between two moments.
use Rattle.std.specs.Prelude.{◌≡◌, ℕ, ◌+◌, ◌≤◌, Bool, true, List, [], ◌++◌, length, Option, Some, option_map}
use Rattle.wire_ports.specs.Bytes.{IsReadOf}
use Rattle.wire_ports.specs.Ports.{Names, HasRisen}
use Rattle.wire_ports.specs.declared.feed.FailedIn.{FailedIn}
use Rattle.wire_ports.specs.declared.feed.FailedIn.TheVariants.{Read}
use Rattle.wire_ports.specs.declared.whole.ReadEnd.{ReadEnd}
use Rattle.wire_ports.specs.declared.whole.ReadEnd.TheVariants.{Failed, TooLarge, NoMemory}

-- all that a feed tells
pub record FeedAt : Type 0 where
  pub files : Option Names
  pub left : Option (List ℕ)
  pub given : ℕ
  pub current : ℕ
  pub started : Bool
  pub faults : ℕ
  pub failed : Option (ℕ × FailedIn)

-- that, by the members in which a feed tells it
abbrev pub feed_at : {Feed : Type 0} → (Feed → Option Names) → (Feed → Option (List ℕ)) → (Feed → ℕ) → (Feed → ℕ) → (Feed → Bool) → (Feed → ℕ) → (Feed → Option (ℕ × FailedIn))
    → Feed → FeedAt
feed_at files left given current started faults failed feed = record {
  files = files feed;
  left = left feed;
  given = given feed;
  current = current feed;
  started = started feed;
  faults = faults feed;
  failed = failed feed;
}

-- the reads between these moments gave these bytes, and none failed
pub record HasGiven (bytes : List ℕ) (old new : FeedAt) : Type 0 where
  pub same_files : new.files ≡ old.files
  pub same_file : new.current ≡ old.current
  pub goes_on : new.started ≡ true
  pub read : IsReadOf old.left bytes new.left
  pub count : new.given ≡ old.given + length bytes
  pub quiet : new.failed ≡ old.failed
  pub steady : new.faults ≡ old.faults

-- the reads between these moments gave these bytes, and then one failed
pub record HasFailed (bytes : List ℕ) (old new : FeedAt) : Type 0 where
  pub same_files : new.files ≡ old.files
  pub same_file : new.current ≡ old.current
  pub read : IsReadOf old.left bytes new.left
  pub count : new.given ≡ old.given + length bytes
  pub cause : new.failed ≡ Some (old.current, Read)
  pub risen : HasRisen old.faults new.faults
  pub later : old.faults ≤ new.faults

-- nothing is left of the file, where it is told
abbrev pub IsAtEnd : FeedAt → Type 0
IsAtEnd feed = feed.left ≡ option_map (λ _. []) feed.left

-- why a file that may have so many more bytes wasn't read to its end: too large is said once one more was read
abbrev pub EndsEarly : ℕ → FeedAt → FeedAt → ReadEnd → Type 0
EndsEarly most old new Failed = (bytes : List ℕ) × (length bytes ≤ most) × HasFailed bytes old new
EndsEarly most old new TooLarge = (bytes : List ℕ) × (length bytes ≡ most + 1) × HasGiven bytes old new
EndsEarly most old new NoMemory = (bytes : List ℕ) × (length bytes ≤ most) × HasGiven bytes old new

-- so many bytes were read, and stand behind those that were there; none only at the file's end
pub record ReadsBehind (there : List ℕ) (old : FeedAt) (n : ℕ) (now : List ℕ) (new : FeedAt) : Type 0 where
  pub bytes : List ℕ
  pub behind : now ≡ there ++ bytes
  pub count : n ≡ length bytes
  pub given : HasGiven bytes old new
  pub at_end : n ≡ 0 → IsAtEnd new

-- the rest of the file was read, and it was so many bytes
pub record ReadsRest (old : FeedAt) (n : ℕ) (new : FeedAt) : Type 0 where
  pub bytes : List ℕ
  pub count : n ≡ length bytes
  pub given : HasGiven bytes old new
  pub at_end : IsAtEnd new
