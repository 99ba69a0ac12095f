-- What the first node of a key's bucket tells of the key, and how it was read.
use Rattle.std.specs.Prelude.{◌≡◌, ◌≢◌, ℕ, ◌⊎◌, List, ◌++◌, Option, Some, None}
use Rattle.big_atomic.specs.Reads.{IsInlineRead, ReadFailed}
use Rattle.big_atomic.specs.Turns.{claim_stores}
use Rattle.cache_copy.specs.Reading.{FoundWords, OnlyRead, ReadsInline}
use Rattle.cache_copy.specs.declared.answers.Inline.{Inline}
use Rattle.cache_copy.specs.declared.answers.Inline.TheVariants.{Words}
use Rattle.cache_hash.specs.declared.firsts.First.{First}
use Rattle.cache_hash.specs.declared.firsts.First.TheVariants.{Here, Absent, Beyond}
use Rattle.seat_history.specs.Key.{key_number}
use Rattle.seat_history.specs.declared.key.KeyWords.{KeyWords}
use Rattle.step_rules.specs.Readers.{next_word}
use Rattle.step_rules.specs.Records.{key_in, record_in, records_at, value_in}
use Rattle.step_rules.specs.SeatData.{SeatData}
use Rattle.step_rules.specs.declared.layout.TheConstants.{END}
use Rattle.step_rules.specs.declared.view.Counted.{Counted}

-- these words of a first node have another key, and name a next link
pub record IsBeyond (key : KeyWords) (ws : List ℕ) : Type 0 where
  pub some : next_word ws ≢ END
  pub other : key_in (record_in ws) ≢ key_number key
  pub linked : next_word ws ≢ 0

-- the steps begin with a read of the cell's inline words, and they are such
pub record FoundBeyond (cell : ℕ) (key : KeyWords) (steps : List Counted) : Type 0 where
  pub words : List ℕ
  pub place : ℕ
  pub read : List Counted
  pub rest : List Counted
  pub inline : IsInlineRead cell words place read
  pub beyond : IsBeyond key words
  pub whole : steps ≡ read ++ rest

-- why a find stores a claim: the steps show that its read of the inline words failed, or that they name a next link and another key
abbrev pub MissesFirst : ℕ → KeyWords → List Counted → Type 0
MissesFirst cell key steps = ReadFailed cell steps ⊎ FoundBeyond cell key steps

-- the steps begin with such a read, which stores no claim
pub record BeginsMissed (cell : ℕ) (key : KeyWords) (steps : List Counted) : Type 0 where
  pub read : List Counted
  pub rest : List Counted
  pub none : claim_stores read ≡ 0
  pub shown : MissesFirst cell key read
  pub whole : steps ≡ read ++ rest

-- what the words of the first node of a bucket with these records tell of the key
abbrev pub TellsFirst : KeyWords → List ℕ → List (List ℕ) → First → Type 0
TellsFirst key ws rs (Here val) = value_in rs (key_number key) ≡ Some val
TellsFirst key ws rs Absent = value_in rs (key_number key) ≡ None
TellsFirst key ws rs Beyond = IsBeyond key ws

-- the bucket's inline words were read, and its records have this for the key at the end of what is seen
pub record HasFoundFirst (cell : ℕ) (key : KeyWords) (found : Option (List ℕ)) (before now : SeatData) : Type 0 where
  pub words : List ℕ
  pub read : FoundWords cell words before now
  pub only : OnlyRead before now
  pub value : value_in (records_at now.view.plan now.view.seen cell) (key_number key) ≡ found

-- they couldn't be read, or are those of another key and name a next link
pub record HasMissedFirst (cell : ℕ) (key : KeyWords) (before now : SeatData) : Type 0 where
  pub answer : Inline
  pub read : ReadsInline cell answer before now
  pub only : OnlyRead before now
  pub beyond : (ws : List ℕ) → answer ≡ Words ws → IsBeyond key ws

abbrev pub HasReadFirst : ℕ → KeyWords → First → SeatData → SeatData → Type 0
HasReadFirst cell key (Here val) before now = HasFoundFirst cell key (Some val) before now
HasReadFirst cell key Absent before now = HasFoundFirst cell key None before now
HasReadFirst cell key Beyond before now = HasMissedFirst cell key before now
