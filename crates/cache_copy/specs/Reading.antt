-- What a read of a cell's inline words found, its own steps, and what it leaves of its seat.
use Rattle.std.specs.Prelude.{◌≡◌, ◌≢◌, ℕ, suc, false, List, [], ◌∷◌, ◌++◌, length}
use Rattle.cache_copy.specs.declared.answers.Inline.{Inline}
use Rattle.cache_copy.specs.declared.answers.Inline.TheVariants.{Words, Odd, Marked, Changed}
use Rattle.step_rules.specs.History.{GoesOn}
use Rattle.step_rules.specs.Readers.{IsFirst}
use Rattle.step_rules.specs.Records.{records_at}
use Rattle.step_rules.specs.SeatData.{SeatData}
use Rattle.step_rules.specs.Steps.{Sees, stepped}
use Rattle.step_rules.specs.Versions.{IsEven, IsOdd}
use Rattle.step_rules.specs.Views.{again_view, counted}
use Rattle.step_rules.specs.declared.layout.TheConstants.{NODE_WIDTH}
use Rattle.step_rules.specs.declared.view.Counted.{Counted}
use Rattle.step_rules.specs.declared.view.Kind.TheVariants.{BackupLoad, InlineLoad, VersionAgain, VersionLoad}
use Rattle.step_rules.specs.declared.view.View.{View}

-- loads of the inline words of the cell k from the word j on, which found these
abbrev pub inline_steps : ℕ → ℕ → List ℕ → ℕ → List Counted
inline_steps k j [] seen = []
inline_steps k j (w ∷ ws) seen = counted (InlineLoad k j) w seen ∷ inline_steps k (suc j) ws seen

-- a load of its version, which found u, and then the loads of its inline words
abbrev pub read_steps : ℕ → ℕ → List ℕ → ℕ → List Counted
read_steps k u ws seen = counted (VersionLoad k) u seen ∷ inline_steps k 0 ws seen

-- the view after them
abbrev pub read_view : ℕ → ℕ → List ℕ → View → View
read_view k u ws v = record v {
  trail = v.trail ++ read_steps k u ws (length v.seen);
  reader = record { cell = k; version = u; words = ws; unmarked = false; at = 0 };
}

-- the version found was odd
pub record FoundOdd (k : ℕ) (before now : SeatData) : Type 0 where
  pub version : ℕ
  pub odd : IsOdd version
  pub after : now ≡ stepped (read_view k version [] before.view) before

-- the even version u was found, then all inline words, ws, and then the backup word x
pub record HasLooked (k u x : ℕ) (ws : List ℕ) (before now : SeatData) : Type 0 where
  pub even : IsEven u
  pub whole : length ws ≡ NODE_WIDTH
  pub look : Sees (BackupLoad k) k x (stepped (read_view k u ws before.view) before) now
  pub trail : now.view.trail ≡ before.view.trail ++ (read_steps k u ws (length before.view.seen) ++ counted (BackupLoad k) x (length now.view.seen) ∷ [])

-- the backup word was marked
pub record FoundMarked (k : ℕ) (before now : SeatData) : Type 0 where
  pub version : ℕ
  pub words : List ℕ
  pub word : ℕ
  pub looked : HasLooked k version word words before now
  pub marked : IsOdd word

-- it was unmarked, and at last the version y was found
pub record HasEnded (k u y : ℕ) (ws : List ℕ) (before now : SeatData) : Type 0 where
  pub word : ℕ
  pub mid : SeatData
  pub looked : HasLooked k u word ws before mid
  pub unmarked : IsEven word
  pub after : now ≡ stepped (again_view k y mid.view) mid
  pub trail : now.view.trail ≡ before.view.trail ++ (read_steps k u ws (length before.view.seen)
      ++ counted (BackupLoad k) word (length now.view.seen) ∷ counted (VersionAgain k) y (length now.view.seen) ∷ [])

-- which is another than the first
pub record FoundChanged (k : ℕ) (before now : SeatData) : Type 0 where
  pub version : ℕ
  pub words : List ℕ
  pub again : ℕ
  pub ended : HasEnded k version again words before now
  pub differs : again ≢ version

-- or the same: the words are those of the first node that the cell had where its backup was found, at the end of what is seen
pub record FoundWords (k : ℕ) (ws : List ℕ) (before now : SeatData) : Type 0 where
  pub version : ℕ
  pub ended : HasEnded k version version ws before now
  pub first : IsFirst (records_at now.view.plan now.view.seen k) ws

-- the cause of each answer, with the steps that were made, one after the other
abbrev pub ReadsInline : ℕ → Inline → SeatData → SeatData → Type 0
ReadsInline k Odd before now = FoundOdd k before now
ReadsInline k Marked before now = FoundMarked k before now
ReadsInline k Changed before now = FoundChanged k before now
ReadsInline k (Words ws) before now = FoundWords k ws before now

-- of the seat only what it has seen, which goes on, its last look, its trail and its read are others
pub record OnlyRead (before now : SeatData) : Type 0 where
  pub same : now ≡ stepped (record before.view { seen = now.view.seen; look = now.view.look; trail = now.view.trail; reader = now.view.reader }) before
  pub seen : GoesOn before.view.seen now.view.seen

-- a read of the cell k under an even version, with no word yet
pub record HasBegun (k : ℕ) (v : View) : Type 0 where
  pub cell : v.reader.cell ≡ k
  pub even : IsEven v.reader.version
  pub none_read : v.reader.words ≡ []

-- the view after its loads of the words ws
abbrev pub words_view : ℕ → List ℕ → View → View
words_view k ws v = record v { trail = v.trail ++ inline_steps k 0 ws (length v.seen); reader = record v.reader { words = ws } }

pub record HasLoaded (k : ℕ) (ws : List ℕ) (before now : SeatData) : Type 0 where
  pub whole : length ws ≡ NODE_WIDTH
  pub after : now ≡ stepped (words_view k ws before.view) before
