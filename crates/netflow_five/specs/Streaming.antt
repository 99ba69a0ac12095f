-- What comes of a file whose datagrams are collected as it is read.
use Rattle.std.specs.Prelude.{◌≡◌, ℕ, ◌+◌, ◌≤◌, List, length, Result, Ok, Err}
use Rattle.wire_ports.specs.FeedMoments.{FeedAt, HasFailed, HasGiven, IsAtEnd}
use Rattle.wire_ports.specs.declared.whole.ReadEnd.{ReadEnd}
use Rattle.wire_ports.specs.declared.whole.ReadEnd.TheVariants as reading
use Rattle.netflow_five.specs.File.{IsFile, IsBad}
use Rattle.netflow_five.specs.Next.{CameTo, CollectsSome, CollectsTo}
use Rattle.netflow_five.specs.declared.file_end.FileEnd.{FileEnd}
use Rattle.netflow_five.specs.declared.file_end.FileEnd.TheVariants.{Failed, TooLarge, Malformed, NoMemory}

-- an end of the reading as one of the collecting
abbrev pub end_of : ReadEnd → FileEnd
end_of reading.Failed = Failed
end_of reading.TooLarge = TooLarge
end_of reading.NoMemory = NoMemory

-- the file was read to its end and is these datagrams, which came to what was collected; or why not, and what was collected then: the datagrams before
-- the bad one, or some first ones of those that were read
abbrev pub CollectsFile : {C : Type 0} → (C → List (List ℕ) → Type 0) → ℕ → FeedAt → C → FeedAt → C → Result ℕ FileEnd → Type 0
CollectsFile holds most old had new has (Ok n) = (bytes : List ℕ) × (ds : List (List ℕ)) × (n ≡ length bytes) × HasGiven bytes old new × IsAtEnd new
    × IsFile bytes ds × CameTo holds had ds has
CollectsFile holds most old had new has (Err (Malformed offset cause)) = (bytes : List ℕ) × (length bytes ≤ most) × HasGiven bytes old new × IsAtEnd new × IsBad bytes offset cause
    × CollectsTo holds bytes offset had has
CollectsFile holds most old had new has (Err Failed) = (bytes : List ℕ) × (length bytes ≤ most) × HasFailed bytes old new × CollectsSome holds bytes had has
CollectsFile holds most old had new has (Err TooLarge) = (bytes : List ℕ) × (length bytes ≡ most + 1) × HasGiven bytes old new × CollectsSome holds bytes had has
CollectsFile holds most old had new has (Err NoMemory) = (bytes : List ℕ) × (length bytes ≤ most) × HasGiven bytes old new × CollectsSome holds bytes had has
