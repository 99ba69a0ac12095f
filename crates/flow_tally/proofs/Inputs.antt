-- Files are read one after the other: one more that is good, and the first that isn't.
use Rattle.std.specs.Prelude.{slice_get, Ok, Err, map}
use Rattle.std.specs.List.{AllByRecursion}
use Rattle.std.proofs.Common.{◌≡◌, ◌∙◌, ℕ, ◌+◌, ◌-◌, ◌≤◌, Option, Some, None, List, [], ◌∷◌, ◌++◌, length, take, refl, sym, ap, ap₂, subst, arith}
use Rattle.std.proofs.lemmas.List.{length-append, append-nil, map-append, take_all}
use Rattle.wire_ports.specs.Ports.{Names, bytes_under}
use Rattle.netflow_five.specs.File.{joined, IsFile, IsWellFormed}
use Rattle.netflow_five.proofs.Files.{joined-append, files_joined}
use Rattle.flow_tally.specs.Input.{most_bytes, AreContents, AreGood, FeedShown, IsReadOut, StopsAt, IsBytesOf, IsAt, IsTooLarge, RefusesFiles}
use Rattle.flow_tally.specs.Reading.{IsLongerFile, Reads, AddsFile, IsGatheredOf, HasRead}
use Rattle.flow_tally.specs.Gathered.{HasGathered}
use Rattle.flow_tally.specs.Words.{Files}
use Rattle.flow_tally.specs.declared.status.Status.{Status}
use Rattle.flow_tally.specs.declared.status.Status.TheVariants.{Done, Usage, OpenFault, ReadFault, WriteFault, BadDatagram, TooManyFlows, InputTooLarge, BadScript, NoMemory, PlanTooLarge}
use Rattle.flow_tally.specs.declared.gathered.Gathered.{Gathered}
use Rattle.flow_tally.proofs.Lists.{take_get, length-take_get}

-- the first i files are these contents, their records are gathered, and so much room is left
pub record ReadSoFar (names : Option Names) (files : List (List ℕ)) (i left : ℕ) (contents ds : List (List ℕ)) (gathered : Gathered) : Type 0 where
  pub count : length contents ≡ i
  pub told : AreContents names (take i files) contents
  pub sum : IsGatheredOf contents ds gathered
  pub room : left + length (joined contents) ≡ most_bytes

abbrev pub SoFar : Option Names → List (List ℕ) → ℕ → ℕ → Gathered → Type 0
SoFar names files i left gathered = (contents : List (List ℕ)) × (ds : List (List ℕ)) × ReadSoFar names files i left contents ds gathered

no_contents : (names : Option Names) → AreContents names [] []
no_contents None = refl
no_contents (Some names) = refl

pub none_so_far : (names : Option Names) (files : List (List ℕ)) (gathered : Gathered) → HasGathered [] gathered → SoFar names files 0 most_bytes gathered
none_so_far names files gathered had = (
  [],
  [],
  record {
    count = refl;
    told = no_contents names;
    sum = record { good = record { each = tt; within = omega arith }; file = record { each = tt; whole = refl }; all = had };
    room = omega arith;
  },
)

-- the bytes of one file more
pub told_more : (names : Option Names) (files contents : List (List ℕ)) (i : ℕ) (name bytes : List ℕ) → length contents ≡ i → slice_get files i ≡ Some name
    → AreContents names (take i files) contents → IsBytesOf names name bytes → AreContents names (take (i + 1) files) (contents ++ bytes ∷ [])
told_more None files contents i name bytes count is told bytes_is =
    omega (arith, count, length-append contents (bytes ∷ []), length-take_get files i name is)
told_more (Some names) files contents i name bytes count is told bytes_is =
    ap₂ (λ (x : List (List ℕ)) (y : List ℕ). x ++ y ∷ []) told bytes_is
    ∙ sym (map-append (bytes_under names) (take i files) (name ∷ []))
    ∙ ap (map (bytes_under names)) (sym (take_get files i name is))

each_more : (contents : List (List ℕ)) (bytes : List ℕ) → AllByRecursion IsWellFormed contents → IsWellFormed bytes → AllByRecursion IsWellFormed (contents ++ bytes ∷ [])
each_more [] bytes all well = (well, tt)
each_more (x ∷ xs) bytes all well = (all.0, each_more xs bytes all.1 well)

joined_more : (contents : List (List ℕ)) (bytes : List ℕ) → joined (contents ++ bytes ∷ []) ≡ joined contents ++ bytes
joined_more contents bytes = joined-append contents (bytes ∷ []) ∙ ap (λ (z : List ℕ). joined contents ++ z) (append-nil bytes)

length-joined_more : (contents : List (List ℕ)) (bytes : List ℕ) → length (joined (contents ++ bytes ∷ [])) ≡ length (joined contents) + length bytes
length-joined_more contents bytes = ap length (joined_more contents bytes) ∙ length-append (joined contents) bytes

-- one file more that is good, and within the limit
pub good_more : (contents : List (List ℕ)) (bytes : List ℕ) → AreGood contents → IsWellFormed bytes
    → length (joined contents) + length bytes ≤ most_bytes → AreGood (contents ++ bytes ∷ [])
good_more contents bytes good well within = record {
  each = each_more contents bytes good.each well;
  within = omega (arith, within, length-joined_more contents bytes);
}

-- one file more
pub file_so_far : (feed : FeedShown) (files : List (List ℕ)) (i left n : ℕ) (name : List ℕ) (file : ℕ) (old new : Gathered)
    → slice_get files i ≡ Some name → SoFar feed.names files i left old → AddsFile left feed name file old new (Ok n) → SoFar feed.names files (i + 1) (left - n) new
file_so_far feed files i left n name file old new is so_far adds =
    let names = feed.names in
    let contents = so_far.0 in
    let ds = so_far.1 in
    let had = so_far.2 in
    let bytes = adds.1 in
    let size : n ≡ length bytes = adds.3 in
    let small : n ≤ left = adds.0 in
    let room : left + length (joined contents) ≡ most_bytes = had.room in
    let whole : length (joined (contents ++ bytes ∷ [])) ≡ length (joined contents) + length bytes = length-joined_more contents bytes in (
      contents ++ bytes ∷ [],
      ds ++ adds.2,
      record {
        count = omega (arith, had.count, length-append contents (bytes ∷ []));
        told = told_more names files contents i name bytes had.count is had.told adds.4;
        sum = record {
          good = good_more contents bytes had.sum.good (adds.2, adds.5) (omega arith);
          file = subst (λ (z : List ℕ). IsFile z (ds ++ adds.2)) (sym (joined_more contents bytes)) (files_joined (joined contents) bytes ds adds.2 had.sum.file adds.5);
          all = adds.6 ds had.sum.all;
        };
        room = omega arith;
      },
    )

-- after the last file all were read
pub all_so_far : (feed : FeedShown) (files : List (List ℕ)) (i left : ℕ) (gathered : Gathered) → i ≡ length files
    → SoFar feed.names files i left gathered → IsReadOut i feed → HasRead feed (Files files) gathered
all_so_far feed files i left gathered end so_far out = (
  subst (λ (n : ℕ). IsReadOut n feed) end out,
  so_far.0,
  so_far.1,
  subst (λ (fs : List (List ℕ)). AreContents feed.names fs so_far.0) (take_all i files (omega arith)) so_far.2.told,
  so_far.2.sum,
)

-- the file after so many that are good
pub next_file : (names : Option Names) (files contents : List (List ℕ)) (i : ℕ) (name : List ℕ) (file : ℕ)
    → slice_get files i ≡ Some name → file ≡ i + 1 → length contents ≡ i → AreContents names (take i files) contents → AreGood contents → IsAt names files file contents name
next_file names files contents i name file is number count told good = record {
  number = omega (arith, number, count);
  name_there = ap (slice_get files) count ∙ is;
  told = subst (λ (k : ℕ). AreContents names (take k files) contents) (sym count) told;
  good = good;
}

at_file : (names : Option Names) (files : List (List ℕ)) (i left : ℕ) (name : List ℕ) (gathered : Gathered) (contents ds : List (List ℕ)) (file : ℕ)
    → slice_get files i ≡ Some name → file ≡ i + 1 → ReadSoFar names files i left contents ds gathered → IsAt names files file contents name
at_file names files i left name gathered contents ds file is number had = next_file names files contents i name file is number had.count had.told had.sum.good

too_large : (names : Option Names) (contents : List (List ℕ)) (name : List ℕ) (left : ℕ) → left + length (joined contents) ≡ most_bytes
    → IsLongerFile left names name → IsTooLarge names contents name
too_large None contents name left room longer = tt
too_large (Some names) contents name left room longer = omega arith

-- the one file of a list
pub alone : (names : Option Names) (name : List ℕ) (file : ℕ) → file ≡ 1 → IsAt names (name ∷ []) file [] name
alone names name file is = record { number = is; name_there = refl; told = no_contents names; good = record { each = tt; within = omega arith } }

-- a file that can't be gathered
pub file_refused : (feed : FeedShown) (files : List (List ℕ)) (i left : ℕ) (name : List ℕ) (file : ℕ) (old new : Gathered) (status : Status)
    → slice_get files i ≡ Some name → file ≡ i + 1 → feed.current ≡ file → SoFar feed.names files i left old
    → AddsFile left feed name file old new (Err status) → RefusesFiles files feed status
file_refused feed files i left name file old new (OpenFault number) is number_is last so_far adds = (
  so_far.0,
  name,
  at_file feed.names files i left name old so_far.0 so_far.1 number is (adds.0 ∙ number_is) so_far.2,
  adds.1,
  adds.2,
  last ∙ sym adds.0,
)
file_refused feed files i left name file old new (ReadFault number) is number_is last so_far adds = (
  so_far.0,
  name,
  at_file feed.names files i left name old so_far.0 so_far.1 number is (adds.0 ∙ number_is) so_far.2,
  adds.1,
  adds.2,
  last ∙ sym adds.0,
)
file_refused feed files i left name file old new (InputTooLarge number) is number_is last so_far adds = (
  (so_far.0, name, at_file feed.names files i left name old so_far.0 so_far.1 number is (adds.0 ∙ number_is) so_far.2, too_large feed.names so_far.0 name left so_far.2.room adds.1),
  record {
    stops = subst (λ (n : ℕ). StopsAt n feed) (sym adds.0) adds.2;
    past = (so_far.0, name, at_file feed.names files i left name old so_far.0 so_far.1 number is (adds.0 ∙ number_is) so_far.2, omega (arith, adds.3, so_far.2.room));
  },
)
file_refused feed files i left name file old new (BadDatagram number offset cause) is number_is last so_far adds = (
  (
    so_far.0,
    name,
    adds.1,
    at_file feed.names files i left name old so_far.0 so_far.1 number is (adds.0 ∙ number_is) so_far.2,
    record { told = adds.2; within = omega (arith, adds.3, so_far.2.room); bad = adds.4 },
  ),
  subst (λ (n : ℕ). StopsAt n feed) (sym adds.0) adds.5,
)
file_refused feed files i left name file old new NoMemory is number_is last so_far adds = tt
file_refused feed files i left name file old new Done is number_is last so_far adds = absurd adds
file_refused feed files i left name file old new Usage is number_is last so_far adds = absurd adds
file_refused feed files i left name file old new (WriteFault written) is number_is last so_far adds = absurd adds
file_refused feed files i left name file old new (TooManyFlows limit) is number_is last so_far adds = absurd adds
file_refused feed files i left name file old new (BadScript fault) is number_is last so_far adds = absurd adds
file_refused feed files i left name file old new (PlanTooLarge nodes) is number_is last so_far adds = absurd adds

-- a file that is read alone and fails
pub one_refused : (feed : FeedShown) (name : List ℕ) (status : Status) → feed.current ≡ 1 → Reads most_bytes feed name 1 (Err status) → RefusesFiles (name ∷ []) feed status
one_refused feed name (OpenFault number) last reads = ([], name, alone feed.names name number reads.0, reads.1, reads.2, last ∙ sym reads.0)
one_refused feed name (ReadFault number) last reads = ([], name, alone feed.names name number reads.0, reads.1, reads.2, last ∙ sym reads.0)
one_refused feed name (InputTooLarge number) last reads = (
  ([], name, alone feed.names name number reads.0, too_large feed.names [] name most_bytes (omega arith) reads.1),
  record {
    stops = subst (λ (n : ℕ). StopsAt n feed) (sym reads.0) reads.2;
    past = ([], name, alone feed.names name number reads.0, omega (arith, reads.3));
  },
)
one_refused feed name NoMemory last reads = tt
one_refused feed name Done last reads = absurd reads
one_refused feed name Usage last reads = absurd reads
one_refused feed name (WriteFault written) last reads = absurd reads
one_refused feed name (BadDatagram file offset cause) last reads = absurd reads
one_refused feed name (TooManyFlows limit) last reads = absurd reads
one_refused feed name (BadScript fault) last reads = absurd reads
one_refused feed name (PlanTooLarge nodes) last reads = absurd reads
