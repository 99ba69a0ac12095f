-- The first file that can't be tallied is one, and where there is one the files aren't good.
use Rattle.std.specs.Prelude.{◌⊎◌, slice_get, map}
use Rattle.std.specs.List.{AllByRecursion}
use Rattle.std.specs.Option.{option_map}
use Rattle.std.proofs.Common.{◌≡◌, ◌∙◌, ℕ, zero, suc, ◌+◌, ◌<◌, ◌≤◌, Some, List, [], ◌∷◌, length, take, refl, sym, ap, subst, inl, inr, arith}
use Rattle.std.proofs.lemmas.Bool.{cases_order}
use Rattle.std.proofs.lemmas.List.{length-append, take-map, take-take, take_all}
use Rattle.std.proofs.lemmas.Option.{slice_get-map, slice_get_within}
use Rattle.wire_ports.specs.Ports.{Names, bytes_under}
use Rattle.netflow_five.specs.File.{joined, IsWellFormed, IsBad}
use Rattle.netflow_five.specs.declared.malformed.Malformed.{Malformed}
use Rattle.netflow_five.proofs.Files.{bad_is_none}
use Rattle.netflow_five.proofs.OneFault.{one_bad}
use Rattle.flow_tally.specs.Input.{most_bytes, AreGood, IsAt, IsTooLarge, IsBadFile, IsFirstTooLarge, IsFirstBad}

get_taken : {X : Type 0} (xs : List X) (k i : ℕ) → i < k → slice_get (take k xs) i ≡ slice_get xs i
get_taken [] zero i lt = absurd (omega arith)
get_taken [] (suc k) i lt = refl
get_taken (x ∷ xs) zero i lt = absurd (omega arith)
get_taken (x ∷ xs) (suc k) zero lt = refl
get_taken (x ∷ xs) (suc k) (suc i) lt = get_taken xs k i (omega arith)

holds_at : (P : List ℕ → Type 0) (xs : List (List ℕ)) (i : ℕ) (x : List ℕ) → AllByRecursion P xs → slice_get xs i ≡ Some x → P x
holds_at P [] i x all is = absurd (cc)
holds_at P (y ∷ ys) zero x all is = let same : y ≡ x = cc is in subst P same all.0
holds_at P (y ∷ ys) (suc i) x all is = holds_at P ys i x all.1 is

-- a string of a list and those before it are no longer than all
front_within : (xs : List (List ℕ)) (i : ℕ) (x : List ℕ) → slice_get xs i ≡ Some x → length (joined (take i xs)) + length x ≤ length (joined xs)
front_within [] i x is = absurd (cc)
front_within (y ∷ ys) zero x is = let same : y ≡ x = cc is in omega (arith, ap length same, length-append y (joined ys))
front_within (y ∷ ys) (suc i) x is = omega (arith, front_within ys i x is, length-append y (joined (take i ys)), length-append y (joined ys))

-- after these the file of this name is good
abbrev GoesOn : Names → List (List ℕ) → List ℕ → Type 0
GoesOn names before name = IsWellFormed (bytes_under names name) × (length (joined before) + length (bytes_under names name) ≤ most_bytes)

large_stops : (names : Names) (before : List (List ℕ)) (name : List ℕ) → IsTooLarge (Some names) before name → ¬ GoesOn names before name
large_stops names before name large goes = omega (arith, large, goes.1)

bad_stops : (names : Names) (before : List (List ℕ)) (name bytes : List ℕ) (offset : ℕ) (cause : Malformed) → IsBadFile (Some names) before name bytes offset cause → ¬ GoesOn names before name
bad_stops names before name bytes offset cause bad goes = bad_is_none bytes offset cause bad.bad (subst IsWellFormed (sym bad.told) goes.0)

-- a file among the first files, all of them good, is good after those before it
among_good : (names : Names) (files contents before : List (List ℕ)) (file k : ℕ) (name : List ℕ) → IsAt (Some names) files file before name
    → contents ≡ map (bytes_under names) (take k files) → length before < k → AreGood contents → GoesOn names before name
among_good names files contents before file k name here told less good =
    let bytes = bytes_under names name in
    let i = length before in
    let there : slice_get contents i ≡ Some bytes =
    ap (λ (z : List (List ℕ)). slice_get z i) told ∙ slice_get-map (bytes_under names) (take k files) i
    ∙ ap (option_map (bytes_under names)) (get_taken files k i less ∙ here.name_there) in
    let front : take i contents ≡ before =
    ap (take i) told ∙ take-map (bytes_under names) i (take k files) ∙ ap (map (bytes_under names)) (take-take i k files (omega arith)) ∙ sym here.told in
    let within : length (joined (take i contents)) + length bytes ≤ length (joined contents) = front_within contents i bytes there in (
      holds_at IsWellFormed contents i bytes good.each there,
      omega (arith, within, ap (λ (z : List (List ℕ)). length (joined z)) front, good.within),
    )

-- where a file isn't good after those before it, not all files are good
pub stop_is_none : (names : Names) (files contents before : List (List ℕ)) (file : ℕ) (name : List ℕ) → IsAt (Some names) files file before name
    → ¬ GoesOn names before name → contents ≡ map (bytes_under names) files → AreGood contents → ⊥
stop_is_none names files contents before file name here stops told good =
    stops (among_good names files contents before file (length files) name here
    (told ∙ ap (map (bytes_under names)) (sym (take_all (length files) files (omega arith))))
    (slice_get_within files (length before) name here.name_there) good)

-- two first files that aren't good have as many before them
as_many : (names : Names) (files before others : List (List ℕ)) (file number : ℕ) (name other : List ℕ)
    → IsAt (Some names) files file before name → IsAt (Some names) files number others other → ¬ GoesOn names before name → ¬ GoesOn names others other
    → (length before ≡ length others) ⊎ ((length before < length others) ⊎ (length others < length before)) → length before ≡ length others
as_many names files before others file number name other here there stop halt (inl same) = same
as_many names files before others file number name other here there stop halt (inr (inl less)) =
    absurd (stop (among_good names files others before file (length others) name here there.told less there.good))
as_many names files before others file number name other here there stop halt (inr (inr more)) =
    absurd (halt (among_good names files before others number (length before) other there here.told more here.good))

-- so they are one file, after the same files
record IsSamePlace (before others : List (List ℕ)) (file number : ℕ) (name other : List ℕ) : Type 0 where
  pub same_files : before ≡ others
  pub same_number : file ≡ number
  pub same_name : name ≡ other

one_stop : (names : Names) (files before others : List (List ℕ)) (file number : ℕ) (name other : List ℕ)
    → IsAt (Some names) files file before name → IsAt (Some names) files number others other → ¬ GoesOn names before name → ¬ GoesOn names others other
    → IsSamePlace before others file number name other
one_stop names files before others file number name other here there stop halt =
    let same = as_many names files before others file number name other here there stop halt (cases_order (length before) (length others)) in
    let named : Some name ≡ Some other = sym here.name_there ∙ ap (slice_get files) same ∙ there.name_there in
    record {
      same_files = here.told ∙ ap (λ (k : ℕ). map (bytes_under names) (take k files)) same ∙ sym there.told;
      same_number = here.number ∙ ap (λ (k : ℕ). k + 1) same ∙ sym there.number;
      same_name = cc named;
    }

-- the first file that is too large is one
pub one_large : (names : Names) (files : List (List ℕ)) (file number : ℕ) → IsFirstTooLarge (Some names) files file → IsFirstTooLarge (Some names) files number → file ≡ number
one_large names files file number (before, name, here, large) (others, other, there, big) =
    (one_stop names files before others file number name other here there (large_stops names before name large) (large_stops names others other big)).same_number

-- a first file that is bad isn't too large
pub bad_not_large : (names : Names) (files : List (List ℕ)) (file number offset : ℕ) (cause : Malformed)
    → IsFirstBad (Some names) files file offset cause → IsFirstTooLarge (Some names) files number → ⊥
bad_not_large names files file number offset cause (before, name, bytes, here, bad) (others, other, there, big) =
    let same = one_stop names files before others file number name other here there (bad_stops names before name bytes offset cause bad) (large_stops names others other big) in
    omega (arith, big, bad.within, ap length bad.told, ap (λ (z : List (List ℕ)). length (joined z)) same.same_files, ap (λ (z : List ℕ). length (bytes_under names z)) same.same_name)

-- the first file that is bad is one, and so are the place and the cause
pub one_bad_file : (names : Names) (files : List (List ℕ)) (file number offset place : ℕ) (cause reason : Malformed)
    → IsFirstBad (Some names) files file offset cause → IsFirstBad (Some names) files number place reason → (file ≡ number) × (offset ≡ place) × (cause ≡ reason)
one_bad_file names files file number offset place cause reason (before, name, bytes, here, bad) (others, other, more, there, worse) =
    let same = one_stop names files before others file number name other here there
    (bad_stops names before name bytes offset cause bad) (bad_stops names others other more place reason worse) in
    let one : bytes ≡ more = bad.told ∙ ap (bytes_under names) same.same_name ∙ sym worse.told in
    let both = one_bad more offset place cause reason (subst (λ (z : List ℕ). IsBad z offset cause) one bad.bad) worse.bad in
    (same.same_number, both.0, both.1)

-- where a file is too large, not all are good
pub large_is_none : (names : Names) (files contents : List (List ℕ)) (file : ℕ) → IsFirstTooLarge (Some names) files file → contents ≡ map (bytes_under names) files → AreGood contents → ⊥
large_is_none names files contents file (before, name, here, large) told good =
    stop_is_none names files contents before file name here (large_stops names before name large) told good

-- where a file is bad, not all are good
pub bad_file_is_none : (names : Names) (files contents : List (List ℕ)) (file offset : ℕ) (cause : Malformed)
    → IsFirstBad (Some names) files file offset cause → contents ≡ map (bytes_under names) files → AreGood contents → ⊥
bad_file_is_none names files contents file offset cause (before, name, bytes, here, bad) told good =
    stop_is_none names files contents before file name here (bad_stops names before name bytes offset cause bad) told good
