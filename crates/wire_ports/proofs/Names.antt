-- The bytes under a name, and where the name stands first.
use Rattle.std.specs.Prelude.{if◌then◌else◌, is_some}
use Rattle.std.proofs.Common.{◌≡◌, ◌∙◌, ℕ, suc, ◌+◌, Bool, true, false, ap, refl, sym, Option, Some, List, [], ◌∷◌, length, get_or, unwrap_or, ltb, arith, add-one}
use Rattle.std.proofs.lemmas.Bool.Decides.{nat_tests}
use Rattle.std.specs.Ordering.{nat_cmp, is_eq}
use Rattle.std.specs.Cmp.Lexicographic.{slice_cmp}
use Rattle.std.specs.Str.{bytes_eq}
use Rattle.std.specs.FinMap as finite
use Rattle.std.proofs.lemmas.Cmp.{nat_list_cmp_total}
use Rattle.std.proofs.lemmas.Map.Text.{is_eq-slice_cmp}
use Rattle.wire_ports.specs.Ports.{bytes_under}
use Rattle.wire_ports.specs.NamedBytes.{names_of, first_place, bytes_from}

-- what stands under a name, by a look through the files
found : List ℕ → List (List ℕ × List ℕ) → Option (List ℕ)
found name files = finite.find (slice_cmp nat_cmp) name files

-- one file more in front, by whether it has the name
by_test : (a b : Bool) (f : List ℕ × List ℕ) (rest : Option (List ℕ)) (files : List (List ℕ × List ℕ)) (place : ℕ) → a ≡ b → unwrap_or rest [] ≡ (get_or files place ([], [])).1
    → unwrap_or (if a then Some f.1 else rest) [] ≡ (get_or (f ∷ files) (if b then 0 else place + 1) ([], [])).1
by_test true true f rest files place e h = refl
by_test false false f rest files place e h = h ∙ ap (λ (k : ℕ). (get_or (f ∷ files) k ([], [])).1) (sym (add-one place))
by_test true false f rest files place e h = absurd (cc)
by_test false true f rest files place e h = absurd (cc)

first_of_more : (n : ℕ) → ltb 0 (suc n) ≡ true
first_of_more n = grind (arith, nat_tests)

both_one_more : (m n : ℕ) → ltb (m + 1) (suc n) ≡ ltb m n
both_one_more m n = grind (arith, nat_tests)

-- the same of whether the name is known
by_test_known : (a b : Bool) (bytes : List ℕ) (rest : Option (List ℕ)) (files : List (List ℕ × List ℕ)) (place : ℕ) → a ≡ b → ltb place (length files) ≡ is_some rest
    → ltb (if b then 0 else place + 1) (suc (length files)) ≡ is_some (if a then Some bytes else rest)
by_test_known true true bytes rest files place e h = first_of_more (length files)
by_test_known false false bytes rest files place e h = both_one_more place (length files) ∙ h
by_test_known true false bytes rest files place e h = absurd (cc)
by_test_known false true bytes rest files place e h = absurd (cc)

-- what is found is what the first place has
find_is : (name : List ℕ) (files : List (List ℕ × List ℕ)) → unwrap_or (found name files) [] ≡ (get_or files (first_place name files) ([], [])).1
unfolding found
find_is name [] = refl
find_is name (f ∷ files) = by_test (is_eq (slice_cmp nat_cmp name f.0)) (bytes_eq name f.0) f (finite.find (slice_cmp nat_cmp) name files) files (first_place name files)
    (is_eq-slice_cmp name f.0) (find_is name files)

-- the file at the first place of a name has the bytes under it
pub from_first_place : (name : List ℕ) (files : List (List ℕ × List ℕ)) → bytes_from files (first_place name files) 0 ≡ bytes_under (names_of files) name
unfolding found
from_first_place name files = sym (ap (λ (o : Option (List ℕ)). unwrap_or o []) (finite.get-from_entries nat_list_cmp_total files name) ∙ find_is name files)

-- a name is found exactly where its first place is one of the files
known_is : (name : List ℕ) (files : List (List ℕ × List ℕ)) → ltb (first_place name files) (length files) ≡ is_some (found name files)
unfolding found
known_is name [] = refl
known_is name (f ∷ files) = by_test_known (is_eq (slice_cmp nat_cmp name f.0)) (bytes_eq name f.0) f.1 (finite.find (slice_cmp nat_cmp) name files) files (first_place name files)
    (is_eq-slice_cmp name f.0) (known_is name files)

-- the name stands at a place exactly where there are bytes under it
pub known_at_place : (name : List ℕ) (files : List (List ℕ × List ℕ)) → ltb (first_place name files) (length files) ≡ is_some (finite.get (names_of files) name)
unfolding found
known_at_place name files = known_is name files ∙ sym (ap is_some (finite.get-from_entries nat_list_cmp_total files name))
