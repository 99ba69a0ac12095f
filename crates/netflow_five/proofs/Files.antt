-- Files of datagrams: one more at the end, and where the well-formed front ends.
use Rattle.std.proofs.Common.{◌≡◌, ℕ, ◌+◌, ◌*◌, ◌<◌, ◌≤◌, List, [], ◌∷◌, ◌++◌, length, take, drop, refl, sym, ap, ap₂, ◌∙◌, subst, arith, append_assoc, zero-add}
use Rattle.std.specs.List.{AllByRecursion}
use Rattle.std.proofs.lemmas.List.{append-nil, length-append, length-take, take-append-drop, take_at, drop_at, take_all, take-take, drop-take}
use Rattle.netflow_five.specs.Field.{field}
use Rattle.netflow_five.specs.Datagram.{IsDatagram, count_of}
use Rattle.netflow_five.specs.Fault.{IsFault}
use Rattle.netflow_five.specs.File.{joined, IsFile, IsWellFormed, places, IsBad, IsRefusal}
use Rattle.netflow_five.specs.Next.{ReadTo}
use Rattle.netflow_five.specs.declared.malformed.Malformed.{Malformed as Cause}
use Rattle.netflow_five.specs.declared.refused.Refused.{Refused}
use Rattle.netflow_five.specs.declared.refused.Refused.TheVariants.{Malformed, NoMemory}
use Rattle.netflow_five.proofs.Front.{field_append}
use Rattle.netflow_five.proofs.Faults.{no_fault}

pub nothing_read : (bytes : List ℕ) → ReadTo bytes 0 []
nothing_read bytes = record { file = record { each = tt; whole = refl }; within = omega arith }

all_push : (ds : List (List ℕ)) (d : List ℕ) → AllByRecursion IsDatagram ds → IsDatagram d → AllByRecursion IsDatagram (ds ++ d ∷ [])
all_push [] d all is = (is, tt)
all_push (e ∷ ds) d all is = (all.0, all_push ds d all.1 is)

pub joined_push : (ds : List (List ℕ)) (d : List ℕ) → joined (ds ++ d ∷ []) ≡ joined ds ++ d
joined_push [] d = append-nil d
joined_push (e ∷ ds) d = ap (λ (x : List ℕ). e ++ x) (joined_push ds d) ∙ sym (append_assoc e (joined ds) d)

places_push : (at : ℕ) (ds : List (List ℕ)) (d : List ℕ) → places at (ds ++ d ∷ []) ≡ places at ds ++ (at + length (joined ds), count_of d) ∷ []
places_push at [] d = let e : at ≡ at + 0 = omega arith in ap (λ (k : ℕ). (k, count_of d) ∷ []) e
places_push at (e ∷ ds) d =
    let same : at + length e + length (joined ds) ≡ at + length (e ++ joined ds) = omega (arith, length-append e (joined ds)) in
    ap (λ (ps : List (ℕ × ℕ)). (at, count_of e) ∷ ps) (places_push (at + length e) ds d ∙ ap (λ (k : ℕ). places (at + length e) ds ++ (k, count_of d) ∷ []) same)

take_add : (n m : ℕ) (xs : List ℕ) → take (n + m) xs ≡ take n xs ++ take m (drop n xs)
take_add n m xs = sym (take-append-drop n (take (n + m) xs)) ∙ ap₂ (λ (x y : List ℕ). x ++ y) (take-take n (n + m) xs (omega arith)) (drop-take n m xs)

pub one_more : (bytes : List ℕ) (at : ℕ) (ds : List (List ℕ)) (d : List ℕ) → ReadTo bytes at ds → IsDatagram d → d ≡ take (length d) (drop at bytes) → at + length d ≤ length bytes
    → ReadTo bytes (at + length d) (ds ++ d ∷ [])
one_more bytes at ds d read is place within =
    let whole : take (at + length d) bytes ≡ joined (ds ++ d ∷ []) =
    take_add at (length d) bytes ∙ ap₂ (λ (x y : List ℕ). x ++ y) read.file.whole (sym place) ∙ sym (joined_push ds d) in
    record { file = record { each = all_push ds d read.file.each is; whole = whole }; within = within }

-- and where it begins is noted after the places of those before
pub one_place_more : (ds : List (List ℕ)) (d : List ℕ) (items : List (ℕ × ℕ)) (at count : ℕ) → items ≡ places 0 ds → at ≡ length (joined ds) → count ≡ count_of d
    → items ++ (at, count) ∷ [] ≡ places 0 (ds ++ d ∷ [])
one_place_more ds d items at count noted end is =
    ap₂ (λ (ps : List (ℕ × ℕ)) (p : ℕ × ℕ). ps ++ p ∷ []) noted (λ i. (end i, is i))
    ∙ sym (places_push 0 ds d ∙ ap (λ (k : ℕ). places 0 ds ++ (k, count_of d) ∷ []) (zero-add (length (joined ds))))

pub all_read : (bytes : List ℕ) (at : ℕ) (ds : List (List ℕ)) → ReadTo bytes at ds → length bytes ≤ at → IsFile bytes ds
all_read bytes at ds read end = record { each = read.file.each; whole = sym (take_all at bytes end) ∙ read.file.whole }

-- two datagrams that begin the same bytes have one length
same_size : (d e x y : List ℕ) → IsDatagram d → IsDatagram e → d ++ x ≡ e ++ y → length d ≡ length e
unfolding count_of
same_size d e x y is ie eq =
    let ld : length d ≡ 24 + 48 * field 2 2 d = is.size in
    let le : length e ≡ 24 + 48 * field 2 2 e = ie.size in
    let c : field 2 2 d ≡ field 2 2 e = sym (field_append 2 2 d x (omega arith)) ∙ ap (λ (z : List ℕ). field 2 2 z) eq ∙ field_append 2 2 e y (omega arith) in
    omega arith

-- so they are one, and what follows them too
same_front : (d e x y : List ℕ) → length d ≡ length e → d ++ x ≡ e ++ y → (d ≡ e) × (x ≡ y)
same_front d e x y len eq = (
  sym (take_at d x (length d) refl) ∙ ap (λ (z : List ℕ). take (length d) z) eq ∙ take_at e y (length d) (sym len),
  sym (drop_at d x (length d) refl) ∙ ap (λ (z : List ℕ). drop (length d) z) eq ∙ drop_at e y (length d) (sym len),
)

-- where a longer list of datagrams begins the same bytes, what follows the shorter has no fault
goes_on : (ds es : List (List ℕ)) (x y : List ℕ) (cause : Cause) → AllByRecursion IsDatagram ds → AllByRecursion IsDatagram es
    → joined ds ++ x ≡ joined es ++ y → length (joined ds) < length (joined es) → IsFault x cause → ⊥
goes_on ds [] x y cause all alle eq lt fault = absurd (omega arith)
goes_on [] (e ∷ es) x y cause all alle eq lt fault =
    no_fault e (joined es ++ y) cause alle.0 (subst (λ (z : List ℕ). IsFault z cause) (eq ∙ append_assoc e (joined es) y) fault)
goes_on (d ∷ ds) (e ∷ es) x y cause all alle eq lt fault =
    let eq' : d ++ (joined ds ++ x) ≡ e ++ (joined es ++ y) = sym (append_assoc d (joined ds) x) ∙ eq ∙ append_assoc e (joined es) y in
    let len = same_size d e (joined ds ++ x) (joined es ++ y) all.0 alle.0 eq' in
    let both = same_front d e (joined ds ++ x) (joined es ++ y) len eq' in
    goes_on ds es x y cause all.1 alle.1 both.1 (omega (arith, len, length-append d (joined ds), length-append e (joined es))) fault

pub bad_here : (bytes : List ℕ) (at : ℕ) (ds : List (List ℕ)) (cause : Cause) → ReadTo bytes at ds → at < length bytes → IsFault (drop at bytes) cause → IsBad bytes at cause
bad_here bytes at ds cause read lt fault = record {
  within = lt;
  prefix = (ds, read.file);
  longest = λ n more le well.
      let es = well.0 in
      let eq : joined ds ++ drop at bytes ≡ joined es ++ drop n bytes =
      ap (λ (z : List ℕ). z ++ drop at bytes) (sym read.file.whole) ∙ take-append-drop at bytes ∙ sym (take-append-drop n bytes) ∙ ap (λ (z : List ℕ). z ++ drop n bytes) well.1.whole in
      let longer : length (joined ds) < length (joined es) =
      omega (arith, ap length read.file.whole, ap length well.1.whole, length-take at bytes, length-take n bytes) in
      goes_on ds es (drop at bytes) (drop n bytes) cause read.file.each well.1.each eq longer fault;
  first = fault;
}

-- bytes of which a prefix is the longest that is well formed aren't well formed
pub bad_is_none : (bytes : List ℕ) (offset : ℕ) (cause : Cause) → IsBad bytes offset cause → IsWellFormed bytes → ⊥
bad_is_none bytes offset cause bad well =
    bad.longest (length bytes) bad.within (omega arith) (subst IsWellFormed (sym (take_all (length bytes) bytes (omega arith))) well)

-- the bytes of a file determine its datagrams
pub one_list : (ds es : List (List ℕ)) → AllByRecursion IsDatagram ds → AllByRecursion IsDatagram es → joined ds ≡ joined es → ds ≡ es
one_list [] [] all alle eq = refl
one_list [] (e ∷ es) all alle eq = absurd (omega (arith, ap length eq, length-append e (joined es), alle.0.size, alle.0.some_records))
one_list (d ∷ ds) [] all alle eq = absurd (omega (arith, ap length eq, length-append d (joined ds), all.0.size, all.0.some_records))
one_list (d ∷ ds) (e ∷ es) all alle eq =
    let len = same_size d e (joined ds) (joined es) all.0 alle.0 eq in
    let both = same_front d e (joined ds) (joined es) len eq in
    ap₂ (λ (x : List ℕ) (xs : List (List ℕ)). x ∷ xs) both.0 (one_list ds es all.1 alle.1 both.1)

-- one file after another is the file of the datagrams of both
pub joined-append : (ds es : List (List ℕ)) → joined (ds ++ es) ≡ joined ds ++ joined es
joined-append [] es = refl
joined-append (d ∷ ds) es = ap (λ (z : List ℕ). d ++ z) (joined-append ds es) ∙ sym (append_assoc d (joined ds) (joined es))

pub all_append : (ds es : List (List ℕ)) → AllByRecursion IsDatagram ds → AllByRecursion IsDatagram es → AllByRecursion IsDatagram (ds ++ es)
all_append [] es all alle = alle
all_append (d ∷ ds) es all alle = (all.0, all_append ds es all.1 alle)

pub files_joined : (xs ys : List ℕ) (ds es : List (List ℕ)) → IsFile xs ds → IsFile ys es → IsFile (xs ++ ys) (ds ++ es)
files_joined xs ys ds es x y = record {
  each = all_append ds es x.each y.each;
  whole = ap₂ (λ (a b : List ℕ). a ++ b) x.whole y.whole ∙ sym (joined-append ds es);
}

-- well-formed files, one after the other, are one well-formed file
pub joined_well : (files : List (List ℕ)) → AllByRecursion IsWellFormed files → IsWellFormed (joined files)
joined_well [] well = ([], record { each = tt; whole = refl })
joined_well (bytes ∷ files) well =
    let rest = joined_well files well.1 in
    (well.0.0 ++ rest.0, files_joined bytes (joined files) well.0.0 rest.0 well.0.1 rest.1)

-- bytes that are datagrams are refused for want of memory alone
pub only_memory : (bytes : List ℕ) (refused : Refused) → IsRefusal bytes refused → IsWellFormed bytes → refused ≡ NoMemory
only_memory bytes (Malformed offset cause) bad well = absurd (bad_is_none bytes offset cause bad well)
only_memory bytes NoMemory bad well = refl
