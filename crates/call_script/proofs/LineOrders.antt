-- A line with all lines of a script, each caller's in its order, is an order of them.
use Rattle.std.specs.Prelude.{slice_get}
use Rattle.std.specs.List.{AllByRecursion, cons_option, enumerate_from, range_with_len}
use Rattle.std.specs.List.Sorted.{IsPermutation, IsStrictlyIncreasing}
use Rattle.std.specs.Option.{option_map_or}
use Rattle.std.proofs.Common.{◌≡◌, ◌∙◌, ℕ, ◌+◌, zero, suc, Bool, true, false, cond, eqb, Some, List, [], ◌∷◌, ◌++◌, length, filter, map, refl, sym, ap, subst, append_assoc, arith}
use Rattle.std.proofs.lemmas.List.{length-append}
use Rattle.std.proofs.lemmas.List.Elements.{All-from_recursion, recursion_from_All}
use Rattle.std.proofs.lemmas.List.Kept.{IsStrictlyIncreasing-filter}
use Rattle.std.proofs.lemmas.List.Sorted.{All-permutation, IsPermutation-map}
use Rattle.seat_history.specs.declared.entry.Entry.{Entry}
use Rattle.seat_history.specs.declared.reply.Reply.{Reply}
use Rattle.call_script.specs.Run.{IsOrderOf, Made, is_line_of, items_at, made_in, made_lines, own_lines}
use Rattle.call_script.proofs.Merges.{Merges, items_of, merges, own}
use Rattle.call_script.proofs.Orders.{counted_up, get_behind}

-- the places of numbered items
abbrev places_of : {X : Type 0} → List (ℕ × X) → List ℕ
places_of {X = X} ts = map (λ (t : ℕ × X). t.0) ts

-- each item stands at its number
abbrev Numbered : {X : Type 0} → List X → ℕ × X → Type 0
Numbered {X = X} items t = slice_get items t.0 ≡ Some t.1

numbered_behind : {X : Type 0} (front back : List X) → AllByRecursion (Numbered (front ++ back)) (enumerate_from (length front) back)
numbered_behind front [] = tt
numbered_behind front (x ∷ back) =
    let longer : length (front ++ x ∷ []) ≡ length front + 1 = omega (arith, length-append front (x ∷ [])) in (
      get_behind front x back,
      subst (λ n. AllByRecursion (Numbered (front ++ x ∷ back)) (enumerate_from n back)) longer
          (subst (λ items. AllByRecursion (Numbered items) (enumerate_from (length (front ++ x ∷ [])) back)) (append_assoc front (x ∷ []) back) (numbered_behind (front ++ x ∷ []) back)),
    )

places_from : {X : Type 0} (n : ℕ) (items : List X) → places_of (enumerate_from n items) ≡ range_with_len n (length items)
places_from n [] = refl
places_from n (x ∷ items) = ap (λ z. n ∷ z) (places_from (n + 1) items)

items_from : {X : Type 0} (caller : X → ℕ) (n : ℕ) (items : List X) → items_of caller (enumerate_from n items) ≡ items
items_from caller n [] = refl
items_from caller n (x ∷ items) = ap (λ z. x ∷ z) (items_from caller (n + 1) items)

items_there : {X : Type 0} (caller : X → ℕ) (items : List X) (ts : List (ℕ × X)) → AllByRecursion (Numbered items) ts → items_at items (places_of ts) ≡ items_of caller ts
items_there caller items [] there = refl
items_there caller items (t ∷ ts) there = ap (λ o. cons_option o (items_at items (places_of ts))) there.0 ∙ ap (λ z. t.1 ∷ z) (items_there caller items ts there.1)

-- where a test of a place tells whose the item there is
own_places : {X : Type 0} (caller : X → ℕ) (x : ℕ) (p : ℕ → Bool) (ts : List (ℕ × X)) → AllByRecursion (λ (t : ℕ × X). p t.0 ≡ own caller x t) ts
    → filter p (places_of ts) ≡ places_of (filter (own caller x) ts)
own_places caller x p [] tells = refl
own_places caller x p (t ∷ ts) tells = ap (λ b. cond b (t.0 ∷ filter p (places_of ts)) (filter p (places_of ts))) tells.0 ∙ one (own caller x t) (own_places caller x p ts tells.1)
  where
    one : (b : Bool) → filter p (places_of ts) ≡ places_of (filter (own caller x) ts)
        → cond b (t.0 ∷ filter p (places_of ts)) (filter p (places_of ts)) ≡ places_of (cond b (t ∷ filter (own caller x) ts) (filter (own caller x) ts))
    one true e = ap (λ z. t.0 ∷ z) e
    one false e = e

all_recursion : {X : Type 0} (P Q : X → Type 0) (xs : List X) → ((x : X) → P x → Q x) → AllByRecursion P xs → AllByRecursion Q xs
all_recursion P Q [] f h = tt
all_recursion P Q (x ∷ xs) f h = (f x h.0, all_recursion P Q xs f h.1)

pub made_long : (lines : List Entry) (replies : List Reply) → length replies ≡ length lines → length (made_lines lines replies) ≡ length lines
made_long [] replies long = refl
made_long (line ∷ lines) [] long = long
made_long (line ∷ lines) (reply ∷ replies) long = ap suc (made_long lines replies (omega (arith, long)))

line_there : (lines : List Entry) (replies : List Reply) (n : ℕ) (m : Made) → slice_get (made_lines lines replies) n ≡ Some m → slice_get lines n ≡ Some m.line
line_there [] replies n m e = absurd (cc e)
line_there (line ∷ lines) [] n m e = absurd (cc e)
line_there (line ∷ lines) (reply ∷ replies) zero m e =
    let same : record { line = line; reply = reply } ≡ m = cc e in
    ap (λ (z : Made). Some z.line) same
line_there (line ∷ lines) (reply ∷ replies) (suc n) m e = line_there lines replies n m e

abbrev caller_of : Made → ℕ
caller_of m = m.line.caller

pub line_order : (lines : List Entry) (replies : List Reply) (line : List Made) → length replies ≡ length lines → ((x : ℕ) → own_lines x line ≡ own_lines x (made_lines lines replies))
    → (order : List ℕ) × IsOrderOf lines order × (made_in lines replies order ≡ line)
line_order lines replies line long same = (
  places_of m.merged,
  record {
    each_once = subst (λ z. IsPermutation z (places_of m.merged)) (places_from 0 made ∙ ap (range_with_len 0) (made_long lines replies long))
        (IsPermutation-map (λ (t : ℕ × Made). t.0) ts m.merged m.each_once);
    rising = λ x. subst IsStrictlyIncreasing (sym (own_kept x)) (IsStrictlyIncreasing-filter (is_line_of lines x) (range_with_len 0 (length made)) (counted_up (length made)));
  },
  items_there caller_of made m.merged there ∙ m.items,
)
  where
    made : List Made
    made = made_lines lines replies

    ts : List (ℕ × Made)
    ts = enumerate_from 0 (made_lines lines replies)

    m : Merges caller_of (enumerate_from 0 (made_lines lines replies)) line
    m = merges caller_of line (enumerate_from 0 (made_lines lines replies)) (λ x. same x ∙ ap (own_lines x) (sym (items_from caller_of 0 (made_lines lines replies))))

    tells : (x : ℕ) (t : ℕ × Made) → Numbered (made_lines lines replies) t → is_line_of lines x t.0 ≡ own caller_of x t
    tells x t e = ap (λ o. option_map_or (λ (line : Entry). eqb line.caller x) o false) (line_there lines replies t.0 t.1 e)

    first : AllByRecursion (Numbered (made_lines lines replies)) (enumerate_from 0 (made_lines lines replies))
    first = numbered_behind [] (made_lines lines replies)

    there : AllByRecursion (Numbered (made_lines lines replies)) m.merged
    there = recursion_from_All (Numbered (made_lines lines replies)) m.merged
        (All-permutation (Numbered (made_lines lines replies)) (enumerate_from 0 (made_lines lines replies)) m.merged m.each_once
        (All-from_recursion (Numbered (made_lines lines replies)) (enumerate_from 0 (made_lines lines replies)) first))

    -- each caller's places are those that they were
    own_kept : (x : ℕ) → filter (is_line_of lines x) (places_of m.merged) ≡ filter (is_line_of lines x) (range_with_len 0 (length (made_lines lines replies)))
    own_kept x =
        let p = is_line_of lines x in
        own_places caller_of x p m.merged (all_recursion (Numbered (made_lines lines replies)) (λ (t : ℕ × Made). p t.0 ≡ own caller_of x t) m.merged (tells x) there)
        ∙ (ap places_of (m.owns x)
        ∙ (sym (own_places caller_of x p (enumerate_from 0 (made_lines lines replies))
        (all_recursion (Numbered (made_lines lines replies)) (λ (t : ℕ × Made). p t.0 ≡ own caller_of x t) (enumerate_from 0 (made_lines lines replies)) (tells x) first))
        ∙ ap (filter p) (places_from 0 (made_lines lines replies))))
