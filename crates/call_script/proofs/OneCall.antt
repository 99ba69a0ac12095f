-- Words spell one call at most.
use Rattle.std.specs.Prelude.{codes, replicate}
use Rattle.std.specs.List.{AllZip}
use Rattle.std.proofs.Common.{◌≡◌, ◌∙◌, ℕ, ◌-◌, ◌<◌, List, [], ◌∷◌, ◌++◌, length, refl, sym, ap, subst, arith}
use Rattle.std.proofs.lemmas.Fmt.{decimal_nonempty}
use Rattle.seat_history.specs.declared.call.Call.{Call}
use Rattle.seat_history.specs.declared.call.Call.TheVariants.{Load, Store, Swap, Hold, Look, Release, Find, Insert, Replace, Remove}
use Rattle.seat_history.specs.declared.entry.Entry.{Entry}
use Rattle.seat_history.specs.declared.key.KeyWords.{KeyWords}
use Rattle.seat_history.specs.declared.words.TheConstants.{WIDTH, VALUE_WIDTH}
use Rattle.call_script.specs.Cut.{parts_at, words_of}
use Rattle.call_script.specs.Line.{AreFull, AreCallWords, SpellsEntry, SpellsWords}
use Rattle.call_script.specs.Number.{IsNumber, IsTuple}
use Rattle.call_script.specs.Spelling.{Field, One, UpTo, IsField, IsKey, SpellsCall, name_of, fields_of}
use Rattle.call_script.proofs.Numbers.{one_number}
use Rattle.call_script.proofs.Spelled.{load_words, store_words, swap_words, hold_words, look_words, drop_words, find_words, insert_words, replace_words, remove_words}
use Rattle.call_script.proofs.Zips.{zip_length, zip_one}

one_tuple : (most : ℕ) (text a b : List ℕ) → IsTuple most text a → IsTuple most text b → a ≡ b
one_tuple most text a b h k =
    let same : h.numbers ≡ k.numbers = zip_one IsNumber one_number (parts_at 44 text) h.numbers k.numbers h.spelled k.spelled in
    h.filled ∙ ap (λ ns. ns ++ replicate (most - length ns) 0) same ∙ sym k.filled

one_key : (text : List ℕ) (a b : KeyWords) → IsKey text a → IsKey text b → a ≡ b
one_key text a b h k =
    let same : (a.k0 ∷ a.k1 ∷ []) ≡ (b.k0 ∷ b.k1 ∷ []) = one_tuple 2 text (a.k0 ∷ a.k1 ∷ []) (b.k0 ∷ b.k1 ∷ []) h k in
    let first : a.k0 ≡ b.k0 = cc same in
    let second : a.k1 ≡ b.k1 = cc same in
    λ i. record { k0 = first i; k1 = second i }

-- as many words as fields
module _ {A B : Type 0} (R : A → B → Type 0) where
  no_word : (ws : List A) → AllZip R ws [] → ws ≡ []
  no_word [] h = refl
  no_word (w ∷ ws) h = absurd h

  one_word : (ws : List A) (f : B) → AllZip R ws (f ∷ []) → (a : A) × (ws ≡ a ∷ []) × R a f
  one_word [] f h = absurd h
  one_word (a ∷ ws) f h = (a, ap (λ xs. a ∷ xs) (no_word ws h.1), h.0)

  two_words : (ws : List A) (f g : B) → AllZip R ws (f ∷ g ∷ []) → (a : A) × (b : A) × (ws ≡ a ∷ b ∷ []) × R a f × R b g
  two_words [] f g h = absurd h
  two_words (a ∷ ws) f g h = let more = one_word ws g h.1 in (a, more.0, ap (λ xs. a ∷ xs) more.1, h.0, more.2)

  three_words : (ws : List A) (f g k : B) → AllZip R ws (f ∷ g ∷ k ∷ []) → (a : A) × (b : A) × (d : A) × (ws ≡ a ∷ b ∷ d ∷ []) × R a f × R b g × R d k
  three_words [] f g k h = absurd h
  three_words (a ∷ ws) f g k h = let more = two_words ws g k h.1 in (a, more.0, more.1, ap (λ xs. a ∷ xs) more.2, h.0, more.3, more.4)

named : (name text : List ℕ) (ws vs : List (List ℕ)) (call : Call) → name ≡ text → ws ≡ vs → SpellsCall (name ∷ ws) call → SpellsCall (text ∷ vs) call
named name text ws vs call e f h = subst (λ n. SpellsCall (n ∷ vs) call) e (subst (λ xs. SpellsCall (name ∷ xs) call) f h)

pub one_call : (name : List ℕ) (ws : List (List ℕ)) (x y : Call) → SpellsCall (name ∷ ws) x → SpellsCall (name ∷ ws) y → x ≡ y
one_call name ws (Load reg) y h k =
    let w = one_word IsField ws (One reg) h.1 in
    let z = load_words w.0 y (named name (codes "load") ws (w.0 ∷ []) y h.0 w.1 k) in
    ap (λ n. Load n) (one_number w.0 reg z.0 w.2 z.2) ∙ sym z.1
one_call name ws (Store reg new) y h k =
    let w = two_words IsField ws (One reg) (UpTo WIDTH new) h.1 in
    let z = store_words w.0 w.1 y (named name (codes "store") ws (w.0 ∷ w.1 ∷ []) y h.0 w.2 k) in
    let r = one_number w.0 reg z.0 w.3 z.3 in
    let n = one_tuple WIDTH w.1 new z.1 w.4 z.4 in
    (λ i. Store (r i) (n i)) ∙ sym z.2
one_call name ws (Swap reg old new) y h k =
    let w = three_words IsField ws (One reg) (UpTo WIDTH old) (UpTo WIDTH new) h.1 in
    let z = swap_words w.0 w.1 w.2 y (named name (codes "swap") ws (w.0 ∷ w.1 ∷ w.2 ∷ []) y h.0 w.3 k) in
    let r = one_number w.0 reg z.0 w.4 z.4 in
    let o = one_tuple WIDTH w.1 old z.1 w.5 z.5 in
    let n = one_tuple WIDTH w.2 new z.2 w.6 z.6 in
    (λ i. Swap (r i) (o i) (n i)) ∙ sym z.3
one_call name ws (Hold reg) y h k =
    let w = one_word IsField ws (One reg) h.1 in
    let z = hold_words w.0 y (named name (codes "hold") ws (w.0 ∷ []) y h.0 w.1 k) in
    ap (λ n. Hold n) (one_number w.0 reg z.0 w.2 z.2) ∙ sym z.1
one_call name ws Look y h k = sym (look_words y (named name (codes "look") ws [] y h.0 (no_word IsField ws h.1) k))
one_call name ws Release y h k = sym (drop_words y (named name (codes "drop") ws [] y h.0 (no_word IsField ws h.1) k))
one_call name ws (Find key) y h k =
    let w = one_word IsField ws (UpTo 2 (key.k0 ∷ key.k1 ∷ [])) h.1 in
    let z = find_words w.0 y (named name (codes "find") ws (w.0 ∷ []) y h.0 w.1 k) in
    ap (λ n. Find n) (one_key w.0 key z.0 w.2 z.2) ∙ sym z.1
one_call name ws (Insert key val) y h k =
    let w = two_words IsField ws (UpTo 2 (key.k0 ∷ key.k1 ∷ [])) (UpTo VALUE_WIDTH val) h.1 in
    let z = insert_words w.0 w.1 y (named name (codes "insert") ws (w.0 ∷ w.1 ∷ []) y h.0 w.2 k) in
    let r = one_key w.0 key z.0 w.3 z.3 in
    let n = one_tuple VALUE_WIDTH w.1 val z.1 w.4 z.4 in
    (λ i. Insert (r i) (n i)) ∙ sym z.2
one_call name ws (Replace key old new) y h k =
    let w = three_words IsField ws (UpTo 2 (key.k0 ∷ key.k1 ∷ [])) (UpTo VALUE_WIDTH old) (UpTo VALUE_WIDTH new) h.1 in
    let z = replace_words w.0 w.1 w.2 y (named name (codes "replace") ws (w.0 ∷ w.1 ∷ w.2 ∷ []) y h.0 w.3 k) in
    let r = one_key w.0 key z.0 w.4 z.4 in
    let o = one_tuple VALUE_WIDTH w.1 old z.1 w.5 z.5 in
    let n = one_tuple VALUE_WIDTH w.2 new z.2 w.6 z.6 in
    (λ i. Replace (r i) (o i) (n i)) ∙ sym z.3
one_call name ws (Remove key) y h k =
    let w = one_word IsField ws (UpTo 2 (key.k0 ∷ key.k1 ∷ [])) h.1 in
    let z = remove_words w.0 y (named name (codes "remove") ws (w.0 ∷ []) y h.0 w.1 k) in
    ap (λ n. Remove n) (one_key w.0 key z.0 w.2 z.2) ∙ sym z.1

one_entry_words : (ws : List (List ℕ)) (x y : Entry) → SpellsWords ws x → SpellsWords ws y → x ≡ y
one_entry_words [] x y h k = absurd h
one_entry_words (caller ∷ []) x y h k = absurd h.1
one_entry_words (caller ∷ name ∷ ws) x y h k =
    let c = one_number caller x.caller y.caller h.0 k.0 in
    let d = one_call name ws x.call y.call h.1 k.1 in
    λ i. record { caller = c i; call = d i }

pub one_entry : (line : List ℕ) (x y : Entry) → SpellsEntry line x → SpellsEntry line y → x ≡ y
one_entry line x y h k = one_entry_words (words_of line) x y h k

-- no word that stands for something is empty
pub number_full : (word : List ℕ) (n : ℕ) → IsNumber word n → 0 < length word
number_full word n h = omega (arith, ap length h.spelled, decimal_nonempty n h.small)

field_full : (word : List ℕ) (field : Field) → IsField word field → 0 < length word
field_full word (One n) h = number_full word n h
field_full [] (UpTo most words) h = let w = one_empty h.numbers h.spelled in absurd (omega (arith, number_full [] w.0 w.1))
  where
    one_empty : (numbers : List ℕ) → AllZip IsNumber ([] ∷ []) numbers → (n : ℕ) × IsNumber [] n
    one_empty [] h = absurd h
    one_empty (n ∷ ns) h = (n, h.0)
field_full (b ∷ word) (UpTo most words) h = omega arith

fields_full : (ws : List (List ℕ)) (fields : List Field) → AllZip IsField ws fields → AreFull ws
fields_full [] [] h = tt
fields_full [] (f ∷ fs) h = absurd h
fields_full (w ∷ ws) [] h = absurd h
fields_full (w ∷ ws) (f ∷ fs) h = (field_full w f h.0, fields_full ws fs h.1)

name_full : (call : Call) → 0 < length (name_of call)
name_full (Load reg) = omega arith
name_full call = omega arith

call_words : (ws : List (List ℕ)) (x : Entry) → SpellsWords ws x → AreCallWords ws
call_words [] x h = absurd h
call_words (caller ∷ []) x h = absurd h.1
call_words (caller ∷ name ∷ ws) x h =
    let some : 0 < length name = omega (arith, ap length h.1.0, name_full x.call) in
    ((number_full caller x.caller h.0, (some, fields_full ws (fields_of x.call) h.1.1)), (x.call, h.1.0, zip_length IsField ws (fields_of x.call) h.1.1))

pub spelled_words : (line : List ℕ) (x : Entry) → SpellsEntry line x → AreCallWords (words_of line)
spelled_words line x h = call_words (words_of line) x h
