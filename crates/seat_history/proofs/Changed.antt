-- Which calls change the contents.
use Rattle.std.specs.Prelude.{IsTrue, ◌↔◌, not, is_none, is_some, ◌&&◌}
use Rattle.std.specs.Option.{option_map_or}
use Rattle.std.specs.Cmp.Lexicographic.{bytes_decides}
use Rattle.std.proofs.Common.{◌≡◌, ◌≢◌, ◌∙◌, ℕ, Bool, true, false, Option, Some, None, List, eqb, eq-eqb, refl, sym, ap, cond, inl, inr}
use Rattle.std.proofs.lemmas.Bool.{eqb-true, cases_Bool, false≢true}
use Rattle.seat_history.specs.Change.{Changes, is_change}
use Rattle.seat_history.specs.Contents.{Contents, set_at}
use Rattle.seat_history.specs.Key.{key_number}
use Rattle.seat_history.specs.Step.{contents_after, values_after, is_same, is_value}
use Rattle.seat_history.specs.declared.call.Call.{Call}
use Rattle.seat_history.specs.declared.call.Call.TheVariants.{Load, Store, Swap, Hold, Look, Release, Find, Insert, Replace, Remove}

pub words_from_same : (a b : List ℕ) → is_same a b ≡ true → a ≡ b
words_from_same a b h = (bytes_decides a b).0 h

pub same_from_words : (a b : List ℕ) → a ≡ b → is_same a b ≡ true
same_from_words a b h = (bytes_decides a b).1 h

pub set_at_here : {X : Type 0} (f : ℕ → X) (n : ℕ) (x : X) → set_at f n x n ≡ x
set_at_here f n x = ap (λ b. cond b x (f n)) (eq-eqb n n refl)

set_by_test : {X : Type 0} (b : Bool) (x y : X) → (b ≡ true → x ≡ y) → cond b x y ≡ y
set_by_test true x y h = h refl
set_by_test false x y h = refl

-- what is set to what it is
set_at_same : {X : Type 0} (f : ℕ → X) (n : ℕ) (x : X) → x ≡ f n → set_at f n x ≡ f
set_at_same f n x h = λ i k. set_by_test (eqb n k) x (f k) (λ t. h ∙ ap f (eqb-true n k t)) i

-- contents that differ in a register, and under a number
other_register : (c d : Contents) (reg : ℕ) (a b : List ℕ) → d.registers reg ≡ b → is_same a b ≡ false → c.registers reg ≡ a → d ≢ c
other_register c d reg a b there apart here same =
    false≢true (sym apart ∙ same_from_words a b (sym here ∙ ap (λ (x : Contents). x.registers reg) (sym same) ∙ there))

other_value : (c d : Contents) (n : ℕ) → d.values n ≢ c.values n → d ≢ c
other_value c d n apart same = apart (ap (λ (x : Contents). x.values n) same)

in_front : (a b : Bool) → (a && b) ≡ true → a ≡ true
in_front true b h = refl
in_front false b h = h

behind : (a b : Bool) → (a && b) ≡ true → b ≡ true
behind true b h = h
behind false b h = absurd (false≢true h)

not_true : (b : Bool) → not b ≡ true → b ≡ false
not_true true h = sym h
not_true false h = refl

not_false : (b : Bool) → not b ≡ false → b ≡ true
not_false true h = refl
not_false false h = sym h

value_there : (there : Option (List ℕ)) (val : List ℕ) → is_value there val ≡ true → there ≡ Some val
value_there None val h = absurd (false≢true h)
value_there (Some found) val h = ap Some (words_from_same found val h)

from_none : (o : Option (List ℕ)) → is_none o ≡ true → o ≡ None
from_none None h = refl
from_none (Some v) h = absurd (false≢true h)

pub changed : (c : Contents) (call : Call) → is_change c call ≡ true → Changes c call
changed c (Load reg) h = absurd (false≢true h)
changed c (Store reg new) h =
    other_register c (contents_after c (Store reg new)) reg (c.registers reg) new (set_at_here c.registers reg new) (not_true _ h) refl
changed c (Swap reg old new) h =
    let was = in_front (is_same (c.registers reg) old) (not (is_same old new)) h in
    let apart = not_true (is_same old new) (behind (is_same (c.registers reg) old) (not (is_same old new)) h) in
    other_register c (contents_after c (Swap reg old new)) reg old new
    (ap (λ b. cond b (set_at c.registers reg new) c.registers reg) was ∙ set_at_here c.registers reg new) apart (words_from_same _ _ was)
changed c (Hold reg) h = absurd (false≢true h)
changed c Look h = absurd (false≢true h)
changed c Release h = absurd (false≢true h)
changed c (Find key) h = absurd (false≢true h)
changed c (Insert key val) h =
    let n = key_number key in
    let none : c.values n ≡ None = from_none (c.values n) h in
    let some : values_after c.values (Insert key val) n ≡ Some val = ap (λ o. option_map_or (λ _. c.values) o (set_at c.values n (Some val)) n) none ∙ set_at_here c.values n (Some val) in
    other_value c (contents_after c (Insert key val)) n (λ same. let no : Some val ≡ None = sym some ∙ same ∙ none in cc)
changed c (Replace key old new) h =
    let n = key_number key in
    let was = in_front (is_value (c.values n) old) (not (is_same old new)) h in
    let apart = not_true (is_same old new) (behind (is_value (c.values n) old) (not (is_same old new)) h) in
    let there = value_there (c.values n) old was in
    let some : values_after c.values (Replace key old new) n ≡ Some new = ap (λ b. cond b (set_at c.values n (Some new)) c.values n) was ∙ set_at_here c.values n (Some new) in
    other_value c (contents_after c (Replace key old new)) n (λ same.
    let alike : Some old ≡ Some new = sym there ∙ sym same ∙ some in
    let words : old ≡ new = cc in
    false≢true (sym apart ∙ same_from_words old new words))
changed c (Remove key) h =
    let n = key_number key in
    let none : values_after c.values (Remove key) n ≡ None = set_at_here c.values n None in
    other_value c (contents_after c (Remove key)) n (λ same. let gone : c.values n ≡ None = sym same ∙ none in false≢true (ap is_some (sym gone) ∙ h))

-- contents with the registers or the values as they were
same_registers : (c : Contents) (registers : ℕ → List ℕ) → registers ≡ c.registers → record { registers = registers; values = c.values } ≡ c
same_registers c registers h = λ i. record { registers = h i; values = c.values }

same_values : (c : Contents) (values : ℕ → Option (List ℕ)) → values ≡ c.values → record { registers = c.registers; values = values } ≡ c
same_values c values h = λ i. record { registers = c.registers; values = h i }

one_idle : {X : Type 0} (a b : Bool) (x y : X) → (a && not b) ≡ false → (a ≡ true → b ≡ true → x ≡ y) → cond a x y ≡ y
one_idle true b x y h e = e refl (not_false b h)
one_idle false b x y h e = refl

insert_idle : (values : ℕ → Option (List ℕ)) (n : ℕ) (val : List ℕ) (there : Option (List ℕ)) → is_none there ≡ false → option_map_or (λ _. values) there (set_at values n (Some val)) ≡ values
insert_idle values n val None h = absurd (false≢true (sym h))
insert_idle values n val (Some found) h = refl

none_is : (o : Option (List ℕ)) → is_some o ≡ false → None ≡ o
none_is None h = refl
none_is (Some v) h = absurd (false≢true (sym h))

pub idle : (c : Contents) (call : Call) → is_change c call ≡ false → contents_after c call ≡ c
idle c (Load reg) h = refl
idle c (Store reg new) h = same_registers c _ (set_at_same c.registers reg new (sym (words_from_same (c.registers reg) new (not_false _ h))))
idle c (Swap reg old new) h = same_registers c _ (one_idle (is_same (c.registers reg) old) (is_same old new) (set_at c.registers reg new) c.registers h (λ was alike.
    set_at_same c.registers reg new (sym (words_from_same (c.registers reg) old was ∙ words_from_same old new alike))))
idle c (Hold reg) h = refl
idle c Look h = refl
idle c Release h = refl
idle c (Find key) h = refl
idle c (Insert key val) h = same_values c _ (insert_idle c.values (key_number key) val (c.values (key_number key)) h)
idle c (Replace key old new) h = let n = key_number key in same_values c _ (one_idle (is_value (c.values n) old) (is_same old new) (set_at c.values n (Some new)) c.values h (λ was alike.
    set_at_same c.values n (Some new) (sym (value_there (c.values n) old was ∙ ap (λ v. Some v) (words_from_same old new alike)))))
idle c (Remove key) h = same_values c _ (set_at_same c.values (key_number key) None (none_is (c.values (key_number key)) h))

pub change_told : (c : Contents) (call : Call) → IsTrue (is_change c call) ↔ Changes c call
change_told c call = (changed c call, λ differs. elim (cases_Bool (is_change c call)) [ inl told ↦ told | inr untold ↦ absurd (differs (idle c call untold)) ])
