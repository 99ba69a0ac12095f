-- A bucket's records stand in the order of their keys' last inserts, the latest first.
use Rattle.std.proofs.Common.{◌≡◌, ◌≢◌, ◌∙◌, ℕ, ◌<◌, ◌≤◌, suc, true, false, cond, eqb, eq-eqb, ne_eqb, List, [], ◌∷◌, Option, Some, None, is_some, is_none}
use Rattle.std.proofs.Common.{refl, sym, subst, arith}
use Rattle.std.specs.Prelude.{⊤}
use Rattle.std.proofs.lemmas.Bool.{eqb-true, cond-true, cond-false, false≢true}
use Rattle.seat_history.specs.Key.{key_number}
use Rattle.seat_history.specs.Step.{is_same}
use Rattle.seat_history.specs.declared.call.Call.{Call}
use Rattle.seat_history.specs.declared.call.Call.TheVariants.{Store, Swap, Insert, Replace, Remove}
use Rattle.seat_history.specs.declared.key.KeyWords.{KeyWords}
use Rattle.step_rules.proofs.Order.RecordsTell.{is_there_value}
use Rattle.step_rules.specs.Order.{inserts}
use Rattle.step_rules.specs.Records.{edit_of, edited, is_change_in, key_in, out, pair, place_in, records_after, value_in}
use Rattle.step_rules.specs.Records as r

abbrev pub AllBelow : (ℕ → ℕ) → ℕ → List (List ℕ) → Type 0
AllBelow f m [] = ⊤
AllBelow f m (x ∷ xs) = (f (key_in x) < m) × AllBelow f m xs

-- each record's key has a greater f than those after it
abbrev pub Falling : (ℕ → ℕ) → List (List ℕ) → Type 0
Falling f [] = ⊤
Falling f (x ∷ xs) = AllBelow f (f (key_in x)) xs × Falling f xs

-- the last inserts after one entry more, at the place m
abbrev pub after_entry : (ℕ → ℕ) → ℕ → Call → ℕ → ℕ
after_entry f m call n = cond (inserts call n) (suc m) (f n)

below_same : (f g : ℕ → ℕ) (m k : ℕ) (xs : List (List ℕ)) → value_in xs k ≡ None → ((n : ℕ) → eqb n k ≡ false → g n ≡ f n) → AllBelow f m xs → AllBelow g m xs
below_same f g m k [] none same h = tt
below_same f g m k (x ∷ xs) none same h = grind (arith, below_same f g m k xs, none, same (key_in x), h.0, h.1)

falling_same : (f g : ℕ → ℕ) (k : ℕ) (xs : List (List ℕ)) → value_in xs k ≡ None → ((n : ℕ) → eqb n k ≡ false → g n ≡ f n) → Falling f xs → Falling g xs
falling_same f g k [] none same h = tt
falling_same f g k (x ∷ xs) none same h = grind (arith, falling_same f g k xs, below_same f g (f (key_in x)) k xs, none, same (key_in x), h.0, h.1)

bound_all : (f : ℕ → ℕ) (m : ℕ) (xs : List (List ℕ)) → ((n : ℕ) → f n ≤ m) → AllBelow f (suc m) xs
bound_all f m [] bound = tt
bound_all f m (x ∷ xs) bound = (let b = bound (key_in x) in omega arith, bound_all f m xs bound)

below_set : (f : ℕ → ℕ) (m k : ℕ) (key : KeyWords) (new : List ℕ) (xs : List (List ℕ)) → key_number key ≡ k → is_some (value_in xs k) ≡ true → AllBelow f m xs
    → AllBelow f m (edited xs (r.set (place_in xs k) (pair key new)))
below_set f m k key new [] is there h = absurd (false≢true there)
below_set f m k key new (x ∷ xs) is there h = grind (arith, below_set f m k key new xs, is, there, h.0, h.1, eqb-true (key_in x) k)

falling_set : (f : ℕ → ℕ) (k : ℕ) (key : KeyWords) (new : List ℕ) (xs : List (List ℕ)) → key_number key ≡ k → is_some (value_in xs k) ≡ true → Falling f xs
    → Falling f (edited xs (r.set (place_in xs k) (pair key new)))
falling_set f k key new [] is there h = absurd (false≢true there)
falling_set f k key new (x ∷ xs) is there h = grind (arith, falling_set f k key new xs, below_set f (f (key_in x)) k key new xs, is, there, h.0, h.1, eqb-true (key_in x) k)

below_out : (f : ℕ → ℕ) (m k : ℕ) (xs : List (List ℕ)) → is_some (value_in xs k) ≡ true → AllBelow f m xs → AllBelow f m (edited xs (out (place_in xs k)))
below_out f m k [] there h = absurd (false≢true there)
below_out f m k (x ∷ xs) there h = grind (arith, below_out f m k xs, there, h.0, h.1, eqb-true (key_in x) k)

falling_out : (f : ℕ → ℕ) (k : ℕ) (xs : List (List ℕ)) → is_some (value_in xs k) ≡ true → Falling f xs → Falling f (edited xs (out (place_in xs k)))
falling_out f k [] there h = absurd (false≢true there)
falling_out f k (x ∷ xs) there h = grind (arith, falling_out f k xs, below_out f (f (key_in x)) k xs, there, h.0, h.1, eqb-true (key_in x) k)

none_there : (o : Option (List ℕ)) → is_none o ≡ true → o ≡ None
none_there None h = refl
none_there (Some v) h = absurd (false≢true h)

-- a key's call that changes the records keeps their order
pub order_next : (f : ℕ → ℕ) (m : ℕ) (rs : List (List ℕ)) (call : Call) → Falling f rs → ((n : ℕ) → f n ≤ m) → is_change_in rs call ≡ true
    → ((reg : ℕ) (new : List ℕ) → call ≢ Store reg new) → ((reg : ℕ) (old new : List ℕ) → call ≢ Swap reg old new)
    → Falling (after_entry f m call) (records_after rs call)
order_next f m rs (Store reg new) falls bound h a b = absurd (a reg new refl)
order_next f m rs (Swap reg old new) falls bound h a b = absurd (b reg old new refl)
order_next f m rs (Insert key val) falls bound h a b =
    let k = key_number key in
    let g = after_entry f m (Insert key val) in
    let none : value_in rs k ≡ None = none_there (value_in rs k) h in
    let same : (n : ℕ) → eqb n k ≡ false → g n ≡ f n = λ n ne. cond-false (eqb k n) (suc m) (f n) (ne_eqb k n (λ e. false≢true (sym ne ∙ eq-eqb n k (sym e)))) in
    let here : g k ≡ suc m = cond-true (eqb k k) (suc m) (f k) (eq-eqb k k refl) in
    subst (Falling g) (sym (cond-true (is_change_in rs (Insert key val)) (pair key val ∷ rs) rs h))
    (subst (λ t. AllBelow g t rs) (sym here) (below_same f g (suc m) k rs none same (bound_all f m rs bound)), falling_same f g k rs none same falls)
order_next f m rs (Replace key old new) falls bound h a b =
    subst (Falling f) (sym (cond-true (is_change_in rs (Replace key old new)) (edited rs (edit_of rs (Replace key old new))) rs h))
    (falling_set f (key_number key) key new rs refl (is_there_value (value_in rs (key_number key)) old (is_same old new) h) falls)
order_next f m rs (Remove key) falls bound h a b =
    subst (Falling f) (sym (cond-true (is_change_in rs (Remove key)) (edited rs (edit_of rs (Remove key))) rs h)) (falling_out f (key_number key) rs h falls)
order_next f m rs _ falls bound h a b = absurd (false≢true h)
