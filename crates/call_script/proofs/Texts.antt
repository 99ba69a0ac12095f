-- Texts put together part by part.
use Rattle.std.specs.Prelude.{◌==◌, ◌&&◌}
use Rattle.std.specs.List.{AllByRecursion, enumerate_from, flat_map}
use Rattle.std.proofs.Common.{All, ◌≡◌, ◌≢◌, ◌∙◌, ℕ, zero, suc, ◌+◌, ◌<◌, Bool, true, false, cond, List, [], ◌∷◌, ◌++◌, length, take, get_or, ne_eqb, append_assoc, refl, sym, ap, ap₂, arith}
use Rattle.std.proofs.lemmas.List.{append-nil, take_more, length-take}
use Rattle.std.proofs.lemmas.List.Concat.{flat_map-append}
use Rattle.std.proofs.lemmas.List.Elements.{All-from_get_or, recursion_from_All}
use Rattle.std.proofs.lemmas.List.Folds.{list_all_at}
use Rattle.call_script.specs.Text.{is_blank, trimmed, register_line}

enumerate-push : {X : Type 0} (n : ℕ) (xs : List X) (x : X) → enumerate_from n (xs ++ x ∷ []) ≡ enumerate_from n xs ++ (n + length xs, x) ∷ []
enumerate-push n [] x = ap (λ m. (m, x) ∷ []) (omega arith)
enumerate-push n (y ∷ xs) x = ap (λ es. (n, y) ∷ es) (enumerate-push (n + 1) xs x ∙ ap (λ m. enumerate_from (n + 1) xs ++ (m, x) ∷ []) (omega arith))

-- one more register
pub registers_more : (rs : List (List ℕ)) (i : ℕ) (d : List ℕ) → i < length rs
    → flat_map register_line (enumerate_from 0 (take (i + 1) rs)) ≡ flat_map register_line (enumerate_from 0 (take i rs)) ++ register_line (i, get_or rs i d)
registers_more rs i d lt =
    let front = take i rs in
    let long : 0 + length front ≡ i = omega (arith, length-take i rs) in
    let pushed : enumerate_from 0 (take (i + 1) rs) ≡ enumerate_from 0 front ++ (i, get_or rs i d) ∷ [] =
    ap (enumerate_from 0) (take_more rs i d lt) ∙ enumerate-push 0 front (get_or rs i d) ∙ ap (λ n. enumerate_from 0 front ++ (n, get_or rs i d) ∷ []) long in
    ap (flat_map register_line) pushed ∙ flat_map-append register_line (enumerate_from 0 front) ((i, get_or rs i d) ∷ [])
    ∙ ap (λ line. flat_map register_line (enumerate_from 0 front) ++ line) (append-nil (register_line (i, get_or rs i d)))

zeros_blank : (words : List ℕ) → AllByRecursion (λ word. word ≡ 0) words → is_blank words ≡ true
zeros_blank [] zeros = refl
zeros_blank (word ∷ words) zeros = ap₂ (λ (w : ℕ) (b : Bool). (w == 0) && b) zeros.0 (zeros_blank words zeros.1)

-- of zeros nothing is left
pub trimmed_zeros : (words : List ℕ) → All (λ word. word ≡ 0) words → trimmed words ≡ []
trimmed_zeros [] zeros = refl
trimmed_zeros (word ∷ words) zeros = ap (λ b. cond b [] (word ∷ trimmed words)) (zeros_blank (word ∷ words) (recursion_from_All (λ w. w ≡ 0) (word ∷ words) zeros))

not_blank : (words : List ℕ) (i : ℕ) → i < length words → get_or words i 0 ≢ 0 → is_blank words ≡ false
not_blank words i within some = list_all_at (λ w. w == 0) words i 0 within (ne_eqb (get_or words i 0) 0 some)

-- what is left ends at the last word that isn't zero
pub trimmed_at : (words : List ℕ) (last : ℕ) → last < length words → get_or words last 0 ≢ 0
    → ((i : ℕ) → last < i → i < length words → get_or words i 0 ≡ 0) → take (suc last) words ≡ trimmed words
trimmed_at [] last within some zeros = absurd (omega arith)
trimmed_at (word ∷ words) zero within some zeros =
    let rest = trimmed_zeros words (All-from_get_or (λ w. w ≡ 0) words 0 (λ i lt. zeros (suc i) (omega arith) (omega arith))) in
    sym (ap (λ b. cond b [] (word ∷ trimmed words)) (not_blank (word ∷ words) 0 within some) ∙ ap (λ ws. word ∷ ws) rest)
trimmed_at (word ∷ words) (suc last) within some zeros =
    ap (λ ws. word ∷ ws) (trimmed_at words last (omega arith) some (λ i above lt. zeros (suc i) (omega arith) (omega arith)))
    ∙ sym (ap (λ b. cond b [] (word ∷ trimmed words)) (not_blank (word ∷ words) (suc last) within some))

pub registers_step : (rs : List (List ℕ)) (i : ℕ) (d front text next : List ℕ) → i < length rs
    → text ≡ front ++ flat_map register_line (enumerate_from 0 (take i rs)) → next ≡ text ++ register_line (i, get_or rs i d)
    → next ≡ front ++ flat_map register_line (enumerate_from 0 (take (i + 1) rs))
registers_step rs i d front text next lt so_far more =
    more ∙ ap (λ t. t ++ register_line (i, get_or rs i d)) so_far ∙ append_assoc front (flat_map register_line (enumerate_from 0 (take i rs))) (register_line (i, get_or rs i d))
    ∙ ap (λ t. front ++ t) (sym (registers_more rs i d lt))
