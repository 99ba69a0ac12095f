-- Stands without the last one of each caller that leaves a record held.
use Rattle.std.proofs.Common.{◌≡◌, ◌∙◌, ℕ, Bool, true, false, ◌&&◌, cond, eqb, List, [], ◌∷◌, ◌++◌, map, refl, sym, ap}
use Rattle.std.proofs.lemmas.Bool.{eqb-true}
use Rattle.step_rules.specs.Line.{stands_by}
use Rattle.step_rules.specs.declared.view.Stand.{Stand}
use Rattle.call_script.specs.Row.{AreOwn, is_none_of, made_of, without_last}
use Rattle.call_script.specs.Run.{Made, own_lines}

-- one caller's stands without the last one
abbrev without_end : Bool → List Stand → List Stand
without_end b [] = []
without_end b (s ∷ r) = cond (b && is_none_of r) (without_end b r) (s ∷ without_end b r)

module _ (leaves : ℕ → Bool) (x : ℕ) where
  one_kept : (t c : Bool) (s : Stand) (l ends : List Stand) (u : Bool) → stands_by x l ≡ ends → eqb s.by x ≡ t → (t ≡ true → c ≡ u)
      → stands_by x (cond c l (s ∷ l)) ≡ cond t (cond u ends (s ∷ ends)) ends
  one_kept true true s l ends u e by same = e ∙ ap (λ b. cond b ends (s ∷ ends)) (same refl)
  one_kept true false s l ends u e by same = ap (λ b. cond b (s ∷ stands_by x l) (stands_by x l)) by ∙ (ap (λ z. s ∷ z) e ∙ ap (λ b. cond b ends (s ∷ ends)) (same refl))
  one_kept false true s l ends u e by same = e
  one_kept false false s l ends u e by same = ap (λ b. cond b (s ∷ stands_by x l) (stands_by x l)) by ∙ e

  split_end : (t b : Bool) (s : Stand) (r : List Stand) → without_end b (cond t (s ∷ r) r) ≡ cond t (cond (b && is_none_of r) (without_end b r) (s ∷ without_end b r)) (without_end b r)
  split_end true b s r = refl
  split_end false b s r = refl

  kept_by : (l : List Stand) → stands_by x (without_last leaves l) ≡ without_end (leaves x) (stands_by x l)
  kept_by [] = refl
  kept_by (s ∷ l) =
      one_kept (eqb s.by x) (leaves s.by && is_none_of (stands_by s.by l)) s (without_last leaves l) (without_end (leaves x) (stands_by x l)) (leaves x && is_none_of (stands_by x l))
      (kept_by l) refl (λ t. ap (λ n. leaves n && is_none_of (stands_by n l)) (eqb-true s.by x t))
      ∙ sym (split_end (eqb s.by x) (leaves x) s (stands_by x l))

none_less : (l : List Stand) → without_end false l ≡ l
none_less [] = refl
none_less (s ∷ l) = ap (λ z. s ∷ z) (none_less l)

one_less : (own : List Stand) (last : Stand) → without_end true (own ++ last ∷ []) ≡ own
one_less [] last = refl
one_less (s ∷ []) last = refl
one_less (s ∷ (t ∷ own)) last = ap (λ z. s ∷ z) (one_less (t ∷ own) last)

less : (b : Bool) (own stands : List Stand) → AreOwn b own stands → without_end b stands ≡ own
less true own stands are = ap (without_end true) are.2 ∙ one_less own are.0
less false own stands are = none_less stands ∙ are

-- a caller's own ones are left
pub own_left : (leaves : ℕ → Bool) (x : ℕ) (own line : List Stand) → AreOwn (leaves x) own (stands_by x line) → stands_by x (without_last leaves line) ≡ own
own_left leaves x own line are = kept_by leaves x line ∙ less (leaves x) own (stands_by x line) are

pub none_left : (leaves : ℕ → Bool) (x : ℕ) (line : List Stand) → stands_by x line ≡ [] → stands_by x (without_last leaves line) ≡ []
none_left leaves x line none = kept_by leaves x line ∙ ap (without_end (leaves x)) none

-- and as lines
pub own_made : (x : ℕ) (stands : List Stand) → own_lines x (map made_of stands) ≡ map made_of (stands_by x stands)
own_made x [] = refl
own_made x (s ∷ stands) = one (eqb s.by x) (own_lines x (map made_of stands)) (stands_by x stands) (own_made x stands)
  where
    one : (b : Bool) (ms : List Made) (ss : List Stand) → ms ≡ map made_of ss → cond b (made_of s ∷ ms) ms ≡ map made_of (cond b (s ∷ ss) ss)
    one true ms ss e = ap (λ z. made_of s ∷ z) e
    one false ms ss e = e
