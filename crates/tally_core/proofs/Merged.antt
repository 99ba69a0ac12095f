-- The callers' replies in the order of the lines.
use Rattle.std.proofs.Common.{◌≡◌, ◌≢◌, ◌⊎◌, ◌∙◌, ℕ, ◌+◌, ◌<◌, [], ◌∷◌}
use Rattle.std.proofs.Common.{inl, inr, eq-eqb, ne_eqb, replicate, set, suc, zero, Bool, true, false, cond, eqb, List, drop, length, get_or, map, refl, sym, ap, subst, arith}
use Rattle.std.proofs.lemmas.Bool.{cases_eq, eqb-true}
use Rattle.std.proofs.lemmas.List.{drop-drop, get_or-set_other, get_or-set_same, length-drop, length-map}
use Rattle.call_script.specs.Run.{made_lines, own_lines}
use Rattle.seat_history.specs.Contents.{set_at}
use Rattle.seat_history.specs.declared.entry.Entry.{Entry}
use Rattle.seat_history.specs.declared.reply.Reply.{Reply}
use Rattle.tally_core.proofs.Coming.{lines_own}
use Rattle.tally_core.specs.Workers.{Caller, HasMerged, lines_by, replies_at}

-- what is left of each caller's replies after one of this caller's
abbrev pub told_after : (ℕ → List Reply) → ℕ → ℕ → List Reply
told_after told caller = set_at told caller (drop 1 (told caller))

-- each caller has as many replies as lines
abbrev pub Serves : (ℕ → List Reply) → List Entry → Type 0
Serves told lines = (x : ℕ) → length (lines_by x lines) ≡ length (told x)

-- the replies in a row
abbrev pub merged : (ℕ → List Reply) → List Entry → (d : Reply) → List Reply
merged told [] d = []
merged told (line ∷ lines) d = get_or (told line.caller) 0 d ∷ merged (told_after told line.caller) lines d

pub merged_long : (told : ℕ → List Reply) (lines : List Entry) (d : Reply) → length (merged told lines d) ≡ length lines
merged_long told [] d = refl
merged_long told (line ∷ lines) d = ap suc (merged_long (told_after told line.caller) lines d)

-- one line less is left, and of its caller one reply
rest_served : (b : Bool) (line : Entry) (own : List Entry) (told : List Reply) → length (cond b (line ∷ own) own) ≡ length told → length own ≡ length (cond b (drop 1 told) told)
rest_served true line own [] e = absurd (omega (arith, e))
rest_served true line own (r ∷ told) e = omega (arith, e)
rest_served false line own told e = e

pub serves_rest : (told : ℕ → List Reply) (line : Entry) (lines : List Entry) → Serves told (line ∷ lines) → Serves (told_after told line.caller) lines
serves_rest told line lines serves x = rest_served_at (eqb line.caller x) (eqb-true line.caller x) (serves x)
  where
    rest_served_at : (b : Bool) → (b ≡ true → line.caller ≡ x) → length (cond b (line ∷ lines_by x lines) (lines_by x lines)) ≡ length (told x)
        → length (lines_by x lines) ≡ length (cond b (drop 1 (told line.caller)) (told x))
    rest_served_at true same e = rest_served true line (lines_by x lines) (told line.caller) (e ∙ ap (λ y. length (told y)) (sym (same refl)))
    rest_served_at false same e = e

pub merged_own : (told : ℕ → List Reply) (lines : List Entry) (d : Reply) (x : ℕ) → Serves told lines → own_lines x (made_lines lines (merged told lines d)) ≡ made_lines (lines_by x lines) (told x)
merged_own told [] d x serves = refl
merged_own told (line ∷ lines) d x serves =
    at_first (eqb line.caller x) (eqb-true line.caller x) (serves x) (merged_own (told_after told line.caller) lines d x (serves_rest told line lines serves))
  where
    with_first : (own : List Entry) (replies : List Reply) → length (line ∷ own) ≡ length replies
        → record { line = line; reply = get_or replies 0 d } ∷ made_lines own (drop 1 replies) ≡ made_lines (line ∷ own) replies
    with_first own [] e = absurd (omega (arith, e))
    with_first own (r ∷ replies) e = refl

    at_first : (b : Bool) → (b ≡ true → line.caller ≡ x) → length (cond b (line ∷ lines_by x lines) (lines_by x lines)) ≡ length (told x)
        → own_lines x (made_lines lines (merged (told_after told line.caller) lines d)) ≡ made_lines (lines_by x lines) (cond b (drop 1 (told line.caller)) (told x))
        → cond b (record { line = line; reply = get_or (told line.caller) 0 d } ∷ own_lines x (made_lines lines (merged (told_after told line.caller) lines d)))
        (own_lines x (made_lines lines (merged (told_after told line.caller) lines d))) ≡ made_lines (cond b (line ∷ lines_by x lines) (lines_by x lines)) (told x)
    at_first true same e more =
        ap (λ l. record { line = line; reply = get_or (told line.caller) 0 d } ∷ l) more
        ∙ (with_first (lines_by x lines) (told line.caller) (e ∙ ap (λ y. length (told y)) (sym (same refl))) ∙ ap (λ y. made_lines (line ∷ lines_by x lines) (told y)) (same refl))
    at_first false same e more = more

pub has_merged : (told : ℕ → List Reply) (lines : List Entry) (d : Reply) (replies : List Reply) → Serves told lines → replies ≡ merged told lines d → HasMerged lines told replies
has_merged told lines d replies serves is = subst (HasMerged lines told) (sym is) (record {
  count = merged_long told lines d;
  each = λ x. merged_own told lines d x serves;
})

-- the callers' replies that aren't in the row
abbrev pub left_of : List Caller → List ℕ → ℕ → List Reply
left_of callers next x = drop (get_or next x 0) (replies_at callers x)

first_there : (xss : List (List Reply)) (x : ℕ) → 0 < length (get_or xss x []) → x < length xss
first_there [] x some = absurd (omega (arith, some))
first_there (xs ∷ xss) zero some = omega arith
first_there (xs ∷ xss) (suc x) some = omega (arith, first_there xss x some)

module _ (callers : List Caller) (next : List ℕ) (line : Entry) (rest : List Entry) (serves : Serves (left_of callers next) (line ∷ rest)) where
  some_left : 0 < length (left_of callers next line.caller)
  some_left =
      let own : length (lines_by line.caller (line ∷ rest)) ≡ suc (length (lines_by line.caller rest)) = ap length (lines_own line.caller line rest refl) in
      omega (arith, own, serves line.caller)

  -- the caller of the next line is there, and so is its reply
  pub turn_there : get_or next line.caller 0 < length (replies_at callers line.caller)
  turn_there = omega (arith, some_left, length-drop (get_or next line.caller 0) (replies_at callers line.caller))

  pub caller_there : line.caller < length callers
  caller_there = omega (
    arith,
    first_there (map (λ (one : Caller). one.told.items) callers) line.caller (omega (arith, turn_there)),
    length-map callers (λ (one : Caller). one.told.items),
  )

-- one of this caller's is in the row
pub left_next : (callers : List Caller) (next : List ℕ) (caller : ℕ) → caller < length next
    → left_of callers (set next caller (get_or next caller 0 + 1)) ≡ told_after (left_of callers next) caller
left_next callers next caller within i x = at (cases_eq caller x) i
  where
    at : (caller ≡ x) ⊎ (caller ≢ x) → left_of callers (set next caller (get_or next caller 0 + 1)) x ≡ told_after (left_of callers next) caller x
    at (inl e) =
        ap (λ n. drop n (replies_at callers x)) (ap (λ y. get_or (set next caller (get_or next caller 0 + 1)) y 0) (sym e) ∙ get_or-set_same next caller (get_or next caller 0 + 1) 0 within)
        ∙ (sym (drop-drop 1 (get_or next caller 0) (replies_at callers x))
        ∙ (ap (λ y. drop 1 (drop (get_or next caller 0) (replies_at callers y))) (sym e)
        ∙ ap (λ b. cond b (drop 1 (left_of callers next caller)) (left_of callers next x)) (sym (eq-eqb caller x e))))
    at (inr ne) = ap (λ n. drop n (replies_at callers x)) (get_or-set_other next caller x (get_or next caller 0 + 1) 0 (λ e. ne (sym e)))
        ∙ ap (λ b. cond b (drop 1 (left_of callers next caller)) (left_of callers next x)) (sym (ne_eqb caller x ne))

zeros_there : (n x : ℕ) → ◌≡◌ {A = ℕ} (get_or (replicate n 0) x 0) 0
zeros_there zero x = refl
zeros_there (suc n) zero = refl
zeros_there (suc n) (suc x) = zeros_there n x

-- at the beginning all are left
pub all_left : (callers : List Caller) (n : ℕ) → left_of callers (replicate n 0) ≡ replies_at callers
all_left callers n i x = drop (zeros_there n x i) (replies_at callers x)
