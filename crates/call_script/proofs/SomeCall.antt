-- A line spells a call that may be made, or has a cause why not.
use Rattle.std.specs.Prelude.{codes}
use Rattle.std.proofs.Common.{◌≡◌, ◌⊎◌, ℕ, ◌<◌, Option, Some, None, List, [], ◌∷◌, length, refl, sym, subst, inl, inr, arith}
use Rattle.std.proofs.Math.Decide.{dec_lt, map_dec}
use Rattle.std.proofs.lemmas.Bool.{false≢true}
use Rattle.seat_history.specs.Object.{Object, MayCall, NamesBelow}
use Rattle.seat_history.specs.declared.call.Call.{Call}
use Rattle.seat_history.specs.declared.call.Call.TheVariants.{Load, Store, Swap, Hold, Look, Release, Find, Insert, Replace, Remove}
use Rattle.seat_history.specs.declared.entry.Entry.{Entry}
use Rattle.seat_history.specs.declared.words.TheConstants.{WIDTH, VALUE_WIDTH}
use Rattle.call_script.specs.Cut.{words_of}
use Rattle.call_script.specs.Line.{AreCallWords, SpellsEntry, SpellsWords, IsInRange, HasCause}
use Rattle.call_script.specs.Spelling.{SpellsCall, HasCallWords, fields_of, name_of}
use Rattle.call_script.specs.declared.bad_script.LineCause.{LineCause}
use Rattle.call_script.specs.declared.bad_script.LineCause.TheVariants.{Words, Number, Range, Held}
use Rattle.call_script.proofs.Decisions.{SomeOf, all_dec, both_dec, count_dec, same_dec, some_dec, some_of}
use Rattle.call_script.proofs.Forms.{some_key}
use Rattle.call_script.proofs.SomeWord.{key_dec, number_dec, tuple_dec}
use Rattle.call_script.proofs.Spelled.{load_words, store_words, swap_words, hold_words, find_words, insert_words, replace_words, remove_words}

-- the words spell some call
abbrev SpellSome : List (List ℕ) → Type 0
SpellSome words = (call : Call) × SpellsCall words call

load_dec : (a : List ℕ) → Dec (SpellSome (codes "load" ∷ a ∷ []))
load_dec a = map_dec (λ n. (Load n.0, (refl, (n.1, tt)))) (λ h. let z = load_words a h.0 h.1 in (z.0, z.2)) (number_dec a)

store_dec : (a b : List ℕ) → Dec (SpellSome (codes "store" ∷ a ∷ b ∷ []))
store_dec a b = map_dec
    (λ p. (Store p.0.0 p.1.0, (refl, (p.0.1, (p.1.1, tt)))))
    (λ h. let z = store_words a b h.0 h.1 in ((z.0, z.3), (z.1, z.4)))
    (both_dec (number_dec a) (tuple_dec WIDTH b))

swap_dec : (a b d : List ℕ) → Dec (SpellSome (codes "swap" ∷ a ∷ b ∷ d ∷ []))
swap_dec a b d = map_dec
    (λ p. (Swap p.0.0 p.1.0.0 p.1.1.0, (refl, (p.0.1, (p.1.0.1, (p.1.1.1, tt))))))
    (λ h. let z = swap_words a b d h.0 h.1 in ((z.0, z.4), ((z.1, z.5), (z.2, z.6))))
    (both_dec (number_dec a) (both_dec (tuple_dec WIDTH b) (tuple_dec WIDTH d)))

hold_dec : (a : List ℕ) → Dec (SpellSome (codes "hold" ∷ a ∷ []))
hold_dec a = map_dec (λ n. (Hold n.0, (refl, (n.1, tt)))) (λ h. let z = hold_words a h.0 h.1 in (z.0, z.2)) (number_dec a)

find_dec : (a : List ℕ) → Dec (SpellSome (codes "find" ∷ a ∷ []))
find_dec a = map_dec (λ k. (Find k.0, (refl, (k.1, tt)))) (λ h. let z = find_words a h.0 h.1 in (z.0, z.2)) (key_dec a)

insert_dec : (a b : List ℕ) → Dec (SpellSome (codes "insert" ∷ a ∷ b ∷ []))
insert_dec a b = map_dec
    (λ p. (Insert p.0.0 p.1.0, (refl, (p.0.1, (p.1.1, tt)))))
    (λ h. let z = insert_words a b h.0 h.1 in ((z.0, z.3), (z.1, z.4)))
    (both_dec (key_dec a) (tuple_dec VALUE_WIDTH b))

replace_dec : (a b d : List ℕ) → Dec (SpellSome (codes "replace" ∷ a ∷ b ∷ d ∷ []))
replace_dec a b d = map_dec
    (λ p. (Replace p.0.0 p.1.0.0 p.1.1.0, (refl, (p.0.1, (p.1.0.1, (p.1.1.1, tt))))))
    (λ h. let z = replace_words a b d h.0 h.1 in ((z.0, z.4), ((z.1, z.5), (z.2, z.6))))
    (both_dec (key_dec a) (both_dec (tuple_dec VALUE_WIDTH b) (tuple_dec VALUE_WIDTH d)))

remove_dec : (a : List ℕ) → Dec (SpellSome (codes "remove" ∷ a ∷ []))
remove_dec a = map_dec (λ k. (Remove k.0, (refl, (k.1, tt)))) (λ h. let z = remove_words a h.0 h.1 in (z.0, z.2)) (key_dec a)

-- words by how many they are
module _ (P : List (List ℕ) → Type 0) where
  of_none : P [] → (words : List (List ℕ)) → length words ≡ 0 → P words
  of_none h [] count = h
  of_none h (a ∷ words) count = absurd (omega (arith, count))

  of_one : ((a : List ℕ) → P (a ∷ [])) → (words : List (List ℕ)) → length words ≡ 1 → P words
  of_one h [] count = absurd (omega (arith, count))
  of_one h (a ∷ []) count = h a
  of_one h (a ∷ b ∷ words) count = absurd (omega (arith, count))

  of_two : ((a b : List ℕ) → P (a ∷ b ∷ [])) → (words : List (List ℕ)) → length words ≡ 2 → P words
  of_two h [] count = absurd (omega (arith, count))
  of_two h (a ∷ []) count = absurd (omega (arith, count))
  of_two h (a ∷ b ∷ []) count = h a b
  of_two h (a ∷ b ∷ d ∷ words) count = absurd (omega (arith, count))

  of_three : ((a b d : List ℕ) → P (a ∷ b ∷ d ∷ [])) → (words : List (List ℕ)) → length words ≡ 3 → P words
  of_three h [] count = absurd (omega (arith, count))
  of_three h (a ∷ []) count = absurd (omega (arith, count))
  of_three h (a ∷ b ∷ []) count = absurd (omega (arith, count))
  of_three h (a ∷ b ∷ d ∷ []) count = h a b d
  of_three h (a ∷ b ∷ d ∷ e ∷ words) count = absurd (omega (arith, count))

-- a call's name, and as many words as it has fields
named_dec : (call : Call) (words : List (List ℕ)) → length words ≡ length (fields_of call) → Dec (SpellSome (name_of call ∷ words))
named_dec (Load reg) words count = of_one (λ ws. Dec (SpellSome (codes "load" ∷ ws))) load_dec words count
named_dec (Store reg new) words count = of_two (λ ws. Dec (SpellSome (codes "store" ∷ ws))) store_dec words count
named_dec (Swap reg old new) words count = of_three (λ ws. Dec (SpellSome (codes "swap" ∷ ws))) swap_dec words count
named_dec (Hold reg) words count = of_one (λ ws. Dec (SpellSome (codes "hold" ∷ ws))) hold_dec words count
named_dec Look words count = of_none (λ ws. Dec (SpellSome (codes "look" ∷ ws))) (yes (Look, (refl, tt))) words count
named_dec Release words count = of_none (λ ws. Dec (SpellSome (codes "drop" ∷ ws))) (yes (Release, (refl, tt))) words count
named_dec (Find key) words count = of_one (λ ws. Dec (SpellSome (codes "find" ∷ ws))) find_dec words count
named_dec (Insert key val) words count = of_two (λ ws. Dec (SpellSome (codes "insert" ∷ ws))) insert_dec words count
named_dec (Replace key old new) words count = of_three (λ ws. Dec (SpellSome (codes "replace" ∷ ws))) replace_dec words count
named_dec (Remove key) words count = of_one (λ ws. Dec (SpellSome (codes "remove" ∷ ws))) remove_dec words count

call_dec : (words : List (List ℕ)) → HasCallWords words → Dec (SpellSome words)
call_dec [] has = absurd has
call_dec (name ∷ words) has = subst (λ n. Dec (SpellSome (n ∷ words))) (sym has.1) (named_dec has.0 words has.2)

-- one call of each name
abbrev samples : List Call
samples = Load 0 ∷ Store 0 [] ∷ Swap 0 [] [] ∷ Hold 0 ∷ Look ∷ Release ∷ Find some_key ∷ Insert some_key [] ∷ Replace some_key [] [] ∷ Remove some_key ∷ []

-- the words are the name of a call, and as many more as it has fields
module _ (name : List ℕ) (words : List (List ℕ)) where
  abbrev Fits : Call → Type 0
  Fits call = (name ≡ name_of call) × (length words ≡ length (fields_of call))

  among_samples : (call : Call) → Fits call → SomeOf Fits samples
  among_samples (Load reg) h = inl h
  among_samples (Store reg new) h = inr (inl h)
  among_samples (Swap reg old new) h = inr (inr (inl h))
  among_samples (Hold reg) h = inr (inr (inr (inl h)))
  among_samples Look h = inr (inr (inr (inr (inl h))))
  among_samples Release h = inr (inr (inr (inr (inr (inl h)))))
  among_samples (Find key) h = inr (inr (inr (inr (inr (inr (inl h))))))
  among_samples (Insert key val) h = inr (inr (inr (inr (inr (inr (inr (inl h)))))))
  among_samples (Replace key old new) h = inr (inr (inr (inr (inr (inr (inr (inr (inl h))))))))
  among_samples (Remove key) h = inr (inr (inr (inr (inr (inr (inr (inr (inr (inl h)))))))))

  fits_dec : (call : Call) → Dec (Fits call)
  fits_dec call = both_dec (same_dec name (name_of call)) (count_dec (length words) (length (fields_of call)))

  has_words_dec : Dec (HasCallWords (name ∷ words))
  has_words_dec = map_dec (λ some. let found = some_of Fits samples some in (found.0, found.1.0, found.1.1)) (λ has. among_samples has.0 (has.1, has.2)) (some_dec Fits fits_dec samples)

line_words_dec : (words : List (List ℕ)) → Dec (AreCallWords words)
line_words_dec [] = no (λ h. h)
line_words_dec (caller ∷ words) = both_dec (all_dec (λ word. 0 < length word) (λ word. dec_lt 0 (length word)) (caller ∷ words)) (has_dec words)
  where
    has_dec : (ws : List (List ℕ)) → Dec (HasCallWords ws)
    has_dec [] = no (λ h. h)
    has_dec (name ∷ ws) = has_words_dec name ws

entry_dec : (words : List (List ℕ)) → AreCallWords words → Dec ((entry : Entry) × SpellsWords words entry)
entry_dec [] are = absurd are
entry_dec (caller ∷ words) are = map_dec
    (λ p. (record { caller = p.0.0; call = p.1.0 }, (p.0.1, p.1.1)))
    (λ h. ((h.0.caller, h.1.0), (h.0.call, h.1.1)))
    (both_dec (number_dec caller) (call_dec words are.1))

names_dec : (count : ℕ) (call : Call) → Dec (NamesBelow count call)
names_dec count (Load reg) = dec_lt reg count
names_dec count (Store reg new) = dec_lt reg count
names_dec count (Swap reg old new) = dec_lt reg count
names_dec count (Hold reg) = dec_lt reg count
names_dec count _ = yes tt

may_dec : (held : Option (List ℕ)) (call : Call) → Dec (MayCall held call)
may_dec None (Hold reg) = yes refl
may_dec (Some words) (Hold reg) = no (λ e. absurd (cc e))
may_dec None Look = no (λ e. false≢true e)
may_dec (Some words) Look = yes refl
may_dec None Release = no (λ e. false≢true e)
may_dec (Some words) Release = yes refl
may_dec held _ = yes tt

-- the line spells a call that is in range and may be made on the object
pub record IsGoodLine (callers : ℕ) (object : Object) (line : List ℕ) (entry : Entry) : Type 0 where
  pub spelled : SpellsEntry line entry
  pub range : IsInRange callers entry
  pub may : MayCall (object.held entry.caller) entry.call

module _ (callers : ℕ) (object : Object) (line : List ℕ) where
  -- there is such a call, or a cause
  abbrev pub IsJudged : Type 0
  IsJudged = ((entry : Entry) × IsGoodLine callers object line entry) ⊎ ((cause : LineCause) × HasCause callers object line cause)

  entry_judged : (entry : Entry) → SpellsEntry line entry → IsJudged
  entry_judged entry spelled = elim (both_dec (dec_lt entry.caller callers) (names_dec 16 entry.call)) [
    | no out ↦ inr (Range, (entry, spelled, out))
    | yes range ↦ elim (may_dec (object.held entry.caller) entry.call) [
      | no held ↦ inr (Held, (entry, spelled, range, held))
      | yes may ↦ inl (entry, record { spelled = spelled; range = range; may = may })
    ]
  ]

  pub line_judged : IsJudged
  line_judged = elim (line_words_dec (words_of line)) [
    | no none ↦ inr (Words, none)
    | yes are ↦ elim (entry_dec (words_of line) are) [
      | no none ↦ inr (Number, (are, λ entry is. none (entry, is)))
      | yes (entry, spelled) ↦ entry_judged entry spelled
    ]
  ]
