-- The values of an object as a fold of pairs: what a call that adds a pair leaves, and that other calls of a tally leave them as they are.
use Rattle.std.proofs.Common.{◌≡◌, ◌≢◌, ◌∙◌, ℕ, ◌^◌, ◌<◌, cond, eq-eqb, ne_eqb, List, Option, Some, None, refl, sym, ap, arith, ⊎_elim}
use Rattle.std.specs.Option.{option_map, option_map_or}
use Rattle.std.specs.Prelude.{nat_lt}
use Rattle.std.proofs.lemmas.Bool.{cases_Bool, lt-ltb, ltb-true}
use Rattle.flow_fold.specs.Words.{value_of_words}
use Rattle.flow_fold.specs.declared.key.Key.{Key}
use Rattle.flow_fold.specs.declared.value.Value.{Value}
use Rattle.seat_history.proofs.Changed.{words_from_same}
use Rattle.seat_history.specs.Contents.{set_at}
use Rattle.seat_history.specs.Key.{key_number}
use Rattle.seat_history.specs.Step.{is_same, replace_reply}
use Rattle.seat_history.specs.declared.reply.Reply.TheVariants.{Done, Yes, Present, Found}
use Rattle.step_rules.specs.History.{IsKey}
use Rattle.tally_core.specs.Adding.{key_words}

-- the value of a key in an object that has these; no key has one whose words are beyond 64 bits
abbrev pub flow_in : (ℕ → Option (List ℕ)) → Key → Option Value
flow_in values key = cond (nat_lt key.k1 (2 ^ 64)) (option_map value_of_words (values (key_number (key_words key)))) None

pub flow_there : (values : ℕ → Option (List ℕ)) (key : Key) → IsKey (key_words key) → flow_in values key ≡ option_map value_of_words (values (key_number (key_words key)))
flow_there values key is = ap (λ b. cond b (option_map value_of_words (values (key_number (key_words key)))) None) (lt-ltb key.k1 (2 ^ 64) is.1)

-- keys of one number are one
pub same_number : (a b : Key) → a.k1 < 2 ^ 64 → b.k1 < 2 ^ 64 → key_number (key_words a) ≡ key_number (key_words b) → a ≡ b
same_number a b la lb e = let high : a.k0 ≡ b.k0 = omega arith in let low : a.k1 ≡ b.k1 = omega arith in λ i. record { k0 = high i; k1 = low i }

-- a value put at a key
module _ (values : ℕ → Option (List ℕ)) (key : Key) (words : List ℕ) (is : IsKey (key_words key)) where
  abbrev after : ℕ → Option (List ℕ)
  after = set_at values (key_number (key_words key)) (Some words)

  pub flow_set : flow_in after key ≡ Some (value_of_words words)
  flow_set = flow_there after key is
      ∙ ap (λ b. option_map value_of_words (cond b (Some words) (values (key_number (key_words key))))) (eq-eqb (key_number (key_words key)) (key_number (key_words key)) refl)

  pub flow_else : (other : Key) → other ≢ key → flow_in after other ≡ flow_in values other
  flow_else other ne = ⊎_elim
      (λ t. let apart : key_number (key_words key) ≢ key_number (key_words other) = λ e. ne (sym (same_number key other is.1 (ltb-true other.k1 (2 ^ 64) t) e)) in
      ap (λ b. cond (nat_lt other.k1 (2 ^ 64)) (option_map value_of_words (cond b (Some words) (values (key_number (key_words other))))) None)
      (ne_eqb (key_number (key_words key)) (key_number (key_words other)) apart))
      (λ f. ap (λ b. cond b (option_map value_of_words (after (key_number (key_words other)))) None) f
      ∙ sym (ap (λ b. cond b (option_map value_of_words (values (key_number (key_words other)))) None) f))
      (cases_Bool (nat_lt other.k1 (2 ^ 64)))

-- an insert that is done finds no value of its key
pub insert_done : (there : Option (List ℕ)) → option_map_or Present there Done ≡ Done → there ≡ None
insert_done None e = refl
insert_done (Some val) e = cc e

-- a replace that is done finds the old value
pub replace_yes : (there : Option (List ℕ)) (old : List ℕ) → replace_reply there old ≡ Yes → there ≡ Some old
replace_yes None old e = cc e
replace_yes (Some val) old e = ⊎_elim
    (λ t. ap (λ (w : List ℕ). Some w) (words_from_same val old t))
    (λ f. let found : Found val ≡ Yes = sym (ap (λ b. cond b Yes (Found val)) f) ∙ e in cc found)
    (cases_Bool (is_same val old))
