-- What holds of a seat's free and held nodes, and of the words of its own nodes as they are stored.
use Rattle.std.proofs.Common.{◌≡◌, ◌≢◌, ℕ, ◌-◌, ◌<◌, true, false, List, [], ◌∷◌, length, map, set, get_or, eqb, cond, eq-eqb, ne_eqb, refl, sym, ap, ◌∙◌, subst}
use Rattle.std.proofs.Common.{arith, ⊎_elim}
use Rattle.std.proofs.lemmas.Bool.{cases_eq, cond-true, cond-false, false_from_ne_true}
use Rattle.step_rules.proofs.Numbers.Bags.{has_times, one_list, times_has}
use Rattle.step_rules.proofs.Keeps.Stores.{stored_else, stored_here}
use Rattle.step_rules.proofs.Ties.Owns.{words_at}
use Rattle.step_rules.proofs.Numbers.Sets.{at_has, has_from}
use Rattle.step_rules.specs.SeatData.{IsSeat, SeatData}
use Rattle.step_rules.specs.Steps.{IsOwn}
use Rattle.step_rules.specs.Views.{stored_in, words_in}
use Rattle.step_rules.specs.World.{has, nodes_of}
use Rattle.step_rules.specs.declared.layout.TheConstants.{NODE_WIDTH}
use Rattle.step_rules.specs.declared.view.Held.{Held}

pub has_last : (xs : List ℕ) (n : ℕ) → 0 < length xs → n ≡ get_or xs (length xs - 1) 0 → has xs n ≡ true
has_last xs n some e = subst (λ m. has xs m ≡ true) (sym e) (has_from xs (length xs - 1) 0 (omega arith))

module _ (seat : SeatData) (is : IsSeat seat) (n : ℕ) where
  free_own : has seat.free n ≡ true → has (nodes_of seat.view.own) n ≡ true
  free_own h = has_times n (nodes_of seat.view.own) (omega (arith, is.lists n, times_has n seat.free h))

  pub held_own : has seat.holding n ≡ true → has (nodes_of seat.view.own) n ≡ true
  held_own h = has_times n (nodes_of seat.view.own) (omega (arith, is.lists n, times_has n seat.holding h))

  pub is_own : IsOwn n seat → has (nodes_of seat.view.own) n ≡ true
  is_own = ⊎_elim free_own held_own

  -- a free node isn't held
  pub free_not_held : has seat.free n ≡ true → has seat.holding n ≡ false
  free_not_held h = false_from_ne_true (has seat.holding n) (λ g. one_list n (nodes_of seat.view.own) seat.free seat.holding (is.lists n) is.sound.own_once h g)

  -- an own node has all its words
  pub own_wide : has (nodes_of seat.view.own) n ≡ true → length (words_in seat.view.own n) ≡ NODE_WIDTH
  own_wide h = let a = at_has seat.view.own n h in
      ap (length {A = ℕ}) (words_at n seat.view.own a.0 a.1 is.sound.own_once a.2 a.3) ∙ (is.sound.node a.0 a.1 a.2).wide

-- the words of a node, node by node
words_here : (n : ℕ) (h : Held) (r : List Held) → h.node ≡ n → words_in (h ∷ r) n ≡ h.words
words_here n h r e = cond-true (eqb h.node n) h.words (words_in r n) (eq-eqb h.node n e)

words_else : (n : ℕ) (h : Held) (r : List Held) → h.node ≢ n → words_in (h ∷ r) n ≡ words_in r n
words_else n h r e = cond-false (eqb h.node n) h.words (words_in r n) (ne_eqb h.node n e)

pub words_stored : (n j x : ℕ) (own : List Held) → words_in (map (stored_in n j x) own) n ≡ set (words_in own n) j x
words_stored n j x [] = refl
words_stored n j x (h ∷ r) = ⊎_elim
    (λ e. ap (λ g. words_in (g ∷ map (stored_in n j x) r) n) (stored_here n j x h e)
    ∙ (words_here n (record { node = h.node; words = set h.words j x }) (map (stored_in n j x) r) e ∙ ap (λ l. set l j x) (sym (words_here n h r e))))
    (λ e. ap (λ g. words_in (g ∷ map (stored_in n j x) r) n) (stored_else n j x h e)
    ∙ (words_else n h (map (stored_in n j x) r) e ∙ (words_stored n j x r ∙ ap (λ l. set l j x) (sym (words_else n h r e)))))
    (cases_eq h.node n)

pub words_not_stored : (n j x m : ℕ) (own : List Held) → m ≢ n → words_in (map (stored_in n j x) own) m ≡ words_in own m
words_not_stored n j x m [] ne = refl
words_not_stored n j x m (h ∷ r) ne = ⊎_elim
    (λ e. let apart : h.node ≢ m = λ q. ne (sym q ∙ e) in ap (λ g. words_in (g ∷ map (stored_in n j x) r) m) (stored_here n j x h e)
    ∙ (words_else m (record { node = h.node; words = set h.words j x }) (map (stored_in n j x) r) apart ∙ (words_not_stored n j x m r ne ∙ sym (words_else m h r apart))))
    (λ e. ap (λ g. words_in (g ∷ map (stored_in n j x) r) m) (stored_else n j x h e) ∙ ap (λ l. cond (eqb h.node m) h.words l) (words_not_stored n j x m r ne))
    (cases_eq h.node n)
