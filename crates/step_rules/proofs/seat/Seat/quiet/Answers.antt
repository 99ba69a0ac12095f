use Rattle.std.proofs.Common.{rules, ◌≡◌, ℕ, ◌&&◌, Bool, true, false, not, List, [], ◌∷◌, length, eqb, refl, sym, ap, ◌∙◌, arith}
use Rattle.std.proofs.lemmas.Bool.{eqb-true, false≢true}
use Rattle.std.proofs.lemmas.Iterator.{YieldsList-from_slice}
use Rattle.std.proofs.lemmas.Iterator.Search.{all_from_yields_List}
use Rattle.std.specs.List.{list_all}
use borrow.Author.Tests.{tests}
use Rattle.step_rules.specs.SeatData.{all_zero, claim_words, holds_record, is_empty, is_quiet}
use Rattle.step_rules.proofs.seat.Seat.quiet.Goals.{then-not-self, else-not-self}
use Rattle.step_rules.proofs.seat.Seat.quiet.Goals as goal

zero_all : (xs : List ℕ) → list_all (λ x. eqb x 0) xs ≡ all_zero xs
zero_all [] = refl
zero_all (x ∷ xs) = ap (λ b. eqb x 0 && b) (zero_all xs)

none_there : (xs : List ℕ) → length xs ≡ 0 → is_empty xs ≡ true
none_there [] e = refl
none_there (x ∷ xs) e = absurd (omega arith)

pub returns-then-is_empty : goal.returns-then-is_empty
returns-then-is_empty c = let s = c.self.inside in let t = c.self.invariant.0 in
    let all : c.all.result ≡ all_zero s.claims =
    all_from_yields_List (λ x. eqb x 0) _ _ _ c.all.ensures.ran (YieldsList-from_slice s.claims (search rules)) (λ x b q k. search (rules, tests)) ∙ zero_all s.claims in
    let v = s.inner.me.0 in
    elim c.if-not-self.branch [
      | then-not-self w ↦
          let holds : holds_record v ≡ false = sym t.holds ∙ w.if-not-self.true in
          let none : is_empty s.holding.items ≡ true = none_there s.holding.items (sym s.holding.ok.0 ∙ eqb-true _ 0 (sym w.is_empty.ensures ∙ (sym w.value-is ∙ c.if-is_empty.true))) in
          all ∙ (ap all_zero t.claims ∙ (ap (λ (z : Bool × Bool). not z.0 && (z.1 && all_zero (claim_words v))) (λ i. (sym holds i, sym none i)) ∙ ap is_quiet c.self.view_is))
      | else-not-self w ↦ absurd (false≢true (sym (ap not w.if-not-self.false) ∙ (sym w.value-is ∙ c.if-is_empty.true)))
    ]
