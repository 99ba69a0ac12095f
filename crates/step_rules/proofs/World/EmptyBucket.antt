-- An empty bucket is one node whose next word is END: such a cell meets the rule's clause before any entry.
use Rattle.std.proofs.Common.{◌≡◌, ◌∙◌, ℕ, ◌/◌, ◌<◌, ◌≤◌, suc, zero, [], ◌∷◌, ◌++◌, refl, sym, ap, subst, arith}
use Rattle.std.specs.Prelude.{nat_lt}
use Rattle.std.proofs.lemmas.Bool.{cond-false, false_from_ne_true, ltb-true}
use mathlib.Core.Option.{some, some-injective, some-ne-none}
use lib.ListN.{get_elem?}
use Rattle.seat_history.specs.Contents.{zeros}
use Rattle.step_rules.specs.Cells.{IsCell}
use Rattle.step_rules.specs.Layout.{nodes}
use Rattle.step_rules.specs.Nodes.{IsNode}
use Rattle.step_rules.specs.Records.{IsCounted, records_at, records_of}
use Rattle.step_rules.specs.World.{Chained, END, Live, World, link}
use Rattle.step_rules.specs.declared.plan.Plan.{Plan}
use Rattle.step_rules.specs.declared.view.Held.{Held}

abbrev pub empty_node : ℕ → Held
empty_node n = record { node = n; words = zeros ++ END ∷ [] }

pub empty_bucket : (p : Plan) (W : World) (k : ℕ) → p.registers ≤ k → k < nodes p → W.log ≡ [] → W.chain k ≡ empty_node k ∷ [] → W.class k ≡ Live k
    → W.node k ≡ zeros ++ END ∷ []
    → W.backup k / 2 ≡ k → IsCell p W k
empty_bucket p W k high there log chain class node backup = record {
  head = ap (λ c. link c 0) chain ∙ omega arith;
  chained = subst (λ c. Chained W (Live k) c 0) (sym chain) (class, node, refl, tt);
  node = λ i h at. one_at i h (ap (λ c. get_elem? c i) (sym chain) ∙ at);
  records = ap records_of chain ∙ (sym none_first ∙ ap (λ l. records_at p l k) (sym log));
  counted = subst IsCounted (sym chain) refl;
}
  where
    none_first : records_at p [] k ≡ []
    none_first = cond-false (nat_lt k p.registers) (zeros ∷ []) [] (false_from_ne_true (nat_lt k p.registers) (λ t. let l = ltb-true k p.registers t in omega arith))

    one_at : (i : ℕ) (h : Held) → get_elem? (empty_node k ∷ []) i ≡ some h → IsNode p h
    one_at zero h q = subst (IsNode p) (some-injective (empty_node k) h q) (record { there = there; wide = refl })
    one_at (suc i) h q = absurd (some-ne-none h (sym q))
