use Rattle.std.proofs.Common.{rules, ℕ, eqb, reverse, sym, ◌∙◌}
use Rattle.std.proofs.lemmas.Iterator.Adapters.{YieldsList-from_rev_slice}
use Rattle.std.proofs.lemmas.Iterator.Search.{any_from_yields_List}
use Rattle.std.proofs.lemmas.List.Sorted.{IsPermutation-reverse, list_any-IsPermutation}
use borrow.Author.Tests.{tests}
use Rattle.step_rules.proofs.Numbers.Bags.{has_any}
use Rattle.step_rules.proofs.lists.holds.Goals as goal

pub returns : goal.returns
returns c = let xs = c.args.list.now in let test = λ (x : ℕ). eqb x c.args.node in
    any_from_yields_List test _ _ _ c.any.ensures.ran (YieldsList-from_rev_slice xs (search rules)) (λ x b q k. search (rules, tests))
    ∙ (sym (list_any-IsPermutation test xs (reverse xs) (IsPermutation-reverse xs)) ∙ sym (has_any xs c.args.node))
