use Rattle.std.proofs.Common.{◌≡◌, ◌-◌, ◌<◌, length, true, take, subst, sym, ◌∙◌, arith}
use Rattle.std.proofs.lemmas.List.{get_or_default}
use Rattle.step_rules.proofs.Numbers.Bags.{has_shorter, has_some, without_swapped}
use Rattle.step_rules.specs.Bags.{IsWithout}
use Rattle.step_rules.specs.World.{has}
use Rattle.step_rules.proofs.lists.take_out.Goals as goal

pub loop-end-preserved : goal.loop-end-preserved
loop-end-preserved c =
    let xs = c.args.list.now.items in
    let end = c.loop-end.end in
    let within = c.loop-end.invariant.within in
    let some : 0 < end = has_some c.args.node xs end c.loop-end.invariant.there in
    let inside : end - 1 < length xs = omega arith in
    record {
      within = omega arith;
      there = has_shorter c.args.node xs (end - 1) c.index.result.now
          (subst (λ k. has (take k xs) c.args.node ≡ true) (omega arith) c.loop-end.invariant.there) (λ e. c.loop-end-test.true (c.index.ensures ∙ e)) inside;
    }

pub returns-clause-without : goal.returns-clause-without
returns-clause-without c =
    let xs = c.args.list.now.items in
    let i = c.loop-end.end - 1 in
    let d = c.swap_remove.result in
    let within = c.loop-end.invariant.within in
    let some : 0 < c.loop-end.end = has_some c.args.node xs c.loop-end.end c.loop-end.invariant.there in
    let inside : i < length xs = omega arith in
    subst (λ ys. IsWithout c.args.node xs ys) (sym c.swap_remove.ensures.items)
    (without_swapped c.args.node xs i d inside (get_or_default xs i d c.index.result.now inside ∙ (sym c.index.ensures ∙ c.loop-end-test.false)))
