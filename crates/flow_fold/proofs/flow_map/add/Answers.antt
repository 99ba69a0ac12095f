use Rattle.std.proofs.Common.{◌≡◌, ◌∙◌, Option, Some, None, ap, sym, subst, arith, rules}
use Rattle.std.specs.BTreeMap.{BTreeMap, get}
use Rattle.flow_fold.specs.Fold.{IsFold}
use Rattle.flow_fold.specs.Key.{key_cmp}
use Rattle.flow_fold.specs.Merge.{merged_into}
use Rattle.flow_fold.specs.declared.key.Key.{Key}
use Rattle.flow_fold.specs.declared.value.Value.{Value}
use Rattle.flow_fold.proofs.Folds.{fold_updated}
use Rattle.flow_fold.proofs.flow_map.add.Goals as goal

pub returns-in-Some-clause-ok : goal.returns-in-Some-clause-ok
returns-in-Some-clause-ok c = λ pairs.
    let there : Some c.in-Some.old.now ≡ get key_cmp c.args.flows.now c.args.key = c.in-Some.ensures.value in
    fold_updated pairs c.args.flows.now (c.get_mut.follows.lender c.merge.result) c.args.key c.args.value c.merge.result (omega arith) (omega arith)
    (c.merge.ensures.merged ∙ ap (λ (old : Option Value). merged_into old c.args.value) there)
    ((c.get_mut.follows.holds c.merge.result).3 (search rules))

pub returns-in_ok-insert-clause-ok : goal.returns-in_ok-insert-clause-ok
returns-in_ok-insert-clause-ok c = λ pairs so_far.
    let kept : c.get_mut.follows.lender-at-none ≡ c.args.flows.now = c.get_mut.follows.holds-at-none in
    let nothing : get key_cmp c.get_mut.follows.lender-at-none c.args.key ≡ None =
    subst (λ (m : BTreeMap Key Value). get key_cmp m c.args.key ≡ None) (sym kept) (sym c.in_default.ensures.value) in
    fold_updated pairs c.get_mut.follows.lender-at-none c.insert.new.self c.args.key c.args.value c.args.value (omega arith) (omega arith)
    (ap (λ (old : Option Value). merged_into old c.args.value) (sym nothing))
    c.in_ok-insert.ensures.updates
    (subst (λ (m : BTreeMap Key Value). IsFold pairs (get key_cmp m)) (sym kept) so_far)
