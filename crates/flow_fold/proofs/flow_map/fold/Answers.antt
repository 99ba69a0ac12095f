use Rattle.std.proofs.Common.{ℕ, ◌≤◌, Option, List, ap, length, subst, sym, take}
use Rattle.std.specs.BTreeMap.{get, is_at}
use Rattle.std.specs.Map.{lookup}
use Rattle.std.proofs.lemmas.List.{take_all, take_more}
use Rattle.flow_fold.specs.Fold.{IsFold}
use Rattle.flow_fold.specs.Key.{key_cmp}
use Rattle.flow_fold.specs.declared.key.Key.{Key}
use Rattle.flow_fold.specs.declared.value.Value.{Value}
use Rattle.flow_fold.proofs.Folds.{fold_none, fold_permutation, fold_unique}
use Rattle.flow_fold.proofs.flow_map.fold.Goals as goal

-- the loop has taken all pairs
whole : (pairs : List (Key × Value)) (i : ℕ) (at : Key → Option Value) → length pairs ≤ i → IsFold (take i pairs) at → IsFold pairs at
whole pairs i at past h = subst (λ (ps : List (Key × Value)). IsFold ps at) (take_all i pairs past) h

pub loop-key-init : goal.loop-key-init
loop-key-init c = fold_none (get key_cmp c.new-flows.result) (λ key. ap (lookup (is_at (key_cmp key))) c.new-flows.ensures.empty)

pub loop-key-preserved : goal.loop-key-preserved
loop-key-preserved c =
    let i = c.loop-key.key-index in
    let pairs = c.args.pairs.now in
    let nothing : Key × Value = (record { k0 = 0; k1 = 0 }, record { packets = 0; octets = 0; first = 0; last = 0; flags = 0 }) in
    subst (λ (ps : List (Key × Value)). IsFold ps (get key_cmp c.add.new.flows)) (sym (take_more pairs i nothing c.loop-key-test.true))
    (c.in_ok-add.ensures.ok (take i pairs) c.loop-key.invariant)

pub returns-clause-any_order : goal.returns-clause-any_order
returns-clause-any_order c = λ others p.
    fold_permutation c.args.pairs.now others (get key_cmp c.loop-key.flows) p
    (whole c.args.pairs.now c.loop-key.key-index (get key_cmp c.loop-key.flows) c.loop-key-test.false c.loop-key.invariant)

pub returns-clause-one_fold : goal.returns-clause-one_fold
returns-clause-one_fold c = λ at is.
    fold_unique c.args.pairs.now at (get key_cmp c.loop-key.flows) is
    (whole c.args.pairs.now c.loop-key.key-index (get key_cmp c.loop-key.flows) c.loop-key-test.false c.loop-key.invariant)
