use Rattle.std.proofs.Common.{take}
use Rattle.std.specs.BTreeMap.{get}
use Rattle.flow_fold.specs.Fold.{IsFold}
use Rattle.flow_fold.specs.Key.{key_cmp}
use Rattle.flow_fold.proofs.flow_map.fold.Given as goal

abbrev pub invariant-loop-key : goal.invariant-loop-key
invariant-loop-key l = IsFold (take l.key-index l.pairs) (get key_cmp l.flows)
