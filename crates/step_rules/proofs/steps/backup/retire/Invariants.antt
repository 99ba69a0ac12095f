use Rattle.std.proofs.Common.{◌≡◌, ◌++◌, ◌∷◌, take, vec_capacity}
use Rattle.step_rules.proofs.steps.backup.retire.Given as goal

abbrev pub invariant-loop-link : goal.invariant-loop-link
invariant-loop-link l = record {
  items : l.retired.items ≡ l.fn.retired.items ++ l.first ∷ take l.link-index l.noted;
  capacity : vec_capacity l.retired ≡ vec_capacity l.fn.retired;
}
