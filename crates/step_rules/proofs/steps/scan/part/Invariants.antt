use Rattle.std.proofs.Common.{◌≡◌, vec_capacity}
use Rattle.step_rules.proofs.Ties.Parting.{Parted, frees_first}
use Rattle.step_rules.proofs.steps.scan.part.Given as goal

abbrev pub invariant-loop-i : goal.invariant-loop-i
invariant-loop-i l = record {
  parted : Parted (frees_first l.old l.fn.retired.items l.fn.found.items) l.fn.retired.items l.retired.items l.fn.free.items l.free.items l.kept l.i;
  room_retired : vec_capacity l.retired ≡ vec_capacity l.fn.retired;
  room_free : vec_capacity l.free ≡ vec_capacity l.fn.free;
}
