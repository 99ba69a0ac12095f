use Rattle.call_script.specs.Text.{pair_line}
use Rattle.std.specs.List.{flat_map}
use Rattle.std.proofs.Common.{◌≡◌, ◌++◌, take}
use Rattle.call_script.proofs.writing.add_pairs.Given as goal

abbrev pub invariant-loop-key : goal.invariant-loop-key
invariant-loop-key l = l.text ≡ l.fn.text ++ flat_map pair_line (take l.key-index l.pairs)
