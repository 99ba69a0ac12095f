use Rattle.std.specs.Prelude.{replicate, option_map}
use Rattle.std.specs.List.{AllZip}
use Rattle.std.proofs.Common.{◌≡◌, ◌≤◌, ◌-◌, length, take, drop}
use Rattle.call_script.specs.Cut.{parts_at, parts_in}
use Rattle.call_script.specs.Number.{IsNumber}
use Rattle.call_script.proofs.number.tuple_of.Given as goal

abbrev pub invariant-numbers : goal.invariant-numbers
invariant-numbers g l = let parts = parts_at 44 l.fn.text in record {
  long : length l.words ≡ g.row.N;
  within : l.count ≤ g.row.N;
  spelled : AllZip IsNumber (take l.count parts) (take l.count l.words);
  zeros : drop l.count l.words ≡ replicate (g.row.N - l.count) 0;
  rest : drop l.count parts ≡ parts_in 44 (option_map (λ bytes. bytes.now) l.rest);
}

abbrev pub decreases-numbers : goal.decreases-numbers
decreases-numbers g l = length (parts_at 44 l.fn.text) - l.count
