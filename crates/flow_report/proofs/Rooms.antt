-- How long the words of a value are.
use Rattle.std.proofs.Common.{◌≡◌, ◌+◌, length, decimal, arith}
use Rattle.std.proofs.lemmas.List.{length-append}
use Rattle.flow_fold.specs.declared.value.Value.{Value}
use Rattle.flow_report.specs.Text.{value_text, words_then}

pub length-value_text : (value : Value)
    → length (decimal value.packets) + length (decimal value.octets) + length (decimal value.first)
    + length (decimal value.last) + length (decimal value.flags) + 5 ≡ length (value_text value)
unfolding value_text words_then
length-value_text value = simp length-append (omega arith)
