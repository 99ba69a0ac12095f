use Rattle.std.proofs.Common.{append_assoc}
use Rattle.flow_report.specs.Text.{address_text, key_text, words_then}
use Rattle.flow_report.proofs.line.add_key.Goals as goal

pub returns-clause-text : goal.returns-clause-text
unfolding key_text address_text words_then
returns-clause-text c =
    rw (
      c.in_ok-add_number-5.ensures,
      c.in_ok-add_number-4.ensures,
      c.in_ok-add_number-3.ensures,
      c.in_ok-add_number-2.ensures,
      c.in_ok-add_number.ensures,
      c.in_ok-add_address-2.ensures,
      c.in_ok-add_address.ensures,
    ) (simp append_assoc)
