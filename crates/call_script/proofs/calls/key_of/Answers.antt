use Rattle.call_script.proofs.calls.key_of.Goals as goal

pub returns-in_default-clause-none : goal.returns-in_default-clause-none
returns-in_default-clause-none c = λ key is. c.in_default.ensures.none _ is
