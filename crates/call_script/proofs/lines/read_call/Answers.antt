use Rattle.std.proofs.Common.{arith}
use Rattle.std.proofs.lemmas.Result.{err_from_is_err_and}
use Rattle.seat_history.specs.declared.entry.Entry.{Entry}
use Rattle.call_script.specs.Form.{words_in}
use Rattle.call_script.proofs.Causes.{call_cause, spelled_line}
use Rattle.call_script.proofs.lines.read_call.Goals as goal

pub returns-in_err-call-clause-err : goal.returns-in_err-call-clause-err
returns-in_err-call-clause-err c =
    let p = err_from_is_err_and c.from_residual.result c.from_residual.ensures.1 in
    rw (p.1, p.2) (λ object. call_cause _ c.args.callers c.in-Some-number_of.caller object c.args.line.now c.in-Some.words.caller.now
    (words_in c.in-Some.words.form) c.in-Some.ensures.found c.in-Some.ensures.call c.in-Some-number_of.ensures.found c.in_err-call.ensures)

pub returns-then-caller-from-clause-err : goal.returns-then-caller-from-clause-err
returns-then-caller-from-clause-err c = λ object.
    let entry : Entry = record { caller = c.in-Some-number_of.caller; call = c.in_ok-call.call } in (
      entry,
      spelled_line c.args.line.now c.in-Some.words.caller.now
          (words_in c.in-Some.words.form) entry c.in-Some.ensures.found c.in-Some-number_of.ensures.found c.in_ok-call.ensures.0,
      λ range. omega (arith, range.0, c.if-caller-from.true),
    )
