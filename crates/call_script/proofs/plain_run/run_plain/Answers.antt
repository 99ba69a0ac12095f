use Rattle.std.proofs.Common.{◌≡◌, ◌∙◌, ap, subst}
use Rattle.seat_history.specs.History.{object_from, replies_from}
use Rattle.seat_history.specs.Object.{Object, blank_object}
use Rattle.seat_history.specs.Pairs.{ArePairsOf}
use Rattle.seat_history.specs.Plain.{object_of}
use Rattle.call_script.specs.Run.{registers_in}
use Rattle.call_script.specs.declared.driven.PlainRun.{PlainRun}
use Rattle.call_script.proofs.Orders.{run_in_script_order}
use Rattle.call_script.proofs.plain_run.run_plain.Goals as goal

pub returns : goal.returns
returns c =
    let lines = c.args.script.now.lines in
    let blank : object_of c.in_ok-plain.plain ≡ blank_object = c.in_ok-plain.ensures.blank in
    let run : PlainRun = record { replies = c.of_vec.result; registers = c.of_vec-2.result; pairs = c.in_ok-pairs.field-0 } in
    let object = c.in_ok-replies.ensures.object ∙ ap (λ (o : Object). object_from o c.as_slice.result.now) blank ∙ ap (object_from blank_object) c.as_slice.ensures in
    let replies = c.of_vec.ensures ∙ c.in_ok-replies.ensures.replies ∙ ap (λ (o : Object). replies_from o c.as_slice.result.now) blank ∙ ap (replies_from blank_object) c.as_slice.ensures in
    run_in_script_order lines run replies
    (c.of_vec-2.ensures ∙ c.in_ok-all_registers.ensures ∙ ap (λ (o : Object). registers_in o 16) object)
    (subst (λ (o : Object). ArePairsOf o.contents.values run.pairs) object c.in_ok-pairs.ensures.pairs) c.in_ok-pairs.ensures.in_range
