use Rattle.std.specs.Prelude.{option_map}
use Rattle.std.proofs.Common.{◌≡◌, ◌∙◌, ◌+◌, ◌<◌, List, [], ◌∷◌, ◌++◌, length, drop, ap, sym, subst, arith, inr}
use Rattle.std.proofs.lemmas.Bool.{false≢true}
use Rattle.std.proofs.lemmas.List.{length-drop}
use Rattle.seat_history.proofs.Histories.{object_from-append}
use Rattle.seat_history.specs.History.{object_from}
use Rattle.seat_history.specs.Object.{blank_object}
use Rattle.seat_history.specs.declared.entry.Entry.{Entry}
use Rattle.seat_history.specs.declared.plain.TheConstants.{CALLERS}
use Rattle.call_script.specs.Cut.{parts_at, parts_in}
use Rattle.call_script.specs.Holding.{TellsHolders}
use Rattle.call_script.specs.Line.{HasCause}
use Rattle.call_script.specs.Script.{IsBadCall, IsOneMore}
use Rattle.call_script.specs.declared.bad_script.LineCause.TheVariants.{Held}
use Rattle.call_script.proofs.Parts.{parts_some}
use Rattle.call_script.proofs.SoFar.{IsReadSoFar, no_holders, nothing_left, nothing_read, read_more, left_more, whole_script, bad_here, one_more}
use Rattle.call_script.proofs.reading.read_calls.Goals as goal

pub lines-init : goal.lines-init
lines-init c =
    let none = c.in_ok-calls.ensures.items in
    record {
      read = nothing_read c.args.callers _ _ none;
      left = nothing_left _ _ none;
      tells = no_holders CALLERS _ none;
    }

pub returns-then-len-eq-MOST_LINES-clause-bad : goal.returns-then-len-eq-MOST_LINES-clause-bad
returns-then-len-eq-MOST_LINES-clause-bad c = λ first named.
    let i = c.lines.invariant in
    let entries = c.lines.calls.items in
    let left : drop (length entries) (parts_in 10 (option_map (λ bytes. bytes.now) c.args.bytes)) ≡ parts_at 10 c.in-Some.bytes.now = i.left
    ∙ ap (λ rest. parts_in 10 (option_map (λ bytes. bytes.now) rest)) c.in-Some.is in
    let count : length entries ≡ c.len.result = omega arith in
    let there : length entries < length (parts_in 10 (option_map (λ bytes. bytes.now) c.args.bytes)) =
    omega (arith, parts_some 10 c.in-Some.bytes.now, length-drop (length entries) (parts_in 10 (option_map (λ bytes. bytes.now) c.args.bytes)), ap length left) in
    subst (λ n. IsOneMore first (parts_in 10 (option_map (λ bytes. bytes.now) c.args.bytes)) (n + 2)) count
    (one_more c.args.callers _ entries i.read first named c.requires there (omega arith))

pub returns-in-Err-clause-bad : goal.returns-in-Err-clause-bad
returns-in-Err-clause-bad c = λ first named.
    let i = c.lines.invariant in
    let entries = c.lines.calls.items in
    let left = i.left ∙ ap (λ rest. parts_in 10 (option_map (λ bytes. bytes.now) rest)) c.in-Some.is ∙ c.cut.ensures in
    let count : length entries ≡ c.len.result = omega arith in
    let room : length entries < 65536 = omega arith in
    inr (subst (λ n. IsBadCall first (parts_in 10 (option_map (λ bytes. bytes.now) c.args.bytes)) (n + 2) c.in-Err.cause) count
    (bad_here c.args.callers _ entries i.read first named c.requires c.cut.result.0.now _ c.in-Err.cause left room (c.in-Err.ensures.err (object_from blank_object entries))))

pub returns-then-not-may_call-clause-bad : goal.returns-then-not-may_call-clause-bad
returns-then-not-may_call-clause-bad c = λ first named.
    let i = c.lines.invariant in
    let entries = c.lines.calls.items in
    let object = object_from blank_object entries in
    let left = i.left ∙ ap (λ rest. parts_in 10 (option_map (λ bytes. bytes.now) rest)) c.in-Some.is ∙ c.cut.ensures in
    let count : length entries ≡ c.len.result = omega arith in
    let room : length entries < 65536 = omega arith in
    let fits : HasCause c.args.callers object c.cut.result.0.now Held =
    (c.in-Ok.entry, c.in-Ok.ensures.spelled, c.in-Ok.ensures.range, λ may. false≢true (sym c.if-not-may_call.true ∙ (c.may_call.ensures object i.tells).1 may)) in
    inr (subst (λ n. IsBadCall first (parts_in 10 (option_map (λ bytes. bytes.now) c.args.bytes)) (n + 2) Held) count
    (bad_here c.args.callers _ entries i.read first named c.requires c.cut.result.0.now _ Held left room fits))

pub lines-preserved : goal.lines-preserved
lines-preserved c =
    let i = c.lines.invariant in
    let entries = c.lines.calls.items in
    let entry = c.in-Ok.entry in
    let object = object_from blank_object entries in
    let left = i.left ∙ ap (λ rest. parts_in 10 (option_map (λ bytes. bytes.now) rest)) c.in-Some.is ∙ c.cut.ensures in
    let room : length entries < 65536 = omega arith in
    let longer : c.push.new.self.items ≡ entries ++ entry ∷ [] = c.in_ok-push.ensures.items in
    let may = (c.may_call.ensures object i.tells).0 c.if-not-may_call.false in
    record {
      read = subst (λ es. IsReadSoFar c.args.callers (parts_in 10 (option_map (λ bytes. bytes.now) c.args.bytes)) es) (sym longer)
          (read_more c.args.callers _ entries i.read c.cut.result.0.now _ entry left room c.in-Ok.ensures.spelled c.in-Ok.ensures.range may);
      left = ap (λ (es : List Entry). drop (length es) (parts_in 10 (option_map (λ bytes. bytes.now) c.args.bytes))) longer
          ∙ left_more c.args.callers _ entries i.read c.cut.result.0.now _ entry left;
      tells = subst (λ o. TellsHolders c.note_call.new.holding o)
          (sym (ap (object_from blank_object) longer ∙ object_from-append blank_object entries (entry ∷ []))) (c.note_call.ensures object i.tells);
    }

pub returns-clause-good : goal.returns-clause-good
returns-clause-good c = λ first named.
    let i = c.lines.invariant in
    whole_script c.args.callers _ c.lines.calls.items i.read first named c.requires (i.left ∙ ap (λ rest. parts_in 10 (option_map (λ bytes. bytes.now) rest)) c.in_default.is)
