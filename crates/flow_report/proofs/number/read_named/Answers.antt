use Rattle.std.proofs.Common.{[], ◌∷◌, refl}
use Rattle.flow_report.proofs.LastParts.{named_by_parts}
use Rattle.flow_report.proofs.Spellings.{none_by_parts, none_first, none_second, both_begin, begins_by_parts, fixed_free, none_from_strip, begins_from_strip}
use Rattle.flow_report.proofs.number.read_named.Goals as goal

pub returns-in_err-text : goal.returns-in_err-text
returns-in_err-text c =
    rw c.from_residual.ensures (none_by_parts (named_by_parts c.args.after c.args.most c.args.word.now) (none_first _ _ (none_from_strip _ _ c.in_err-text.ensures.cases)))

pub returns-in_err-text-2 : goal.returns-in_err-text-2
returns-in_err-text-2 c =
    let word = begins_from_strip _ _ c.in_ok-text.text c.in_ok-text.ensures.cases in
    rw c.from_residual-in_err-text-2.ensures (none_by_parts (named_by_parts c.args.after c.args.most c.args.word.now)
    (none_second (fixed_free c.args.word.now) word (none_first _ _ (none_from_strip _ _ c.in_err-text-2.ensures.cases))))

pub returns-in_err-number : goal.returns-in_err-number
returns-in_err-number c =
    let word = begins_from_strip _ _ c.in_ok-text.text c.in_ok-text.ensures.cases in
    let space = begins_from_strip _ _ c.in_ok-text-2.text c.in_ok-text-2.ensures.cases in
    rw c.from_residual-in_err-number.ensures (none_by_parts (named_by_parts c.args.after c.args.most c.args.word.now)
    (none_second (fixed_free c.args.word.now) word (none_second (fixed_free (32 ∷ [])) space c.in_err-number.ensures)))

pub returns : goal.returns
returns c =
    let word = begins_from_strip _ _ c.in_ok-text.text c.in_ok-text.ensures.cases in
    let space = begins_from_strip _ _ c.in_ok-text-2.text c.in_ok-text-2.ensures.cases in
    let number = c.in_ok-number.ensures in
    begins_by_parts (named_by_parts c.args.after c.args.most c.args.word.now) _ refl number.in_range (both_begin word (both_begin space number))
