use Rattle.std.proofs.Common.{◌∙◌, ap, sym, subst}
use Rattle.call_script.specs.Cut.{parts_at}
use Rattle.call_script.specs.Script.{Good, ReadAs}
use Rattle.call_script.proofs.reading.read_whole.Goals as goal

pub returns : goal.returns
returns c =
    let lines = ap (parts_at 10) (sym c.whole_lines.ensures) ∙ c.cut.ensures in
    rw c.of_vec.ensures (subst (λ ls. ReadAs ls (Good c.in-Ok.callers c.in_ok-lines.lines.items)) (sym lines) (c.in_ok-lines.ensures.good c.cut.result.0.now c.in-Ok.ensures.named))
