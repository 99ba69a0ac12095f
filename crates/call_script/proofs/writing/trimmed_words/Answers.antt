use Rattle.std.proofs.Common.{◌∙◌, ap, sym, take, add-one}
use Rattle.call_script.proofs.Texts.{trimmed_at, trimmed_zeros}
use Rattle.call_script.proofs.writing.trimmed_words.Goals as goal

pub returns-in-Some : goal.returns-in-Some
returns-in-Some c =
    let e = c.in-Some.ensures in
    ap (λ n. take n c.args.words.now) (add-one c.in-Some.last) ∙ trimmed_at c.args.words.now c.in-Some.last e.within e.found e.zeros

pub returns-in-None : goal.returns-in-None
returns-in-None c = sym (trimmed_zeros c.args.words.now c.in-None.ensures.none)
