use Rattle.std.proofs.Common.{◌&&◌, not, sym, ap, ◌∙◌}
use Rattle.step_rules.proofs.Ties.Parting.{not_found}
use Rattle.step_rules.specs.World.{has}
use Rattle.step_rules.proofs.steps.scan.frees.Goals as goal

pub returns-then-old : goal.returns-then-old
returns-then-old c = let xs = c.args.found.now in
    c.is_err.ensures.value ∙ (not_found xs _ c.binary_search.result c.requires c.binary_search.ensures.position
    ∙ (ap (λ n. not (has xs n)) c.from.ensures ∙ ap (λ b. b && not (has xs c.args.node)) (sym c.if-old.true)))
