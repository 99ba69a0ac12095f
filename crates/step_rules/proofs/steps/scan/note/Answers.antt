use Rattle.std.proofs.Common.{ℕ, [], eqb, eq-eqb, ne_eqb, sym, ap, ◌∙◌, Vec, Global}
use Rattle.std.proofs.lemmas.Bool.{cond-false, cond-true}
use Rattle.step_rules.proofs.Ties.Parting.{has_noted}
use Rattle.step_rules.specs.Views.{noted}
use Rattle.step_rules.specs.World.{has}
use Rattle.step_rules.proofs.steps.scan.note.Goals as goal

pub returns-then-found-ne0-clause-named : goal.returns-then-found-ne0-clause-named
returns-then-found-ne0-clause-named c n =
    ap (λ l. has l n) c.push_reserved.ensures.items ∙ (has_noted c.args.found c.if-word-eq0.list.items n c.if-found-ne0.true ∙ ap (λ l. has (noted c.args.found l) n) (elim c.if-word-eq0.branch [
      | goal.then-word-eq0 w ↦ ap (λ (v : Vec ℕ Global). v.items) w.list-is
          ∙ (w.clear.ensures.items ∙ sym (cond-true (eqb c.args.word 0) [] c.args.list.now.items (eq-eqb c.args.word 0 w.if-word-eq0.true)))
      | goal.else-word-eq0 w ↦ ap (λ (v : Vec ℕ Global). v.items) w.list-is ∙ sym (cond-false (eqb c.args.word 0) [] c.args.list.now.items (ne_eqb c.args.word 0 w.if-word-eq0.false))
    ]))
