use Rattle.std.proofs.Common.{◌∙◌, refl, subst, sym}
use Rattle.std.proofs.lemmas.List.{take_all, take_more}
use Rattle.cache_hash.specs.Prelude.{KeyWords}
use Rattle.visit_counter.proofs.Seats.{none_visited}
use Rattle.visit_counter.specs.Visits.{HasVisited}
use Rattle.visit_counter.proofs.visits.visit_all.Goals as goal

pub loop-page-init : goal.loop-page-init
loop-page-init c = (none_visited c.args.shared.now c.args.seat c.requires.room c.requires.unused, record { numbers = refl; first = refl })

pub loop-page-preserved : goal.loop-page-preserved
loop-page-preserved c =
    let i = c.loop-page.invariant in
    let h = c.visit.ensures in
    let none : KeyWords = record { k0 = 0; k1 = 0 } in (
      subst (λ pages. HasVisited c.args.shared.now pages c.visit.new.seat) (sym (take_more c.args.pages.now c.loop-page.page-index none c.loop-page-test.true)) (h.visited _ i.0),
      record { numbers = h.stays.numbers ∙ i.1.numbers; first = h.stays.first ∙ i.1.first },
    )

pub returns-clause-visited : goal.returns-clause-visited
returns-clause-visited c = subst (λ pages. HasVisited c.args.shared.now pages c.loop-page.visitor) (take_all c.loop-page.page-index c.args.pages.now c.loop-page-test.false) c.loop-page.invariant.0
