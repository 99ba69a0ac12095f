use Rattle.std.proofs.Common.{◌∙◌, IfSome, IfOk, Ok, Err, Result, ap, length, subst, sym}
use Rattle.std.specs.Result.{result_ok}
use Rattle.cache_hash.proofs.Prelude.{length-count_up}
use Rattle.cache_hash.specs.Prelude.{all_numbers, all_stands}
use Rattle.visit_counter.proofs.Seats.{split_first, totals}
use Rattle.visit_counter.specs.Visits.{AreTotals}
use Rattle.visit_counter.proofs.session.totals.Goals as goal

ok_is : {X E : Type 0} {P Q : X → Type 0} (r : Result X E) → ((x : X) → P x → Q x) → IfOk r P → IfSome (result_ok r) Q
ok_is (Ok x) f p = f x p
ok_is (Err e) f p = tt

pub close-closed-requires-clause-whole : goal.close-closed-requires-clause-whole
close-closed-requires-clause-whole c =
    let parts = split_first c.args.seats.items c.remove-first.new.self.items c.remove-first.result c.requires.led c.remove-first.ensures.value c.remove-first.ensures.items in
    ap length (c.join_all.ensures.joined.numbers ∙ (sym (ap all_numbers parts.0) ∙ c.requires.whole)) ∙ length-count_up 0 _

pub returns : goal.returns
returns c =
    let parts = split_first c.args.seats.items c.remove-first.new.self.items c.remove-first.result c.requires.led c.remove-first.ensures.value c.remove-first.ensures.items in
    subst (λ o. IfSome o (λ pairs. AreTotals c.args._pages.now c.args.shared.plan.seats pairs)) (sym c.ok.ensures.value)
    (ok_is c.pairs.result (λ pairs are. totals c.args.shared c.args._pages.now c.args.seats.items c.join_all.new.first c.close-closed.result pairs
    c.requires.visited (c.join_all.ensures.joined.stands ∙ sym (ap all_stands parts.0)) c.requires.each c.requires.few.0 c.requires.few.1
    c.close-closed.ensures.law c.close-closed.ensures.closed are) c.pairs.ensures.pairs)
