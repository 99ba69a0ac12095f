use Rattle.std.specs.Prelude.{option_map}
use Rattle.std.proofs.Common.{◌∙◌, ℕ, [], ap, arith, length-set}
use Rattle.call_script.specs.Cut.{parts_in}
use Rattle.call_script.proofs.Tuples.{drop_first, tuple_read, tuple_long, tuple_broken, tuple_more, zeros_more}
use Rattle.call_script.proofs.number.tuple_of.Goals as goal

pub returns-then-count-clause-none : goal.returns-then-count-clause-none
returns-then-count-clause-none g c = λ words.
    let left = c.numbers.invariant.rest ∙ ap (λ o. parts_in 44 (option_map (λ bytes. bytes.now) o)) c.in-Some.is in
    tuple_long g.row.N c.numbers.count c.args.text.now c.in-Some.bytes.now words c.if-count.true left

pub returns-in_default-number_of-clause-none : goal.returns-in_default-number_of-clause-none
returns-in_default-number_of-clause-none g c = λ words.
    let left = c.numbers.invariant.rest ∙ ap (λ o. parts_in 44 (option_map (λ bytes. bytes.now) o)) c.in-Some.is ∙ c.cut.ensures in
    tuple_broken g.row.N c.numbers.count c.args.text.now words c.cut.result.0.now _ left c.in_default-number_of.ensures.none

pub numbers-preserved : goal.numbers-preserved
numbers-preserved g c =
    let i = c.numbers.invariant in
    let left = i.rest ∙ ap (λ o. parts_in 44 (option_map (λ bytes. bytes.now) o)) c.in-Some.is ∙ c.cut.ensures in
    record {
      long = omega (arith, i.long, length-set {A = ℕ});
      within = omega arith;
      spelled = tuple_more c.numbers.count c.in-Some-number_of.number _ c.numbers.words c.cut.result.0.now _ (omega (arith, i.long, c.if-count.false)) left
          c.in-Some-number_of.ensures.found i.spelled;
      zeros = zeros_more g.row.N c.numbers.count c.in-Some-number_of.number c.numbers.words (omega arith) i.zeros;
      rest = (drop_first _ c.numbers.count c.cut.result.0.now [] _ left).2;
    }

pub returns-clause-found : goal.returns-clause-found
returns-clause-found g c =
    let i = c.numbers.invariant in
    tuple_read g.row.N c.numbers.count c.args.text.now c.numbers.words i.within i.long i.spelled i.zeros (i.rest ∙ ap (λ o. parts_in 44 (option_map (λ bytes. bytes.now) o)) c.in_default.is)
