use Rattle.std.proofs.Common.{◌∷◌, ◌++◌, [], sym, subst, ◌∙◌}
use Rattle.flow_fold.specs.Flows.{HasRisingKeys}
use Rattle.flow_report.proofs.Parts.{flows_free}
use Rattle.flow_report.proofs.read_back.next_flow.Goals as goal

pub returns-else-is_above : goal.returns-else-is_above
returns-else-is_above c =
    let flow = c.in_ok-flow.ensures in
    record {
      none = λ other rest in_range is.
          let same = flows_free.same c.in_ok-flow.flow other c.in_ok-flow.rest.now rest flow.in_range in_range.0 (sym flow.spelled ∙ is) in
          let rising = subst (λ f. HasRisingKeys (c.args.before.now ++ f ∷ [])) (sym same.0) in_range.1 in
          cc (c.is_above.ensures.1 rising, c.if-is_above.false);
    }
