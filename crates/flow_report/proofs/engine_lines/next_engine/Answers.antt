use Rattle.std.proofs.Common.{◌∷◌, ◌++◌, [], sym, subst, ◌∙◌}
use Rattle.flow_report.specs.EngineOrder.{HasRisingEngines}
use Rattle.flow_report.proofs.EngineParts.{engines_free}
use Rattle.flow_report.proofs.engine_lines.next_engine.Goals as goal

pub returns-else-is_above : goal.returns-else-is_above
returns-else-is_above c =
    let line = c.in_ok-line.ensures in
    record {
      none = λ other rest in_range is.
          let same = engines_free.same c.in_ok-line.line other c.in_ok-line.rest.now rest line.in_range in_range.0 (sym line.spelled ∙ is) in
          let rising = subst (λ e. HasRisingEngines (c.args.before.now ++ e ∷ [])) (sym same.0) in_range.1 in
          cc (c.is_above.ensures.1 rising, c.if-is_above.false);
    }
