use Rattle.std.proofs.Common.{List, sym, subst}
use Rattle.netflow_five.specs.declared.engine_line.EngineLine.{EngineLine}
use Rattle.flow_report.specs.EngineOrder.{HasRisingEngines}
use Rattle.flow_report.specs.Ranges.{IsEngineInRange}
use Rattle.flow_report.specs.ReadBack.{HasLines, IsNextEngine}
use Rattle.flow_report.specs.Reading.{BeginsWith, BeginsWithNone}
use Rattle.flow_report.specs.Text.{engine_text}
use Rattle.flow_report.proofs.Fronts.{no_lines, one_more_line, no_more_lines, line_shortens}
use Rattle.flow_report.proofs.LineKinds.{engine_kind}
use Rattle.flow_report.proofs.engine_lines.read_engines.Goals as goal

pub loop-line-init : goal.loop-line-init
loop-line-init c =
    let text = c.args.text.now in
    subst (λ (z : List EngineLine). HasLines engine_text IsEngineInRange HasRisingEngines text z text) (sym c.requires) (no_lines engine_kind text)

pub loop-line-smaller : goal.loop-line-smaller
loop-line-smaller c = line_shortens engine_kind _ c.loop-line.rest.now c.in-Some.after.now c.in-Some.line c.in-Some.ensures

pub loop-line-preserved : goal.loop-line-preserved
loop-line-preserved c =
    let engines = c.loop-line.engines.items in
    let line = c.in-Some.line in
    let next : BeginsWith engine_text (IsNextEngine engines) c.loop-line.rest.now line c.in-Some.after.now =
    subst (λ (z : List EngineLine). BeginsWith engine_text (IsNextEngine z) c.loop-line.rest.now line c.in-Some.after.now) c.as_slice.ensures.value c.in-Some.ensures in
    rw c.in_ok-push.ensures.items (one_more_line engine_kind c.args.text.now engines c.loop-line.rest.now line c.in-Some.after.now c.loop-line.invariant next)

pub returns : goal.returns
returns c =
    let engines = c.loop-line.engines.items in
    let none : BeginsWithNone engine_text (IsNextEngine engines) c.loop-line.rest.now =
    subst (λ (z : List EngineLine). BeginsWithNone engine_text (IsNextEngine z) c.loop-line.rest.now) c.as_slice.ensures.value c.in_default.ensures in
    no_more_lines engine_kind c.args.text.now engines c.loop-line.rest.now c.loop-line.invariant none
