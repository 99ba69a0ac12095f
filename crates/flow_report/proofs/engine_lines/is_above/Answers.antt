use Rattle.std.specs.Ordering.{is_lt, nat_cmp}
use Rattle.std.proofs.Common.{◌≡◌, rules, sym, ap, ◌∙◌}
use Rattle.netflow_five.specs.Engines.{engine_cmp, line_engine}
use Rattle.netflow_five.proofs.Senders.{engine_cmp_total}
use Rattle.flow_report.proofs.Rising.{rising_push, rising_first, above_last, less_from_is_lt, partial_lt_both}
use Rattle.flow_report.proofs.engine_lines.is_above.Goals as goal

pub returns-in-Some : goal.returns-in-Some
returns-in-Some c =
    let last = c.in-Some.last.now in
    let line = c.args.line.now in
    let below : c.lt.result ≡ is_lt (engine_cmp (line_engine last) (line_engine line)) =
    c.lt.ensures ∙ partial_lt_both (nat_cmp last.engine_type line.engine_type) (nat_cmp last.engine_id line.engine_id) in
    let is_last = sym c.in-Some.ensures.value in (
      λ yes. rising_push line_engine engine_cmp engine_cmp_total c.args.before.now last line c.requires is_last (less_from_is_lt _ (sym below ∙ yes)),
      λ rising. below ∙ ap is_lt (above_last line_engine engine_cmp engine_cmp_total c.args.before.now last line rising is_last),
    )

pub returns-in-None : goal.returns-in-None
returns-in-None c = (λ yes. rising_first line_engine engine_cmp engine_cmp_total c.args.before.now c.args.line.now c.in-None.ensures.value, λ rising. search rules)
