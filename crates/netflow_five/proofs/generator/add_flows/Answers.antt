use Rattle.std.proofs.Common.{◌≡◌, ◌∙◌, ℕ, ◌+◌, List, ◌++◌, suc, map, ap}
use Rattle.std.specs.List.{flat_map}
use Rattle.netflow_five.specs.Encoding.{record_bytes}
use Rattle.netflow_five.specs.Generating.{drawn_flow, flow_at, mixed, number_after, numbers_from}
use Rattle.netflow_five.specs.declared.record.FlowRecord.{FlowRecord}
use Rattle.netflow_five.proofs.Generated.{flows_more, number_more}
use Rattle.netflow_five.proofs.generator.add_flows.Goals as goal

pub loop-k-preserved : goal.loop-k-preserved
loop-k-preserved c start from =
    let before = c.loop-k.invariant start from in
    let k = c.loop-k.k in
    let j = c.args.j in
    let drawn : c.mix-last.result ≡ number_after start (suc (j + k)) = c.mix-last.ensures ∙ ap mixed before.1 in
    let flow : c.draw_flow.result ≡ flow_at start (j + k) = c.draw_flow.ensures ∙ ap (drawn_flow (j + k)) drawn in (
      c.in_ok-add_record.ensures.added
          ∙ (ap (λ (l : List ℕ). l ++ record_bytes c.draw_flow.result) before.0
          ∙ (ap (λ (f : FlowRecord). (c.args.bytes.now.items ++ flat_map record_bytes (map (flow_at start) (numbers_from j k))) ++ record_bytes f) flow
          ∙ flows_more c.args.bytes.now.items start j k)),
      drawn ∙ number_more start j k,
    )
