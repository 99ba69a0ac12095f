use Rattle.std.proofs.Common.{◌≡◌, ◌∙◌, ℕ, ◌+◌, List, ◌++◌, append_assoc, ap, subst, sym, arith, map}
use Rattle.std.specs.List.{flat_map}
use Rattle.netflow_five.specs.Encoding.{header_bytes, record_bytes}
use Rattle.netflow_five.specs.File.{IsWellFormed}
use Rattle.netflow_five.specs.Generating.{count_at, flow_at, generated, header_at, number_after, numbers_from, records_before}
use Rattle.netflow_five.specs.declared.header.Header.{Header}
use Rattle.netflow_five.proofs.Generated.{counts_before, datagrams_more, generated_file, records_few, records_more}
use Rattle.netflow_five.proofs.generator.generate.Goals as goal

pub add_flows-requires : goal.add_flows-requires
add_flows-requires c =
    let few = records_few c.loop-i.i in
    let from = ap (λ (h : Header). h.flow_sequence) c.header_of-header.ensures ∙ counts_before c.loop-i.i in
    record { few = omega (arith, c.loop-i-test.true, c.requires.few) }

pub loop-i-preserved : goal.loop-i-preserved
loop-i-preserved c =
    let i = c.loop-i.i in
    let start = c.args.start in
    let from = ap (λ (h : Header). h.flow_sequence) c.header_of-header.ensures ∙ counts_before i in
    let drawn = c.in_ok-number.ensures start (c.loop-i.invariant.number ∙ ap (number_after start) (sym from)) in
    let flows : ℕ → List ℕ = λ j. flat_map record_bytes (map (flow_at start) (numbers_from j (count_at i))) in
    let header : c.add_header.new.bytes.items ≡ generated start i ++ header_bytes (header_at i) (count_at i) = c.in_ok-add_header.ensures.added
    ∙ ((λ k. c.loop-i.invariant.bytes k ++ header_bytes (c.header_of-header.ensures k) (count_at i))) in
    record {
      bytes = drawn.0 ∙ ((λ k. header k ++ flows (from k)) ∙ (append_assoc (generated start i) (header_bytes (header_at i) (count_at i)) (flows (records_before i)) ∙ datagrams_more start i));
      number = drawn.1 ∙ ap (λ (j : ℕ). number_after start (j + count_at i)) from ∙ ap (number_after start) (records_more i);
    }

pub returns-clause-well_formed : goal.returns-clause-well_formed
returns-clause-well_formed c = subst IsWellFormed (sym c.loop-i.invariant.bytes) (generated_file c.args.start c.loop-i.i)
