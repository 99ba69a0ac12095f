use Rattle.std.proofs.Common.{◌≡◌, ◌∙◌, ℕ, List, [], ◌∷◌, ◌++◌, take, sym, ap, arith, append_assoc}
use Rattle.std.proofs.lemmas.List.{append-nil}
use Rattle.flow_fold.specs.Flows.{Flows}
use Rattle.flow_fold.specs.Pair.{pairs_under, record_key, record_value}
use Rattle.flow_fold.proofs.Pairs.{pairs_under-none}
use Rattle.flow_fold.specs.declared.key.Key.{Key}
use Rattle.flow_fold.specs.declared.value.Value.{Value}
use Rattle.netflow_five.specs.Datagram.{records_of, count_of}
use Rattle.netflow_five.specs.Header.{header_of}
use Rattle.netflow_five.specs.declared.header.Header.{Header}
use Rattle.netflow_five.specs.declared.seq_mark.SeqMark.{SeqMark}
use Rattle.flow_tally.proofs.Gathering.{pairs_more, pairs_whole}
use Rattle.flow_tally.proofs.gathered.Gathered.add_datagram.Goals as goal

pub loop-i-init : goal.loop-i-init
loop-i-init c =
    let before = c.args.self.now.pairs.items in
    record {
      pairs = c.in_ok-reserve.ensures.items ∙ sym (ap (λ (z : Flows). before ++ z) (pairs_under-none (header_of c.args.datagram.now.bytes.now)) ∙ append-nil before);
      room = omega (arith, c.in_ok-reserve.ensures.ok, c.count.ensures);
      marks = ◌∙◌ {A = List SeqMark} c.in_ok-push.ensures.items (ap (λ (mark : SeqMark). c.args.self.now.marks.items ++ mark ∷ []) c.mark.ensures);
    }

pub loop-i-preserved : goal.loop-i-preserved
loop-i-preserved c =
    let before = c.args.self.now.pairs.items in
    let d = c.args.datagram.now.bytes.now in
    let r = c.flow-flow.result in
    let h = header_of d in
    record {
      pairs = c.push_reserved.ensures.items
          ∙ ap (λ (p : Key × Value). c.loop-i.self.pairs.items ++ p ∷ []) (λ i. (c.key_of.ensures i, (c.value_of.ensures ∙ ap (λ (header : Header). record_value header r) c.header-header.ensures) i))
          ∙ ap (λ (z : Flows). z ++ (record_key r, record_value h r) ∷ []) c.loop-i.invariant.pairs
          ∙ append_assoc before (pairs_under h (take c.loop-i.i (records_of d))) ((record_key r, record_value h r) ∷ [])
          ∙ ap (λ (z : Flows). before ++ z) (sym (pairs_more h d c.loop-i.i r c.flow-flow.ensures));
      room = omega (arith, c.push_reserved.ensures.len, c.push_reserved.ensures.capacity, c.loop-i.invariant.room);
      marks = c.loop-i.invariant.marks;
    }

pub returns-clause-adds : goal.returns-clause-adds
returns-clause-adds c =
    let d = c.args.datagram.now.bytes.now in
    let all : c.loop-i.i ≡ count_of d = omega (arith, c.count-i-end.ensures, c.loop-i-test.false, c.loop-i.auto.i-end) in
    record {
      pairs = c.loop-i.invariant.pairs ∙ ap (λ (n : ℕ). c.args.self.now.pairs.items ++ pairs_under (header_of d) (take n (records_of d))) all
          ∙ ap (λ (z : Flows). c.args.self.now.pairs.items ++ z) (pairs_whole d);
      marks = c.loop-i.invariant.marks;
    }
