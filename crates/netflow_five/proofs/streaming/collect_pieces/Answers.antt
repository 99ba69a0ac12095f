use Rattle.std.proofs.Common.{◌≡◌, List, ℕ, [], ◌++◌, ap, length, sym, subst, arith}
use Rattle.std.proofs.lemmas.List.{length-append}
use Rattle.wire_ports.specs.FeedMoments.{FeedAt, feed_at}
use Rattle.netflow_five.proofs.Streams.{SoFar, none_so_far, more_so_far, ends_early, ends_wanting, bad_in_rest, ends_file}
use Rattle.netflow_five.proofs.streaming.collect_pieces.Goals as goal

pub reads-init : goal.reads-init
reads-init g c =
    let F = g.F.Feed in
    let holds = g.C.Collector.holds in
    let start : FeedAt = feed_at F.files F.left F.given F.current F.started F.faults F.failed c.args.feed.now in
    let none : length c.args.window.now ≡ 0 = ap length c.requires.empty in
    record {
      few = omega arith;
      collected = (
        [],
        [],
        subst (λ (z : List ℕ). SoFar holds start c.args.collector.now 0 [] [] z start c.args.collector.now) (sym c.requires.empty)
            (none_so_far holds start c.args.collector.now c.requires.started),
      );
      stops = sym none;
      short = tt;
      span = omega arith;
    }

pub returns-in-Ok-eq0-clause-file : goal.returns-in-Ok-eq0-clause-file
returns-in-Ok-eq0-clause-file g c =
    ends_file c.reads.invariant.collected.2 c.reads.cause c.ended.result c.reads.invariant.stops c.in-Ok-eq0.ensures.read c.in-Ok-eq0.field-0-test
    c.reads.invariant.few (ap length c.as_slice.ensures) c.ended.ensures

pub returns-in-Err-clause-file : goal.returns-in-Err-clause-file
returns-in-Err-clause-file g c =
    ends_early c.reads.invariant.collected.2 _ c.in-Err.end c.from.result c.reads.invariant.few c.in-Err.ensures.end c.from.ensures

pub returns-in-Err-collect_window-clause-file : goal.returns-in-Err-collect_window-clause-file
returns-in-Err-collect_window-clause-file g c =
    ends_wanting c.reads.invariant.collected.2 c.in-Ok.ensures.read c.reads.invariant.few c.in-Ok.ensures.most c.in-Err-collect_window.ensures.some

pub reads-preserved : goal.reads-preserved
reads-preserved g c =
    let before = c.reads.invariant.collected in
    let read = c.in-Ok.ensures.read in
    let next = c.in-Ok-collect_window.ensures.collected in
    record {
      few = omega (arith, c.reads.invariant.few, c.in-Ok.ensures.most);
      collected = (before.0 ++ read.bytes, before.1 ++ next.0, more_so_far before.2 read next.1);
      stops = c.in-Ok-collect_window.ensures.stops;
      short = c.in_default.ensures;
      span = omega (arith, c.in-Ok-collect_window.ensures.span, c.reads.invariant.span, read.count, ap length read.behind, length-append c.reads.window read.bytes);
    }

pub returns-in-Ok-pass_rest-clause-file : goal.returns-in-Ok-pass_rest-clause-file
returns-in-Ok-pass_rest-clause-file g c =
    let next = c.in-Ok-collect_window.ensures.collected in
    bad_in_rest (more_so_far c.reads.invariant.collected.2 c.in-Ok.ensures.read next.1) c.in-Some.cause c.in-Ok-collect_window.ensures.stops
    c.in-Some.ensures.0 c.in-Some.ensures.1 c.in-Ok-pass_rest.ensures.rest (omega (arith, c.reads.invariant.few, c.in-Ok.ensures.most)) c.in-Ok-pass_rest.ensures.most
    (ap length c.as_slice-in-Some.ensures)

pub returns-in-Err-pass_rest-clause-file : goal.returns-in-Err-pass_rest-clause-file
returns-in-Err-pass_rest-clause-file g c =
    let next = c.in-Ok-collect_window.ensures.collected in
    ends_early (more_so_far c.reads.invariant.collected.2 c.in-Ok.ensures.read next.1) _ c.in-Err-pass_rest.end
    c.from-in-Err-pass_rest.result (omega (arith, c.reads.invariant.few, c.in-Ok.ensures.most)) c.in-Err-pass_rest.ensures.end c.from-in-Err-pass_rest.ensures
