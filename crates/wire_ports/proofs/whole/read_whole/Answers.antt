use Rattle.std.proofs.Common.{◌≡◌, ◌∙◌, ℕ, ◌+◌, ◌-◌, List, ◌++◌, length, replicate, vec_len, take, ap, sym, subst, arith, rules}
use Rattle.std.proofs.lemmas.List.{with_items_is, places}
use borrow.Rule.Slice.PartMut.{post_of}
use Rattle.wire_ports.specs.Bytes.{IsReadOf}
use Rattle.wire_ports.proofs.Bytes.{after_more, read_behind}
use Rattle.wire_ports.proofs.whole.read_whole.Goals as goal

pub pieces-preserved : goal.pieces-preserved
pieces-preserved g c =
    let F = g.F.Feed in
    let before = c.pieces.filled in
    let n = c.in-Ok.n in
    let end = before + (c.min-ask.result + 1) in
    let lent = c.deref_mut.result.now in
    let behind = post_of before (length lent - before) lent in
    let now = take before lent ++ (c.read.new.into ++ behind) in
    let long : length now ≡ vec_len c.resize.new.self = search (rules, places) in
    let is = with_items_is c.resize.new.self now long in
    let front = read_behind c.pieces.all.items c.resize.new.self.items lent (replicate (end - vec_len c.pieces.all) 0) c.read.new.into behind before end n
    c.pieces.invariant.within (omega arith) c.in-Ok.ensures.count c.in_ok-resize.ensures.items c.deref_mut.ensures.value in
    record {
      started = c.in-Ok.ensures.started;
      within = omega (arith, ap length is, long, c.in_ok-resize.ensures.len, c.in-Ok.ensures.count);
      most = omega arith;
      read = subst (λ (z : List ℕ). IsReadOf (F.left c.args.feed.now) z (F.left c.read.new.self)) (sym (ap (take (before + n)) is ∙ front))
          (after_more _ _ _ _ _ c.pieces.invariant.read c.in-Ok.ensures.bytes);
      given = omega (arith, c.in-Ok.ensures.given, c.pieces.invariant.given);
      current = c.in-Ok.ensures.current ∙ c.pieces.invariant.current;
      files = c.in-Ok.ensures.files ∙ c.pieces.invariant.files;
      quiet = c.in-Ok.ensures.quiet ∙ c.pieces.invariant.quiet;
      steady = c.in-Ok.ensures.steady ∙ c.pieces.invariant.steady;
    }
