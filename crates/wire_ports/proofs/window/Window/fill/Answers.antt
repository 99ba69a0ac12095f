use Rattle.std.proofs.Common.{◌≡◌, ◌∙◌, ℕ, ◌+◌, ◌-◌, List, ◌++◌, length, vec_len, take, ap, arith, rules}
use Rattle.std.proofs.lemmas.List.{with_items_is, places, length-take}
use borrow.Rule.Slice.PartMut.{post_of}
use Rattle.wire_ports.proofs.Bytes.{read_at}
use Rattle.wire_ports.proofs.FeedMoments.{nothing_left}
use Rattle.wire_ports.proofs.window.Window.fill.Goals as goal

pub returns-clause-read : goal.returns-clause-read
returns-clause-read g c =
    let F = g.F.Feed in
    let filled = c.self.inside.filled in
    let n = c.in-Ok.n in
    let lent = c.deref_mut.result.now in
    let into = c.read.new.into in
    let behind = post_of filled (filled + (c.min-ask.result + 1) - filled) lent in
    let now = take filled lent ++ (into ++ behind) in
    let long : length now ≡ vec_len c.self.inside.buffer = search (rules, places) in
    let all = read_at lent into behind filled n (omega arith) c.in-Ok.ensures.count in
    record {
      bytes = take n into;
      behind = ap (take (filled + n)) (with_items_is c.self.inside.buffer now long) ∙ all
          ∙ ap (λ (z : List ℕ). take filled z ++ take n into) c.deref_mut.ensures.value ∙ ap (λ (z : List ℕ). z ++ take n into) c.self.view_is;
      count = omega (arith, length-take n into, c.in-Ok.ensures.count);
      given = record {
        same_files = c.in-Ok.ensures.files;
        same_file = c.in-Ok.ensures.current;
        goes_on = c.in-Ok.ensures.started;
        read = c.in-Ok.ensures.bytes;
        count = omega (arith, c.in-Ok.ensures.given, length-take n into, c.in-Ok.ensures.count);
        quiet = c.in-Ok.ensures.quiet;
        steady = c.in-Ok.ensures.steady;
      };
      at_end = nothing_left (F.left c.args.feed.now) (F.left c.read.new.self) (take n into) n c.in-Ok.ensures.bytes c.in-Ok.ensures.end;
    }
