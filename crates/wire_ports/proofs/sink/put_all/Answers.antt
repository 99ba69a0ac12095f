use Rattle.std.proofs.Common.{◌≡◌, ℕ, ◌+◌, List, [], ◌∷◌, ◌++◌, take, drop, ap, subst, sym, ◌∙◌, arith}
use Rattle.wire_ports.specs.Bytes.{Appends}
use Rattle.std.specs.Prelude.{Ok}
use Rattle.wire_ports.proofs.Puttings.{offers_more}
use Rattle.wire_ports.proofs.Bytes.{appends_more, take_add}
use Rattle.wire_ports.proofs.sink.put_all.Goals as goal

pub pieces-preserved : goal.pieces-preserved
pieces-preserved g c =
    let S = g.O.Sink in
    let written = c.pieces.written in
    let rest : c.split_at.result.1.now ≡ drop written c.args.bytes.now = c.split_at.ensures.back in
    let front : take (written + c.in-Ok.n) c.args.bytes.now ≡ take written c.args.bytes.now ++ take c.in-Ok.n c.split_at.result.1.now =
    take_add written c.in-Ok.n c.args.bytes.now ∙ ap (λ (z : List ℕ). take written c.args.bytes.now ++ take c.in-Ok.n z) (sym rest) in
    record {
      within = omega (arith, c.in-Ok.ensures.count, c.split_at.ensures.back_len);
      offers = let so_far = c.pieces.invariant.offers in (
        so_far.0 ++ c.in-Ok.n ∷ [],
        offers_more S.writes c.args.bytes.now so_far.0 0 written c.in-Ok.n c.args.sink.now c.pieces.sink c.write.new.self so_far.1
            (subst (λ (z : List ℕ). S.writes c.pieces.sink z (Ok c.in-Ok.n) c.write.new.self) rest c.in-Ok.ensures.told),
      );
      front = subst (λ (z : List ℕ). Appends (S.taken c.args.sink.now) z (S.taken c.write.new.self)) (sym front)
          (appends_more _ _ _ _ _ c.pieces.invariant.front c.in-Ok.ensures.bytes);
      steady = c.in-Ok.ensures.steady ∙ c.pieces.invariant.steady;
    }
