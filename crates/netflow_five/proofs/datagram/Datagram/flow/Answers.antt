use Rattle.std.proofs.Common.{◌≡◌, ◌∙◌, ℕ, ◌+◌, ◌*◌, List, take, drop, Some, ap, sym}
use Rattle.netflow_five.specs.Record.{record_of}
use Rattle.netflow_five.proofs.Parts.{record_is}
use Rattle.netflow_five.proofs.datagram.Datagram.flow.Goals as goal

pub returns : goal.returns
returns c =
    let part : c.split_at-2.result.0.now ≡ take 48 (drop (24 + 48 * c.args.i) c.args.self.now.bytes.now) =
    c.split_at-2.ensures.front ∙ ap (λ (z : List ℕ). take 48 z) c.split_at.ensures.back in
    record_is c.args.i c.args.self.now.bytes.now c.requires ∙ ap (λ (z : List ℕ). Some (record_of z)) (sym part) ∙ ap (λ r. Some r) (sym c.record_at.ensures)
