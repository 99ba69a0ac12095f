use Rattle.std.proofs.Common.{◌≤◌, ◌∙◌, ap, drop, length, arith}
use Rattle.std.proofs.lemmas.List.{length-take}
use Rattle.wire_ports.proofs.Bytes.{moved_to_front}
use Rattle.wire_ports.proofs.window.Window.skip.Goals as goal

pub returns : goal.returns
returns c =
    let buffer = c.self.inside.buffer.items in
    let filled = c.self.inside.filled in
    let few : c.args.count ≤ filled = omega (arith, ap length c.self.view_is, length-take filled buffer, c.requires) in
    moved_to_front buffer c.copy_within.new.self.items filled c.args.count (omega arith) few c.copy_within.ensures.items
    ∙ ap (drop c.args.count) c.self.view_is
