use Rattle.std.proofs.Common.{◌∙◌, ℕ, ap, ap₂, length, ltb, sym}
use Rattle.wire_ports.specs.NamedBytes.{first_place, bytes_from}
use Rattle.wire_ports.proofs.Names.{from_first_place, known_at_place}
use Rattle.wire_ports.proofs.memory_files.MemoryFiles.open.Goals as goal

pub returns-clause-known : goal.returns-clause-known
returns-clause-known c =
    ap₂ ltb (c.place_of-self.ensures ∙ ap (first_place c.args.name.now) c.deref.ensures.value) (c.len.ensures ∙ sym c.deref.ensures.len ∙ ap length c.deref.ensures.value)
    ∙ known_at_place c.args.name.now c.args.self.now.files.items

pub returns-clause-left : goal.returns-clause-left
returns-clause-left c =
    ap (λ (place : ℕ). bytes_from c.args.self.now.files.items place 0) (c.place_of-self.ensures ∙ ap (first_place c.args.name.now) c.deref.ensures.value)
    ∙ from_first_place c.args.name.now c.args.self.now.files.items
