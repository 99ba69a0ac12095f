use Rattle.std.proofs.Common.{◌∙◌, [], refl}
use Rattle.netflow_five.proofs.places.decode_all.Goals as goal

pub returns-clause-ok : goal.returns-clause-ok
returns-clause-ok c =
    let file = c.in_ok-collect_bytes.ensures.ok in
    (file.0, file.1, c.of_vec.ensures ∙ (file.2 [] (c.new.ensures.items, refl)).0)
