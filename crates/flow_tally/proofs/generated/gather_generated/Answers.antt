use Rattle.std.proofs.Common.{◌∙◌, List, ℕ, [], subst, sym}
use Rattle.std.proofs.lemmas.List.{append-nil}
use Rattle.netflow_five.specs.File.{IsFile}
use Rattle.netflow_five.specs.Generating.{generated}
use Rattle.flow_tally.proofs.Sources.{generated_good}
use Rattle.flow_tally.proofs.generated.gather_generated.Goals as goal

pub returns-in-Ok : goal.returns-in-Ok
returns-in-Ok c =
    let generator = c.args.generator.now in
    let (ds, file, came) = c.in-Ok.ensures.ok in
    let bytes = c.deref.ensures.value ∙ c.in_ok-bytes.ensures.generated ∙ sym (append-nil (generated generator.start generator.datagrams)) in
    (ds, record { good = generated_good generator.start generator.datagrams generator.few_datagrams; file = subst (λ (z : List ℕ). IsFile z ds) bytes file; all = came [] c.new-gathered.ensures })
