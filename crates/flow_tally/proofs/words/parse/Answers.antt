use Rattle.std.proofs.Common.{◌∙◌, map, sym, subst}
use Rattle.std.specs.String.{string_bytes}
use Rattle.clap.specs.Words.{HasKind, Kinds, app_of}
use Rattle.flow_tally.specs.Words.{faults_in}
use Rattle.flow_tally.proofs.Parse.{faults_are, refused_by, rows_are, simple}
use Rattle.flow_tally.proofs.words.parse.Goals as goal

pub returns-in-Ok-clause-found : goal.returns-in-Ok-clause-found
returns-in-Ok-clause-found c =
    let app = app_of c.args.command in
    let ws = map string_bytes c.args.words.now in
    let ok = c.in-Ok.ensures in
    (sym (faults_are app ws) ∙ ok.kinds c.requires, (ok.matches (simple app c.requires)).0 ∙ rows_are app ws)

pub returns-in-Err-clause-refused : goal.returns-in-Err-clause-refused
returns-in-Err-clause-refused c =
    let app = app_of c.args.command in
    let ws = map string_bytes c.args.words.now in
    let has = subst (λ (kinds : Kinds). HasKind kinds c.in-Err.error) (faults_are app ws) (c.in-Err.ensures.kinds c.requires) in
    refused_by (faults_in app ws) c.in-Err.error c.refused.result has c.refused.ensures
