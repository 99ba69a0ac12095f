-- From what a run comes to, to what the status that is told says.
use Rattle.std.proofs.Common.{◌≡◌, Option, sym, subst, inl, inr}
use Rattle.flow_tally.specs.Input.{FeedShown}
use Rattle.flow_tally.specs.OutShown.{OutShown}
use Rattle.flow_tally.specs.Outcome.{Prints, Refuses, Says}
use Rattle.flow_tally.specs.Telling.{IsToldAs}
use Rattle.flow_tally.specs.Words.{Command}
use Rattle.flow_tally.proofs.OutcomeEnds.{may_want_memory}
use Rattle.step_rules.specs.Closing.{ClosedData}
use Rattle.flow_tally.specs.declared.status.Status.{Status}

-- what holds of a status holds of it as it is told, with the same object
pub told_says : (asked : Option Command) (feed : FeedShown) (out : OutShown) (closed last : Option ClosedData) (status told : Status) → IsToldAs status told → last ≡ closed
    → Says asked feed out closed status → Says asked feed out last told
told_says asked feed out closed last status told (inl same) is says = subst (λ (z : Option ClosedData × Status). Says asked feed out z.0 z.1) (λ i. (sym is i, sym same i)) says
told_says asked feed out closed last status told (inr memory) is says =
    let ended = may_want_memory (Prints asked feed) (Refuses asked feed) out closed status memory.1 tt says in
    subst (λ (z : Option ClosedData × Status). Says asked feed out z.0 z.1) (λ i. (sym is i, sym memory.0 i)) ended
