use Rattle.flow_tally.proofs.OutcomeComplete.{decided, complete, has_output, reported}
use Rattle.flow_tally.proofs.Outcomes.{told_says}
use Rattle.flow_tally.proofs.top.run.Goals as goal

pub returns-clause-determined : goal.returns-clause-determined
returns-clause-determined g c = λ names told.
    let ended = c.answer-ended in
    let says = told_says _ _ _ ended.result.closed c.tell.result.closed ended.result.status c.tell.result.status c.tell.ensures.same c.tell.ensures.closed ended.ensures.says in
    decided _ _ _ c.tell.result.closed names c.tell.result.status told says

pub returns-clause-complete : goal.returns-clause-complete
returns-clause-complete g c = λ names status told is read written.
    let ended = c.answer-ended in
    let says = told_says _ _ _ ended.result.closed c.tell.result.closed ended.result.status c.tell.result.status c.tell.ensures.same c.tell.ensures.closed ended.ensures.says in
    complete _ _ _ c.tell.result.closed names status c.tell.result.status told says is read written

pub returns-clause-output : goal.returns-clause-output
returns-clause-output g c = λ names told.
    let ended = c.answer-ended in
    let says = told_says _ _ _ ended.result.closed c.tell.result.closed ended.result.status c.tell.result.status c.tell.ensures.same c.tell.ensures.closed ended.ensures.says in
    has_output _ _ _ c.tell.result.closed names c.tell.result.status told says

pub returns-clause-report : goal.returns-clause-report
returns-clause-report g c = λ names text told is done.
    let ended = c.answer-ended in
    let says = told_says _ _ _ ended.result.closed c.tell.result.closed ended.result.status c.tell.result.status c.tell.ensures.same c.tell.ensures.closed ended.ensures.says in
    reported _ _ _ c.tell.result.closed names text c.tell.result.status told says is done
