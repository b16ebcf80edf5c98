use Rattle.std.proofs.Common.{Some}
use Rattle.ss_serve.proofs.Turns.{step_some}
use Rattle.ss_serve.proofs.session.answer_next.Goals as goal

pub returns-in-Some-clause-step : goal.returns-in-Some-clause-step
returns-in-Some-clause-step g c =
    let asked = rw c.in-Some.is at c.in_ok-request.ensures.ok in
    step_some _ _ _ _ _ _ _ _ _ _ _ _ _ asked c.answer_request.ensures.left c.answer_request.ensures.ok
    c.answer_request.ensures.err
