use Rattle.std.proofs.Common.{◌≡◌, ◌++◌, ◌∙◌, sym, ap}
use Rattle.ss_machine.specs.Moment.{position}
use Rattle.ss_state.specs.State.{State}
use Rattle.ss_state.specs.Run.{run}
use Rattle.ss_debug.specs.Answer.{status_text}
use Rattle.ss_prompt.proofs.Refusals.{told_with}
use Rattle.ss_prompt.proofs.refusal.put_refusal_at.Goals as goal

pub returns-clause-ok : goal.returns-clause-ok
returns-clause-ok g c =
    let m = c.args.machine.now in
    let e : status_text (run m.input (position m)).status
    ≡ c.status_pieces.result.0.now ++ c.status_pieces.result.1.now =
    ap (λ (s : State). status_text s.status) (sym c.known.ensures.state) ∙ ap status_text (sym c.status.ensures)
    ∙ c.status_pieces.ensures in
    rw (told_with m.input (position m) c.status_pieces.result.0.now c.status_pieces.result.1.now e)
    c.put_with.ensures.ok

pub returns-clause-err : goal.returns-clause-err
returns-clause-err g c =
    let m = c.args.machine.now in
    let e : status_text (run m.input (position m)).status
    ≡ c.status_pieces.result.0.now ++ c.status_pieces.result.1.now =
    ap (λ (s : State). status_text s.status) (sym c.known.ensures.state) ∙ ap status_text (sym c.status.ensures)
    ∙ c.status_pieces.ensures in
    rw (told_with m.input (position m) c.status_pieces.result.0.now c.status_pieces.result.1.now e)
    c.put_with.ensures.err
