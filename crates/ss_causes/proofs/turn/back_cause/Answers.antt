use Rattle.std.proofs.Common.{List, ℕ, ◌++◌, ◌∙◌, ap}
use Rattle.ss_trace.proofs.Refusals.{on_ok}
use Rattle.ss_causes.proofs.Arriving.{after_back_cause, told_after}
use Rattle.ss_causes.proofs.turn.back_cause.Goals as goal

pub returns-clause-place : goal.returns-clause-place
returns-clause-place g c =
    after_back_cause c.args.debugger.now c.back_to_cause-cause.new.debugger c.arrive-word.new.debugger
    c.back_to_cause-cause.result c.back_to_cause-cause.ensures.gone c.back_to_cause-cause.ensures.cause
    c.arrive-word.ensures.place

pub returns-clause-said : goal.returns-clause-said
returns-clause-said g c =
    on_ok c.push_movement.result c.push_movement.ensures.said (λ e.
    e ∙ ap (λ (ys : List ℕ). c.args.bytes.now.items ++ ys)
    (told_after c.args.debugger.now c.back_to_cause-cause.new.debugger c.arrive-word.new.debugger
    c.back_to_cause-cause.result c.arrive-word.result.now c.back_to_cause-cause.ensures.gone
    c.back_to_cause-cause.ensures.cause c.arrive-word.ensures.place c.arrive-word.ensures.word))
