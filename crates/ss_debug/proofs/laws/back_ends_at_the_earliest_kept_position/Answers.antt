use Rattle.std.proofs.Common.{refl}
use Rattle.ss_debug.specs.Move.{least}
use Rattle.ss_debug.specs.Turn.{debugger_state_after, answer}
use Rattle.ss_debug.proofs.laws.back_ends_at_the_earliest_kept_position.Goals as goal

pub returns-clause-within : goal.returns-clause-within
unfolding least debugger_state_after answer
returns-clause-within c = λ t. (refl, refl)

pub returns-clause-beyond : goal.returns-clause-beyond
unfolding least debugger_state_after answer
returns-clause-beyond c = λ t. (refl, refl)

pub returns-clause-there : goal.returns-clause-there
unfolding least debugger_state_after answer
returns-clause-there c = λ t. (refl, refl)

pub returns-clause-start : goal.returns-clause-start
unfolding least debugger_state_after answer
returns-clause-start c = λ t. (refl, refl)

pub returns-clause-break_line : goal.returns-clause-break_line
unfolding least debugger_state_after answer
returns-clause-break_line c = λ t. (refl, refl)

pub returns-clause-break_start : goal.returns-clause-break_start
unfolding least debugger_state_after answer
returns-clause-break_start c = λ t. (refl, refl)

pub returns-clause-event : goal.returns-clause-event
unfolding least debugger_state_after answer
returns-clause-event c = λ t. (refl, refl)
