use Rattle.ss_prompt.proofs.Cleared.{none_left}
use Rattle.ss_prompt.proofs.Others.{breaks, position}
use Rattle.ss_prompt.proofs.laws.other_commands_leave_the_debugger.Goals as goal

pub returns-clause-breaks : goal.returns-clause-breaks
returns-clause-breaks c = breaks

pub returns-clause-position : goal.returns-clause-position
returns-clause-position c = position

pub returns-clause-none : goal.returns-clause-none
returns-clause-none c = none_left
