use Rattle.ss_trace.proofs.Ends.{starts_ready, commands_pass_none, movements_pass_none}
use Rattle.ss_trace.proofs.laws.no_movement_passes_an_end.Goals as goal

pub returns-clause-start : goal.returns-clause-start
returns-clause-start c = starts_ready

pub returns-clause-commands : goal.returns-clause-commands
returns-clause-commands c = commands_pass_none

pub returns-clause-movements : goal.returns-clause-movements
returns-clause-movements c = movements_pass_none
