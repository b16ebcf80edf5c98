use Rattle.std.proofs.Common as usual
use Rattle.ss_values.proofs.evaluation.variable_seen.Goals as goal

pub returns-in-Local : goal.returns-in-Local
returns-in-Local g c = search usual.rules
