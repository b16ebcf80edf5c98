use Rattle.std.proofs.Common as usual
use Rattle.ss_values.proofs.evaluation.assigned_value.Goals as goal

pub returns-in_ok-target_seen-in-Subtract : goal.returns-in_ok-target_seen-in-Subtract
returns-in_ok-target_seen-in-Subtract g c = search usual.rules
