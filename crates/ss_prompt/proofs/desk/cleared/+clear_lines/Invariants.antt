use Rattle.std.proofs.Common.{length}
use Rattle.ss_prompt.proofs.desk.cleared.+clear_lines.Given as goal

abbrev pub decreases-clear_lines : goal.decreases-clear_lines
decreases-clear_lines g l = length l.lines.now
