use Rattle.std.proofs.Common.{length}
use Rattle.ss_prompt.proofs.displays.+push_answers.Given as goal

abbrev pub decreases-push_answers : goal.decreases-push_answers
decreases-push_answers g l = length l.displays.now
