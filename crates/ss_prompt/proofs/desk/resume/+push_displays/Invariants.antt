use Rattle.std.proofs.Common.{length}
use Rattle.ss_prompt.proofs.desk.resume.+push_displays.Given as goal

abbrev pub decreases-push_displays : goal.decreases-push_displays
decreases-push_displays l = length l.displays.now
