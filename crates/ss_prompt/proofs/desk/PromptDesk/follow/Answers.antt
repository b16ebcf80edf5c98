use Rattle.std.proofs.Common.{rules}
use Rattle.ss_prompt.proofs.Unfoldings.{commands}
use Rattle.ss_prompt.proofs.desk.PromptDesk.follow.Goals as goal
use Rattle.ss_prompt.proofs.desk.PromptDesk.follow.Goals.{in-Value, in-Until, in-Meant, in-BreakWhen, in-Cause, in-Reads, in-Travel, in-Once, in-Lines, in-LinesBetween, in-SectionLines, in-BreakSection, in-NoPlace, in-ClearSection, in-ClearAll, in-Breaks, in-Ask, in-See, in-Changed, in-Why, in-History, in-Display, in-Undisplay, in-UndisplayOne, in-Missing, in-Unread, in-Names, in-Warnings, in-Help}

pub returns-in_err-done-clause-memory : goal.returns-in_err-done-clause-memory
unfolding commands
returns-in_err-done-clause-memory g c = elim c.match-command.branch [
  | in-Value w ↦ search rules
  | in-Until w ↦ search rules
  | in-Meant w ↦ search rules
  | in-BreakWhen w ↦ search rules
  | in-Cause w ↦ search rules
  | in-Reads w ↦ search rules
  | in-Travel w ↦ search rules
  | in-Once w ↦ search rules
  | in-Lines w ↦ search rules
  | in-LinesBetween w ↦ search rules
  | in-SectionLines w ↦ search rules
  | in-BreakSection w ↦ search rules
  | in-NoPlace w ↦ search rules
  | in-ClearSection w ↦ search rules
  | in-ClearAll w ↦ search rules
  | in-Breaks w ↦ search rules
  | in-Ask w ↦ search rules
  | in-See w ↦ search rules
  | in-Changed w ↦ search rules
  | in-Why w ↦ search rules
  | in-History w ↦ search rules
  | in-Display w ↦ search rules
  | in-Undisplay w ↦ search rules
  | in-UndisplayOne w ↦ search rules
  | in-Missing w ↦ search rules
  | in-Unread w ↦ search rules
  | in-Names w ↦ search rules
  | in-Warnings w ↦ search rules
  | in-Help w ↦ search rules
]
