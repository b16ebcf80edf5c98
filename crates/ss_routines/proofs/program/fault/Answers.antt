use Rattle.std.proofs.Common.{arith}
use Rattle.ss_routines.proofs.NotedAnswers.{told_word, told_limit, told_end, told_past_end}
use Rattle.ss_routines.proofs.program.fault.Goals as goal
use Rattle.ss_routines.proofs.program.fault.Goals.{in_default-via-in-Unexpected+else-left-gt0}
use Rattle.ss_routines.proofs.program.fault.Goals.{in_default-via-in-PastLimit+else-left-gt1}

pub returns-in-Unexpected : goal.returns-in-Unexpected
returns-in-Unexpected c =
    told_word c.args.text.now c.args.cursor.now c.line.result (rw c.in-Unexpected.is at c.requires)
    (omega (arith, c.if-left-gt0.true)) c.line.ensures

pub returns-in-PastLimit : goal.returns-in-PastLimit
returns-in-PastLimit c =
    told_limit c.args.text.now c.args.cursor.now c.line-in-PastLimit.result (rw c.in-PastLimit.is at c.requires)
    (omega (arith, c.if-left-gt1.true)) c.line-in-PastLimit.ensures

pub returns-in_default : goal.returns-in_default
returns-in_default c = elim c.in_default.branch [
  | in_default-via-in-Unexpected+else-left-gt0 w ↦ told_end c.args.text.now c.args.cursor.now c.last_line.result
      (rw w.in-Unexpected.is at c.requires) (omega (arith, w.if-left-gt0.false)) c.last_line.ensures
  | in_default-via-in-PastLimit+else-left-gt1 w ↦ told_past_end c.args.text.now c.args.cursor.now c.last_line.result
      (rw w.in-PastLimit.is at c.requires) (omega (arith, w.if-left-gt1.false)) c.last_line.ensures
]
