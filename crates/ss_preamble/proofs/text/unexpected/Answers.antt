use Rattle.std.proofs.Common.{arith}
use Rattle.ss_preamble.proofs.AnswerAtStop.{told_limit, told_word, told_end, told_last}
use Rattle.ss_preamble.proofs.text.unexpected.Goals as goal
use Rattle.ss_preamble.proofs.text.unexpected.Goals.{in_default-past-via-in-Some+else-word-text}
use Rattle.ss_preamble.proofs.text.unexpected.Goals.{in_default-past-via-in-None+else-reached-text}

pub returns-in-Some : goal.returns-in-Some
returns-in-Some c =
    rw c.refused.ensures
    (told_limit c.args.text.now c.args.cursor.now c.saturating_sub-reached.result
    (omega (arith, c.saturating_sub-reached.ensures, c.len.ensures)) c.requires.stopped c.requires.begins c.in-Some.word
    (rw c.in-Some.is at c.in-Ok.ensures.some) (omega (arith, c.if-word-text.true)))

pub returns-in-None : goal.returns-in-None
returns-in-None c =
    rw c.refused-in-None.ensures
    (told_word c.args.text.now c.args.cursor.now c.saturating_sub-reached.result
    (omega (arith, c.saturating_sub-reached.ensures, c.len.ensures)) c.requires.stopped c.requires.begins
    (rw c.in-None.is at c.in-Ok.ensures.none) (omega (arith, c.if-reached-text.true)))

pub returns-in_default-past : goal.returns-in_default-past
returns-in_default-past c =
    rw (c.refused-in_default-past.ensures, c.saturating_sub.ensures) (elim c.in_default-past.branch [
      | in_default-past-via-in-Some+else-word-text w ↦ told_last c.args.text.now c.args.cursor.now
          c.saturating_sub-reached.result (omega (arith, c.saturating_sub-reached.ensures, c.len.ensures))
          c.requires.stopped c.requires.begins w.in-Some.word (rw w.in-Some.is at c.in-Ok.ensures.some)
          (omega (arith, w.if-word-text.false))
      | in_default-past-via-in-None+else-reached-text w ↦ told_end c.args.text.now c.args.cursor.now
          c.saturating_sub-reached.result (omega (arith, c.saturating_sub-reached.ensures, c.len.ensures))
          c.requires.stopped c.requires.begins (rw w.in-None.is at c.in-Ok.ensures.none)
          (omega (arith, w.if-reached-text.false))
    ])
