use Rattle.std.proofs.Common.{arith}
use Rattle.ss_preamble.specs.View.{decls_view}
use Rattle.ss_preamble.proofs.AnswerAtStop.{told_past, told_items}
use Rattle.ss_preamble.proofs.text.declared.Goals as goal

pub returns-in-Some-clause-refused : goal.returns-in-Some-clause-refused
returns-in-Some-clause-refused c =
    rw c.refused.ensures
    (told_past c.args.text.now c.args.cursor.now c.saturating_sub-reached.result
    (omega (arith, c.saturating_sub-reached.ensures, c.len.ensures)) (decls_view c.args.decls) c.requires.read
    c.requires.begins c.in-Some.word (rw c.in-Some.is at c.in_ok-word.ensures.some))

pub returns-in-None-clause-declared : goal.returns-in-None-clause-declared
returns-in-None-clause-declared c =
    told_items c.args.text.now c.args.cursor.now c.saturating_sub-reached.result
    (omega (arith, c.saturating_sub-reached.ensures, c.len.ensures)) (decls_view c.args.decls) c.requires.read
    c.number_behind.result (rw c.in-None.is at c.in_ok-word.ensures.none) c.number_behind.ensures
