use Rattle.std.proofs.Common.{◌≡◌, ◌+◌, ◌∙◌, ap, arith, rules, Err}
use Rattle.ss_debug.specs.Answer.{report_text}
use Rattle.ss_session.proofs.Pieces.{appends_then}
use Rattle.ss_session.specs.Private.{TurnsEnd, ProgramEnds}
use Rattle.ss_session.specs.Transcript.{program_transcript}
use Rattle.ss_session.specs.declared.ending.Cut.TheVariants as cut
use Rattle.ss_session.proofs.Ends.{start_is, state_is, commands_cut}
use Rattle.ss_session.proofs.Parts.{part_right}
use Rattle.ss_session.proofs.answers.write_answers.Goals as goal

pub returns-in_err-obey_lines : goal.returns-in_err-obey_lines
returns-in_err-obey_lines g c =
    let s = start_is c.args.debugger.now c.requires.start c.requires.forgotten c.requires.breaks in
    let t = c.in_err-obey_lines.ensures in
    let e : c.from_residual.result ≡ Err c.in_err-obey_lines.field-0.0 = search (rules, c.from_residual) in
    rw e (commands_cut _ _ _ _ _ _ _ _ _ s t)

pub returns-in_err-put_both : goal.returns-in_err-put_both
unfolding TurnsEnd ProgramEnds program_transcript report_text
returns-in_err-put_both g c =
    let s = start_is c.args.debugger.now c.requires.start c.requires.forgotten c.requires.breaks in
    let t = rw s at c.in_ok-obey_lines.ensures in
    let k = rw c.machine-machine.ensures at c.known.ensures.state in
    let r = state_is _ _ _ _ _ t.1 k (ap (λ d. d.position) t.0) in
    let o = rw (c.report.ensures, c.machine-machine.ensures, r) at c.in_err-put_both.ensures.err in
    let e : c.from_residual-in_err-put_both.result ≡ Err cut.Write = search (rules, c.from_residual-in_err-put_both) in
    rw e (part_right _ _ _ _ _ t.2 o.0, o.1 ∙ ap (λ n. n + 1) t.3)

pub put_both-requires : goal.put_both-requires
unfolding TurnsEnd
put_both-requires g c =
    let t = c.in_ok-obey_lines.ensures in
    omega (arith, t.3)

pub returns : goal.returns
unfolding TurnsEnd ProgramEnds program_transcript report_text
returns g c =
    let s = start_is c.args.debugger.now c.requires.start c.requires.forgotten c.requires.breaks in
    let t = rw s at c.in_ok-obey_lines.ensures in
    let k = rw c.machine-machine.ensures at c.known.ensures.state in
    let r = state_is _ _ _ _ _ t.1 k (ap (λ d. d.position) t.0) in
    let o = rw (c.report.ensures, c.machine-machine.ensures, r) at c.in_ok-put_both.ensures.ok in
    let e = rw (c.status.ensures, c.machine-machine.ensures, r) at c.end.ensures in
    (e, appends_then _ _ _ _ _ t.2 o.0, o.1 ∙ t.3)
