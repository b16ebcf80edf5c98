use Rattle.std.proofs.Common.{◌≡◌, sym, ◌∙◌, rules, Err}
use Rattle.ss_session.specs.Texts.{Texts}
use Rattle.ss_session.specs.Model.{refused_text, refused_check}
use Rattle.ss_session.specs.Private.{LineEnds, fault_of}
use Rattle.ss_session.specs.declared.ending.SessionFault.TheVariants.{Memory}
use Rattle.ss_session.proofs.Loads.{told_as}
use Rattle.ss_session.proofs.Ends.{text_written, check_written, line_cut, none_yet, program_ends, program_cut}
use Rattle.ss_session.proofs.whole.session_by_cases.Goals as goal

pub returns-in-Memory : goal.returns-in-Memory
returns-in-Memory g c = none_yet _ _ _

pub returns-in_ok-refuse-in-Text : goal.returns-in_ok-refuse-in-Text
unfolding LineEnds
returns-in_ok-refuse-in-Text g c =
    text_written _ _ _ _ _ _ _ (told_as _ _ _ c.in-Err.ensures.err (sym c.refused_by.ensures ∙ c.in-Text.is))
    (rw c.code.ensures at c.in_ok-refuse-in-Text.ensures)

pub returns-in_err-refuse-in-Text : goal.returns-in_err-refuse-in-Text
returns-in_err-refuse-in-Text g c =
    let x : Texts = record {
      model = c.args.model.now;
      data_text = c.args.data_text.now;
      commands = c.args.commands.now;
    } in
    let e : c.from_residual.result ≡ Err (fault_of c.in_err-refuse-in-Text.field-0.0) = search rules in
    rw e (line_cut x _ _ _ _ (refused_text _ _) _
    (told_as _ _ _ c.in-Err.ensures.err (sym c.refused_by.ensures ∙ c.in-Text.is)) (rw c.code.ensures at c.in_err-refuse-in-Text.ensures))

pub returns-in_ok-refuse-in-Check : goal.returns-in_ok-refuse-in-Check
unfolding LineEnds
returns-in_ok-refuse-in-Check g c =
    check_written _ _ _ _ _ _ _ (told_as _ _ _ c.in-Err.ensures.err (sym c.refused_by.ensures ∙ c.in-Check.is))
    (rw c.code-in-Check.ensures at c.in_ok-refuse-in-Check.ensures)

pub returns-in_err-refuse-in-Check : goal.returns-in_err-refuse-in-Check
returns-in_err-refuse-in-Check g c =
    let x : Texts = record {
      model = c.args.model.now;
      data_text = c.args.data_text.now;
      commands = c.args.commands.now;
    } in
    let e : c.from_residual-in_err-refuse-in-Check.result ≡ Err (fault_of c.in_err-refuse-in-Check.field-0.0) =
    search rules in
    rw e (line_cut x _ _ _ _ (refused_check _ _) _
    (told_as _ _ _ c.in-Err.ensures.err (sym c.refused_by.ensures ∙ c.in-Check.is)) (rw c.code-in-Check.ensures at c.in_err-refuse-in-Check.ensures))

pub returns-in_err-machine-in-Ok : goal.returns-in_err-machine-in-Ok
returns-in_err-machine-in-Ok g c =
    let e : c.from_residual-in_err-machine-in-Ok.result ≡ Err Memory = search rules in
    rw e (none_yet _ _ _)

pub returns-in_ok-write_transcript-in-Ok : goal.returns-in_ok-write_transcript-in-Ok
returns-in_ok-write_transcript-in-Ok g c =
    let x : Texts = record {
      model = c.args.model.now;
      data_text = c.args.data_text.now;
      commands = c.args.commands.now;
    } in
    program_ends x _ _ _ _ _ _ c.in-Ok.ensures.ok
    (rw c.in_ok-machine-in-Ok.ensures.input at c.in_ok-write_transcript-in-Ok.ensures)

pub returns-in_err-write_transcript-in-Ok : goal.returns-in_err-write_transcript-in-Ok
returns-in_err-write_transcript-in-Ok g c =
    let x : Texts = record {
      model = c.args.model.now;
      data_text = c.args.data_text.now;
      commands = c.args.commands.now;
    } in
    let e : c.from_residual-in_err-write_transcript-in-Ok.result ≡ Err
    (fault_of c.in_err-write_transcript-in-Ok.field-0.0) = search rules in
    rw e (program_cut x _ _ _ _ _ _ c.in-Ok.ensures.ok
    (rw c.in_ok-machine-in-Ok.ensures.input at c.in_err-write_transcript-in-Ok.ensures))
