use Rattle.std.proofs.Common.{◌≡◌, true, rules}
use Rattle.std.specs.Prelude.{is_some}
use Rattle.ss_prompt.specs.Misread.{text_place}
use Rattle.ss_prompt.proofs.Misreads.{quit_reads_no_text, placed, lines}
use Rattle.ss_prompt.proofs.prompt.PromptAnswerer.answer.Goals as goal

pub returns-in_err-misread-clause-quit : goal.returns-in_err-misread-clause-quit
returns-in_err-misread-clause-quit g c h =
    absurd (quit_reads_no_text c.program.result.now c.args.line.now c.prompt_command-command.result
    c.prompt_command-command.ensures h c.in_err-misread.ensures.memory)

pub returns-in_err-extend_from_slice-clause-memory : goal.returns-in_err-extend_from_slice-clause-memory
returns-in_err-extend_from_slice-clause-memory g c =
    let place : is_some (text_place c.prompt_command-command.result) ≡ true =
    placed _ c.prompt_command-command.result c.args.line.now c.in_ok-misread.field-0 c.in-Some.misread c.in-Some.is
    c.in_ok-misread.ensures.said in
    search (rules, lines)

pub returns-in_err-extend_from_slice-clause-quit : goal.returns-in_err-extend_from_slice-clause-quit
returns-in_err-extend_from_slice-clause-quit g c h =
    absurd (quit_reads_no_text c.program.result.now c.args.line.now c.prompt_command-command.result
    c.prompt_command-command.ensures h
    (placed _ c.prompt_command-command.result c.args.line.now c.in_ok-misread.field-0 c.in-Some.misread c.in-Some.is
    c.in_ok-misread.ensures.said))
