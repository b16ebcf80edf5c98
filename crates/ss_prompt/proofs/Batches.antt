-- Lines that are all commands of docs/DEBUGGER.md, at the prompt.
use Rattle.std.proofs.Common.{◌≡◌, Bool, true, false, ℕ, List, [], ◌∷◌, ◌++◌, map, refl, ◌∙◌, ap}
use Rattle.std.specs.Prelude.{if◌then◌else◌}
use Rattle.ss_state.specs.Run.{Input}
use Rattle.ss_debug.specs.declared.commands.Command.{Command}
use Rattle.ss_debug.specs.Command.{command_of}
use Rattle.ss_debug.specs.Turn.{DebuggerState, debugger_state_after, debugger_state_after_lines}
use Rattle.ss_debug.specs.Turn.{obeyed_lines, is_quit}
use Rattle.ss_console.specs.Dialogue.{answered, state_after_all}
use Rattle.ss_console.specs.Laws.{answers}
use Rattle.ss_prompt.specs.declared.commands.PromptCommand.TheVariants.{Plain}
use Rattle.ss_prompt.specs.PromptState.{PromptState, with_listed, with_left}
use Rattle.ss_prompt.specs.Left.{left_after}
use Rattle.ss_prompt.specs.Listed.{listed_after}
use Rattle.ss_prompt.specs.Plain.{plain_next, plain_said, plain_stop}
use Rattle.ss_prompt.specs.Misread.{line_misread}
use Rattle.ss_prompt.specs.Prompting.{prompt_meaning, prompt_answer, prompt_state_after, state_led, line_next}
use Rattle.ss_program.specs.Program.{ProgramTable}
use Rattle.ss_prompt.specs.Reading.{plain_command_of, prompt_command_of}
use Rattle.ss_prompt.specs.Laws.{IsPlain, ArePlain, AnswersFirst, PlainLinesAnswerTheBatch, PlainLinesLeadAsTheBatch}
use Rattle.ss_prompt.proofs.Plains.{plain_read, plain_lines}

-- after a line that ends the batch no line counts
up_to : (ends : Bool) (t : Input) (d : DebuggerState) (lines : List (List ℕ)) (text : List ℕ) →
    AnswersFirst t d lines text → AnswersFirst t d (if ends then [] else lines) (if ends then [] else text)
unfolding AnswersFirst
up_to true t d lines text h = refl
up_to false t d lines text h = h

-- the state after the plain command c
abbrev plain_after : PromptState → Command → PromptState
plain_after s c = with_left (with_listed (plain_next s c) (listed_after s (Plain c))) (left_after s (Plain c))

-- the answer to a line that is the plain command c, and the answers to the lines after it
abbrev with_rest : PromptState → Command → List (List ℕ) → List ℕ
with_rest s c lines =
    plain_said s c ++ (if is_quit c then [] else answers prompt_meaning (plain_after s c) lines)

-- the answers to a line and to the lines after it
answered_line : (s : PromptState) (line : List ℕ) (lines : List (List ℕ)) →
    prompt_command_of s.input.program line ≡ Plain (command_of line) → plain_command_of line ≡ command_of line →
    answers prompt_meaning s (line ∷ lines) ≡ with_rest s (command_of line) lines
unfolding answers prompt_answer prompt_state_after state_led line_misread
answered_line s line lines e f = rw (e, f) refl

-- a line that is meant so is that command
meant : (program : ProgramTable) (line : List ℕ) → IsPlain program line →
    prompt_command_of program line ≡ Plain (command_of line)
meant program line h = plain_lines program line h.0 ∙ h.1

pub plain_batch : PlainLinesAnswerTheBatch
unfolding ArePlain AnswersFirst answers
plain_batch s [] h = refl
plain_batch s (line ∷ lines) h =
    let c = command_of line in
    let rest : List ℕ = if is_quit c then [] else answers prompt_meaning (plain_after s c) lines in (
      plain_stop s c,
      rest,
      answered_line s line lines (meant s.input.program line h.0) (plain_read line h.0.0),
      up_to (is_quit c) s.input (debugger_state_after s.input s.debugger c) (obeyed_lines lines)
          (answers prompt_meaning (plain_after s c) lines) (plain_batch (plain_after s c) lines h.1),
    )

-- the state after a line
led_line : (s : PromptState) (line : List ℕ) →
    prompt_command_of s.input.program line ≡ Plain (command_of line) → line_next s line ≡ plain_after s (command_of line)
unfolding prompt_state_after state_led line_misread
led_line s line e = rw e refl

pub plain_led : PlainLinesLeadAsTheBatch
unfolding ArePlain state_after_all debugger_state_after_lines
plain_led s [] h = refl
plain_led s (line ∷ lines) h =
    ap (λ (v : PromptState). (state_after_all prompt_meaning v (map answered lines)).debugger)
    (led_line s line (meant s.input.program line h.0))
    ∙ plain_led (plain_after s (command_of line)) lines h.1
