-- The parts of the debugger's states that replies show: their bodies, each read off one state of
-- the run.
use Rattle.std.specs.Prelude.{ℕ, Bool, true, false, not, ◌&&◌, List, ◌++◌, codes, nat_eq}
use Rattle.std.specs.Prelude.{Option, Some, None, Result, Ok, Err, if◌then◌else◌}
use Rattle.std.specs.Option.{option_or}
use Rattle.ss_words.specs.Faults.{run_fault_number}
use Rattle.ss_sentences.specs.Wording.{fault_sentence}
use Rattle.ss_state.specs.declared.status.Status.{Status}
use Rattle.ss_state.specs.declared.status.Status.TheVariants.{Ready, Stopped, Finished, Faulted}
use Rattle.ss_program.specs.Program.{ProgramTable}
use Rattle.ss_state.specs.Run.{Input, run}
use Rattle.ss_debug.specs.declared.commands.Command.{Command}
use Rattle.ss_debug.specs.declared.commands.Command.TheVariants.{Show}
use Rattle.ss_debug.specs.Answer.{status_text}
use Rattle.ss_debug.specs.BreakLines.{BreakPoint}
use Rattle.ss_debug.specs.Move.{is_ready_at, is_on_break, line_at}
use Rattle.ss_trace.specs.declared.question.Question.{Question}
use Rattle.ss_trace.specs.declared.question.Question.TheVariants.{Shown}
use Rattle.ss_prompt.specs.declared.commands.PromptCommand.{PromptCommand}
use Rattle.ss_prompt.specs.declared.commands.PromptCommand.TheVariants.{Plain, Ask, Display, Meant, Missing}
use Rattle.ss_prompt.specs.declared.missing.Missing.{Missing as NoName}
use Rattle.ss_debug.specs.CommandLines.{command_words}
use Rattle.ss_prompt.specs.declared.manner.Manner.TheVariants as manners
use Rattle.ss_prompt.specs.Missing.{asked_of_program, bare_question}
use Rattle.ss_prompt.specs.Words.{only_name_of}
use Rattle.ss_prompt.specs.Reading.{prompt_command_of}
use Rattle.ss_messages.specs.Bodies.{exception_body}
use Rattle.ss_adapter.specs.Places.{line_id}

-- ---- the position of the run

-- why it stops in state p that is ready
abbrev pub ready_reason : Input → List BreakPoint → ℕ → List ℕ
ready_reason input breaks p =
    if nat_eq p 0 then codes "entry" else
    if is_on_break input breaks p then codes "breakpoint" else codes "step"

-- why it stops with this status
abbrev pub reason_by : Status → List ℕ → List ℕ
reason_by Ready ready = ready
reason_by Stopped ready = codes "end"
reason_by Finished ready = codes "end"
reason_by (Faulted f) ready = codes "exception"

-- why it stops in state p
abbrev pub reason_at : Input → List BreakPoint → ℕ → List ℕ
reason_at input breaks p = reason_by (run input p).status (ready_reason input breaks p)

-- whether it stops in state p because of a break line
abbrev pub is_hit : Input → List BreakPoint → ℕ → Bool
is_hit input breaks p = is_ready_at input p && not (nat_eq p 0) && is_on_break input breaks p

-- the break line at which it stops, if it stops because of that
abbrev pub hit_at : Input → List BreakPoint → ℕ → Option ℕ
hit_at input breaks p = if is_hit input breaks p then line_id (line_at input p) else None

-- whether a run has ended with this status, by no fault
abbrev pub is_end : Status → Bool
is_end Stopped = true
is_end Finished = true
is_end _ = false

-- whether a run with this status is over for the editor: at its end, if it doesn't stop there
abbrev pub is_over : Bool → Status → Bool
is_over at_end status = not at_end && is_end status

-- the fault of a status
abbrev pub exception_by : Status → Option (List ℕ)
exception_by (Faulted f) = Some (exception_body (status_text (Faulted f)) (fault_sentence (run_fault_number f)))
exception_by _ = None

-- ---- questions

-- the question of a command of the debugger, as a program has its names, or which of them it hasn't
abbrev pub named_in : ProgramTable → Command → Option (Result Question NoName)
named_in program (Show q) = Some (asked_of_program program (Shown q))
named_in program _ = None

-- the question that a line of the prompt asks, or has answered at each stop, as that of a bare name; or its unknown
-- name
abbrev pub named_by : ProgramTable → PromptCommand → Option (Result Question NoName)
named_by program (Plain command) = named_in program command
named_by program (Ask x) = Some (Ok x)
named_by program (Display x) = Some (Ok x)
named_by program (Missing m) = Some (Err m)
named_by program (Meant manners.Display text numbered) =
    bare_question program (only_name_of (command_words text))
named_by program _ = None

-- the question that an expression is: a text that may follow DISPLAY, or a line of the prompt
abbrev pub asked_of : ProgramTable → List ℕ → Option (Result Question NoName)
asked_of program text =
    option_or (named_by program (prompt_command_of program (codes "DISPLAY " ++ text)))
    (named_by program (prompt_command_of program text))

-- a question, if a program has its names
abbrev pub known : Option (Result Question NoName) → Option Question
known (Some (Ok x)) = Some x
known _ = None

-- the question that an expression is, if a program has its names
abbrev pub question_of : ProgramTable → List ℕ → Option Question
question_of program text = known (asked_of program text)

-- why a text is no question on a program, if it is none
abbrev pub question_fault : Option (Result Question NoName) → Option (List ℕ)
question_fault None = Some (codes "no question")
question_fault (Some (Err m)) = Some (codes "nothing has this name")
question_fault (Some (Ok x)) = None
