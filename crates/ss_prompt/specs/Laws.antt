-- Laws of the prompt, in other words than those of its definitions.
use Rattle.std.specs.Prelude.{ℕ, ℤ, ◌≡◌, ◌≤◌, ◌⊎◌, true, false, List, [], ◌∷◌}
use Rattle.std.specs.Prelude.{◌++◌, map, ⊤, Option, Some, None, Err}
use Rattle.ss_program.specs.Program.{ProgramTable}
use Rattle.ss_debug.specs.BreakLines.{break_lines}
use Rattle.ss_debug.specs.declared.commands.Command.{Command}
use Rattle.ss_debug.specs.declared.commands.Command.TheVariants.{Bad, Break}
use Rattle.ss_debug.specs.declared.commands.Question.TheVariants.{Variable, Entity, Set}
use Rattle.ss_debug.specs.Entities.{class_named}
use Rattle.ss_debug.specs.declared.limits.TheConstants.{GREATEST_LINE}
use Rattle.ss_debug.specs.CommandLines.{command_lines}
use Rattle.ss_debug.specs.Command.{command_of}
use Rattle.ss_state.specs.declared.limits.TheConstants.{LAST_POSITION}
use Rattle.ss_state.specs.Run.{Input, run}
use Rattle.ss_store.specs.Store.{number_of, exists}
use Rattle.ss_trace.specs.Laws.{AreReadyBefore}
use Rattle.ss_trace.specs.Question.{attribute_text, count_text}
use Rattle.ss_debug.specs.Turn.{DebuggerState, show_answer, answer}
use Rattle.ss_debug.specs.Turn.{debugger_state_after, debugger_state_after_lines, obeyed_lines}
use Rattle.ss_console.specs.Dialogue.{answered, state_after_all}
use Rattle.ss_console.specs.Lines.{lines, kept_part}
use Rattle.ss_console.specs.Laws.{answers}
use Rattle.ss_prompt.specs.declared.commands.PromptCommand.{PromptCommand}
use Rattle.ss_prompt.specs.declared.commands.PromptCommand.TheVariants.{Plain, ClearAll}
use Rattle.ss_prompt.specs.Left.{position_near}
use Rattle.ss_prompt.specs.Points.{is_movement, point_of, clears_all}
use Rattle.ss_prompt.specs.declared.missing.Missing.{Missing}
use Rattle.ss_prompt.specs.declared.missing.Missing.TheVariants as missing
use Rattle.ss_prompt.specs.Missing.{is_variable, has_attribute, listed, missing_text}
use Rattle.ss_prompt.specs.Places.{next_line}
use Rattle.ss_prompt.specs.Reading.{plain_meant, plain_command_of, prompt_command_of}
use Rattle.ss_prompt.specs.PromptState.{PromptState}
use Rattle.ss_prompt.specs.Prompting.{prompt_answer, prompt_state_after, prompt_meaning}

-- a line is a command of docs/DEBUGGER.md that is meant so at the prompt: all are meant so but
-- BREAK of a line without a place
abbrev pub IsPlain : ProgramTable → List ℕ → Type 0
IsPlain program line = (command_of line ≡ Bad → ⊥) × (plain_meant program (command_of line) ≡ Plain (command_of line))

-- each of some lines is such a command
unfoldable pub ArePlain : ProgramTable → List (List ℕ) → Type 0
ArePlain program [] = ⊤
ArePlain program (line ∷ lines) = IsPlain program line × ArePlain program lines

-- a line that is a command of docs/DEBUGGER.md is that command at the prompt, as it is meant there
abbrev pub PlainLinesStay : Type 0
PlainLinesStay =
    (program : ProgramTable) (line : List ℕ) → (command_of line ≡ Bad → ⊥) →
    prompt_command_of program line ≡ plain_meant program (command_of line)

-- a command is meant so, or is BREAK of a line without a place
abbrev pub IsMeant : ProgramTable → Command → Type 0
IsMeant program command =
    (plain_meant program command ≡ Plain command)
    ⊎ ((line : ℕ) × (command ≡ Break line) × (next_line program line ≡ Some line → ⊥))

-- that is so for every command
abbrev pub FewAreMeantOtherwise : Type 0
FewAreMeantOtherwise = (program : ProgramTable) (command : Command) → IsMeant program command

-- the answer begins with that of docs/DEBUGGER.md, and the debugger goes to the same state as there
abbrev pub PlainAnswersComeFirst : Type 0
PlainAnswersComeFirst =
    (s : PromptState) (command : Command) →
    ((rest : List ℕ) × (prompt_answer s (Plain command) ≡ answer s.input s.debugger command ++ rest))
    × ((prompt_state_after s (Plain command)).debugger ≡ debugger_state_after s.input s.debugger command)

-- a text is the answers of docs/DEBUGGER.md to some lines, in order, after each perhaps more text
unfoldable pub AnswersFirst : Input → DebuggerState → List (List ℕ) → List ℕ → Type 0
AnswersFirst input debugger [] text = text ≡ []
AnswersFirst input debugger (line ∷ lines) text =
    (more rest : List ℕ) × (text ≡ answer input debugger (command_of line) ++ more ++ rest)
    × AnswersFirst input (debugger_state_after input debugger (command_of line)) lines rest

-- that is so for the answers of the prompt to lines that are all such commands, up to the first
-- QUIT: for the answers of a transcript
abbrev pub PlainLinesAnswerTheBatch : Type 0
PlainLinesAnswerTheBatch =
    (s : PromptState) (lines : List (List ℕ)) → ArePlain s.input.program lines →
    AnswersFirst s.input s.debugger (obeyed_lines lines) (answers prompt_meaning s lines)

-- and they lead to the state whose report a transcript shows
abbrev pub PlainLinesLeadAsTheBatch : Type 0
PlainLinesLeadAsTheBatch =
    (s : PromptState) (lines : List (List ℕ)) → ArePlain s.input.program lines →
    (state_after_all prompt_meaning s (map answered lines)).debugger
    ≡ debugger_state_after_lines s.input s.debugger lines

-- the lines that a console gives are those of a batch
abbrev pub LinesAreThoseOfTheBatch : Type 0
LinesAreThoseOfTheBatch = (text : List ℕ) → lines text ≡ command_lines text

-- the kept part of a line gives the same command as the line
abbrev pub KeptLinesSayTheSame : Type 0
KeptLinesSayTheSame =
    (program : ProgramTable) (line : List ℕ) →
    (prompt_command_of program (kept_part line) ≡ prompt_command_of program line)
    × (plain_command_of (kept_part line) ≡ plain_command_of line)

-- so a text whose lines are all such commands is answered with the answers of its transcript
abbrev pub PlainTextsAnswerTheBatch : Type 0
PlainTextsAnswerTheBatch =
    (s : PromptState) (text : List ℕ) → ArePlain s.input.program (command_lines text) →
    AnswersFirst s.input s.debugger (obeyed_lines (command_lines text))
    (answers prompt_meaning s (map kept_part (lines text)))

-- a command that names no line of the model, and does not clear all, leaves the break lines
abbrev pub OthersLeaveTheBreakLines : Type 0
OthersLeaveTheBreakLines =
    (s : PromptState) (command : PromptCommand) → point_of s.input.program command ≡ None →
    clears_all command ≡ false → (prompt_state_after s command).debugger.breaks ≡ s.debugger.breaks

-- each of some lines is one that BREAK and CLEAR take
abbrev pub AreTaken : List ℕ → Type 0
AreTaken [] = ⊤
AreTaken (line ∷ lines) = (line ≤ GREATEST_LINE) × AreTaken lines

-- after CLEAR without a line there is no break line, if BREAK takes each
abbrev pub ClearLeavesNoBreakLine : Type 0
ClearLeavesNoBreakLine =
    (s : PromptState) → AreTaken (break_lines s.debugger.breaks) → (prompt_state_after s ClearAll).debugger.breaks ≡ []

-- one that is no movement leaves the debugger at its position
abbrev pub OthersStandStill : Type 0
OthersStandStill =
    (s : PromptState) (command : PromptCommand) → is_movement command ≡ false →
    (prompt_state_after s command).debugger.position ≡ s.debugger.position

-- the state with which SHOW CHANGED compares is the one that was left, if that is kept: GO leads to
-- each kept position after states that are ready, as all are that a debugger was at
abbrev pub LeftStatesAreFound : Type 0
LeftStatesAreFound =
    (s : PromptState) (p : ℕ) → s.debugger.earliest ≤ p → p ≤ LAST_POSITION → AreReadyBefore s.input p →
    position_near s p ≡ p

-- a variable that no section has is missing in every state
abbrev pub MissingVariablesAreAnsweredSo : Type 0
MissingVariablesAreAnsweredSo =
    (input : Input) (name : List ℕ) (p : ℕ) → is_variable input.program name ≡ false →
    show_answer input p (Variable name) ≡ missing_text (missing.Variable name)

-- so is a list that no set has, or none for an owner
abbrev pub MissingListsAreAnsweredSo : Type 0
MissingListsAreAnsweredSo =
    (input : Input) (name : List ℕ) (owner : Option ℤ) (m : Missing) (p : ℕ) →
    listed input.program name owner ≡ Err m →
    (show_answer input p (Set name owner) ≡ missing_text m) × (count_text name owner input p ≡ missing_text m)

-- a class
abbrev pub MissingClassesAreAnsweredSo : Type 0
MissingClassesAreAnsweredSo =
    (input : Input) (class : List ℕ) (x : ℤ) (name : List ℕ) (p : ℕ) → class_named input.program class ≡ None →
    (show_answer input p (Entity class x) ≡ missing_text (missing.Class class))
    × (attribute_text class x name input p ≡ missing_text (missing.Class class))

-- and an attribute, if its entity is there
abbrev pub MissingAttributesAreAnsweredSo : Type 0
MissingAttributesAreAnsweredSo =
    (input : Input) (class : List ℕ) (x : ℤ) (name : List ℕ) (c p : ℕ) → class_named input.program class ≡ Some c →
    has_attribute input.program c name ≡ false → exists (run input p).store c (number_of x) ≡ true →
    attribute_text class x name input p ≡ missing_text (missing.Attribute name)
