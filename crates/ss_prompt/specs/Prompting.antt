-- The meaning of a dialogue with the debugger.
use Rattle.std.specs.Prelude.{ℕ, ◌≡◌, List, Bool, false, Option}
use Rattle.ss_debug.specs.declared.commands.Command.TheVariants.{Break, Clear}
use Rattle.ss_debug.specs.Turn.{is_quit as is_plain_quit}
use Rattle.ss_trace.specs.Question.{answer_at, question_text}
use Rattle.ss_prompt.specs.declared.shown.Shown.TheVariants.{Asked}
use Rattle.ss_console.specs.Meaning.{Meaning}
use Rattle.ss_prompt.specs.declared.commands.PromptCommand.{PromptCommand}
use Rattle.ss_prompt.specs.declared.commands.PromptCommand.TheVariants.{Plain, Travel, Once, Lines, SectionLines}
use Rattle.ss_prompt.specs.declared.commands.PromptCommand.TheVariants.{BreakSection, BreakWhen, ClearSection, ClearAll}
use Rattle.ss_prompt.specs.declared.commands.PromptCommand.TheVariants.{Breaks}
use Rattle.ss_prompt.specs.declared.commands.PromptCommand.TheVariants.{Changed, Missing, NoPlace}
use Rattle.ss_prompt.specs.declared.commands.PromptCommand.TheVariants.{LinesBetween, UndisplayOne, Unread}
use Rattle.ss_prompt.specs.declared.commands.PromptCommand.TheVariants.{Value, Until, Meant}
use Rattle.ss_prompt.specs.declared.commands.PromptCommand.TheVariants.{Ask, See, Why, History, Display, Undisplay}
use Rattle.ss_prompt.specs.declared.commands.PromptCommand.TheVariants.{Names, Warnings, Help, Cause, Reads}
use Rattle.ss_prompt.specs.Reading.{plain_command_of, prompt_command_of}
use Rattle.ss_prompt.specs.PromptState.{PromptState, with_listed, with_left}
use Rattle.ss_prompt.specs.Plain.{plain_next, plain_said, IsPlainRefused}
use Rattle.ss_prompt.specs.Travel.{travel_next, travel_said, IsTravelRefused}
use Rattle.ss_prompt.specs.Once.{once_said, once_next, IsOnceRefused}
use Rattle.ss_prompt.specs.Sections.{on_section_said, on_section_next}
use Rattle.ss_prompt.specs.Breaks.{breaks_said}
use Rattle.ss_prompt.specs.BreakWhen.{when_said, when_next}
use Rattle.ss_prompt.specs.Cleared.{clear_all_said, clear_all_next, IsClearRefused}
use Rattle.ss_prompt.specs.Listing.{lines_said, lines_between_said, section_lines_said}
use Rattle.ss_prompt.specs.Listed.{listed_after}
use Rattle.ss_prompt.specs.Missing.{missing_text}
use Rattle.ss_prompt.specs.Places.{no_place_text}
use Rattle.ss_prompt.specs.Displays.{display_said, display_next, undisplay_said, undisplay_next}
use Rattle.ss_prompt.specs.Displays.{undisplay_one_said, undisplay_one_next}
use Rattle.ss_prompt.specs.Sights.{sight_said}
use Rattle.ss_prompt.specs.Histories.{why_said, history_said, HasLookedBack}
use Rattle.ss_prompt.specs.Causes.{cause_said, cause_next, IsCauseRefused}
use Rattle.ss_prompt.specs.Left.{left_after, changed_said, IsChangedRefused}
use Rattle.ss_prompt.specs.Names.{names_said, warnings_said}
use Rattle.ss_prompt.specs.Advice.{unread_text}
use Rattle.ss_prompt.specs.Valued.{value_said}
use Rattle.ss_prompt.specs.Until.{until_said, until_next, IsUntilRefused}
use Rattle.ss_prompt.specs.Meant.{meant_said, meant_next, IsMeantRefused}
use Rattle.ss_prompt.specs.Reads.{reads_said}
use Rattle.ss_prompt.specs.Help.{help_said}
use Rattle.ss_prompt.specs.Misread.{text_place, line_misread, said_or, next_or, IsRefusedAt}
use Rattle.ss_prompt.specs.Refusal.{refusal_at}

-- the answer to a command
unfoldable pub prompt_answer : PromptState → PromptCommand → List ℕ
prompt_answer state (Plain command) = plain_said state command
prompt_answer state (Travel m) = travel_said state m
prompt_answer state (Once line) = once_said state line
prompt_answer state (Lines line) = lines_said state line
prompt_answer state (LinesBetween from to) = lines_between_said state from to
prompt_answer state (SectionLines name) = section_lines_said state name
prompt_answer state (BreakSection name) = on_section_said state Break name
prompt_answer state (BreakWhen place text numbered) = when_said state place text numbered
prompt_answer state (NoPlace line next) = no_place_text line next
prompt_answer state (ClearSection name) = on_section_said state Clear name
prompt_answer state ClearAll = clear_all_said state
prompt_answer state Breaks = breaks_said state
prompt_answer state (Ask x) = answer_at state.input x state.debugger.position
prompt_answer state (See sight) = sight_said sight state.input state.debugger.position
prompt_answer state Changed = changed_said state
prompt_answer state (Why x) = why_said state x
prompt_answer state (Cause command) = cause_said state command
prompt_answer state (History x rows) = history_said state x rows
prompt_answer state (Display q) = display_said state (Asked q)
prompt_answer state Undisplay = undisplay_said state
prompt_answer state (UndisplayOne q) = undisplay_one_said state (question_text q)
prompt_answer state (Value text numbered) = value_said state text numbered
prompt_answer state (Until way text numbered) = until_said state way text numbered
prompt_answer state (Meant manner text numbered) = meant_said state manner text numbered
prompt_answer state Reads = reads_said state
prompt_answer state (Missing m) = missing_text m
prompt_answer state (Unread word numbered) = unread_text word numbered
prompt_answer state (Names name) = names_said state.model name
prompt_answer state Warnings = warnings_said state.input.program state.model
prompt_answer state (Help word) = help_said word

-- the state after a command, but for the line after which LIST goes on and the position that was left
unfoldable pub state_led : PromptState → PromptCommand → PromptState
state_led state (Plain command) = plain_next state command
state_led state (Travel m) = travel_next state m
state_led state (Once line) = once_next state line
state_led state (Until way text numbered) = until_next state way text
state_led state (Meant manner text numbered) = meant_next state manner text
state_led state (Cause command) = cause_next state command
state_led state (BreakSection name) = on_section_next state Break name
state_led state (BreakWhen place text numbered) = when_next state place text
state_led state (ClearSection name) = on_section_next state Clear name
state_led state ClearAll = clear_all_next state
state_led state (Display q) = display_next state (Asked q)
state_led state Undisplay = undisplay_next state
state_led state (UndisplayOne q) = undisplay_one_next state (question_text q)
state_led state _ = state

-- the state after a command
unfoldable pub prompt_state_after : PromptState → PromptCommand → PromptState
prompt_state_after state command =
    with_left (with_listed (state_led state command) (listed_after state command)) (left_after state command)

-- whether a command ends the dialogue: only QUIT does
abbrev pub is_quit : PromptCommand → Bool
is_quit (Plain command) = is_plain_quit command
is_quit _ = false

-- if memory was refused: a movement was made in part or whole, and the debugger is then perhaps one
-- step away, or, at a fault on which the history has a text, at an earlier state; the line of
-- TBREAK is perhaps still a break line; CLEAR cleared perhaps the first break lines; WHY, HISTORY and
-- READS left the debugger perhaps at an earlier state, SHOW CHANGED one step away or on the way to the
-- position that was left; other commands changed nothing
unfoldable pub IsRefused : PromptState → PromptCommand → PromptState → Type 0
IsRefused state (Plain command) after = IsPlainRefused state command after
IsRefused state (Travel m) after = IsTravelRefused state m after
IsRefused state (Once line) after = IsOnceRefused state line after
IsRefused state (Until way text numbered) after = IsUntilRefused state way text after
IsRefused state (Meant manner text numbered) after = IsMeantRefused state manner text after
IsRefused state ClearAll after = IsClearRefused state after
IsRefused state Changed after = IsChangedRefused state after
IsRefused state (Why x) after = HasLookedBack state after
IsRefused state (Cause command) after = IsCauseRefused state command after
IsRefused state (History x rows) after = HasLookedBack state after
IsRefused state Reads after = HasLookedBack state after
IsRefused state _ after = after ≡ state

-- the answer if memory was refused, in the state in which that left the debugger
abbrev pub refusal_text : PromptState → List ℕ
refusal_text state = refusal_at state.input state.debugger.position

-- the command in a line, by the names of the program
abbrev pub command_in : PromptState → List ℕ → PromptCommand
command_in state line = prompt_command_of state.input.program line

-- why a text in a line is not what it has to be
abbrev pub misread_in : PromptState → List ℕ → Option (List ℕ)
misread_in state line = line_misread (command_in state line) line

-- the answer to a line
abbrev pub line_said : PromptState → List ℕ → List ℕ
line_said state line = said_or (misread_in state line) (prompt_answer state (command_in state line))

-- the state after a line
abbrev pub line_next : PromptState → List ℕ → PromptState
line_next state line = next_or (misread_in state line) state (prompt_state_after state (command_in state line))

-- if memory was refused at a line
abbrev pub IsLineRefused : PromptState → List ℕ → PromptState → Type 0
IsLineRefused state line after =
    IsRefusedAt (text_place (command_in state line)) state after (IsRefused state (command_in state line) after)

-- a dialogue with the debugger
abbrev pub prompt_meaning : Meaning
prompt_meaning = record {
  State = PromptState;
  position = λ s. s.debugger.position;
  said = line_said;
  next = line_next;
  ends = λ line. is_plain_quit (plain_command_of line);
  refusal = refusal_text;
  MayBeLeft = IsLineRefused;
}
