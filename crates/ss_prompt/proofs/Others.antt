-- The parts of the state that commands leave as they are.
use Rattle.std.proofs.Common.{◌≡◌, ℕ, Bool, true, false, nat_le, List, [], ◌∷◌, Option, Some, None, refl, ◌∙◌}
use Rattle.ss_state.specs.Run.{Input}
use Rattle.ss_debug.specs.BreakLines.{break_lines}
use Rattle.ss_debug.specs.Turn.{DebuggerState, debugger_state_after}
use Rattle.ss_debug.specs.declared.commands.Command.{Command}
use Rattle.ss_debug.specs.declared.commands.Command.TheVariants as plain
use Rattle.ss_prompt.specs.declared.commands.PromptCommand.TheVariants as prompt
use Rattle.ss_debug.specs.declared.limits.TheConstants.{GREATEST_LINE}
use Rattle.ss_prompt.specs.declared.causes.CauseCommand.TheVariants as causes
use Rattle.ss_prompt.specs.BreakPlaces.{point_at}
use Rattle.ss_prompt.specs.Cleared.{after_clear}
use Rattle.ss_prompt.specs.Laws.{OthersLeaveTheBreakLines, OthersStandStill}
use Rattle.ss_prompt.specs.Points.{is_movement, point_of}
use Rattle.ss_prompt.specs.Prompting.{prompt_state_after, state_led}
use Rattle.ss_prompt.specs.PromptState.{PromptState}
use Rattle.ss_prompt.specs.Sections.{command_on, taken_line, line_of_section, on_line_next}
use Rattle.ss_prompt.specs.Until.{aim_by}
use Rattle.ss_prompt.specs.declared.manner.Manner.TheVariants.{Why, History, RunChange, BackChange, Display}
use Rattle.ss_prompt.specs.declared.manner.Manner.TheVariants.{Undisplay}
use Rattle.ss_prompt.specs.Meant.{meaning_in}
use Rattle.ss_prompt.proofs.Aims.{until_breaks}
use Rattle.ss_prompt.proofs.MeantChanges.{meant_breaks, displayed_position, undisplayed_position}
use Rattle.ss_prompt.proofs.BreakWhens.{when_breaks, when_stands}

-- ---- the break lines

plain_breaks : (s : PromptState) (command : Command) → point_of s.input.program (prompt.Plain command) ≡ None →
    (debugger_state_after s.input s.debugger command).breaks ≡ s.debugger.breaks
unfolding debugger_state_after
plain_breaks s plain.Blank h = refl
plain_breaks s plain.Bad h = refl
plain_breaks s (plain.Move movement) h = refl
plain_breaks s (plain.Break line) h = absurd (cc)
plain_breaks s (plain.Clear line) h = absurd (cc)
plain_breaks s (plain.Forget count) h = refl
plain_breaks s (plain.Show question) h = refl
plain_breaks s plain.Quit h = refl

-- BREAK or CLEAR of a line that they don't take
untaken : (s : PromptState) (make : ℕ → Command) (line : ℕ) (taken : Bool) → nat_le line GREATEST_LINE ≡ taken →
    taken_line (Some line) ≡ None →
    (debugger_state_after s.input s.debugger (command_on make line)).breaks ≡ s.debugger.breaks
unfolding debugger_state_after
untaken s make line true e h = let some : Some line ≡ None = rw e at h in absurd (cc)
untaken s make line false e h = rw e refl

on_line : (s : PromptState) (make : ℕ → Command) (line : Option ℕ) → taken_line line ≡ None →
    (on_line_next s make line).debugger.breaks ≡ s.debugger.breaks
on_line s make None h = refl
on_line s make (Some line) h = untaken s make line (nat_le line GREATEST_LINE) refl h

pub breaks : OthersLeaveTheBreakLines
unfolding prompt_state_after state_led
breaks s (prompt.Plain command) h k = plain_breaks s command h
breaks s (prompt.Travel movement) h k = refl
breaks s (prompt.Once line) h k = absurd (cc)
breaks s (prompt.Lines line) h k = refl
breaks s (prompt.LinesBetween from to) h k = refl
breaks s (prompt.SectionLines name) h k = refl
breaks s (prompt.BreakSection name) h k = on_line s plain.Break (line_of_section s.input.program name) h
breaks s (prompt.BreakWhen place text numbered) h k = when_breaks s place text h
breaks s (prompt.NoPlace line next) h k = refl
breaks s (prompt.ClearSection name) h k = on_line s plain.Clear (line_of_section s.input.program name) h
breaks s prompt.ClearAll h k = absurd (cc)
breaks s prompt.Breaks h k = refl
breaks s (prompt.Ask question) h k = refl
breaks s (prompt.See sight) h k = refl
breaks s prompt.Changed h k = refl
breaks s (prompt.Why question) h k = refl
breaks s (prompt.Cause causes.Why) h k = refl
breaks s (prompt.Cause causes.Back) h k = refl
breaks s (prompt.History question rows) h k = refl
breaks s (prompt.Display question) h k = refl
breaks s prompt.Undisplay h k = refl
breaks s (prompt.UndisplayOne question) h k = refl
breaks s (prompt.Value text numbered) h k = refl
breaks s (prompt.Until way text numbered) h k = until_breaks s way (aim_by s text s.symbols)
breaks s (prompt.Meant manner text numbered) h k = meant_breaks s manner text
breaks s (prompt.Unread word numbered) h k = refl
breaks s (prompt.Missing missing) h k = refl
breaks s (prompt.Names name) h k = refl
breaks s prompt.Reads h k = refl
breaks s prompt.Warnings h k = refl
breaks s (prompt.Help word) h k = refl

-- ---- the position

plain_position : (s : PromptState) (command : Command) → is_movement (prompt.Plain command) ≡ false →
    (debugger_state_after s.input s.debugger command).position ≡ s.debugger.position
unfolding debugger_state_after
plain_position s plain.Blank h = refl
plain_position s plain.Bad h = refl
plain_position s (plain.Move movement) h = absurd (cc)
plain_position s (plain.Break line) h = refl
plain_position s (plain.Clear line) h = refl
plain_position s (plain.Forget count) h = refl
plain_position s (plain.Show question) h = refl
plain_position s plain.Quit h = refl

line_position : (s : PromptState) (make : ℕ → Command) (line : ℕ) (taken : Bool) →
    nat_le line GREATEST_LINE ≡ taken →
    ((l : ℕ) → (debugger_state_after s.input s.debugger (make l)).position ≡ s.debugger.position) →
    (debugger_state_after s.input s.debugger (command_on make line)).position ≡ s.debugger.position
unfolding debugger_state_after
line_position s make line true e h = rw e (h line)
line_position s make line false e h = rw e refl

stands_on : (s : PromptState) (make : ℕ → Command) (line : Option ℕ) →
    ((l : ℕ) → (debugger_state_after s.input s.debugger (make l)).position ≡ s.debugger.position) →
    (on_line_next s make line).debugger.position ≡ s.debugger.position
stands_on s make None h = refl
stands_on s make (Some line) h = line_position s make line (nat_le line GREATEST_LINE) refl h

-- CLEAR of a line
clear_stands : (t : Input) (d : DebuggerState) (line : ℕ) (taken : Bool) → nat_le line GREATEST_LINE ≡ taken →
    (debugger_state_after t d (command_on plain.Clear line)).position ≡ d.position
unfolding debugger_state_after
clear_stands t d line true e = rw e refl
clear_stands t d line false e = rw e refl

-- CLEAR of some lines
all_stand : (t : Input) (d : DebuggerState) (lines : List ℕ) → (after_clear t d lines).position ≡ d.position
all_stand t d [] = refl
all_stand t d (line ∷ lines) =
    all_stand t (debugger_state_after t d (command_on plain.Clear line)) lines
    ∙ clear_stands t d line (nat_le line GREATEST_LINE) refl

pub position : OthersStandStill
unfolding prompt_state_after state_led
position s (prompt.Plain command) h = plain_position s command h
position s (prompt.Travel movement) h = absurd (cc)
position s (prompt.Once line) h = absurd (cc)
position s (prompt.Lines line) h = refl
position s (prompt.LinesBetween from to) h = refl
position s (prompt.SectionLines name) h = refl
position s (prompt.BreakSection name) h =
    stands_on s plain.Break (line_of_section s.input.program name) (λ l. plain_position s (plain.Break l) refl)
position s (prompt.BreakWhen place text numbered) h =
    when_stands s text (point_at s.input.program place)
position s (prompt.NoPlace line next) h = refl
position s (prompt.ClearSection name) h =
    stands_on s plain.Clear (line_of_section s.input.program name) (λ l. plain_position s (plain.Clear l) refl)
position s prompt.ClearAll h = all_stand s.input s.debugger (break_lines s.debugger.breaks)
position s prompt.Breaks h = refl
position s (prompt.Ask question) h = refl
position s (prompt.See sight) h = refl
position s prompt.Changed h = refl
position s (prompt.Why question) h = refl
position s (prompt.Cause causes.Why) h = refl
position s (prompt.Cause causes.Back) h = absurd (cc)
position s (prompt.History question rows) h = refl
position s (prompt.Display question) h = refl
position s prompt.Undisplay h = refl
position s (prompt.UndisplayOne question) h = refl
position s (prompt.Value text numbered) h = refl
position s (prompt.Until way text numbered) h = absurd (cc)
position s (prompt.Meant Why text numbered) h = refl
position s (prompt.Meant History text numbered) h = refl
position s (prompt.Meant RunChange text numbered) h = absurd (cc)
position s (prompt.Meant BackChange text numbered) h = absurd (cc)
position s (prompt.Meant Display text numbered) h = displayed_position s text (meaning_in s text)
position s (prompt.Meant Undisplay text numbered) h = undisplayed_position s text (meaning_in s text)
position s (prompt.Unread word numbered) h = refl
position s (prompt.Missing missing) h = refl
position s (prompt.Names name) h = refl
position s prompt.Reads h = refl
position s prompt.Warnings h = refl
position s (prompt.Help word) h = refl
