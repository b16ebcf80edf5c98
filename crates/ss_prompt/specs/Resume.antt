-- The lines that lead a new dialogue to where another is.
use Rattle.std.specs.Prelude.{ℕ, List, [], ◌∷◌, ◌++◌, codes, decimal, map, Option, None, Some}
use Rattle.ss_debug.specs.BreakTable.{ShownBreak, shown_break}
use Rattle.ss_prompt.specs.declared.shown.Shown.{Shown}
use Rattle.ss_prompt.specs.Displays.{shown_text}
use Rattle.ss_prompt.specs.PromptState.{PromptState}

-- the condition of a break line, if it has one, after its number
abbrev pub when_words : Option (List ℕ) → List ℕ
when_words None = []
when_words (Some text) = codes " WHEN " ++ text

-- the line that sets a break line, with its condition
abbrev pub break_command : ShownBreak → List ℕ
break_command b = codes "BREAK " ++ decimal b.line ++ when_words b.text ++ 10 ∷ []

-- those of some break lines
abbrev pub break_commands : List ShownBreak → List ℕ
break_commands [] = []
break_commands (b ∷ bs) = break_command b ++ break_commands bs

-- the line that goes to a position
abbrev pub go_command : ℕ → List ℕ
go_command p = codes "GO " ++ decimal p ++ 10 ∷ []

-- the line that has something printed at each stop
abbrev pub display_command : Shown → List ℕ
display_command shown = codes "DISPLAY " ++ shown_text shown ++ 10 ∷ []

-- those of all that is printed at each stop
abbrev pub display_commands : List Shown → List ℕ
display_commands [] = []
display_commands (x ∷ xs) = display_command x ++ display_commands xs

-- the lines that lead a new dialogue to where one is: its break lines, then its position, then what it prints at each
-- stop
abbrev pub resume_lines : PromptState → List ℕ
resume_lines state =
    break_commands (map shown_break state.debugger.breaks) ++ go_command state.debugger.position
    ++ display_commands state.displays
