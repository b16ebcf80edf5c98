-- The break lines, as BREAKS prints them.
use Rattle.std.specs.Prelude.{List, ℕ, [], ◌∷◌, ◌++◌, codes, map, Option, Some, None}
use Rattle.ss_debug.specs.BreakTable.{ShownBreak, shown_break}
use Rattle.ss_prompt.specs.Source.{marked_line}
use Rattle.ss_prompt.specs.PromptState.{PromptState}

-- what comes between the number of a break line and its text: its condition, if it has one, and a colon
abbrev pub break_mark : Option (List ℕ) → List ℕ
break_mark None = codes ": "
break_mark (Some text) = codes " WHEN " ++ text ++ codes ": "

-- break lines of the model, each after its number, its condition and a colon
abbrev pub break_rows : List (List ℕ) → List ShownBreak → List ℕ
break_rows lines [] = []
break_rows lines (b ∷ bs) = marked_line lines (break_mark b.text) b.line ++ break_rows lines bs

-- all break lines, or that there is none
abbrev pub breaks_text : List (List ℕ) → List ShownBreak → List ℕ
breaks_text lines [] = codes "NO BREAKS\n"
breaks_text lines (b ∷ bs) = break_rows lines (b ∷ bs)

-- the answer to BREAKS
abbrev pub breaks_said : PromptState → List ℕ
breaks_said state = breaks_text state.lines (map shown_break state.debugger.breaks)
