-- Lines of the model, as LIST prints them.
use Rattle.std.specs.Prelude.{ℕ, zero, suc, ◌+◌, ◌-◌, max, min, ◌||◌, List, [], ◌∷◌, ◌++◌, length, codes, decimal}
use Rattle.std.specs.Prelude.{Option, Some, None, if◌then◌else◌, nat_eq, nat_lt, nat_le}
use Rattle.ss_debug.specs.Move.{line_at}
use Rattle.ss_program.specs.Program.{section_of}
use Rattle.ss_prompt.specs.Source.{marked_line}
use Rattle.ss_prompt.specs.PromptState.{PromptState}
use Rattle.ss_prompt.specs.Sections.{section_named, no_section, last_line}

-- the mark of a line: that of the present place, or another
abbrev pub mark_of : ℕ → ℕ → List ℕ
mark_of present l = if nat_eq l present then codes "> " else codes ": "

-- a number of lines from one on, each after its number and a mark
abbrev pub listed_lines : List (List ℕ) → ℕ → ℕ → ℕ → List ℕ
listed_lines lines present from zero = []
listed_lines lines present from (suc k) =
    listed_lines lines present from k ++ marked_line lines (mark_of present (from + k)) (from + k)

-- the line of the present place
abbrev pub present_line : PromptState → ℕ
present_line state = line_at state.input state.debugger.position

-- the lines from one to another that there are
abbrev pub listed_to : List (List ℕ) → ℕ → ℕ → ℕ → List ℕ
listed_to lines present from to = listed_lines lines present from (min (length lines) to + 1 - from)

-- that there is no line l
abbrev pub no_line_text : ℕ → List ℕ
no_line_text l = codes "NO LINE " ++ decimal l ++ 10 ∷ []

-- line l with the five lines before it and the five after it
abbrev pub listed_about : List (List ℕ) → ℕ → ℕ → List ℕ
listed_about lines present l =
    if nat_eq l 0 || nat_lt (length lines) l then no_line_text l
    else listed_to lines present (max 1 (l - 5)) (l + 5)

-- that no line comes after line l
abbrev pub no_lines_after_text : ℕ → List ℕ
no_lines_after_text l = codes "NO LINES AFTER " ++ decimal l ++ 10 ∷ []

-- the eleven lines after line l
abbrev pub listed_further : List (List ℕ) → ℕ → ℕ → List ℕ
listed_further lines present l =
    if nat_le (length lines) l then no_lines_after_text l else listed_to lines present (l + 1) (l + 11)

-- the lines after the last one that LIST printed, or else those about the present one
abbrev pub listed_on : List (List ℕ) → ℕ → Option ℕ → List ℕ
listed_on lines present (Some last) = listed_further lines present last
listed_on lines present None = listed_about lines present present

-- the answer to LIST, with a line or without
abbrev pub lines_said : PromptState → Option ℕ → List ℕ
lines_said state (Some l) = listed_about state.lines (present_line state) l
lines_said state None = listed_on state.lines (present_line state) state.listed

-- the lines from one to another that there are, or that the first is none
abbrev pub listed_between : List (List ℕ) → ℕ → ℕ → ℕ → List ℕ
listed_between lines present from to =
    if nat_lt (length lines) from then no_line_text from else listed_to lines present from to

-- the answer to LIST l m
abbrev pub lines_between_said : PromptState → ℕ → ℕ → List ℕ
lines_between_said state from to = listed_between state.lines (present_line state) from to

-- the lines of section number n, from its head to its last place
abbrev pub section_listed : PromptState → List ℕ → Option ℕ → List ℕ
section_listed state name None = no_section name
section_listed state name (Some n) =
    listed_to state.lines (present_line state) (section_of state.input.program n).line (last_line state.input.program n)

-- the answer to LIST r
abbrev pub section_lines_said : PromptState → List ℕ → List ℕ
section_lines_said state name = section_listed state name (section_named state.input.program name)
