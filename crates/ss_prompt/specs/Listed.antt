-- The line after which LIST goes on: the last one that a LIST printed.
use Rattle.std.specs.Prelude.{ℕ, ◌+◌, min, ◌||◌, List, length, Option, Some, None, if◌then◌else◌, nat_eq, nat_lt}
use Rattle.std.specs.Prelude.{nat_le}
use Rattle.ss_prompt.specs.Asked.{first_there}
use Rattle.ss_prompt.specs.Listing.{present_line}
use Rattle.ss_prompt.specs.Points.{is_movement}
use Rattle.ss_prompt.specs.PromptState.{PromptState}
use Rattle.ss_prompt.specs.Sections.{section_named, last_line}
use Rattle.ss_prompt.specs.declared.commands.PromptCommand.{PromptCommand}
use Rattle.ss_prompt.specs.declared.commands.PromptCommand.TheVariants.{Lines, LinesBetween, SectionLines}

-- the last line about line l, if there is line l
abbrev pub about_end : List (List ℕ) → ℕ → Option ℕ
about_end lines l =
    if nat_eq l 0 || nat_lt (length lines) l then None else Some (min (length lines) (l + 5))

-- the last of the eleven lines after line l, if there is one
abbrev pub further_end : List (List ℕ) → ℕ → Option ℕ
further_end lines l = if nat_le (length lines) l then None else Some (min (length lines) (l + 11))

-- the last line that LIST prints without a line
abbrev pub alone_end : List (List ℕ) → ℕ → Option ℕ → Option ℕ
alone_end lines present (Some last) = further_end lines last
alone_end lines present None = about_end lines present

-- the last line from one to another, if there is the first
abbrev pub between_end : List (List ℕ) → ℕ → ℕ → Option ℕ
between_end lines from to = if nat_lt (length lines) from then None else Some (min (length lines) to)

-- the last line of section number n
abbrev pub section_end : PromptState → Option ℕ → Option ℕ
section_end state None = None
section_end state (Some n) = Some (min (length state.lines) (last_line state.input.program n))

-- the last line that a command prints, if it is a LIST that prints one
abbrev pub lines_end : PromptState → PromptCommand → Option ℕ
lines_end state (Lines (Some l)) = about_end state.lines l
lines_end state (Lines None) = alone_end state.lines (present_line state) state.listed
lines_end state (LinesBetween from to) = between_end state.lines from to
lines_end state (SectionLines name) = section_end state (section_named state.input.program name)
lines_end state _ = None

-- the line after which LIST goes on after a command; after a movement it does not go on
abbrev pub listed_after : PromptState → PromptCommand → Option ℕ
listed_after state command =
    if is_movement command then None else first_there (lines_end state command) state.listed
