-- Sections and their lines.
use Rattle.std.specs.Prelude.{ℕ, Bool, true, false, ◌-◌, List, [], ◌∷◌, ◌++◌, length, codes}
use Rattle.std.specs.Prelude.{Option, Some, None, option_map, position}
use Rattle.std.specs.Prelude.{if◌then◌else◌, nat_le, slice_get}
use Rattle.std.specs.Str.{bytes_eq}
use Rattle.ss_program.specs.Program.{ProgramTable, places_of, spot_at}
use Rattle.ss_debug.specs.declared.commands.Command.{Command}
use Rattle.ss_debug.specs.declared.commands.Command.TheVariants.{Bad, Break, Clear}
use Rattle.ss_debug.specs.Move.{spot_line}
use Rattle.ss_debug.specs.Turn.{answer}
use Rattle.ss_debug.specs.declared.limits.TheConstants.{GREATEST_LINE}
use Rattle.ss_prompt.specs.PromptState.{PromptState}
use Rattle.ss_prompt.specs.Plain.{plain_next}

-- the number of the section of this name
abbrev pub section_named : ProgramTable → List ℕ → Option ℕ
section_named program name = position (λ s. bytes_eq name s.name) program.sections

-- that there is none
abbrev pub no_section : List ℕ → List ℕ
no_section name = codes "NO SECTION " ++ name ++ 10 ∷ []

-- the line of the first place of section number n
abbrev pub first_line : ProgramTable → ℕ → ℕ
first_line program n = spot_line (spot_at program n 0)

-- the line of its last place
abbrev pub last_line : ProgramTable → ℕ → ℕ
last_line program n = spot_line (spot_at program n (length (places_of (slice_get program.sections n)) - 1))

-- BREAK, or else CLEAR
abbrev pub break_or_clear : Bool → ℕ → Command
break_or_clear true = Break
break_or_clear false = Clear

-- BREAK or CLEAR of a line, or a bad command past the last line that they take
abbrev pub command_on : (ℕ → Command) → ℕ → Command
command_on make line = if nat_le line GREATEST_LINE then make line else Bad

-- a line, if BREAK and CLEAR take it
abbrev pub taken_line : Option ℕ → Option ℕ
taken_line None = None
taken_line (Some line) = if nat_le line GREATEST_LINE then Some line else None

-- the line of the first place of the section of this name
abbrev pub line_of_section : ProgramTable → List ℕ → Option ℕ
line_of_section program name = option_map (first_line program) (section_named program name)

-- the answer to a command on the line of a section, or that there is no such section
abbrev pub on_line_said : PromptState → (ℕ → Command) → List ℕ → Option ℕ → List ℕ
on_line_said state make name None = no_section name
on_line_said state make name (Some line) = answer state.input state.debugger (command_on make line)

-- the state after it
abbrev pub on_line_next : PromptState → (ℕ → Command) → Option ℕ → PromptState
on_line_next state make None = state
on_line_next state make (Some line) = plain_next state (command_on make line)

-- the answer to BREAK r or CLEAR r: that of BREAK or CLEAR on the line of section r's first place
abbrev pub on_section_said : PromptState → (ℕ → Command) → List ℕ → List ℕ
on_section_said state make name = on_line_said state make name (line_of_section state.input.program name)

-- the state after it
abbrev pub on_section_next : PromptState → (ℕ → Command) → List ℕ → PromptState
on_section_next state make name = on_line_next state make (line_of_section state.input.program name)
