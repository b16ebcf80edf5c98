-- The places at which BREAK with a condition sets a break line, and the sections in which their names are read.
use Rattle.std.specs.Prelude.{ℕ, Bool, List, [], ◌∷◌, codes, position, nat_eq, unwrap_or}
use Rattle.std.specs.Prelude.{Option, Some, None, option_map}
use Rattle.std.specs.List.{list_any}
use Rattle.ss_program.specs.Program.{ProgramTable, SectionTable, main_number}
use Rattle.ss_prompt.specs.Sections.{section_named, first_line, line_of_section, taken_line}
use Rattle.ss_prompt.specs.Words.{only_name_of}
use Rattle.ss_prompt.specs.declared.break_place.BreakPlace.{BreakPlace}
use Rattle.ss_prompt.specs.declared.break_place.BreakPlace.TheVariants.{Line, Section}
use Rattle.ss_prompt.specs.declared.break_place.BreakSpot.{BreakSpot}

-- whether a section has a place on a line
abbrev pub has_place_on : ℕ → SectionTable → Bool
has_place_on line section = list_any (λ spot. nat_eq spot.line line) section.places

-- the section of a line: the first in the text with a place on it, or else MAIN
abbrev pub section_on : ProgramTable → ℕ → ℕ
section_on program line = unwrap_or (position (has_place_on line) program.sections) (main_number program)

-- the line of the first place of the section of a name, if the program has it
abbrev pub first_point : ProgramTable → List ℕ → Option BreakSpot
first_point program name =
    option_map (λ n. record { line = first_line program n; section = n }) (section_named program name)

-- the line of a place and its section, if the program has the section
abbrev pub point_at : ProgramTable → BreakPlace → Option BreakSpot
point_at program (Line line) = Some (record { line = line; section = section_on program line })
point_at program (Section name) = first_point program name

-- the line that BREAK at a place makes a break line, if it takes it
abbrev pub line_at_place : ProgramTable → BreakPlace → Option ℕ
line_at_place program (Line line) = Some line
line_at_place program (Section name) = taken_line (line_of_section program name)

-- the word BREAK as the name of a form of commands
abbrev pub break_word : Option (List ℕ)
break_word = only_name_of (codes "BREAK" ∷ [])
