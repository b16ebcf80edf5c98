-- Which commands move the debugger, and of which line they make a break line or none.
use Rattle.std.specs.Prelude.{ℕ, Bool, true, false, List, [], ◌∷◌, codes, Option, Some, None}
use Rattle.ss_program.specs.Program.{ProgramTable}
use Rattle.ss_debug.specs.declared.commands.Command.TheVariants.{Move, Break, Clear}
use Rattle.ss_prompt.specs.declared.commands.PromptCommand.{PromptCommand}
use Rattle.ss_prompt.specs.declared.commands.PromptCommand.TheVariants.{Plain, Travel, Once, Until, Meant}
use Rattle.ss_prompt.specs.declared.commands.PromptCommand.TheVariants.{Cause}
use Rattle.ss_prompt.specs.declared.commands.PromptCommand.TheVariants.{BreakSection, BreakWhen, ClearSection, ClearAll}
use Rattle.ss_prompt.specs.BreakPlaces.{line_at_place}
use Rattle.ss_prompt.specs.Manners.{moves}
use Rattle.ss_prompt.specs.Sections.{line_of_section, taken_line}
use Rattle.ss_prompt.specs.Words.{only_name_of}
use Rattle.ss_prompt.specs.declared.causes.CauseCommand.TheVariants as causes
use Rattle.ss_prompt.specs.declared.until.Until.{Until as Way}
use Rattle.ss_prompt.specs.declared.until.Until.TheVariants.{Run, Back, First}

-- whether a command moves the debugger to another state of the run
abbrev pub is_movement : PromptCommand → Bool
is_movement (Plain (Move m)) = true
is_movement (Travel m) = true
is_movement (Once line) = true
is_movement (Until way text numbered) = true
is_movement (Meant manner text numbered) = moves manner
is_movement (Cause causes.Back) = true
is_movement _ = false

-- whether a command clears all break lines
abbrev pub clears_all : PromptCommand → Bool
clears_all ClearAll = true
clears_all _ = false

-- the line that a command makes a break line, or no break line any more, or both
abbrev pub point_of : ProgramTable → PromptCommand → Option ℕ
point_of program (Plain (Break line)) = Some line
point_of program (Plain (Clear line)) = Some line
point_of program (Once line) = Some line
point_of program (BreakSection name) = taken_line (line_of_section program name)
point_of program (BreakWhen place text numbered) = line_at_place program place
point_of program (ClearSection name) = taken_line (line_of_section program name)
point_of program _ = None

-- the first word of a movement to a state in which a condition holds
abbrev pub until_verb : Way → List ℕ
until_verb Run = codes "RUN"
until_verb Back = codes "BACK"
until_verb First = codes "GO"

-- that word as the name of a form of commands
abbrev pub until_word : Way → Option (List ℕ)
until_word way = only_name_of (until_verb way ∷ [])
