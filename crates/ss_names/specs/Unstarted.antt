-- A program that schedules, and never starts the simulation.
use Rattle.std.specs.Prelude.{ℕ, Bool, true, false, List, [], ◌∷◌, Option, Some, None, if◌then◌else◌}
use Rattle.std.specs.List.{list_any}
use Rattle.ss_program.specs.declared.place.Place.{Place}
use Rattle.ss_program.specs.declared.place.Place.TheVariants as places
use Rattle.ss_program.specs.declared.place.Spot.{Spot}
use Rattle.ss_program.specs.declared.timing.Timing.{Timing}
use Rattle.ss_program.specs.declared.timing.Timing.TheVariants.{Schedule, Start}
use Rattle.ss_program.specs.Program.{ProgramTable, SectionTable}
use Rattle.ss_names.specs.declared.unstarted.TheConstants.{SCHEDULING_WORD, UNSTARTED}
use Rattle.ss_names.specs.Saying.{warning_line}

-- START SIMULATION
abbrev pub is_start : Timing → Bool
is_start Start = true
is_start _ = false

-- SCHEDULE
abbrev pub is_schedule : Timing → Bool
is_schedule (Schedule x) = true
is_schedule _ = false

-- a place starts the simulation
unfoldable pub starts : Place → Bool
starts (places.Timing x) = is_start x
starts _ = false

-- a place schedules
unfoldable pub schedules : Place → Bool
schedules (places.Timing x) = is_schedule x
schedules _ = false

-- a section starts it
unfoldable pub section_starts : SectionTable → Bool
section_starts section = list_any (λ spot. starts spot.place) section.places

-- one of these sections does
unfoldable pub any_starts : List SectionTable → Bool
any_starts xs = list_any section_starts xs

-- the line of the first of these places that schedules
unfoldable pub scheduling_spot : List Spot → Option ℕ
scheduling_spot [] = None
scheduling_spot (spot ∷ spots) = elim (schedules spot.place) [ true ↦ Some spot.line | false ↦ scheduling_spot spots ]

-- the first of two lines that is there
abbrev pub first_there : Option ℕ → Option ℕ → Option ℕ
first_there (Some line) other = Some line
first_there None other = other

-- the line of the first place of these sections that schedules
unfoldable pub scheduling_line : List SectionTable → Option ℕ
scheduling_line [] = None
scheduling_line (section ∷ rest) = first_there (scheduling_spot section.places) (scheduling_line rest)

-- the warning about it, if there is one
abbrev pub unstarted_line : Option ℕ → List ℕ
unstarted_line None = []
unstarted_line (Some line) = warning_line line SCHEDULING_WORD.now UNSTARTED.now

-- a program that schedules, and never starts the simulation
abbrev pub unstarted_text : ProgramTable → List ℕ
unstarted_text program =
    if any_starts program.sections then [] else unstarted_line (scheduling_line program.sections)
