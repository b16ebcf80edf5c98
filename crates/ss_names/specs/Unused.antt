-- Sets into which nothing is filed, and events that nothing schedules.
use Rattle.std.specs.Prelude.{ℕ, ◌+◌, ◌==◌, ◌&&◌, not, Bool, true, false, List, [], ◌∷◌, ◌++◌, bytes_eq, if◌then◌else◌}
use Rattle.std.specs.Prelude.{Ok, Err}
use Rattle.std.specs.List.{list_any}
use Rattle.ss_words.specs.Plain.{PlainAt, name, number, mark, picture}
use Rattle.ss_words.specs.PlainRules.{plain_words_of}
use Rattle.ss_words.specs.TextWords.{words_of}
use Rattle.ss_program.specs.declared.filing.Filing.TheVariants.{File, FileAt}
use Rattle.ss_program.specs.declared.filing.Filing.{Filing}
use Rattle.ss_program.specs.declared.place.Place.{Place}
use Rattle.ss_program.specs.declared.place.Place.TheVariants as places
use Rattle.ss_program.specs.declared.timing.Timing.{Timing}
use Rattle.ss_program.specs.declared.timing.Timing.TheVariants.{Schedule}
use Rattle.ss_program.specs.Program.{ProgramTable, ClassTable, SetTable, SectionTable, is_event, event_of_kind}
use Rattle.ss_names.specs.declared.unused.TheConstants.{UNFILED, UNSCHEDULED}
use Rattle.ss_names.specs.Saying.{warning_line}
use Rattle.ss_names.specs.Unstarted.{unstarted_text}

-- FILE into set number s
abbrev pub files : ℕ → Filing → Bool
files s (File e how r) = r.set == s
files s (FileAt end e r) = r.set == s
files s _ = false

-- a place files into set number s
unfoldable pub files_into : ℕ → Place → Bool
files_into s (places.Filing f) = files s f
files_into s _ = false

-- SCHEDULE of class number c
abbrev pub schedules : ℕ → Timing → Bool
schedules c (Schedule x) = x.class == c
schedules c _ = false

-- a place schedules a notice of class number c
unfoldable pub schedules_class : ℕ → Place → Bool
schedules_class c (places.Timing x) = schedules c x
schedules_class c _ = false

-- a section files into set number s
unfoldable pub section_files : ℕ → SectionTable → Bool
section_files s section = list_any (λ spot. files_into s spot.place) section.places

-- a section schedules class number c
unfoldable pub section_schedules : ℕ → SectionTable → Bool
section_schedules c section = list_any (λ spot. schedules_class c spot.place) section.places

-- one of these sections files into set number s
unfoldable pub any_files : ℕ → List SectionTable → Bool
any_files s xs = list_any (section_files s) xs

-- one of these sections schedules class number c
unfoldable pub any_schedules : ℕ → List SectionTable → Bool
any_schedules c xs = list_any (section_schedules c) xs

-- nothing is filed into set number s
abbrev pub is_unfiled : ProgramTable → ℕ → Bool
is_unfiled program s = not (any_files s program.sections)

-- a class, number c, is one of events that neither a place nor the data schedule
abbrev pub is_unscheduled : ProgramTable → ℕ → ClassTable → Bool
is_unscheduled program c row =
    is_event row.kind && not (event_of_kind row.kind).external && not (any_schedules c program.sections)

-- the line on which a name occurs first among words, 0 if it does not occur
unfoldable pub first_line : List ℕ → List PlainAt → ℕ
first_line n [] = 0
first_line n (w ∷ ws) = elim w.word [
  | name m ↦ if bytes_eq m n then w.line else first_line n ws
  | number m ↦ first_line n ws
  | mark m ↦ first_line n ws
  | picture ls ↦ first_line n ws
]

-- each set from number s on into which nothing is filed
unfoldable pub unfiled_text : ProgramTable → List PlainAt → ℕ → List SetTable → List ℕ
unfiled_text program ws s [] = []
unfiled_text program ws s (t ∷ ts) = elim (is_unfiled program s) [
  | true ↦ warning_line (first_line t.name ws) t.name UNFILED.now ++ unfiled_text program ws (s + 1) ts
  | false ↦ unfiled_text program ws (s + 1) ts
]

-- each event class from number c on that nothing schedules
unfoldable pub unscheduled_text : ProgramTable → List PlainAt → ℕ → List ClassTable → List ℕ
unscheduled_text program ws c [] = []
unscheduled_text program ws c (t ∷ ts) = elim (is_unscheduled program c t) [
  | true ↦ warning_line (first_line t.name ws) t.name UNSCHEDULED.now ++ unscheduled_text program ws (c + 1) ts
  | false ↦ unscheduled_text program ws (c + 1) ts
]

-- the warnings of a program, with the lines on which its names occur first in a model
abbrev pub program_warnings : ProgramTable → List ℕ → List ℕ
program_warnings program model = elim (words_of model) [
  | Ok ws ↦ unfiled_text program (plain_words_of ws) 0 program.sets
      ++ unscheduled_text program (plain_words_of ws) 0 program.classes ++ unstarted_text program
  | Err f ↦ []
]
