-- The meaning of a name in a program.
use Rattle.std.specs.Prelude.{ℕ, Bool, ◌||◌, List, Option, Some, None, is_some, position, bytes_eq, if◌then◌else◌}
use Rattle.ss_program.specs.declared.find.Named.{Named}
use Rattle.ss_program.specs.Names.{is_clock}
use Rattle.ss_program.specs.Program.{ProgramTable}

-- its numbers in the tables of the global variables, the classes and the sets
abbrev pub numbers_of : ProgramTable → List ℕ → Named
numbers_of program n = record {
  variable = position (bytes_eq n) program.globals;
  class = position (λ c. bytes_eq n c.name) program.classes;
  set = position (λ s. bytes_eq n s.name) program.sets;
}

-- some number of a name
abbrev pub is_any : Named → Bool
is_any m = is_some m.variable || is_some m.class || is_some m.set

-- None if the name is none of the three, and for TIME.V
abbrev pub meaning_of : ProgramTable → List ℕ → Option Named
meaning_of program n =
    if is_clock n then None else (if is_any (numbers_of program n) then Some (numbers_of program n) else None)
