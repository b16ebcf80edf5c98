-- The names of a model, and the warnings on it, as the prompt prints them.
use Rattle.std.specs.Prelude.{ℕ, List, [], ◌∷◌, ◌++◌, codes, Option, Some, None}
use Rattle.ss_program.specs.Program.{ProgramTable}
use Rattle.ss_names.specs.Index.{names_text, name_text}
use Rattle.ss_names.specs.Warnings.{warnings}
use Rattle.ss_names.specs.Unused.{program_warnings}

-- the text that was found, or another text if nothing was found
abbrev pub found_or : List ℕ → List ℕ → List ℕ
found_or none [] = none
found_or none (b ∷ bs) = b ∷ bs

-- the answer to NAMES: the names of a model, or the text on one of them
unfoldable pub names_said : List ℕ → Option (List ℕ) → List ℕ
names_said model None = found_or (codes "NO NAMES\n") (names_text model)
names_said model (Some name) = name_text model name

-- the warnings on a model: on its words, and on its program
unfoldable pub warnings_told : ProgramTable → List ℕ → List ℕ
warnings_told program model = warnings model ++ program_warnings program model

-- the answer to WARNINGS
unfoldable pub warnings_said : ProgramTable → List ℕ → List ℕ
warnings_said program model = found_or (codes "NO WARNINGS\n") (warnings_told program model)
