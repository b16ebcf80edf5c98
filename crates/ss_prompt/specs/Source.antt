-- The lines of a model, as they are written, and as they are printed.
use Rattle.std.specs.Prelude.{ℕ, ◌-◌, ◌||◌, List, [], ◌∷◌, ◌++◌, length, take, map, decimal, if◌then◌else◌}
use Rattle.std.specs.Prelude.{nat_lt, nat_eq, get_or, slice_index_or}
use Rattle.ss_debug.specs.CommandLines.{command_lines}

-- a line without the carriage return (13) at its end
abbrev pub without_return : List ℕ → List ℕ
without_return line =
    if nat_eq (get_or line (length line - 1) 0) 13 then take (length line - 1) line else line

-- the lines of a model: the pieces between line feeds
abbrev pub source_lines : List ℕ → List (List ℕ)
source_lines model = map without_return (command_lines model)

-- line l, the first of which is line 1; nothing if there is none
abbrev pub line_text : List (List ℕ) → ℕ → List ℕ
line_text lines l =
    if nat_eq l 0 || nat_lt (length lines) l then [] else slice_index_or lines (l - 1) []

-- line l after its number and a mark
abbrev pub marked_line : List (List ℕ) → List ℕ → ℕ → List ℕ
marked_line lines mark l = decimal l ++ mark ++ line_text lines l ++ 10 ∷ []
