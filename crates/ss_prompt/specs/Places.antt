-- Lines of the model on which a place is.
use Rattle.std.specs.Prelude.{ℕ, Bool, true, ◌&&◌, List, [], ◌∷◌, ◌++◌, codes, decimal, map, flat_map, fold}
use Rattle.std.specs.Prelude.{Option, Some, None, if◌then◌else◌, nat_le, nat_lt}
use Rattle.ss_program.specs.Program.{ProgramTable, SectionTable}

-- the lines of the places of a section
abbrev pub section_lines : SectionTable → List ℕ
section_lines section = map (λ spot. spot.line) section.places

-- whether a line comes before the nearest so far
abbrev pub is_nearer : ℕ → Option ℕ → Bool
is_nearer line None = true
is_nearer line (Some nearest) = nat_lt line nearest

-- the nearer of two lines, the first of which may be none, that are not before a line
abbrev pub nearer_line : ℕ → Option ℕ → ℕ → Option ℕ
nearer_line from nearest line = if nat_le from line && is_nearer line nearest then Some line else nearest

-- the nearest line with a place, from a line on
unfoldable pub next_line : ProgramTable → ℕ → Option ℕ
next_line program from = fold (nearer_line from) None (flat_map section_lines program.sections)

-- the next line that has a place, if there is one
abbrev pub next_text : Option ℕ → List ℕ
next_text None = []
next_text (Some next) = codes ", NEXT " ++ decimal next

-- that no place is on a line
abbrev pub no_place_text : ℕ → Option ℕ → List ℕ
no_place_text line next = codes "NO PLACE ON LINE " ++ decimal line ++ next_text next ++ 10 ∷ []
