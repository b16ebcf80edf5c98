-- The texts that show the frames of a state and its variables.
use Rattle.std.specs.Prelude.{ℕ, ◌+◌, pos, List, [], ◌∷◌, ◌++◌, length, codes, decimal, Option, Some, None}
use Rattle.std.specs.Prelude.{unwrap_or, if◌then◌else◌, nat_eq, slice_index_or}
use Rattle.ss_program.specs.Program.{ProgramTable, section_of, spot_at}
use Rattle.ss_state.specs.State.{State}
use Rattle.ss_state.specs.Frames.{frame_place, frame_local}
use Rattle.ss_state.specs.Run.{Input, run}
use Rattle.ss_debug.specs.Move.{spot_line}
use Rattle.ss_inspect.specs.Texts.{texts_below, lines_or, name_at, named_value}

-- ---- frames

-- the locals of a section
abbrev pub locals_in : ProgramTable → ℕ → List (List ℕ)
locals_in program section = (section_of program section).locals

-- a local of the frame with `depth` frames above it, and its value; the frame is of this section
abbrev pub local_text : ProgramTable → State → ℕ → ℕ → ℕ → List ℕ
local_text program state depth section i =
    named_value (name_at (locals_in program section) i) (unwrap_or (frame_local state depth i) (pos 0))

-- that local in one line with others: the first after a colon, each other after a comma
abbrev pub listed_local : ProgramTable → State → ℕ → ℕ → ℕ → List ℕ
listed_local program state depth section i =
    (if nat_eq i 0 then codes ": " else codes ", ") ++ local_text program state depth section i

-- a frame: its section, the line of its place, its locals
abbrev pub placed_frame_line : ProgramTable → State → ℕ → Option (ℕ × ℕ) → List ℕ
placed_frame_line program state depth None = []
placed_frame_line program state depth (Some (section, place)) =
    (section_of program section).name ++ codes " LINE " ++ decimal (spot_line (spot_at program section place))
    ++ texts_below (listed_local program state depth section) (length (locals_in program section)) ++ 10 ∷ []

-- the line of the frame with `depth` frames above it
abbrev pub frame_line : ProgramTable → State → ℕ → List ℕ
frame_line program state depth = placed_frame_line program state depth (frame_place state depth)

-- a line for each frame, the last one first
abbrev pub frame_lines : ProgramTable → State → List ℕ
frame_lines program state = texts_below (frame_line program state) (1 + length state.below)

-- the answer to SHOW CALLS in state p
unfoldable pub calls_text : Input → ℕ → List ℕ
calls_text input p = frame_lines input.program (run input p)

-- ---- variables

-- a local of the last frame, whose section this is
abbrev pub local_line : ProgramTable → State → ℕ → ℕ → List ℕ
local_line program state section i = local_text program state 0 section i ++ 10 ∷ []

-- the locals of the last frame in the order of their table, or that there is none
abbrev pub local_lines : ProgramTable → State → List ℕ
local_lines program state =
    lines_or (codes "NO LOCALS\n") (local_line program state state.frame.section)
    (length (locals_in program state.frame.section))

-- the answer to SHOW LOCALS in state p
unfoldable pub locals_text : Input → ℕ → List ℕ
locals_text input p = local_lines input.program (run input p)

-- a global variable and its value
abbrev pub global_line : ProgramTable → State → ℕ → List ℕ
global_line program state i =
    named_value (name_at program.globals i) (slice_index_or state.variables i (pos 0)) ++ 10 ∷ []

-- the global variables in the order of their table, or that there is none; TIME.V is none of them
abbrev pub global_lines : ProgramTable → State → List ℕ
global_lines program state = lines_or (codes "NO GLOBALS\n") (global_line program state) (length program.globals)

-- the answer to SHOW GLOBALS in state p
unfoldable pub globals_text : Input → ℕ → List ℕ
globals_text input p = global_lines input.program (run input p)
