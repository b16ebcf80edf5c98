-- Frames, and the variables of a frame and of the run, as an editor shows them.
use Rattle.std.specs.Prelude.{ℕ, ◌+◌, pos, List, [], length, Option, Some, None, unwrap_or, slice_index_or}
use Rattle.std.specs.Fmt.{signed_decimal}
use Rattle.ss_program.specs.Program.{ProgramTable, section_of, spot_at}
use Rattle.ss_state.specs.State.{State}
use Rattle.ss_state.specs.Frames.{frame_place, frame_local}
use Rattle.ss_debug.specs.Move.{spot_line}
use Rattle.ss_inspect.specs.Frames.{locals_in}
use Rattle.ss_inspect.specs.Texts.{name_at}
use Rattle.ss_messages.specs.Bodies.{frame_item, variable_item}
use Rattle.ss_messages.specs.declared.counting.Counting.{Counting}
use Rattle.ss_scopes.specs.Pages.{page}

-- a frame: its number, counted from 1 on, its section, and the line of its place, in the model at a path
abbrev pub placed_frame : ProgramTable → List ℕ → Counting → ℕ → Option (ℕ × ℕ) → List ℕ
placed_frame program path counting depth None = []
placed_frame program path counting depth (Some (section, place)) =
    frame_item (depth + 1) (section_of program section).name (spot_line (spot_at program section place)) path counting

-- the frame with `depth` frames above it
abbrev pub frame_text : ProgramTable → State → List ℕ → Counting → ℕ → List ℕ
frame_text program state path counting depth = placed_frame program path counting depth (frame_place state depth)

-- how many frames there are
abbrev pub frame_count : State → ℕ
frame_count state = 1 + length state.below

-- a page of the frames, the last one first
abbrev pub frames_page : ProgramTable → State → List ℕ → Counting → ℕ → ℕ → List ℕ
frames_page program state path counting start count =
    page (frame_text program state path counting) start count (frame_count state)

-- a local of the frame with `depth` frames above it; the frame is of this section
abbrev pub local_item : ProgramTable → State → ℕ → ℕ → ℕ → List ℕ
local_item program state depth section i =
    variable_item (name_at (locals_in program section) i)
    (signed_decimal (unwrap_or (frame_local state depth i) (pos 0))) 0

-- a page of the locals of a frame that is at this place
abbrev pub placed_locals : ProgramTable → State → ℕ → ℕ → ℕ → Option (ℕ × ℕ) → List ℕ
placed_locals program state depth start count None = []
placed_locals program state depth start count (Some (section, place)) =
    page (local_item program state depth section) start count (length (locals_in program section))

-- a page of the locals of the frame with `depth` frames above it
abbrev pub locals_page : ProgramTable → State → ℕ → ℕ → ℕ → List ℕ
locals_page program state depth start count = placed_locals program state depth start count (frame_place state depth)

-- global variable number i
abbrev pub global_item : ProgramTable → State → ℕ → List ℕ
global_item program state i =
    variable_item (name_at program.globals i) (signed_decimal (slice_index_or state.variables i (pos 0))) 0

-- a page of the global variables
abbrev pub globals_page : ProgramTable → State → ℕ → ℕ → List ℕ
globals_page program state start count = page (global_item program state) start count (length program.globals)
