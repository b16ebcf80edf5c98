-- The overviews of a state: the text of each.
use Rattle.std.specs.Prelude.{ℕ, List, [], ◌∷◌, ◌++◌, codes, decimal, Option, Some, None}
use Rattle.ss_program.specs.declared.branch.Branch.{Branch}
use Rattle.ss_program.specs.declared.branch.Branch.TheVariants.{If, Else, Always}
use Rattle.ss_program.specs.declared.filing.Filing.{Filing}
use Rattle.ss_program.specs.declared.filing.Filing.TheVariants.{File, FileAt, RemoveAt, Remove}
use Rattle.ss_program.specs.declared.looping.Looping.{Looping}
use Rattle.ss_program.specs.declared.looping.Looping.TheVariants.{For, Loop, Find, Gather, Tell}
use Rattle.ss_program.specs.declared.making.Making.{Making}
use Rattle.ss_program.specs.declared.making.Making.TheVariants.{Create, CreateEvery, Destroy}
use Rattle.ss_program.specs.declared.place.Assign.{Assign}
use Rattle.ss_program.specs.declared.place.Assign.TheVariants.{Let, Add, Subtract}
use Rattle.ss_program.specs.declared.place.Control.{Control}
use Rattle.ss_program.specs.declared.place.Control.TheVariants.{Stop, Return, End}
use Rattle.ss_program.specs.declared.place.Output.{Output}
use Rattle.ss_program.specs.declared.place.Output.TheVariants.{Print, Skip}
use Rattle.ss_program.specs.declared.place.Place.{Place}
use Rattle.ss_program.specs.declared.place.Place.TheVariants as places
use Rattle.ss_program.specs.declared.place.Spot.{Spot}
use Rattle.ss_program.specs.declared.timing.Timing.{Timing}
use Rattle.ss_program.specs.declared.timing.Timing.TheVariants.{Schedule, Cancel, Start}
use Rattle.ss_program.specs.Program.{ProgramTable, section_of, spot_at}
use Rattle.ss_state.specs.State.{FrameState}
use Rattle.ss_state.specs.Run.{Input, run}
use Rattle.ss_debug.specs.Move.{spot_line}
use Rattle.ss_inspect.specs.declared.overview.Overview.{Overview}
use Rattle.ss_inspect.specs.declared.overview.Overview.TheVariants as overviews
use Rattle.ss_inspect.specs.Frames.{calls_text, locals_text, globals_text}
use Rattle.ss_inspect.specs.Tables.{classes_text, sets_text, sections_text}

-- ---- words

-- the word of an assignment, also of one that is written without LET
abbrev pub assign_word : Assign → List ℕ
assign_word (Let written target e) = codes "LET"
assign_word (Add e target) = codes "ADD"
assign_word (Subtract e target) = codes "SUBTRACT"

-- the word of a statement that creates or destroys
abbrev pub making_word : Making → List ℕ
making_word (Create c is_called target) = codes "CREATE"
making_word (CreateEvery c e count) = codes "CREATE"
making_word (Destroy c is_called e) = codes "DESTROY"

-- the word of a statement that files or removes
abbrev pub filing_word : Filing → List ℕ
filing_word (File e position r) = codes "FILE"
filing_word (FileAt end e r) = codes "FILE"
filing_word (RemoveAt end target r) = codes "REMOVE"
filing_word (Remove e r) = codes "REMOVE"

-- the word of a statement that appends to the report
abbrev pub output_word : Output → List ℕ
output_word (Print count es picture) = codes "PRINT"
output_word (Skip e) = codes "SKIP"

-- the word of a statement that ends a section or the run
abbrev pub control_word : Control → List ℕ
control_word Stop = codes "STOP"
control_word Return = codes "RETURN"
control_word End = codes "END"

-- the word of a place of an IF
abbrev pub branch_word : Branch → List ℕ
branch_word (If question) = codes "IF"
branch_word Else = codes "ELSE"
branch_word Always = codes "ALWAYS"

-- the word of a place of a loop; COMPUTE has two
abbrev pub looping_word : Looping → List ℕ
looping_word (For phrase) = codes "FOR"
looping_word Loop = codes "LOOP"
looping_word Find = codes "FIND"
looping_word (Gather e) = codes "COMPUTE"
looping_word (Tell targets) = codes "COMPUTE"

-- the word of a statement on events
abbrev pub timing_word : Timing → List ℕ
timing_word (Schedule schedule) = codes "SCHEDULE"
timing_word (Cancel c is_called e) = codes "CANCEL"
timing_word Start = codes "START"

-- the word of a statement, as the language has it
abbrev pub statement_word : Place → List ℕ
statement_word (places.Assign a) = assign_word a
statement_word (places.Making m) = making_word m
statement_word (places.Filing f) = filing_word f
statement_word (places.Output o) = output_word o
statement_word (places.Control c) = control_word c
statement_word (places.Branch b) = branch_word b
statement_word (places.Looping l) = looping_word l
statement_word (places.Call c) = codes "CALL"
statement_word (places.Timing t) = timing_word t
statement_word (places.Read targets) = codes "READ"

-- the word of a place; if there is no place, none, which is never met
abbrev pub spot_word : Option Spot → List ℕ
spot_word None = []
spot_word (Some spot) = statement_word spot.place

-- ---- texts

-- a place: its section, its line and its word
abbrev pub placed_text : ProgramTable → ℕ → ℕ → List ℕ
placed_text program section place =
    (section_of program section).name ++ codes " LINE " ++ decimal (spot_line (spot_at program section place))
    ++ codes " " ++ spot_word (spot_at program section place) ++ 10 ∷ []

-- the place of a frame
abbrev pub frame_placed : ProgramTable → FrameState → List ℕ
frame_placed program frame = placed_text program frame.section frame.place

-- the answer to SHOW PLACE in state p
unfoldable pub place_text : Input → ℕ → List ℕ
place_text input p = frame_placed input.program (run input p).frame

-- the text of an overview in state p
unfoldable pub overview_text : Overview → Input → ℕ → List ℕ
overview_text overviews.Place input p = place_text input p
overview_text overviews.Calls input p = calls_text input p
overview_text overviews.Locals input p = locals_text input p
overview_text overviews.Globals input p = globals_text input p
overview_text overviews.Classes input p = classes_text input p
overview_text overviews.Sets input p = sets_text input
overview_text overviews.Sections input p = sections_text input
