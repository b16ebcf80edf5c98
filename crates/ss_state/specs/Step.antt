-- One step of the language, by the kind of place.
use Rattle.std.specs.Prelude.{Option, Some, None}
use Rattle.ss_program.specs.declared.ways.Ways.{Ways}
use Rattle.ss_program.specs.declared.place.Place.{Place}
use Rattle.ss_program.specs.declared.place.Place.TheVariants as places
use Rattle.ss_program.specs.declared.place.Spot.{Spot}
use Rattle.ss_program.specs.Program.{ProgramTable, spot_at}
use Rattle.ss_store.specs.Tables.{tables_of}
use Rattle.ss_state.specs.State.{State}
use Rattle.ss_state.specs.Statements.{ways_here}
use Rattle.ss_state.specs.Statements.Assigning.{step_assign}
use Rattle.ss_state.specs.Statements.Printing.{step_output}
use Rattle.ss_state.specs.Statements.Reading.{step_read}
use Rattle.ss_state.specs.Statements.Entities.{step_making}
use Rattle.ss_state.specs.Statements.Filing.{step_filing}
use Rattle.ss_state.specs.Statements.Branching.{step_branch}
use Rattle.ss_state.specs.Statements.Looping.{step_looping}
use Rattle.ss_state.specs.Statements.Calling.{step_call, step_control}
use Rattle.ss_state.specs.Statements.Timing.{step_timing}

-- one step of a place with these ways, by its kind
abbrev pub step_at : ProgramTable → State → Ways → Place → State
step_at program state ways (places.Assign a) = step_assign (tables_of program) state ways.next a
step_at program state ways (places.Making m) = step_making (tables_of program) state ways.next m
step_at program state ways (places.Filing f) = step_filing (tables_of program) state ways.next f
step_at program state ways (places.Output o) = step_output (tables_of program) state ways.next o
step_at program state ways (places.Control c) = step_control program state c
step_at program state ways (places.Branch b) = step_branch (tables_of program) state ways b
step_at program state ways (places.Looping l) = step_looping (tables_of program) state ways l
step_at program state ways (places.Call c) = step_call program state c
step_at program state ways (places.Timing x) = step_timing program state ways.next x
step_at program state ways (places.Read ts) = step_read program state ways.next ts

-- one step of an optional place
abbrev pub step_by : ProgramTable → State → Option Spot → State
step_by program state (Some spot) = step_at program state (ways_here program state spot.place) spot.place
-- never met: each frame is at a place
step_by program state None = state

-- one step of a ready state: that of the place of the last frame
abbrev pub step : ProgramTable → State → State
step program state = step_by program state (spot_at program state.frame.section state.frame.place)
