-- The movements of a request: those of the debugger, and no others.
use Rattle.std.specs.Prelude.{ℕ, ◌&&◌, Bool, false, List, [], Option, Some, None, nat_le, slice_get, unwrap_or}
use Rattle.std.specs.Prelude.{if◌then◌else◌}
use Rattle.ss_program.specs.Program.{ProgramTable}
use Rattle.ss_state.specs.Run.{Input}
use Rattle.ss_debug.specs.declared.limits.TheConstants.{GREATEST_BOUND}
use Rattle.ss_debug.specs.declared.commands.Command.TheVariants.{Move}
use Rattle.ss_debug.specs.declared.commands.Movement.TheVariants.{Step, Run, Back, BackBreak}
use Rattle.ss_debug.specs.Turn as debugger
use Rattle.ss_debug.specs.Turn.{DebuggerState}
use Rattle.ss_trace.specs.Turn as trace
use Rattle.ss_trace.specs.declared.movement.Movement.{Movement}
use Rattle.ss_trace.specs.declared.movement.Movement.TheVariants.{Over, Out, BackOver, Go}
use Rattle.ss_trace.specs.declared.question.Question.{Question}
use Rattle.ss_messages.specs.declared.request.Command.{Command}
use Rattle.ss_messages.specs.declared.request.Command.TheVariants.{Continue, Next, StepIn, StepOut, StepBack}
use Rattle.ss_messages.specs.declared.request.Command.TheVariants.{ReverseContinue, Restart}
use Rattle.ss_adapter.specs.declared.going.Going.{Going}
use Rattle.ss_adapter.specs.declared.going.Going.TheVariants.{Standing, Traced, Watched}
use Rattle.ss_adapter.specs.declared.going.Stride.{Stride}
use Rattle.ss_adapter.specs.declared.going.Stride.TheVariants as stride
use Rattle.ss_adapter.specs.declared.reach.Way.{Way}
use Rattle.ss_adapter.specs.declared.reach.Way.TheVariants as way
use Rattle.ss_adapter.specs.Looking.{question_of}
use Rattle.ss_adapter.specs.declared.reach.Reach.{Reach}
use Rattle.ss_adapter.specs.declared.reach.Found.{Found}
use Rattle.ss_adapter.specs.Reach.{change_movement, movement_reach, reaches, nearest, nearest_place}

-- the state of the debugger after a movement
abbrev pub state_behind : Input → DebuggerState → Going → DebuggerState
state_behind input d (Standing m) = debugger.debugger_state_after input d (Move m)
state_behind input debugger (Traced m) = trace.state_after input debugger m
state_behind input debugger (Watched place m) = trace.state_after input debugger m

-- the answer of the debugger to a movement
abbrev pub going_answer : Input → DebuggerState → Going → List ℕ
going_answer input d (Standing m) = debugger.answer input d (Move m)
going_answer input debugger (Traced m) = trace.answer input debugger m
going_answer input debugger (Watched place m) = trace.answer input debugger m

-- the place of the data break point to whose change a movement goes
abbrev pub place_of : Going → Option ℕ
place_of (Watched place m) = Some place
place_of _ = None

-- whether a movement ends at a change of its question
abbrev pub ends_at_change : Input → DebuggerState → Going → Bool
ends_at_change input debugger (Standing m) = false
ends_at_change input debugger (Traced m) = trace.ends_at_change input debugger m
ends_at_change input debugger (Watched place m) = trace.ends_at_change input debugger m

-- the place of the data break point at whose change a movement ends
abbrev pub watched_by : Input → DebuggerState → Going → Option ℕ
watched_by input debugger going = if ends_at_change input debugger going then place_of going else None

-- the movement on to the stop of the run, or back to a stop: RUN, BACK BREAK
abbrev pub plain_going : Way → Going
plain_going way.Forward = Standing (Run GREATEST_BOUND)
plain_going way.Back = Standing BackBreak

-- the movement to a change of the question that is the data break point in this place
abbrev pub change_going : Way → ℕ → Option Question → Going
change_going way place None = plain_going way
change_going way place (Some x) = Watched place (change_movement way x)

-- the movement to the change of the data break point in this place
abbrev pub watched_going : ProgramTable → Way → List (List ℕ) → Option ℕ → Going
watched_going program way watched None = plain_going way
watched_going program way watched (Some place) =
    change_going way place (question_of program (unwrap_or (slice_get watched place) []))

-- the movement to a stop; with data break points, RUN CHANGE or BACK CHANGE to the nearest change
abbrev pub run_going : Input → DebuggerState → List (List ℕ) → Way → Going
run_going input debugger watched way =
    watched_going input.program way watched (nearest_place input debugger way watched)

-- the movement of a stride: over a called section, or out of the section
abbrev pub stride_movement : Stride → Movement
stride_movement stride.Over = Over 1
stride_movement stride.Out = Out

-- OVER or OUT, or the movement to the nearest change of a data break point, if that is no further
abbrev pub step_by : ProgramTable → List (List ℕ) → Movement → Reach → Option Found → Going
step_by program watched movement reach None = Traced movement
step_by program watched movement reach (Some f) =
    if f.reach.met && nat_le f.reach.steps reach.steps then watched_going program way.Forward watched (Some f.place)
    else Traced movement

-- that movement, by how far each one leads
abbrev pub step_going : Input → DebuggerState → List (List ℕ) → Movement → Going
step_going input debugger watched movement =
    step_by input.program watched movement (movement_reach input debugger movement)
    (nearest (reaches input debugger way.Forward watched))

-- the movement that a request asks for: OVER, STEP, OUT; BACK OVER, or BACK for a single step; GO 0
abbrev pub going_of : Input → DebuggerState → List (List ℕ) → Command → Option Going
going_of input debugger watched Continue = Some (run_going input debugger watched way.Forward)
going_of input debugger watched Next = Some (step_going input debugger watched (Over 1))
going_of input debugger watched StepIn = Some (Standing (Step 1))
going_of input debugger watched StepOut = Some (step_going input debugger watched Out)
going_of input debugger watched (StepBack single) = Some (if single then Standing (Back 1) else Traced (BackOver 1))
going_of input debugger watched ReverseContinue = Some (run_going input debugger watched way.Back)
going_of input debugger watched Restart = Some (Traced (Go 0))
going_of input debugger watched _ = None
