-- One turn of the adapter: the answer to a request, and the state after it.
use Rattle.std.specs.Prelude.{ℕ, ◌+◌, max, Bool, true, List, [], ◌∷◌, ◌++◌, codes, drop, length, take, nat_lt, nat_eq}
use Rattle.std.specs.Prelude.{false, Option, Some, None, Result, Ok, Err, slice_get, if◌then◌else◌}
use Rattle.ss_program.specs.Program.{ProgramTable}
use Rattle.ss_state.specs.State.{State}
use Rattle.ss_state.specs.Run.{Input, run}
use Rattle.ss_debug.specs.BreakLines.{is_break_line}
use Rattle.ss_debug.specs.Answer.{state_line}
use Rattle.ss_debug.specs.Turn.{DebuggerState, debugger_state_with}
use Rattle.ss_debug.specs.View.{DebuggerView, debugger_state_of}
use Rattle.ss_trace.specs.declared.question.Question.{Question}
use Rattle.ss_trace.specs.Value.{value_at}
use Rattle.ss_readings.specs.Value.{Value, text_of}
use Rattle.ss_expressions.specs.Answers.{asked_answer}
use Rattle.ss_expressions.specs.Valued.{value_asked}
use Rattle.ss_prompt.specs.declared.commands.PromptCommand.{PromptCommand}
use Rattle.ss_prompt.specs.declared.commands.PromptCommand.TheVariants.{Plain, ClearAll}
use Rattle.ss_debug.specs.declared.commands.Command.TheVariants.{Bad}
use Rattle.ss_prompt.specs.declared.missing.Missing.{Missing as NoName}
use Rattle.ss_prompt.specs.PromptState.{PromptState}
use Rattle.ss_prompt.specs.Misread.{next_or}
use Rattle.ss_prompt.specs.Points.{is_movement, point_of}
use Rattle.ss_prompt.specs.Prompting.{misread_in, prompt_answer, prompt_state_after}
use Rattle.ss_prompt.specs.Reading.{prompt_command_of}
use Rattle.ss_prompt.specs.Source.{source_lines}
use Rattle.ss_messages.specs.declared.request.Command.{Command}
use Rattle.ss_messages.specs.declared.request.Command.TheVariants.{Initialize, Launch, ConfigurationDone}
use Rattle.ss_messages.specs.declared.request.Command.TheVariants.{SetBreakpoints, SetFunctionBreakpoints}
use Rattle.ss_messages.specs.declared.request.Command.TheVariants.{SetDataBreakpoints, DataBreakpointInfo}
use Rattle.ss_messages.specs.declared.request.Command.TheVariants.{GotoTargets, Goto}
use Rattle.ss_messages.specs.declared.request.Command.TheVariants.{Threads, StackTrace, Scopes, Variables}
use Rattle.ss_messages.specs.declared.request.Command.TheVariants.{Obey, Ask, Completions, Source}
use Rattle.ss_messages.specs.declared.request.Command.TheVariants.{LoadedSources, ExceptionInfo}
use Rattle.ss_messages.specs.declared.request.Command.TheVariants.{Pause, Disconnect, Terminate, Missing, Unknown}
use Rattle.ss_messages.specs.declared.parts.LinePoint.{LinePoint}
use Rattle.ss_messages.specs.Missing.{wanted_text}
use Rattle.ss_messages.specs.Messages.{Sent, reply, failure, event}
use Rattle.ss_messages.specs.Bodies.{stopped_body, output_body, result_body, content_body, sources_body, list_body}
use Rattle.ss_messages.specs.Bodies.{without_last}
use Rattle.ss_messages.specs.Shown.{frames_body}
use Rattle.ss_scopes.specs.Frames.{frames_page, frame_count}
use Rattle.ss_scopes.specs.Variables.{scopes_text, variables_text}
use Rattle.ss_adapter.specs.declared.fixed.TheConstants.{CAPABILITIES, THREADS, NO_EXIT}
use Rattle.ss_adapter.specs.declared.setting.TheConstants.{MOST_POINTS}
use Rattle.ss_adapter.specs.declared.turns.TheConstants.{ELSEWHERE}
use Rattle.ss_messages.specs.declared.counting.Counting.{Counting}
use Rattle.ss_trace.specs.declared.movement.Movement.TheVariants.{Go, GoEnd}
use Rattle.ss_adapter.specs.declared.going.Going.{Going}
use Rattle.ss_adapter.specs.declared.going.Going.TheVariants.{Traced}
use Rattle.ss_adapter.specs.declared.turns.Further.{Further}
use Rattle.ss_adapter.specs.declared.turns.Further.TheVariants as further
use Rattle.ss_adapter.specs.declared.reach.Way.TheVariants.{Forward}
use Rattle.ss_adapter.specs.Going.{going_of, run_going, state_behind, going_answer, watched_by}
use Rattle.ss_adapter.specs.Looking.{reason_at, hit_at, is_over, exception_by, asked_of}
use Rattle.ss_adapter.specs.Completions.{targets_before}
use Rattle.ss_adapter.specs.Targets.{near_items}
use Rattle.ss_adapter.specs.Console.{point_told, desk_with, desk_showing, first_line}
use Rattle.ss_adapter.specs.Places.{Setting, setting_of, section_setting_of, unset_items}
use Rattle.ss_adapter.specs.Watch.{watching_of, info_of}
use Rattle.ss_adapter.specs.Desk.{DeskView}

-- ---- the state

-- the state of the adapter: a debugger in the run of an input, and the desk
pub record AdapterState : Type 0 where
  -- the program and its data
  pub input : Input
  -- the debugger's position, the states that it keeps, and its break lines
  pub debugger : DebuggerState
  -- the desk
  pub desk : DeskView

-- the report of the state at the debugger's position
abbrev pub report_at : Input → DebuggerState → List ℕ
report_at input debugger = (run input debugger.position).report

-- the desk after a report was reached, with the part of it that is sent: each part is sent once
abbrev pub told_with : DeskView → List ℕ → DeskView
told_with desk report = record {
  path = desk.path;
  model = desk.model;
  symbols = desk.symbols;
  displays = desk.displays;
  set = desk.set;
  sections = desk.sections;
  watched = desk.watched;
  told = max desk.told (length report);
  counting = desk.counting;
  stops = desk.stops;
}

-- the state to which a movement leads
abbrev pub adapter_state_at : AdapterState → DebuggerState → AdapterState
adapter_state_at state debugger =
    record { input = state.input; debugger = debugger; desk = told_with state.desk (report_at state.input debugger) }

-- ---- the messages that are sent

-- the part of a report that is not sent yet
abbrev pub untold_output : ℕ → List ℕ → List Sent
untold_output told report =
    if nat_lt told (length report)
    then event (codes "output") (output_body (codes "stdout") (drop told report)) ∷ []
    else []

-- the run stops at the debugger's position, for this reason, and at this break point, if at one
abbrev pub stopped_event : List ℕ → List ℕ → Option ℕ → Sent
stopped_event reason text hit = event (codes "stopped") (stopped_body reason text hit)

-- the text at the change of a question: the movement's answer, and the question
abbrev pub change_text : List ℕ → List ℕ → List ℕ
change_text answer question = without_last answer ++ codes ": " ++ question

-- the movement with this answer ended at the change of the data break point in this place, which is number 1 more
abbrev pub change_event : List ℕ → ℕ → List ℕ → Sent
change_event answer place question =
    stopped_event (codes "data breakpoint") (change_text answer question) (Some (place + 1))

-- the run is over for the editor
abbrev pub exit_events : List Sent
exit_events = event (codes "terminated") (codes "{}") ∷ event (codes "exited") NO_EXIT.now ∷ []

-- the movement ended here: the run stops, or is over, if it is at its end and doesn't stop there
abbrev pub stop_events : Input → DebuggerState → Bool → List ℕ → List Sent
stop_events input debugger at_end answer =
    if is_over at_end (run input debugger.position).status then exit_events
    else stopped_event (reason_at input debugger.breaks debugger.position) (without_last answer)
    (hit_at input debugger.breaks debugger.position) ∷ []

-- the one or the other, by the data break point in that place, if there is one
abbrev pub end_by : Input → DebuggerState → Bool → List ℕ → ℕ → Option (List ℕ) → List Sent
end_by input debugger at_end answer place None = stop_events input debugger at_end answer
end_by input debugger at_end answer place (Some question) = change_event answer place question ∷ []

-- by the place, if it ended at a change
abbrev pub end_of : Input → DebuggerState → Bool → List (List ℕ) → List ℕ → Option ℕ → List Sent
end_of input debugger at_end watched answer None = stop_events input debugger at_end answer
end_of input debugger at_end watched answer (Some place) =
    end_by input debugger at_end answer place (slice_get watched place)

-- the messages after a movement with this answer: first new output, then the stop
abbrev pub behind_movement : Input → DeskView → DebuggerState → List ℕ → Option ℕ → List Sent
behind_movement input desk debugger answer place =
    untold_output desk.told (report_at input debugger)
    ++ end_of input debugger desk.stops.at_end desk.watched answer place

-- the messages after a movement
abbrev pub behind_going : AdapterState → Going → List Sent
behind_going state going =
    behind_movement state.input state.desk (state_behind state.input state.debugger going)
    (going_answer state.input state.debugger going) (watched_by state.input state.debugger going)

-- a reply with a body, and the messages of a movement after it
abbrev pub reply_with_going : AdapterState → List ℕ → Going → List Sent
reply_with_going state body going = reply body ∷ behind_going state going

-- the movement to the stop of the run; if it is not debugged, to its end
abbrev pub going_to_stop : AdapterState → Going
going_to_stop state =
    if state.desk.stops.at_points then run_going state.input state.debugger state.desk.watched Forward
    else Traced GoEnd

-- a reply, and the position of the run
abbrev pub reply_with_stop : Input → ℕ → List ℕ → List Sent
reply_with_stop input p reason = reply (codes "{}") ∷ stopped_event reason (without_last (state_line input p)) None ∷ []

-- the console is a prompt over the debugger, in which LIST does not go on, and SHOW CHANGED is about
-- one step; it does not know the text of the data
abbrev pub at_console : AdapterState → PromptState
at_console state = record {
  model = state.desk.model;
  lines = source_lines state.desk.model;
  input = state.input;
  debugger = state.debugger;
  displays = state.desk.displays;
  listed = None;
  left = None;
  data_text = None;
  symbols = Some state.desk.symbols;
}

-- the answer of the prompt to a command
abbrev pub console_answer : AdapterState → PromptCommand → List ℕ
console_answer state command = prompt_answer (at_console state) command

-- the state of the prompt after a command
abbrev pub console_after : AdapterState → PromptCommand → PromptState
console_after state command = prompt_state_after (at_console state) command

-- whether line l of the model is a break line after a command
abbrev pub is_break_behind : AdapterState → PromptCommand → ℕ → Bool
is_break_behind state command l = is_break_line (console_after state command).debugger.breaks l

-- whether line l has become a break line by a command, or is none any more
abbrev pub point_behind : AdapterState → PromptCommand → Option ℕ → List Sent
point_behind state command None = []
point_behind state command (Some l) =
    point_told state.input.program state.desk.path state.desk.counting l (is_break_behind state command l)
    (is_break_line state.debugger.breaks l)

-- the messages after a command: after a movement its stop, else whether a line is a new break line
abbrev pub behind_command : AdapterState → PromptCommand → Bool → List Sent
behind_command state command true =
    behind_movement state.input state.desk (console_after state command).debugger
    (first_line (console_answer state command)) None
behind_command state command false = point_behind state command (point_of state.input.program command)

-- a command as the console takes it: CLEAR needs a line, since an editor hears of one at a time
abbrev pub console_command : PromptCommand → PromptCommand
console_command ClearAll = Plain Bad
console_command command = command

-- the command of a line of the console
abbrev pub typed_command : AdapterState → List ℕ → PromptCommand
typed_command state line = console_command (prompt_command_of state.input.program line)

-- a command that the console takes: the answer of the prompt, and the messages after it
abbrev pub answer_to_command : AdapterState → PromptCommand → List Sent
answer_to_command state command =
    reply (result_body (console_answer state command)) ∷ behind_command state command (is_movement command)

-- that answer; or why a text in the line is not what it has to be
abbrev pub answer_unless : AdapterState → PromptCommand → Option (List ℕ) → List Sent
answer_unless state command None = answer_to_command state command
answer_unless state command (Some misread) = reply (result_body misread) ∷ []

-- the answer to a line of the console
abbrev pub answer_to_line : AdapterState → List ℕ → List Sent
answer_to_line state line = answer_unless state (typed_command state line) (misread_in (at_console state) line)

-- a text that has no value: the prompt's answer to it, if it means something there, or this reason
abbrev pub answer_without_value : List ℕ → Option (List ℕ) → List Sent
answer_without_value reason None = failure reason ∷ []
answer_without_value reason (Some said) = failure (without_last said) ∷ []

-- a text that is no question: by its value, if it has one
abbrev pub answer_by_value : List ℕ → Option (List ℕ) → Option Value → List Sent
answer_by_value reason said (Some v) = reply (result_body (text_of v)) ∷ []
answer_by_value reason said None = answer_without_value reason said

-- a text that is no question, and why: its value in the present state, as that of an expression or a condition
abbrev pub answer_to_text : AdapterState → List ℕ → List ℕ → List Sent
answer_to_text state text reason =
    answer_by_value reason
    (asked_answer state.desk.symbols state.input.program (run state.input state.debugger.position) text)
    (value_asked state.desk.symbols state.input.program (run state.input state.debugger.position)
    (run state.input state.debugger.position).frame.section text)

-- a text that is asked: by the value of the question that it is, if the program has its names
abbrev pub answer_to_asked : AdapterState → List ℕ → Option (Result Question NoName) → List Sent
answer_to_asked state text None = answer_to_text state text (codes "no question")
answer_to_asked state text (Some (Err m)) = answer_to_text state text (codes "nothing has this name")
answer_to_asked state text (Some (Ok q)) = reply (result_body (value_at state.input q state.debugger.position)) ∷ []

-- the answer about a fault
abbrev pub answer_on_fault : Option (List ℕ) → List Sent
answer_on_fault (Some body) = reply body ∷ []
answer_on_fault None = failure (codes "no fault") ∷ []

-- the first of some break points
unfoldable pub first_points : ℕ → List LinePoint → List LinePoint
first_points n points = take n points

-- the break lines after a request
abbrev pub setting_in : AdapterState → List LinePoint → Setting
setting_in state points =
    setting_of state.input.program state.desk.symbols state.desk.counting state.debugger.breaks state.desk.set
    state.desk.sections (first_points MOST_POINTS points)

-- n break points of a request that are not set, for this reason
abbrev pub answer_unset : List ℕ → ℕ → List Sent
answer_unset reason n = reply (list_body (codes "breakpoints") (unset_items reason n)) ∷ []

-- the answer to a request about a file other than the model: none of its break points is set
abbrev pub answers_elsewhere : Command → List Sent
answers_elsewhere (SetBreakpoints path points) = answer_unset ELSEWHERE.now (length points)
answers_elsewhere other = failure ELSEWHERE.now ∷ []

-- how many break points a request sets
abbrev pub point_count : Command → Option ℕ
point_count (SetBreakpoints path points) = Some (length points)
point_count (SetFunctionBreakpoints names) = Some (length names)
point_count (SetDataBreakpoints ids) = Some (length ids)
point_count other = None

-- how many of them are not set, since the run is not debugged
abbrev pub undebugged_count : AdapterState → Command → Option ℕ
undebugged_count state command = if state.desk.stops.at_points then None else point_count command

-- the break lines after a request that names sections
abbrev pub sections_in : AdapterState → List (Option (List ℕ)) → Setting
sections_in state names =
    section_setting_of state.input.program state.desk.counting state.debugger.breaks state.desk.sections state.desk.set
    names

-- the content of a source: the report is number 1
abbrev pub source_messages : List ℕ → ℕ → List Sent
source_messages report reference =
    if nat_eq reference 1 then reply (content_body report) ∷ [] else failure (codes "no source") ∷ []

-- a reply, and the run is over
abbrev pub answer_to_terminate : List Sent
answer_to_terminate = reply (codes "{}") ∷ exit_events

-- configurationDone
abbrev pub answer_to_configuration : AdapterState → List Sent
answer_to_configuration state =
    if state.desk.stops.at_start then reply_with_stop state.input state.debugger.position (codes "entry")
    else reply_with_going state (codes "{}") (going_to_stop state)

-- a page of the frames of a state, and how many there are
abbrev pub answer_with_frames : Input → State → List ℕ → Counting → ℕ → ℕ → List Sent
answer_with_frames input state path counting start levels =
    reply (frames_body (frames_page input.program state path counting start levels) (frame_count state)) ∷ []

-- the words that may be typed at a place, by the section that runs
abbrev pub answer_with_completions : ProgramTable → State → Counting → List ℕ → ℕ → List Sent
answer_with_completions program state counting text column =
    reply (list_body (codes "targets") (targets_before program state.frame.section counting text column)) ∷ []

-- goto: to the state of a number, or to the end of the run, if that is before
abbrev pub going_to_state : ℕ → Going
going_to_state target = Traced (Go target)

-- the answer to goto: the run is there then
abbrev pub answer_to_goto : AdapterState → ℕ → List Sent
answer_to_goto state target =
    reply (codes "{}")
    ∷ untold_output state.desk.told
    (report_at state.input (state_behind state.input state.debugger (going_to_state target)))
    ++ stopped_event (codes "goto")
    (without_last (going_answer state.input state.debugger (going_to_state target))) None ∷ []

-- the answer to a request that asks about the run
unfoldable pub answer_about_run : AdapterState → Command → List Sent
answer_about_run state (Initialize counting) = reply CAPABILITIES.now ∷ []
answer_about_run state (Launch model input stops) = failure (codes "a run is launched already") ∷ []
answer_about_run state Threads = reply THREADS.now ∷ []
answer_about_run state (StackTrace start levels) =
    answer_with_frames state.input (run state.input state.debugger.position) state.desk.path state.desk.counting start
    levels
answer_about_run state (Scopes frame) =
    reply (list_body (codes "scopes") (scopes_text state.input state.debugger.position frame)) ∷ []
answer_about_run state (Variables wanted) =
    reply (list_body (codes "variables") (variables_text state.input state.debugger.position wanted)) ∷ []
answer_about_run state (DataBreakpointInfo reference name) = reply (info_of state.input.program reference name) ∷ []
answer_about_run state (Completions text column) =
    answer_with_completions state.input.program (run state.input state.debugger.position) state.desk.counting text
    column
answer_about_run state (Ask text) = answer_to_asked state text (asked_of state.input.program text)
answer_about_run state (Source reference) = source_messages (report_at state.input state.debugger) reference
answer_about_run state LoadedSources = reply (sources_body state.desk.path) ∷ []
answer_about_run state ExceptionInfo = answer_on_fault (exception_by (run state.input state.debugger.position).status)
answer_about_run state Pause = reply_with_stop state.input state.debugger.position (codes "pause")
answer_about_run state Terminate = answer_to_terminate
answer_about_run state (Missing argument) = failure (wanted_text argument) ∷ []
answer_about_run state Unknown = failure (codes "unknown request") ∷ []
answer_about_run state other = reply (codes "{}") ∷ []

-- the answer to a request for no movement, if all its break points may be set
unfoldable pub told_debugged : AdapterState → Command → List Sent
told_debugged state (SetBreakpoints path points) =
    reply (list_body (codes "breakpoints") (setting_in state points).text) ∷ []
told_debugged state (SetFunctionBreakpoints names) =
    reply (list_body (codes "breakpoints") (sections_in state names).text) ∷ []
told_debugged state (SetDataBreakpoints ids) =
    reply (list_body (codes "breakpoints") (watching_of state.input.program ids).text) ∷ []
told_debugged state ConfigurationDone = answer_to_configuration state
told_debugged state (GotoTargets path line) =
    reply (list_body (codes "targets") (near_items state.input state.debugger state.desk.counting line)) ∷ []
told_debugged state (Goto target) = answer_to_goto state target
told_debugged state (Obey text) = answer_to_line state text
told_debugged state other = answer_about_run state other

-- that answer; or that n of its break points are not set, since the run is not debugged
abbrev pub told_by : AdapterState → Command → Option ℕ → List Sent
told_by state command None = told_debugged state command
told_by state command (Some n) = answer_unset (codes "the run is not debugged") n

-- the answer to a request for no movement
abbrev pub told_of : AdapterState → Command → List Sent
told_of state command = told_by state command (undebugged_count state command)

-- the answer to a request; if it asks for a movement, the messages after that
abbrev pub answers_by : AdapterState → Command → Option Going → List Sent
answers_by state command (Some g) = reply_with_going state (codes "{}") g
answers_by state command None = told_of state command

-- the answer to a request
abbrev pub answers : AdapterState → Command → List Sent
answers state command = answers_by state command (going_of state.input state.debugger state.desk.watched command)

-- ---- the state after a request

-- the prompt's state after a command, with this desk, but its questions are the prompt's
abbrev pub left_at : AdapterState → PromptState → DeskView → AdapterState
left_at state after desk =
    record { input = state.input; debugger = after.debugger; desk = desk_showing desk after.displays }

-- the desk after a command that is no movement
abbrev pub desk_behind : AdapterState → PromptCommand → Option ℕ → DeskView
desk_behind state command None = state.desk
desk_behind state command (Some l) =
    desk_with state.desk l (is_break_behind state command l) (is_break_line state.debugger.breaks l)

-- the desk after a command
abbrev pub desk_after : AdapterState → PromptCommand → Bool → DeskView
desk_after state command true = told_with state.desk (report_at state.input (console_after state command).debugger)
desk_after state command false = desk_behind state command (point_of state.input.program command)

-- the state after a command that the console takes
abbrev pub after_command : AdapterState → PromptCommand → AdapterState
after_command state command =
    left_at state (console_after state command) (desk_after state command (is_movement command))

-- the state after a line of the console: if a text in it is not what it has to be, nothing changes
abbrev pub behind_line : AdapterState → List ℕ → AdapterState
behind_line state line =
    next_or (misread_in (at_console state) line) state (after_command state (typed_command state line))

-- the state after break lines
abbrev pub behind_setting : AdapterState → Setting → AdapterState
behind_setting state setting = record {
  input = state.input;
  debugger = debugger_state_with state.debugger setting.breaks;
  desk = record {
    path = state.desk.path;
    model = state.desk.model;
    symbols = state.desk.symbols;
    displays = state.desk.displays;
    set = setting.set;
    sections = state.desk.sections;
    watched = state.desk.watched;
    told = state.desk.told;
    counting = state.desk.counting;
    stops = state.desk.stops;
  };
}

-- the state after break lines of sections
abbrev pub behind_sections : AdapterState → Setting → AdapterState
behind_sections state setting = record {
  input = state.input;
  debugger = debugger_state_with state.debugger setting.breaks;
  desk = record {
    path = state.desk.path;
    model = state.desk.model;
    symbols = state.desk.symbols;
    displays = state.desk.displays;
    set = state.desk.set;
    sections = setting.set;
    watched = state.desk.watched;
    told = state.desk.told;
    counting = state.desk.counting;
    stops = state.desk.stops;
  };
}

-- the state after data break points
abbrev pub behind_watching : AdapterState → List (List ℕ) → AdapterState
behind_watching state watched = record {
  input = state.input;
  debugger = state.debugger;
  desk = record {
    path = state.desk.path;
    model = state.desk.model;
    symbols = state.desk.symbols;
    displays = state.desk.displays;
    set = state.desk.set;
    sections = state.desk.sections;
    watched = watched;
    told = state.desk.told;
    counting = state.desk.counting;
    stops = state.desk.stops;
  };
}

-- the state once configured: if it is configured again, the run stops at its position
abbrev pub once_configured : AdapterState → AdapterState
once_configured state = record {
  input = state.input;
  debugger = state.debugger;
  desk = record {
    path = state.desk.path;
    model = state.desk.model;
    symbols = state.desk.symbols;
    displays = state.desk.displays;
    set = state.desk.set;
    sections = state.desk.sections;
    watched = state.desk.watched;
    told = state.desk.told;
    counting = state.desk.counting;
    stops = record {
      at_start = true;
      at_points = state.desk.stops.at_points;
      at_end = state.desk.stops.at_end;
    };
  };
}

-- the state after configurationDone
abbrev pub behind_configuring : AdapterState → AdapterState
behind_configuring state =
    once_configured
    (if state.desk.stops.at_start then state
    else adapter_state_at state (state_behind state.input state.debugger (going_to_stop state)))

-- the state after goto
abbrev pub behind_goto : AdapterState → ℕ → AdapterState
behind_goto state target =
    adapter_state_at state (state_behind state.input state.debugger (going_to_state target))

-- the state after a request for no movement, if all its break points may be set
unfoldable pub left_debugged : AdapterState → Command → AdapterState
left_debugged state (SetBreakpoints path points) = behind_setting state (setting_in state points)
left_debugged state (SetFunctionBreakpoints names) = behind_sections state (sections_in state names)
left_debugged state (SetDataBreakpoints ids) = behind_watching state (watching_of state.input.program ids).watched
left_debugged state ConfigurationDone = behind_configuring state
left_debugged state (Goto target) = behind_goto state target
left_debugged state (Obey text) = behind_line state text
left_debugged state other = state

-- that state; nothing changes if n of its break points are not set
abbrev pub left_with : AdapterState → Command → Option ℕ → AdapterState
left_with state command None = left_debugged state command
left_with state command (Some n) = state

-- the state after a request for no movement
abbrev pub left_by : AdapterState → Command → AdapterState
left_by state command = left_with state command (undebugged_count state command)

-- the state after a request for a movement, or for none
abbrev pub state_by : AdapterState → Command → Option Going → AdapterState
state_by state command (Some g) = adapter_state_at state (state_behind state.input state.debugger g)
state_by state command None = left_by state command

-- the state after a request
abbrev pub state_after : AdapterState → Command → AdapterState
state_after state command = state_by state command (going_of state.input state.debugger state.desk.watched command)

-- whether the session goes on
abbrev pub further_of : Command → Further
further_of Disconnect = further.Ended
further_of _ = further.On

-- a debugger and a desk
abbrev pub adapter_state_of : DebuggerView → DeskView → AdapterState
adapter_state_of debugger desk =
    record { input = debugger.machine.input; debugger = debugger_state_of debugger; desk = desk }
