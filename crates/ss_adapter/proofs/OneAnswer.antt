-- Each request has one answer.
use Rattle.std.proofs.Common.{ℕ, Bool, true, false, cond, nat_lt, nat_eq, List, [], ◌∷◌, ◌++◌, length, drop, codes}
use Rattle.std.proofs.Common.{Option, Some, None, Result, Ok, Err}
use Rattle.ss_program.specs.Program.{ProgramTable}
use Rattle.ss_state.specs.Run.{Input}
use Rattle.ss_debug.specs.Turn.{DebuggerState}
use Rattle.ss_trace.specs.declared.question.Question.{Question}
use Rattle.ss_prompt.specs.declared.commands.PromptCommand.{PromptCommand}
use Rattle.ss_prompt.specs.declared.missing.Missing.{Missing as NoName}
use Rattle.ss_prompt.specs.Points.{is_movement, point_of}
use Rattle.ss_prompt.specs.Prompting.{misread_in}
use Rattle.ss_state.specs.Run.{run}
use Rattle.ss_messages.specs.declared.request.Command.{Command}
use Rattle.ss_messages.specs.declared.request.Command.TheVariants.{ConfigurationDone, Obey, Ask, Source}
use Rattle.ss_messages.specs.declared.request.Command.TheVariants.{ExceptionInfo, Goto, Terminate}
use Rattle.ss_messages.specs.declared.request.Command.TheVariants.{SetBreakpoints}
use Rattle.ss_messages.specs.declared.counting.Counting.{Counting}
use Rattle.ss_messages.specs.Messages.{Sent, reply, failure, event}
use Rattle.ss_messages.specs.Bodies.{output_body, content_body, result_body, without_last}
use Rattle.ss_adapter.specs.declared.going.Going.{Going}
use Rattle.ss_readings.specs.Value.{Value}
use Rattle.ss_adapter.specs.Desk.{DeskView}
use Rattle.ss_adapter.specs.Looking.{reason_at, hit_at, is_over, exception_by, asked_of}
use Rattle.ss_adapter.specs.Going.{going_of, state_behind, watched_by}
use Rattle.ss_adapter.specs.Console.{point_told}
use Rattle.ss_adapter.specs.Turn.{AdapterState, report_at, untold_output, stop_events, end_by, end_of}
use Rattle.ss_adapter.specs.Turn.{behind_movement, behind_going, going_to_stop, point_behind, behind_command}
use Rattle.ss_adapter.specs.Turn.{at_console, console_after, typed_command, answer_unless}
use Rattle.ss_adapter.specs.Turn.{answer_without_value, answer_by_value, answer_to_asked, answer_on_fault}
use Rattle.ss_adapter.specs.Turn.{answer_to_goto, going_to_state, answers_elsewhere}
use Rattle.ss_adapter.specs.Turn.{answer_about_run, told_debugged, told_by, undebugged_count, answers_by, answer_to_configuration}
use Rattle.ss_adapter.specs.Turn.{exit_events, stopped_event, reply_with_stop, reply_with_going, source_messages}
use Rattle.ss_adapter.specs.Before.{answers_before, warning_events}
use Rattle.ss_adapter.specs.Laws.{AreEvents, AreOneAnswer, HaveOneAnswer}

-- ---- lists of messages

events_by : (x : Bool) (a b : List Sent) → AreEvents a → AreEvents b → AreEvents (cond x a b)
events_by true a b p q = p
events_by false a b p q = q

answer_by : (x : Bool) (a b : List Sent) → AreOneAnswer a → AreOneAnswer b → AreOneAnswer (cond x a b)
answer_by true a b p q = p
answer_by false a b p q = q

events_more : (a b : List Sent) → AreEvents a → AreEvents b → AreEvents (a ++ b)
events_more [] b p q = q
events_more (event name body ∷ ms) b p q = events_more ms b p q
events_more (reply body ∷ ms) b p q = absurd p
events_more (failure reason ∷ ms) b p q = absurd p

-- ---- the messages after a movement

output_by : (told : ℕ) (report : List ℕ) (more : Bool) →
    AreEvents (cond more (event (codes "output") (output_body (codes "stdout") (drop told report)) ∷ []) [])
output_by told report true = tt
output_by told report false = tt

output_told : (told : ℕ) (report : List ℕ) → AreEvents (untold_output told report)
output_told told report = output_by told report (nat_lt told (length report))

stop_told : (input : Input) (debugger : DebuggerState) (at_end : Bool) (answer : List ℕ) →
    AreEvents (stop_events input debugger at_end answer)
stop_told input debugger at_end answer =
    events_by (is_over at_end (run input debugger.position).status) exit_events
    (stopped_event (reason_at input debugger.breaks debugger.position) (without_last answer)
    (hit_at input debugger.breaks debugger.position) ∷ []) tt tt

end_by_told : (input : Input) (debugger : DebuggerState) (at_end : Bool) (answer : List ℕ) (place : ℕ)
    (question : Option (List ℕ)) → AreEvents (end_by input debugger at_end answer place question)
end_by_told input debugger at_end answer place None = stop_told input debugger at_end answer
end_by_told input debugger at_end answer place (Some question) = tt

end_told : (input : Input) (debugger : DebuggerState) (at_end : Bool) (watched : List (List ℕ)) (answer : List ℕ)
    (place : Option ℕ) → AreEvents (end_of input debugger at_end watched answer place)
end_told input debugger at_end watched answer None = stop_told input debugger at_end answer
end_told input debugger at_end watched answer (Some place) = end_by_told input debugger at_end answer place _

movement_told : (input : Input) (desk : DeskView) (debugger : DebuggerState) (answer : List ℕ) (place : Option ℕ) →
    AreEvents (behind_movement input desk debugger answer place)
movement_told input desk debugger answer place =
    events_more (untold_output desk.told (report_at input debugger)) _ (output_told desk.told (report_at input debugger))
    (end_told input debugger desk.stops.at_end desk.watched answer place)

going_told : (state : AdapterState) (going : Going) → AreEvents (behind_going state going)
going_told state going =
    movement_told state.input state.desk (state_behind state.input state.debugger going) _
    (watched_by state.input state.debugger going)

-- ---- the messages after a command of the console

point_is_told : (program : ProgramTable) (path : List ℕ) (counting : Counting) (line : ℕ) (new old : Bool) →
    AreEvents (point_told program path counting line new old)
point_is_told program path counting line true true = tt
point_is_told program path counting line true false = tt
point_is_told program path counting line false true = tt
point_is_told program path counting line false false = tt

line_told : (state : AdapterState) (command : PromptCommand) (line : Option ℕ) →
    AreEvents (point_behind state command line)
line_told state command None = tt
line_told state command (Some l) = point_is_told state.input.program state.desk.path state.desk.counting l _ _

command_told : (state : AdapterState) (command : PromptCommand) (moves : Bool) →
    AreEvents (behind_command state command moves)
command_told state command true =
    movement_told state.input state.desk (console_after state command).debugger _ None
command_told state command false = line_told state command (point_of state.input.program command)

-- ---- a request

without_value_answered : (reason : List ℕ) (said : Option (List ℕ)) → AreOneAnswer (answer_without_value reason said)
without_value_answered reason None = tt
without_value_answered reason (Some s) = tt

value_answered : (reason : List ℕ) (said : Option (List ℕ)) (value : Option Value) →
    AreOneAnswer (answer_by_value reason said value)
value_answered reason said None = without_value_answered reason said
value_answered reason said (Some v) = tt

question_answered : (state : AdapterState) (text : List ℕ) (question : Option (Result Question NoName)) →
    AreOneAnswer (answer_to_asked state text question)
question_answered state text (Some (Ok q)) = tt
question_answered state text (Some (Err m)) = value_answered _ _ _
question_answered state text None = value_answered _ _ _

fault_answered : (body : Option (List ℕ)) → AreOneAnswer (answer_on_fault body)
fault_answered (Some body) = tt
fault_answered None = tt

configuration_answered : (state : AdapterState) → AreOneAnswer (answer_to_configuration state)
configuration_answered state =
    answer_by state.desk.stops.at_start
    (reply_with_stop state.input state.debugger.position (codes "entry"))
    (reply_with_going state (codes "{}") (going_to_stop state)) tt
    (going_told state (going_to_stop state))

source_answered : (report : List ℕ) (reference : ℕ) → AreOneAnswer (source_messages report reference)
source_answered report reference =
    answer_by (nat_eq reference 1) (reply (content_body report) ∷ []) (failure (codes "no source") ∷ []) tt tt

goto_answered : (state : AdapterState) (target : ℕ) → AreOneAnswer (answer_to_goto state target)
goto_answered state target =
    events_more (untold_output state.desk.told
    (report_at state.input (state_behind state.input state.debugger (going_to_state target)))) _
    (output_told state.desk.told
    (report_at state.input (state_behind state.input state.debugger (going_to_state target)))) tt

line_answered : (state : AdapterState) (command : PromptCommand) (misread : Option (List ℕ)) →
    AreOneAnswer (answer_unless state command misread)
line_answered state command None = command_told state command (is_movement command)
line_answered state command (Some m) = tt

standing_answered : (state : AdapterState) (command : Command) → AreOneAnswer (told_debugged state command)
unfolding told_debugged answer_about_run
standing_answered state ConfigurationDone = configuration_answered state
standing_answered state (Goto target) = goto_answered state target
standing_answered state (Obey text) =
    line_answered state (typed_command state text) (misread_in (at_console state) text)
standing_answered state (Ask text) =
    question_answered state text (asked_of state.input.program text)
standing_answered state (Source reference) = source_answered (report_at state.input state.debugger) reference
standing_answered state ExceptionInfo =
    fault_answered (exception_by (run state.input state.debugger.position).status)
standing_answered state _ = tt

answered_by : (state : AdapterState) (command : Command) (unset : Option ℕ) →
    AreOneAnswer (told_by state command unset)
answered_by state command None = standing_answered state command
answered_by state command (Some n) = tt

request_answered : (state : AdapterState) (command : Command) (going : Option Going) →
    AreOneAnswer (answers_by state command going)
request_answered state command (Some g) =
    going_told state g
request_answered state command None = answered_by state command (undebugged_count state command)

elsewhere_answered : (command : Command) → AreOneAnswer (answers_elsewhere command)
elsewhere_answered (SetBreakpoints path points) = tt
elsewhere_answered _ = tt

before_answered : (command : Command) → AreOneAnswer (answers_before command)
unfolding answers_before
before_answered Terminate = tt
before_answered _ = tt

warned : (warnings : List ℕ) → AreEvents (warning_events warnings)
warned [] = tt
warned (b ∷ bs) = tt

pub one_answer : HaveOneAnswer
one_answer = record {
  after = λ state command. request_answered state command
      (going_of state.input state.debugger state.desk.watched command);
  elsewhere = elsewhere_answered;
  before = before_answered;
  accepted = λ warnings. events_more (warning_events warnings) _ (warned warnings) tt;
  refused = λ line said. tt;
}
