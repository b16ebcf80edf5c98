-- The command that a message asks for.
use Rattle.std.specs.Prelude.{ℕ, Bool, true, false, not, ◌&&◌, List, [], ◌∷◌, codes, Option, Some, None}
use Rattle.std.specs.Prelude.{option_and_then, unwrap_or, if◌then◌else◌}
use Rattle.std.specs.Str.{bytes_eq}
use Rattle.serde_json.specs.Data.{Data, null, Items, no_items, item}
use Rattle.serde_json.specs.Find.{get, as_array, as_bool, as_number, as_str, as_u64}
use Rattle.ss_messages.specs.declared.request.Command.{Command}
use Rattle.ss_messages.specs.declared.request.Command.TheVariants.{Initialize, Launch, ConfigurationDone}
use Rattle.ss_messages.specs.declared.request.Command.TheVariants.{SetBreakpoints, SetFunctionBreakpoints}
use Rattle.ss_messages.specs.declared.request.Command.TheVariants.{SetDataBreakpoints, SetExceptionBreakpoints}
use Rattle.ss_messages.specs.declared.request.Command.TheVariants.{DataBreakpointInfo, GotoTargets}
use Rattle.ss_messages.specs.declared.request.Command.TheVariants.{Completions, Threads}
use Rattle.ss_messages.specs.declared.request.Command.TheVariants.{StackTrace, Scopes, Variables}
use Rattle.ss_messages.specs.declared.request.Command.TheVariants.{Obey, Ask, Source, LoadedSources, ExceptionInfo}
use Rattle.ss_messages.specs.declared.request.Command.TheVariants.{Continue, Next, StepIn, StepOut, StepBack}
use Rattle.ss_messages.specs.declared.request.Command.TheVariants.{ReverseContinue, Restart, Goto, Pause}
use Rattle.ss_messages.specs.declared.request.Command.TheVariants.{Disconnect, Terminate, Missing, Unknown}
use Rattle.ss_messages.specs.declared.request.Filter.{Filter}
use Rattle.ss_messages.specs.declared.request.Filter.TheVariants.{All, Named, Indexed}
use Rattle.ss_messages.specs.declared.missing.Argument.TheVariants.{Model, Expression, Name, Typed, Column}
use Rattle.ss_messages.specs.declared.missing.Argument.TheVariants.{Line, Target}
use Rattle.ss_messages.specs.declared.parts.LinePoint.{LinePoint}
use Rattle.ss_messages.specs.declared.counting.Counting.{Counting}
use Rattle.ss_messages.specs.declared.request.Stops.{Stops}
use Rattle.ss_messages.specs.declared.request.Wanted.{Wanted}
use Rattle.ss_messages.specs.declared.request.Request.{Request}

-- ---- members of an object

-- the number at a key
abbrev pub number_in : List ℕ → Data → Option ℕ
number_in key d = option_and_then as_u64 (option_and_then as_number (get key d))

-- the same, or 0
abbrev pub number_at : List ℕ → Data → ℕ
number_at key d = unwrap_or (number_in key d) 0

-- the text at a key
abbrev pub text_at : List ℕ → Data → Option (List ℕ)
text_at key d = option_and_then as_str (get key d)

-- the flag at a key, or this one
abbrev pub flag_at : List ℕ → Bool → Data → Bool
flag_at key other d = unwrap_or (option_and_then as_bool (get key d)) other

-- whether the value at a key is this text; a missing text is empty
abbrev pub is_text_at : List ℕ → List ℕ → Data → Bool
is_text_at key text d = bytes_eq (unwrap_or (text_at key d) []) text

-- whether a break point has no count of hits, and no message in place of a stop
abbrev pub is_simple : Data → Bool
is_simple d = is_text_at (codes "hitCondition") [] d && is_text_at (codes "logMessage") [] d

-- whether a break point stops each time: it has no condition either
abbrev pub is_plain : Data → Bool
is_plain d = is_text_at (codes "condition") [] d && is_simple d

-- a break point on a line: its line, 0 for one that has none, and its condition, which is empty if it has none
abbrev pub line_point_of : Data → LinePoint
line_point_of d = record {
  line = number_at (codes "line") d;
  condition = unwrap_or (text_at (codes "condition") d) [];
  is_simple = is_simple d;
}

-- some break points on lines
abbrev pub line_points_of : Items → List LinePoint
line_points_of no_items = []
line_points_of (item d ds) = line_point_of d ∷ line_points_of ds

-- the text at a key of a break point that stops each time, empty if it has none there
abbrev pub plain_text : List ℕ → Data → Option (List ℕ)
plain_text key d = if is_plain d then Some (unwrap_or (text_at key d) []) else None

-- those of some break points
abbrev pub texts_of : List ℕ → Items → List (Option (List ℕ))
texts_of key no_items = []
texts_of key (item d ds) = plain_text key d ∷ texts_of key ds

-- the break points of a request
abbrev pub points_at : Data → Items
points_at d = unwrap_or (option_and_then as_array (get (codes "breakpoints") d)) no_items

-- the same on lines
abbrev pub line_points_at : Data → List LinePoint
line_points_at d = line_points_of (points_at d)

-- their texts at a key
abbrev pub texts_at : List ℕ → Data → List (Option (List ℕ))
texts_at key d = texts_of key (points_at d)

-- the path of the source that a request speaks of
abbrev pub path_at : Data → Option (List ℕ)
path_at d = option_and_then (text_at (codes "path")) (get (codes "source") d)

-- the arguments of a request; null if there are none
abbrev pub arguments_of : Data → Data
arguments_of d = unwrap_or (get (codes "arguments") d) null

-- ---- commands

-- from which numbers an editor counts lines and columns: from 1 on, unless it says that it does not
abbrev pub counting_of : Data → Counting
counting_of d = record {
  lines_from_one = flag_at (codes "linesStartAt1") true d;
  columns_from_one = flag_at (codes "columnsStartAt1") true d;
}

-- whether a run is debugged, as it is unless it is said that it is not
abbrev pub is_debugged : Data → Bool
is_debugged d = not (flag_at (codes "noDebug") false d)

-- the stops of a run: if it is debugged, at break points, and at its end unless the request says no
abbrev pub stops_of : Data → Stops
stops_of d = record {
  at_start = is_debugged d && flag_at (codes "stopOnEntry") false d;
  at_points = is_debugged d;
  at_end = is_debugged d && flag_at (codes "stopAtEnd") true d;
}

-- launch needs a model
abbrev pub launch_with : Option (List ℕ) → Option (List ℕ) → Stops → Command
launch_with None input stops = Missing Model
launch_with (Some model) input stops = Launch model input stops

-- launch
abbrev pub launch_of : Data → Command
launch_of d = launch_with (text_at (codes "model") d) (text_at (codes "data") d) (stops_of d)

-- evaluate needs an expression
abbrev pub evaluate_with : Bool → Option (List ℕ) → Command
evaluate_with obeyed None = Missing Expression
evaluate_with obeyed (Some text) = if obeyed then Obey text else Ask text

-- evaluate: in the context of the repl a line is obeyed, in another a question is asked
abbrev pub evaluate_of : Data → Command
evaluate_of d = evaluate_with (is_text_at (codes "context") (codes "repl") d) (text_at (codes "expression") d)

-- dataBreakpointInfo needs a name
abbrev pub info_with : ℕ → Option (List ℕ) → Command
info_with reference None = Missing Name
info_with reference (Some name) = DataBreakpointInfo reference name

-- dataBreakpointInfo
abbrev pub info_of : Data → Command
info_of d = info_with (number_at (codes "variablesReference") d) (text_at (codes "name") d)

-- completions needs a text and a column
abbrev pub completions_with : Option (List ℕ) → Option ℕ → Command
completions_with None column = Missing Typed
completions_with (Some text) None = Missing Column
completions_with (Some text) (Some column) = Completions text column

-- completions of a text at a column
abbrev pub completions_of : Data → Command
completions_of d = completions_with (text_at (codes "text") d) (number_in (codes "column") d)

-- gotoTargets needs a line
abbrev pub targets_with : Option (List ℕ) → Option ℕ → Command
targets_with path None = Missing Line
targets_with path (Some line) = GotoTargets path line

-- gotoTargets, for the source that it names
abbrev pub targets_of : Data → Command
targets_of d = targets_with (path_at d) (number_in (codes "line") d)

-- goto needs a target
abbrev pub goto_with : Option ℕ → Command
goto_with None = Missing Target
goto_with (Some target) = Goto target

-- goto
abbrev pub goto_of : Data → Command
goto_of d = goto_with (number_in (codes "targetId") d)

-- which variables of a reference are wanted
abbrev pub filter_of : Data → Filter
filter_of d =
    if is_text_at (codes "filter") (codes "named") d then Named else
    if is_text_at (codes "filter") (codes "indexed") d then Indexed else All

-- the variables that are wanted
abbrev pub wanted_of : Data → Wanted
wanted_of d = record {
  reference = number_at (codes "variablesReference") d;
  start = number_at (codes "start") d;
  count = number_at (codes "count") d;
  filter = filter_of d;
}

-- the command of a request about the session
unfoldable pub session_command : List ℕ → Data → Command
session_command name d =
    if bytes_eq name (codes "initialize") then Initialize (counting_of d) else
    if bytes_eq name (codes "launch") then launch_of d else
    if bytes_eq name (codes "configurationDone") then ConfigurationDone else
    if bytes_eq name (codes "disconnect") then Disconnect else
    if bytes_eq name (codes "terminate") then Terminate else Unknown

-- its command about break points or the states on a line; else its command about the session
unfoldable pub points_command : List ℕ → Data → Command
points_command name d =
    if bytes_eq name (codes "setBreakpoints") then SetBreakpoints (path_at d) (line_points_at d) else
    if bytes_eq name (codes "setFunctionBreakpoints")
    then SetFunctionBreakpoints (texts_at (codes "name") d) else
    if bytes_eq name (codes "setDataBreakpoints") then SetDataBreakpoints (texts_at (codes "dataId") d) else
    if bytes_eq name (codes "dataBreakpointInfo") then info_of d else
    if bytes_eq name (codes "gotoTargets") then targets_of d else
    if bytes_eq name (codes "setExceptionBreakpoints") then SetExceptionBreakpoints else session_command name d

-- its command that asks about the state; else its command about break points
unfoldable pub looking_command : List ℕ → Data → Command
looking_command name d =
    if bytes_eq name (codes "threads") then Threads else
    if bytes_eq name (codes "stackTrace")
    then StackTrace (number_at (codes "startFrame") d) (number_at (codes "levels") d) else
    if bytes_eq name (codes "scopes") then Scopes (number_at (codes "frameId") d) else
    if bytes_eq name (codes "variables") then Variables (wanted_of d) else
    if bytes_eq name (codes "evaluate") then evaluate_of d else
    if bytes_eq name (codes "completions") then completions_of d else
    if bytes_eq name (codes "source") then Source (number_at (codes "sourceReference") d) else
    if bytes_eq name (codes "loadedSources") then LoadedSources else
    if bytes_eq name (codes "exceptionInfo") then ExceptionInfo else points_command name d

-- the command of a request
unfoldable pub command_of : List ℕ → Data → Command
command_of name d =
    if bytes_eq name (codes "continue") then Continue else
    if bytes_eq name (codes "next") then Next else
    if bytes_eq name (codes "stepIn") then StepIn else
    if bytes_eq name (codes "stepOut") then StepOut else
    if bytes_eq name (codes "stepBack")
    then StepBack (is_text_at (codes "granularity") (codes "instruction") d) else
    if bytes_eq name (codes "reverseContinue") then ReverseContinue else
    if bytes_eq name (codes "restart") then Restart else
    if bytes_eq name (codes "goto") then goto_of d else
    if bytes_eq name (codes "pause") then Pause else looking_command name d

-- ---- a request

-- a request needs a number; one without a name has no known command
abbrev pub request_with : Option ℕ → List ℕ → Data → Option Request
request_with None name d = None
request_with (Some n) name d =
    Some (record { number = n; name = name; command = command_of name (arguments_of d) })

-- the request that a message is
abbrev pub request_of : Data → Option Request
request_of d = request_with (number_in (codes "seq") d) (unwrap_or (text_at (codes "command") d) []) d
