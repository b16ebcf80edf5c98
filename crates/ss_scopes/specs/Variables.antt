-- The scopes of a frame, and the variables that a reference of an editor has in a state.
use Rattle.std.specs.Prelude.{ℕ, ◌+◌, ◌-◌, ◌&&◌, Bool, true, false, not, List, [], ◌++◌, codes, nat_lt, if◌then◌else◌}
use Rattle.ss_state.specs.State.{State}
use Rattle.ss_state.specs.Run.{Input, run}
use Rattle.ss_debug.specs.declared.commands.Question.{Question}
use Rattle.ss_debug.specs.declared.commands.Question.TheVariants.{Clock, Where, Taken, Entry}
use Rattle.ss_trace.specs.declared.question.Question.TheVariants.{Shown}
use Rattle.ss_trace.specs.Value.{value_at}
use Rattle.ss_messages.specs.Bodies.{variable_item}
use Rattle.ss_messages.specs.Shown.{scope_item}
use Rattle.ss_messages.specs.declared.request.Filter.{Filter}
use Rattle.ss_messages.specs.declared.request.Filter.TheVariants.{All, Named, Indexed}
use Rattle.ss_messages.specs.declared.request.Wanted.{Wanted}
use Rattle.ss_scopes.specs.declared.group.Group.{Group}
use Rattle.ss_scopes.specs.declared.group.Group.TheVariants.{Nothing, Globals, Classes, Sets, Events, Data, Run}
use Rattle.ss_scopes.specs.declared.group.Group.TheVariants.{Locals, Class, Entity, Set, Members}
use Rattle.ss_scopes.specs.declared.group.TheConstants.{FIRST_LOCALS}
use Rattle.ss_scopes.specs.declared.scopes.TheConstants.{MOST_FRAMES, OTHER_SCOPES}
use Rattle.ss_scopes.specs.References.{group_of}
use Rattle.ss_scopes.specs.Frames.{frame_count, locals_page, globals_page}
use Rattle.ss_scopes.specs.Entities.{class_page, entity_variables}
use Rattle.ss_scopes.specs.Sets.{class_items, set_items, set_page, list_page}
use Rattle.ss_scopes.specs.Events.{event_items}

-- ---- scopes

-- the locals of the frame with `depth` frames above it, if there is one
abbrev pub locals_scope : State → ℕ → List ℕ
locals_scope state depth =
    if nat_lt depth MOST_FRAMES && nat_lt depth (frame_count state)
    then scope_item (codes "Locals") (FIRST_LOCALS + depth) else []

-- the scopes of the frame with this number: its locals, and those that all frames have
abbrev pub scopes_text : Input → ℕ → ℕ → List ℕ
scopes_text input p frame = locals_scope (run input p) (frame - 1) ++ OTHER_SCOPES.now

-- ---- variables

-- the value of a question of the debugger in state p, under a name
abbrev pub question_item : List ℕ → Input → ℕ → Question → List ℕ
question_item name input p question = variable_item name (value_at input (Shown question) p) 0

-- the clock, and the position of the run
abbrev pub run_items : Input → ℕ → List ℕ
run_items input p = question_item (codes "TIME.V") input p Clock ++ question_item (codes "STATE") input p Where

-- how many pieces of the data are taken, and the entry
abbrev pub data_items : Input → ℕ → List ℕ
data_items input p = question_item (codes "TAKEN") input p Taken ++ question_item (codes "ENTRY") input p Entry

-- the variables of a group in state p: a page, if there may be many
abbrev pub group_text : Input → ℕ → ℕ → ℕ → Group → List ℕ
group_text input p start count Nothing = []
group_text input p start count Globals = globals_page input.program (run input p) start count
group_text input p start count Classes = class_items input.program (run input p).store
group_text input p start count Sets = set_items input.program (run input p).store
group_text input p start count Events = event_items input.program (run input p).agenda
group_text input p start count Data = data_items input p
group_text input p start count Run = run_items input p
group_text input p start count (Locals depth) = locals_page input.program (run input p) depth start count
group_text input p start count (Class c) = class_page input.program (run input p).store c start count
group_text input p start count (Entity c k) = entity_variables input.program (run input p).store c k
group_text input p start count (Set s) = set_page input.program (run input p).store s start count
group_text input p start count (Members s j) = list_page input.program (run input p).store s j start count

-- whether the variables of a group have numbers, not names
abbrev pub is_indexed : Group → Bool
is_indexed (Class c) = true
is_indexed (Set s) = true
is_indexed (Members s j) = true
is_indexed _ = false

-- whether a filter lets it pass
abbrev pub passes : Filter → Bool → Bool
passes All indexed = true
passes Named indexed = not indexed
passes Indexed indexed = indexed

-- the variables that are wanted in state p
unfoldable pub variables_text : Input → ℕ → Wanted → List ℕ
variables_text input p wanted =
    if passes wanted.filter (is_indexed (group_of wanted.reference))
    then group_text input p wanted.start wanted.count (group_of wanted.reference) else []
