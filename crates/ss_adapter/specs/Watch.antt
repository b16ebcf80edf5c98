-- The questions that are data break points, and which part of a state has one.
use Rattle.std.specs.Prelude.{ℕ, ◌≡◌, ◌+◌, List, [], ◌∷◌, ◌++◌, codes, decimal, fold}
use Rattle.std.specs.Prelude.{Option, Some, None, nat_eq, nat_lt, length, if◌then◌else◌}
use Rattle.std.specs.Str.{bytes_eq}
use Rattle.ss_program.specs.declared.kinds.Owner.{Owner}
use Rattle.ss_program.specs.declared.kinds.Owner.TheVariants.{System, OwnedBy}
use Rattle.ss_program.specs.Program.{ProgramTable, class_of, set_of}
use Rattle.ss_debug.specs.Entities.{set_named}
use Rattle.ss_messages.specs.Bodies.{watched_item, unset_item}
use Rattle.ss_messages.specs.Shown.{info_body, no_info_body}
use Rattle.ss_scopes.specs.declared.group.Group.{Group}
use Rattle.ss_scopes.specs.declared.group.Group.TheVariants.{Globals, Sets, Events, Data, Run}
use Rattle.ss_scopes.specs.declared.group.Group.TheVariants.{Locals, Entity, Set}
use Rattle.ss_scopes.specs.References.{group_of}
use Rattle.ss_adapter.specs.declared.desk.TheConstants.{MOST_WATCHED}
use Rattle.ss_adapter.specs.declared.breaks.TheConstants.{UNHEEDED}
use Rattle.ss_adapter.specs.Looking.{asked_of, question_fault}
use Rattle.ss_adapter.specs.Words.{last_word}

-- ---- data break points of a request

-- data break points that a request names, one by one
pub record Watching : Type 0 where
  -- the questions that are some
  pub watched : List (List ℕ)
  -- the item of the reply for each
  pub text : List ℕ

-- one that is not set, for this reason
abbrev pub with_refusal : Watching → List ℕ → Watching
with_refusal watching reason = record { watched = watching.watched; text = watching.text ++ unset_item reason }

-- one more, which is a question, or is none for a reason: its number is its place, counted from 1 on
abbrev pub with_question : Watching → List ℕ → Option (List ℕ) → Watching
with_question watching id (Some reason) = with_refusal watching reason
with_question watching id None =
    if nat_lt (length watching.watched) MOST_WATCHED
    then record {
      watched = watching.watched ++ id ∷ [];
      text = watching.text
          ++ watched_item (length watching.watched + 1);
    }
    else with_refusal watching (codes "too many data break points")

-- one more, if it is to stop each time
unfoldable pub with_watched : ProgramTable → Watching → Option (List ℕ) → Watching
with_watched program watching None = with_refusal watching UNHEEDED.now
with_watched program watching (Some id) = with_question watching id (question_fault (asked_of program id))

-- those of a request
abbrev pub watching_of : ProgramTable → List (Option (List ℕ)) → Watching
watching_of program ids = fold (with_watched program) (record { watched = []; text = [] }) ids

-- the data break points that were set, and their items
abbrev pub IsWatching : List (List ℕ) → List ℕ → Watching → Type 0
IsWatching watched text watching = (watched ≡ watching.watched) × (text ≡ watching.text)

-- ---- the parts that are shown

-- the question on a set of this name for owner number k
abbrev pub list_asked : List ℕ → ℕ → List ℕ
list_asked name k = codes "SET " ++ name ++ codes " " ++ decimal k

-- the question on an attribute of entity number k of a class of this name
abbrev pub attribute_asked : List ℕ → ℕ → List ℕ → List ℕ
attribute_asked class k name = class ++ codes " " ++ decimal k ++ codes " " ++ name

-- the question on the list or attribute that entity number k of class c has under a name
abbrev pub entity_asked_by : ProgramTable → ℕ → ℕ → List ℕ → Option ℕ → List ℕ
entity_asked_by program c k name None = attribute_asked (class_of program c).name k name
entity_asked_by program c k name (Some set) = list_asked name k

-- that question, if there is such a class; else an empty text
abbrev pub entity_asked : ProgramTable → ℕ → ℕ → List ℕ → List ℕ
entity_asked program c k name =
    if nat_lt c (length program.classes) then entity_asked_by program c k name (set_named program name) else []

-- the question on a set of this name, if the system owns it
abbrev pub set_asked_by : List ℕ → Owner → List ℕ
set_asked_by name System = codes "SET " ++ name
set_asked_by name (OwnedBy c) = []

-- that question, if there is such a set; else an empty text
abbrev pub set_asked : ProgramTable → List ℕ → Option ℕ → List ℕ
set_asked program name None = []
set_asked program name (Some s) = set_asked_by name (set_of program s).owner

-- the question on the list of a set for the owner whose number ends a name, if a class owns the set
abbrev pub owned_asked_by : List ℕ → List ℕ → Owner → List ℕ
owned_asked_by set name System = []
owned_asked_by set name (OwnedBy c) = codes "SET " ++ set ++ codes " " ++ last_word name

-- the question on the list of set number s, if there is such a set
abbrev pub owned_asked : ProgramTable → ℕ → List ℕ → List ℕ
owned_asked program s name =
    if nat_lt s (length program.sets) then owned_asked_by (set_of program s).name name (set_of program s).owner else []

-- the question on the variable of this name
abbrev pub variable_asked : List ℕ → List ℕ
variable_asked name = codes "VAR " ++ name

-- the question on a local of the frame with `depth` frames above it, if that is the last frame
abbrev pub local_asked : List ℕ → ℕ → List ℕ
local_asked name depth = if nat_eq depth 0 then variable_asked name else []

-- the name of an item of the run, as a question
abbrev pub run_asked : List ℕ → List ℕ
run_asked name = if bytes_eq name (codes "STATE") then codes "WHERE" else name

-- the question on the item of a group with a name, as it is asked; empty if the debugger has none
abbrev pub asked_text : ProgramTable → List ℕ → Group → List ℕ
asked_text program name Globals = variable_asked name
asked_text program name (Locals depth) = local_asked name depth
asked_text program name Sets = set_asked program name (set_named program name)
asked_text program name Events = codes "EVENTS"
asked_text program name Data = name
asked_text program name Run = run_asked name
asked_text program name (Entity c k) = entity_asked program c k name
asked_text program name (Set s) = owned_asked program s name
asked_text program name _ = []

-- that a text may be a data break point, or why not
abbrev pub info_with : List ℕ → Option (List ℕ) → List ℕ
info_with text None = info_body text
info_with text (Some reason) = no_info_body reason

-- whether a text may be a data break point: if it is a question on the program
abbrev pub info_by : ProgramTable → List ℕ → List ℕ
info_by program text = info_with text (question_fault (asked_of program text))

-- whether a name in a reference may be a data break point; without a reference it is an expression
abbrev pub info_of : ProgramTable → ℕ → List ℕ → List ℕ
info_of program reference name =
    if nat_eq reference 0 then info_by program name
    else info_by program (asked_text program name (group_of reference))
