-- The texts that show the changes of a step, or of a movement.
use Rattle.std.specs.Prelude.{ℕ, ◌+◌, ◌-◌, nat_lt, ◌&&◌, if◌then◌else◌, List, [], ◌∷◌, ◌++◌, length, take, codes}
use Rattle.std.specs.Prelude.{decimal, slice_index_or}
use Rattle.std.specs.Fmt.{signed_decimal}
use Rattle.ss_program.specs.declared.kinds.Owner.{Owner}
use Rattle.ss_program.specs.declared.kinds.Owner.TheVariants.{System, OwnedBy}
use Rattle.ss_program.specs.Program.{ProgramTable, class_of, set_of}
use Rattle.ss_state.specs.declared.entry.Entry.{Entry}
use Rattle.ss_state.specs.declared.entry.Entry.TheVariants as entries
use Rattle.ss_state.specs.declared.limits.TheConstants.{LAST_POSITION}
use Rattle.ss_state.specs.State.{State}
use Rattle.ss_state.specs.Run.{Input, run}
use Rattle.ss_debug.specs.Move.{is_ready_at}
use Rattle.ss_debug.specs.Answer.{earliest_word}
use Rattle.ss_debug.specs.Entities.{members_text}
use Rattle.ss_changes.specs.declared.part.Part.{Part}
use Rattle.ss_changes.specs.declared.part.Part.TheVariants as parts
use Rattle.ss_changes.specs.declared.value.PartValue.{PartValue}
use Rattle.ss_changes.specs.declared.value.PartValue.TheVariants.{Absent, Number, Count, Lives, Listed, Entered, Bytes}
use Rattle.ss_changes.specs.declared.change.Change.{Change}
use Rattle.ss_changes.specs.declared.limits.TheConstants.{MOST_TOLD, MOST_LISTED, MOST_COLUMNS}
use Rattle.ss_changes.specs.Parts.{local_names}
use Rattle.ss_changes.specs.Changes.{changed_at, movement_changes}

-- ---- parts

-- a class and a number
abbrev pub entity_name : ProgramTable → ℕ → ℕ → List ℕ
entity_name program c k = (class_of program c).name ++ codes " " ++ decimal k

-- a set's name, and the number of an owner that is not the system
abbrev pub list_name : ProgramTable → ℕ → ℕ → Owner → List ℕ
list_name program n k System = (set_of program n).name
list_name program n k (OwnedBy c) = (set_of program n).name ++ codes " " ++ decimal k

-- a part as it is asked for, in a state that has it
abbrev pub part_name : ProgramTable → State → Part → List ℕ
part_name program state (parts.Global i) = codes "VAR " ++ slice_index_or program.globals i []
part_name program state (parts.Local n i) = codes "VAR " ++ slice_index_or (local_names program state n) i []
part_name program state (parts.Attribute c k a) =
    entity_name program c k ++ codes " " ++ slice_index_or (class_of program c).attributes a []
part_name program state (parts.Entity c k) = entity_name program c k
part_name program state (parts.List n k) = codes "SET " ++ list_name program n k (set_of program n).owner
part_name program state (parts.Notice c k) = entity_name program c k ++ codes " AT"
part_name program state parts.Taken = codes "TAKEN"
part_name program state parts.Entry = codes "ENTRY"
part_name program state parts.Clock = codes "CLOCK"
part_name program state parts.Report = codes "REPORT"

-- ---- values

-- an entry of an external event
abbrev pub entry_text : ProgramTable → Entry → List ℕ
entry_text program entries.Absent = codes "NONE"
entry_text program (entries.Waiting c k) = entity_name program c k ++ codes " WAITING"
entry_text program (entries.Running c k) = entity_name program c k ++ codes " RUNNING"

-- a value
abbrev pub value_text : ProgramTable → PartValue → List ℕ
value_text program Absent = codes "NONE"
value_text program (Number x) = signed_decimal x
value_text program (Count n) = decimal n
value_text program Lives = codes "LIVES"
value_text program (Listed ks) = members_text ks
value_text program (Entered e) = entry_text program e
value_text program (Bytes n) = decimal n ++ codes " BYTES"

-- members, or their number if the list is longer than MOST_LISTED
abbrev pub brief_members : List ℕ → List ℕ
brief_members ks = if nat_lt MOST_LISTED (length ks) then decimal (length ks) ++ codes " MEMBERS" else members_text ks

-- a value in brief
abbrev pub brief_text : ProgramTable → PartValue → List ℕ
brief_text program (Listed ks) = brief_members ks
brief_text program other = value_text program other

-- ---- lines

-- a name and its values before and after, following a word
abbrev pub change_text : List ℕ → List ℕ → List ℕ → List ℕ → List ℕ
change_text word name before after =
    word ++ codes " " ++ name ++ codes ": " ++ before ++ codes " -> " ++ after

-- the line of a change
abbrev pub change_line : List ℕ → ProgramTable → State → Change → List ℕ
change_line word program state change =
    change_text word (part_name program state change.part) (value_text program change.before)
    (value_text program change.after) ++ 10 ∷ []

-- a text that is cut if it has too many columns
abbrev pub cut_text : List ℕ → List ℕ
cut_text text = if nat_lt MOST_COLUMNS (length text) then take (MOST_COLUMNS - 3) text ++ codes " .." else text

-- the line of a change in brief
abbrev pub brief_line : List ℕ → ProgramTable → State → Change → List ℕ
brief_line word program state change =
    cut_text (change_text word (part_name program state change.part) (brief_text program change.before)
    (brief_text program change.after)) ++ 10 ∷ []

-- a line for each change
abbrev pub change_lines : List ℕ → ProgramTable → State → List Change → List ℕ
change_lines word program state [] = []
change_lines word program state (c ∷ cs) = change_line word program state c ++ change_lines word program state cs

-- a line in brief for each change
abbrev pub brief_lines : List ℕ → ProgramTable → State → List Change → List ℕ
brief_lines word program state [] = []
brief_lines word program state (c ∷ cs) = brief_line word program state c ++ brief_lines word program state cs

-- the number of further changes, past those that are shown
abbrev pub more_text : ℕ → List ℕ
more_text n = if nat_lt MOST_TOLD n then codes "AND " ++ decimal (n - MOST_TOLD) ++ codes " MORE\n" else []

-- the first changes in brief, and the number of further ones
abbrev pub first_changes : List ℕ → ProgramTable → State → List Change → List ℕ
first_changes word program state cs = brief_lines word program state (take MOST_TOLD cs) ++ more_text (length cs)

-- all changes, following a word, or that there is none
abbrev pub all_changes : List ℕ → ProgramTable → State → List Change → List ℕ
all_changes word program state [] = codes "NOTHING CHANGED\n"
all_changes word program state (c ∷ cs) = change_lines word program state (c ∷ cs)

-- ---- answers; parts are named as in the state after the step

-- the answer to SHOW CHANGED in state p, if the states from `earliest` on are kept
unfoldable pub changed_text : Input → ℕ → ℕ → List ℕ
changed_text input earliest p =
    if nat_lt earliest p then all_changes (codes "CHANGED") input.program (run input p) (changed_at input (p - 1))
    else earliest_word earliest ++ 10 ∷ []

-- the text at a stop that was reached going forward: the changes of the last step, if it is kept
unfoldable pub stop_changes : Input → ℕ → ℕ → List ℕ
stop_changes input earliest p =
    if nat_lt earliest p then first_changes (codes "CHANGED") input.program (run input p) (changed_at input (p - 1))
    else []

-- the text at a stop that was reached going back: the changes of the next step, if there is one
unfoldable pub stop_changes_ahead : Input → ℕ → List ℕ
stop_changes_ahead input p =
    if is_ready_at input p && nat_lt p LAST_POSITION
    then first_changes (codes "WILL CHANGE") input.program (run input (p + 1)) (changed_at input p) else []

-- ---- a movement from state p to state q; parts are named as in state q

-- the word of its changes: if it went back, they will be made on the way to state p again
abbrev pub movement_word : ℕ → ℕ → List ℕ
movement_word p q = if nat_lt q p then codes "WILL CHANGE" else codes "CHANGED"

-- the text at its stop: the first of its changes
unfoldable pub stop_changes_since : Input → ℕ → ℕ → List ℕ
stop_changes_since input p q =
    first_changes (movement_word p q) input.program (run input q) (movement_changes input p q)

-- the answer to SHOW CHANGED after it: all of them
unfoldable pub all_changes_since : Input → ℕ → ℕ → List ℕ
all_changes_since input p q =
    all_changes (movement_word p q) input.program (run input q) (movement_changes input p q)
