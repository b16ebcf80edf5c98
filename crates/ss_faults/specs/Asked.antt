-- The question to the history about a fault: the end of an entity (F3), the change of a list (F14).
use Rattle.std.specs.Prelude.{ℕ, ℤ, pos, int_lt, List, [], ◌∷◌, ◌++◌, codes, if◌then◌else◌, Option, Some, None}
use Rattle.std.specs.Fmt.{signed_decimal}
use Rattle.ss_words.specs.declared.fault.RunFault.{RunFault}
use Rattle.ss_words.specs.declared.fault.RunFault.TheVariants as f
use Rattle.ss_program.specs.declared.kinds.Owner.{Owner}
use Rattle.ss_program.specs.declared.kinds.Owner.TheVariants.{System, OwnedBy}
use Rattle.ss_program.specs.declared.target.SetRef.{SetRef}
use Rattle.ss_program.specs.declared.place.Place.{Place}
use Rattle.ss_program.specs.declared.place.Place.TheVariants as places
use Rattle.ss_program.specs.declared.place.Spot.{Spot}
use Rattle.ss_program.specs.declared.looping.Looping.TheVariants.{For}
use Rattle.ss_program.specs.declared.looping.Phrase.{Phrase}
use Rattle.ss_program.specs.declared.looping.Phrase.TheVariants.{Counting, Each, Walking}
use Rattle.ss_program.specs.Program.{ProgramTable, class_of, set_of, spot_at}
use Rattle.ss_state.specs.declared.status.Status.{Status}
use Rattle.ss_state.specs.declared.status.Status.TheVariants.{Ready, Stopped, Finished, Faulted}
use Rattle.ss_state.specs.State.{State}
use Rattle.ss_faults.specs.declared.told.Told.{Told}
use Rattle.ss_faults.specs.declared.told.Told.TheVariants.{Value, Untold, Missing, Unclear}
use Rattle.ss_faults.specs.Readings.{subscript_told}
use Rattle.ss_faults.specs.Missing.{place_told}
use Rattle.ss_faults.specs.Texts.{if_told}

-- an entity, as WHY asks about it; the question is empty for a number that no entity has
abbrev pub entity_asked : ProgramTable → ℕ → ℤ → List ℕ
entity_asked program c x = if int_lt x (pos 1) then [] else (class_of program c).name ++ codes " " ++ signed_decimal x

-- the owner of a list, as WHY asks about it; the system has one list
abbrev pub owner_asked : Owner → ℤ → List ℕ
owner_asked System x = []
owner_asked (OwnedBy c) x = codes " " ++ signed_decimal x

-- a list, as WHY asks about it
abbrev pub list_asked : ProgramTable → ℕ → ℤ → List ℕ
list_asked program set x = codes "SET " ++ (set_of program set).name ++ owner_asked (set_of program set).owner x

-- the question about an entity that is missing
abbrev pub missing_asked : ProgramTable → Told → List ℕ
missing_asked program (Missing c x) = entity_asked program c x
missing_asked program (Value x) = []
missing_asked program Untold = []
missing_asked program Unclear = []

-- the question about a list as it is named now
abbrev pub named_list_asked : ProgramTable → State → SetRef → List ℕ
named_list_asked program state set = if_told (subscript_told program state set.owner) (list_asked program set.set)

-- the question about a phrase: the list that it names
abbrev pub walk_asked : ProgramTable → State → Phrase → List ℕ
walk_asked program state (Counting d x first last step) = []
walk_asked program state (Each c is_called x count) = []
walk_asked program state (Walking d x r begin) = named_list_asked program state r

-- the question about the phrase of a loop
abbrev pub loop_asked : ProgramTable → State → Place → List ℕ
loop_asked program state (places.Looping (For l)) = walk_asked program state l.phrase
loop_asked program state place = []

-- the question about a fault at a statement
abbrev pub fault_asked : ProgramTable → State → RunFault → Place → List ℕ
fault_asked program state f.NoEntity place = missing_asked program (place_told program state place)
fault_asked program state f.MemberLeft place = loop_asked program state place
fault_asked program state _ place = []

-- the question at the place of the last frame
abbrev pub asked_here : ProgramTable → State → RunFault → Option Spot → List ℕ
asked_here program state fault None = []
asked_here program state fault (Some spot) = fault_asked program state fault spot.place

-- the question to the history about a state; it is empty for a state that is not faulted
unfoldable pub state_asked : ProgramTable → State → Status → List ℕ
state_asked program state (Faulted e) =
    asked_here program state e (spot_at program state.frame.section state.frame.place)
state_asked program state Ready = []
state_asked program state Stopped = []
state_asked program state Finished = []
