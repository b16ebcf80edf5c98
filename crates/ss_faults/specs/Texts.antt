-- The texts of the parts that a fault is about.
use Rattle.std.specs.Prelude.{ℕ, ℤ, pos, int_lt, List, [], ◌∷◌, ◌++◌, codes, decimal, if◌then◌else◌}
use Rattle.std.specs.Fmt.{signed_decimal}
use Rattle.ss_program.specs.declared.kinds.Owner.{Owner}
use Rattle.ss_program.specs.declared.kinds.Owner.TheVariants.{System, OwnedBy}
use Rattle.ss_program.specs.Program.{ProgramTable, class_of, set_of, section_of}
use Rattle.ss_faults.specs.declared.told.Told.{Told}
use Rattle.ss_faults.specs.declared.told.Told.TheVariants.{Value, Untold, Missing, Unclear}

-- a label and a name
abbrev pub label_and_name : List ℕ → List ℕ → List ℕ
label_and_name label name = label ++ name ++ codes "."

-- a label, a name and a number
abbrev pub label_name_and_number : List ℕ → List ℕ → ℤ → List ℕ
label_name_and_number label name x = label ++ name ++ codes " " ++ signed_decimal x ++ codes "."

-- a label and a value
abbrev pub label_and_value : List ℕ → ℤ → List ℕ
label_and_value label x = label ++ signed_decimal x ++ codes "."

-- a label and a count
abbrev pub label_and_count : List ℕ → ℕ → List ℕ
label_and_count label n = label ++ decimal n ++ codes "."

-- an entity
abbrev pub entity_text : ProgramTable → ℕ → ℤ → List ℕ
entity_text program c x = label_name_and_number (codes " Entity: ") (class_of program c).name x

-- the list of an owner; the system has one
abbrev pub owned_text : List ℕ → Owner → ℤ → List ℕ
owned_text set System x = label_and_name (codes " List: ") set
owned_text set (OwnedBy c) x = label_name_and_number (codes " List: ") set x

-- the list of a set
abbrev pub list_text : ProgramTable → ℕ → ℤ → List ℕ
list_text program set x = owned_text (set_of program set).name (set_of program set).owner x

-- a class
abbrev pub class_text : ProgramTable → ℕ → List ℕ
class_text program c = label_and_name (codes " Class: ") (class_of program c).name

-- a set
abbrev pub set_text : ProgramTable → ℕ → List ℕ
set_text program set = label_and_name (codes " Set: ") (set_of program set).name

-- a section
abbrev pub section_text : ProgramTable → ℕ → List ℕ
section_text program n = label_and_name (codes " Section: ") (section_of program n).name

-- the text of a value, if it is known
abbrev pub if_told : Told → (ℤ → List ℕ) → List ℕ
if_told (Value x) text = text x
if_told Untold text = []
if_told (Missing c x) text = []
if_told Unclear text = []

-- that no entity has this number, if that is plain
abbrev pub unnumbered_text : ℤ → List ℕ
unnumbered_text x = if int_lt x (pos 1) then codes " No entity has a number below 1." else []

-- an entity that is missing
abbrev pub missing_text : ProgramTable → Told → List ℕ
missing_text program (Missing c x) = entity_text program c x ++ unnumbered_text x
missing_text program (Value x) = []
missing_text program Untold = []
missing_text program Unclear = []
