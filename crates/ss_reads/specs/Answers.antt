-- The answer to READS.
use Rattle.std.specs.Prelude.{ℕ, ℤ, pos, List, [], ◌∷◌, ◌++◌, codes, decimal, Option, Some, None, if◌then◌else◌}
use Rattle.std.specs.Option.{option_map}
use Rattle.std.specs.Fmt.{signed_decimal}
use Rattle.ss_words.specs.declared.terms.OwnerKept.{OwnerKept}
use Rattle.ss_words.specs.declared.terms.OwnerKept.TheVariants.{First, Last, Count}
use Rattle.ss_program.specs.declared.kinds.Owner.{Owner}
use Rattle.ss_program.specs.declared.kinds.Owner.TheVariants.{System, OwnedBy}
use Rattle.ss_program.specs.Program.{ProgramTable, class_of, set_of, section_of}
use Rattle.ss_state.specs.Run.{Input, run}
use Rattle.ss_readings.specs.declared.step_place.StepPlace.{StepPlace}
use Rattle.ss_readings.specs.Value.{value_text}
use Rattle.ss_readings.specs.Seen.{last_change}
use Rattle.ss_readings.specs.History.{step_place}
use Rattle.ss_reads.specs.declared.part.Item.{Item}
use Rattle.ss_reads.specs.declared.part.Item.TheVariants.{Attribute, OwnerKept as KeptOfOwner, MemberKept, Members}
use Rattle.ss_reads.specs.declared.part.Part.{Part as APart}
use Rattle.ss_reads.specs.declared.part.Part.TheVariants.{Variable, Of}
use Rattle.ss_reads.specs.declared.read.Read.{Read}
use Rattle.ss_reads.specs.declared.read.Read.TheVariants.{Candidate, Notice, Part, Unvalued}
use Rattle.ss_reads.specs.Values.{part_value, part_subject}
use Rattle.ss_reads.specs.Written.{variable_name, item_name}
use Rattle.ss_reads.specs.Same.{is_among}
use Rattle.ss_reads.specs.Reads.{reads_of}

-- ---- the name of a part, as its question

-- an owner after a blank; the system is not named
abbrev pub owner_text : Owner → ℤ → List ℕ
owner_text System x = []
owner_text (OwnedBy c) x = codes " " ++ signed_decimal x

-- a set after a word, and its owner
abbrev pub owned_name : ProgramTable → List ℕ → ℕ → ℤ → List ℕ
owned_name program head s x = head ++ ((set_of program s).name ++ owner_text (set_of program s).owner x)

-- an entity of class c, and what it has
abbrev pub entity_name : ProgramTable → ℕ → ℤ → Item → List ℕ
entity_name program c x item =
    (class_of program c).name ++ (codes " " ++ (signed_decimal x ++ (codes " " ++ item_name program item)))

-- F.s or L.s of an owner; the system is not named
abbrev pub end_name : ProgramTable → Owner → ℤ → Item → List ℕ
end_name program System x item = item_name program item
end_name program (OwnedBy c) x item = entity_name program c x item

-- F.s, L.s or N.s
abbrev pub owner_kept_name : ProgramTable → OwnerKept → ℕ → ℤ → List ℕ
owner_kept_name program First s x = end_name program (set_of program s).owner x (KeptOfOwner First s)
owner_kept_name program Last s x = end_name program (set_of program s).owner x (KeptOfOwner Last s)
owner_kept_name program Count s x = owned_name program (codes "COUNT ") s x

-- what the entity that x names has
abbrev pub of_name : ProgramTable → Item → ℤ → List ℕ
of_name program (Attribute c a) x = entity_name program c x (Attribute c a)
of_name program (KeptOfOwner kept s) x = owner_kept_name program kept s x
of_name program (MemberKept kept s) x = entity_name program (set_of program s).member x (MemberKept kept s)
of_name program (Members s) x = owned_name program (codes "SET ") s x

-- a part, as a section names it
abbrev pub part_name : ProgramTable → ℕ → APart → List ℕ
part_name program section (Variable x) = codes "VAR " ++ variable_name program section x
part_name program section (Of item x) = of_name program item x

-- ---- the lines

-- a line of a section
abbrev pub line_text : ProgramTable → ℕ → ℕ → List ℕ
line_text program section line =
    codes " IN " ++ ((section_of program section).name ++ (codes " LINE " ++ (decimal line ++ codes "\n")))

-- a step
abbrev pub step_text : ProgramTable → StepPlace → List ℕ
step_text program step =
    codes ", STATE " ++ (decimal step.position ++ (codes " CLOCK " ++ (signed_decimal step.clock
    ++ line_text program step.section step.line)))

-- the words before the earliest kept state
unfoldable pub unchanged_words : List ℕ
unchanged_words = codes ", NO CHANGE SINCE STATE "

-- that nothing has changed since the earliest kept state
abbrev pub unchanged_text : ℕ → List ℕ
unchanged_text earliest = unchanged_words ++ (decimal earliest ++ codes "\n")

-- the step that changed it last; or that none did since the earliest kept state
abbrev pub change_text : ProgramTable → ℕ → Option StepPlace → List ℕ
change_text program earliest None = unchanged_text earliest
change_text program earliest (Some step) = step_text program step

-- a part at state p: its name, its value, and the step that changed it last
abbrev pub part_line : Input → ℕ → ℕ → APart → List ℕ
part_line input earliest p part =
    part_name input.program (run input p).frame.section part ++ (codes " = "
    ++ (value_text (part_value input.program part (run input p) 0)
    ++ change_text input.program earliest
    (option_map (step_place input) (last_change input (part_subject part input.program) earliest p))))

-- a number, or that there is none
abbrev pub number_or_none : Option ℤ → List ℕ
number_or_none None = codes "NONE"
number_or_none (Some x) = signed_decimal x

-- the line of what comes next
abbrev pub next_line : List ℕ → Option ℤ → List ℕ
next_line name x = codes "NEXT " ++ (name ++ (codes ": " ++ (number_or_none x ++ 10 ∷ [])))

-- the line of what is looked at
abbrev pub read_line : Input → ℕ → ℕ → Read → List ℕ
read_line input earliest p (Candidate x k) =
    next_line (variable_name input.program (run input p).frame.section x) k
read_line input earliest p (Notice c k) = next_line (class_of input.program c).name (Some (pos k))
read_line input earliest p (Part part) = part_line input earliest p part
read_line input earliest p (Unvalued text) = text ++ codes " = NONE\n"

-- the line of one that is not among others before it
abbrev pub new_line : Input → ℕ → ℕ → List Read → Read → List ℕ
new_line input earliest p earlier r = if is_among earlier r then [] else read_line input earliest p r

-- the lines of all
abbrev pub read_lines : Input → ℕ → ℕ → List Read → List ℕ
read_lines input earliest p [] = []
read_lines input earliest p (r ∷ rs) = read_line input earliest p r ++ read_lines input earliest p rs

-- or that there are none
abbrev pub lines_or_none : Input → ℕ → ℕ → List Read → List ℕ
lines_or_none input earliest p [] = codes "NO READS\n"
lines_or_none input earliest p (r ∷ rs) = read_lines input earliest p (r ∷ rs)

-- the answer to READS in state p
unfoldable pub reads_text : Input → ℕ → ℕ → List ℕ
reads_text input earliest p = lines_or_none input earliest p (reads_of input.program (run input p))
