-- The texts that show the tables of a program: classes, sets, sections.
use Rattle.std.specs.Prelude.{ℕ, List, [], ◌∷◌, ◌++◌, length, codes, decimal}
use Rattle.ss_words.specs.declared.terms.Rank.{Rank}
use Rattle.ss_words.specs.declared.terms.Rank.TheVariants.{High, Low}
use Rattle.ss_program.specs.declared.keys.Key.{Key}
use Rattle.ss_program.specs.declared.kinds.ClassKind.{ClassKind}
use Rattle.ss_program.specs.declared.kinds.ClassKind.TheVariants.{Permanent, Temporary, Event as OfEvent}
use Rattle.ss_program.specs.declared.kinds.Discipline.{Discipline}
use Rattle.ss_program.specs.declared.kinds.Discipline.TheVariants.{Fifo, Lifo, Ranked}
use Rattle.ss_program.specs.declared.kinds.Owner.{Owner}
use Rattle.ss_program.specs.declared.kinds.Owner.TheVariants.{System, OwnedBy}
use Rattle.ss_program.specs.declared.kinds.SectionKind.{SectionKind}
use Rattle.ss_program.specs.declared.kinds.SectionKind.TheVariants.{Main, Routine, Event}
use Rattle.ss_program.specs.Program.{ProgramTable, class_of, set_of, section_of}
use Rattle.ss_store.specs.Store.{Store}
use Rattle.ss_state.specs.Run.{Input, run}
use Rattle.ss_inspect.specs.Texts.{texts_below, lines_or, name_at}
use Rattle.ss_inspect.specs.Living.{living_numbers}

-- the word of a class's kind
abbrev pub kind_word : ClassKind → List ℕ
kind_word (Permanent n) = codes "PERMANENT"
kind_word Temporary = codes "TEMPORARY"
kind_word (OfEvent e) = codes "EVENT"

-- class number c, its kind, and how many of it live
abbrev pub class_line : ProgramTable → Store → ℕ → List ℕ
class_line program store c =
    (class_of program c).name ++ codes " " ++ kind_word (class_of program c).kind ++ codes ": "
    ++ decimal (length (living_numbers store c)) ++ 10 ∷ []

-- the answer to SHOW CLASSES in state p
unfoldable pub classes_text : Input → ℕ → List ℕ
classes_text input p =
    lines_or (codes "NO CLASSES\n") (class_line input.program (run input p).store) (length input.program.classes)

-- the word of a rank
abbrev pub rank_word : Rank → List ℕ
rank_word High = codes "HIGH"
rank_word Low = codes "LOW"

-- a key as it is declared, after a blank: BY, its rank, and the name of its attribute
abbrev pub key_words : List (List ℕ) → Key → List ℕ
key_words attributes key = codes " BY " ++ rank_word key.rank ++ codes " " ++ name_at attributes key.attribute

-- further keys, each after THEN
abbrev pub further_keys : List (List ℕ) → List Key → List ℕ
further_keys attributes [] = []
further_keys attributes (k ∷ ks) = codes " THEN" ++ key_words attributes k ++ further_keys attributes ks

-- the keys of a ranking as they are declared, the one that decides first at the front
abbrev pub keys_words : List (List ℕ) → List Key → List ℕ
keys_words attributes [] = []
keys_words attributes (k ∷ ks) = key_words attributes k ++ further_keys attributes ks

-- a discipline as it is declared, of a set whose members have these attributes
abbrev pub discipline_words : List (List ℕ) → Discipline → List ℕ
discipline_words attributes Fifo = codes "FIFO"
discipline_words attributes Lifo = codes "LIFO"
discipline_words attributes (Ranked keys) = codes "RANKED" ++ keys_words attributes keys

-- the name of an owner
abbrev pub owner_name : ProgramTable → Owner → List ℕ
owner_name program System = codes "SYSTEM"
owner_name program (OwnedBy c) = (class_of program c).name

-- set number s, its discipline, whose its lists are, and the class of its members
abbrev pub set_line : ProgramTable → ℕ → List ℕ
set_line program s =
    (set_of program s).name ++ codes " "
    ++ discipline_words (class_of program (set_of program s).member).attributes (set_of program s).discipline
    ++ codes " OWNER " ++ owner_name program (set_of program s).owner
    ++ codes " MEMBER " ++ (class_of program (set_of program s).member).name ++ 10 ∷ []

-- the answer to SHOW SETS
unfoldable pub sets_text : Input → List ℕ
sets_text input = lines_or (codes "NO SETS\n") (set_line input.program) (length input.program.sets)

-- the word of a section's kind, after a blank; MAIN has none
abbrev pub section_word : SectionKind → List ℕ
section_word Main = []
section_word Routine = codes " ROUTINE"
section_word Event = codes " EVENT"

-- section number n, its kind, and the line of its head
abbrev pub section_line : ProgramTable → ℕ → List ℕ
section_line program n =
    (section_of program n).name ++ section_word (section_of program n).kind ++ codes " LINE "
    ++ decimal (section_of program n).line ++ 10 ∷ []

-- the answer to SHOW SECTIONS, in the text's order
unfoldable pub sections_text : Input → List ℕ
sections_text input = texts_below (section_line input.program) (length input.program.sections)
