-- A small preamble and the tables of its program. CLOSING is class 0, ARRIVAL 1, SHOP 2 and JOB 3.
use Rattle.std.specs.Prelude.{◌≡◌, true, false, List, [], ◌∷◌, codes, Some, None}
use Rattle.ss_words.specs.Lists.{Name}
use Rattle.ss_preamble.specs.declared.item.Heading.TheVariants.{PermanentEntities, TemporaryEntities, EventNotices}
use Rattle.ss_words.specs.declared.terms.Rank.TheVariants as ranks
use Rattle.ss_preamble.specs.Tree.{Has, Owns, BelongsTo, Ranked, Sets, PriorityOrder, BreakTies, ExternalEvents, Item}
use Rattle.ss_preamble.specs.Tree.{Headed, OfEvery, Defines, Orders}
use Rattle.ss_routines.specs.Simple.{Unwritten}
use Rattle.ss_routines.specs.Tree.{MainHead, EventHead}
use Rattle.ss_routines.specs.Places.{Section}
use Rattle.ss_words.specs.declared.terms.Rank.TheVariants.{High, Low}
use Rattle.ss_program.specs.declared.kinds.ClassKind.{ClassKind}
use Rattle.ss_program.specs.declared.kinds.ClassKind.TheVariants.{Permanent, Temporary, Event}
use Rattle.ss_program.specs.declared.kinds.Discipline.TheVariants as discipline
use Rattle.ss_program.specs.declared.kinds.Owner.TheVariants.{OwnedBy}
use Rattle.ss_program.specs.Program.{ClassTable, SetTable, ProgramTable}
use Rattle.ss_check.specs.Breach.{breach}
use Rattle.ss_check.specs.Examples.{define, high, one, preamble, section_at, two}
use Rattle.ss_check.specs.Resolved.{program_resolved}

-- ---- names

-- an event class with attributes
abbrev pub arrival : Name
arrival = codes "ARRIVAL"

-- an event class without
abbrev pub closing_event : Name
closing_event = codes "CLOSING"

-- a permanent class
abbrev pub shop : Name
shop = codes "SHOP"

-- a temporary class
abbrev pub job : Name
job = codes "JOB"

-- a set
abbrev pub queue : Name
queue = codes "QUEUE"

-- the first attribute of an arrival
abbrev pub weight : Name
weight = codes "WEIGHT"

-- the second, which breaks ties
abbrev pub load : Name
load = codes "LOAD"

-- the first attribute of a job
abbrev pub size : Name
size = codes "SIZE"

-- the second, by which the set is ranked first
abbrev pub age : Name
age = codes "AGE"

-- a variable
abbrev pub total : Name
total = codes "TOTAL"

-- ---- the text

-- PRIORITY ORDER IS ARRIVAL, CLOSING; EVENT NOTICES INCLUDE CLOSING; EVERY ARRIVAL HAS WEIGHT, LOAD;
-- BREAK ARRIVAL TIES BY HIGH LOAD; EXTERNAL EVENTS ARE ARRIVAL; PERMANENT ENTITIES; EVERY SHOP OWNS QUEUE;
-- TEMPORARY ENTITIES; EVERY JOB HAS SIZE, AGE BELONGS TO QUEUE; DEFINE QUEUE AS SETS RANKED BY LOW AGE THEN HIGH SIZE;
-- DEFINE TOTAL AS INTEGER VARIABLES
abbrev pub shop_items : List Item
shop_items =
    Orders (PriorityOrder (two arrival closing_event)) ∷
    Headed EventNotices (Some (one closing_event)) ∷
    OfEvery arrival (one (Has (two weight load))) ∷
    Orders (BreakTies arrival (high load)) ∷
    Orders (ExternalEvents (one arrival)) ∷
    Headed PermanentEntities None ∷
    OfEvery shop (one (Owns (one queue))) ∷
    Headed TemporaryEntities None ∷
    OfEvery job (two (Has (two size age)) (BelongsTo (one queue))) ∷
    Defines (Sets (one queue)
    (Ranked (two (record { rank = ranks.Low; name = age }) (record { rank = ranks.High; name = size })))) ∷
    define total ∷
    []

-- an empty MAIN, EVENT ARRIVAL and EVENT CLOSING
abbrev pub shop_sections : List Section
shop_sections =
    section_at 20 MainHead [] ∷
    section_at 30 (EventHead arrival Unwritten false) [] ∷
    section_at 40 (EventHead closing_event Unwritten false) [] ∷
    []

-- ---- the tables

-- the global variables
abbrev pub shop_variables : List Name
shop_variables = closing_event ∷ arrival ∷ shop ∷ codes "N.SHOP" ∷ job ∷ total ∷ []

-- section 2, no ties, not external
abbrev pub closing_kind : ClassKind
closing_kind = Event (record { section = 2; ties = []; external = false })

-- section 1, ties by attribute 1, external
abbrev pub arrival_kind : ClassKind
arrival_kind = Event (record { section = 1; ties = record { rank = High; attribute = 1 } ∷ []; external = true })

-- the classes, each with the number of its variable
abbrev pub shop_classes : List ClassTable
shop_classes =
    record { name = closing_event; kind = closing_kind; variable = 0; attributes = [] } ∷
    record { name = arrival; kind = arrival_kind; variable = 1; attributes = weight ∷ load ∷ [] } ∷
    record { name = shop; kind = Permanent 3; variable = 2; attributes = [] } ∷
    record { name = job; kind = Temporary; variable = 4; attributes = size ∷ age ∷ [] } ∷
    []

-- the one set: its keys are attributes 1 and 0 of its members, class 3; class 2 owns it
abbrev pub shop_sets : List SetTable
shop_sets =
    record {
      name = queue;
      discipline = discipline.Ranked
          (record { rank = Low; attribute = 1 } ∷ record { rank = High; attribute = 0 } ∷ []);
      owner = OwnedBy 2;
      member = 3;
    } ∷
    []

-- the program
abbrev pub shop_program : ProgramTable
shop_program = program_resolved (preamble shop_items) shop_sections

-- the preamble breaks no rule, and its program has these tables
abbrev pub PreambleHasTables : Type 0
PreambleHasTables =
    (breach (preamble shop_items) shop_sections ≡ None)
    × (shop_program.globals ≡ shop_variables)
    × (shop_program.classes ≡ shop_classes)
    × (shop_program.sets ≡ shop_sets)
    × (shop_program.priority ≡ 1 ∷ 0 ∷ [])
