-- A program's tables give the items of its preamble: each number is the name that its table has
-- there.
use Rattle.std.specs.Prelude.{◌≡◌, true, List, [], ◌∷◌, ◌++◌, map, codes, bytes_eq, Option, Some, None}
use Rattle.std.specs.List.{All, filter, flat_map}
use Rattle.ss_words.specs.Lists.{Name, all_of}
use Rattle.ss_preamble.specs.declared.item.Heading.{Heading}
use Rattle.ss_preamble.specs.declared.item.Heading.TheVariants.{PermanentEntities, TemporaryEntities, EventNotices}
use Rattle.ss_words.specs.declared.terms.Rank.TheVariants as ranks
use Rattle.ss_preamble.specs.Tree.{Key as WrittenKey, SetDiscipline, Fifo, Lifo, Ranked, Variables, Item, Headed}
use Rattle.ss_preamble.specs.Tree.{OfEvery, OfSystem, Defines, Decls}
use Rattle.ss_preamble.specs.Limits.{clause_has, class_names}
use Rattle.ss_routines.specs.Places.{Section}
use Rattle.ss_program.specs.declared.keys.Key.{Key}
use Rattle.ss_program.specs.declared.kinds.ClassKind.{ClassKind}
use Rattle.ss_program.specs.declared.kinds.ClassKind.TheVariants.{Permanent, Temporary, Event}
use Rattle.ss_program.specs.declared.kinds.Discipline.{Discipline}
use Rattle.ss_program.specs.declared.kinds.Discipline.TheVariants as discipline
use Rattle.ss_program.specs.declared.kinds.Owner.{Owner}
use Rattle.ss_program.specs.declared.kinds.Owner.TheVariants.{System, OwnedBy}
use Rattle.ss_program.specs.Program.{ClassTable, SetTable, ProgramTable, class_of, section_of, event_of_kind}
use Rattle.ss_program.specs.Program.{is_event_section}
use Rattle.ss_check.specs.Facts.{Fact, is_among, each_once, fact}
use Rattle.ss_check.specs.Declarations.{HeadedItem, headed_items, included_names, owners_in, members_in, disciplines_in}
use Rattle.ss_check.specs.Declarations.{ties_in, sets_in, external_in, priority_in}
use Rattle.ss_check.specs.Breach.{breach}
use Rattle.ss_check.specs.Resolved.{program_resolved}
use Rattle.ss_check.specs.NamedTree.{several, name_at}

-- ---- names for numbers

-- the heading over the classes of a kind
abbrev pub named_heading : ClassKind → Heading
named_heading (Permanent count) = PermanentEntities
named_heading Temporary = TemporaryEntities
named_heading (Event e) = EventNotices

-- a key, by the names of the attributes of its class
abbrev pub named_key : List Name → Key → WrittenKey
named_key attributes key = record { rank = key.rank; name = name_at attributes key.attribute }

-- a discipline, by the names of the attributes of the members
abbrev pub named_discipline : List Name → Discipline → SetDiscipline
named_discipline attributes discipline.Fifo = Fifo
named_discipline attributes discipline.Lifo = Lifo
named_discipline attributes (discipline.Ranked keys) =
    Ranked (several (record { rank = ranks.High; name = [] }) (map (named_key attributes) keys))

-- the class that owns a set, none for the system
abbrev pub named_owner : ProgramTable → Owner → Option Name
named_owner program System = None
named_owner program (OwnedBy c) = Some (class_of program c).name

-- ---- the contents of items

-- all that facts say of a name, in order
abbrev pub said_of : {A : Type 0} → List (Fact A) → Name → List A
said_of facts name = map (λ f. f.what) (filter (λ f. bytes_eq name f.name) facts)

-- each class that an item names, with the heading over it
abbrev pub headings_in : Option Heading → Item → List (Fact (Option Heading))
headings_in heading (Headed g names) = map (λ c. fact c (Some g)) (included_names names)
headings_in heading (OfEvery c clauses) = fact c heading ∷ []
headings_in heading _ = []

-- each attribute that an item gives its class
abbrev pub has_in : Item → List (Fact Name)
has_in (OfEvery c clauses) = map (λ a. fact c a) (flat_map clause_has (all_of clauses))
has_in _ = []

-- the variable of a class, and N.c of a permanent class c
abbrev pub class_variables : Option Heading → Name → List Name
class_variables (Some PermanentEntities) c = c ∷ (codes "N." ++ c) ∷ []
class_variables heading c = c ∷ []

-- the global variables of an item: of its classes, of the system, and of a DEFINE
abbrev pub globals_in : Option Heading → Item → List Name
globals_in heading (Headed g names) = flat_map (class_variables (Some g)) (included_names names)
globals_in heading (OfEvery c clauses) = class_variables heading c
globals_in heading (OfSystem clauses) = flat_map clause_has (all_of clauses)
globals_in heading (Defines (Variables names)) = all_of names
globals_in heading _ = []

-- the contents of items
pub record Written : Type 0 where
  -- the global variables, each once in the order in which they are first named
  pub variables : List Name
  -- the classes, in the same way
  pub classes : List Name
  -- the sets, in the same way
  pub sets : List Name
  -- each class with the heading over each item that names it
  pub headings : List (Fact (Option Heading))
  -- each class with the attributes that HAS gives it
  pub attributes : List (Fact Name)
  -- each event class with the keys of its BREAK
  pub ties : List (Fact (List WrittenKey))
  -- the classes that EXTERNAL names
  pub external : List Name
  -- the classes that PRIORITY names
  pub priority : List Name
  -- each set with its owner: a class, or none for the system
  pub owners : List (Fact (Option Name))
  -- each set with the class of its members
  pub members : List (Fact Name)
  -- each set with the discipline of its DEFINE
  pub disciplines : List (Fact SetDiscipline)

-- the contents of items under their headings
abbrev pub items_written : List HeadedItem → Written
items_written xs = record {
  variables = each_once (flat_map (λ x. globals_in x.heading x.item) xs);
  classes = each_once (flat_map (λ x. class_names x.item) xs);
  sets = each_once (flat_map (λ x. sets_in x.item) xs);
  headings = flat_map (λ x. headings_in x.heading x.item) xs;
  attributes = flat_map (λ x. has_in x.item) xs;
  ties = flat_map (λ x. ties_in x.item) xs;
  external = flat_map (λ x. external_in x.item) xs;
  priority = flat_map (λ x. priority_in x.item) xs;
  owners = flat_map (λ x. owners_in x.item) xs;
  members = flat_map (λ x. members_in x.item) xs;
  disciplines = flat_map (λ x. disciplines_in x.item) xs;
}

-- ---- the law; p: a program; w: the contents of items

-- the one thing that is said, or this if nothing is
abbrev pub IsSaid : {A : Type 0} → A → List A → A → Type 0
IsSaid without [] a = a ≡ without
IsSaid without (b ∷ []) a = a ≡ b
IsSaid without (b ∷ c ∷ rest) a = ⊥

-- a kind of the class name: N.n counts a permanent class, and the section of an event class is that of the event name
abbrev pub IsKindOf : ProgramTable → Name → ClassKind → Type 0
IsKindOf program name (Permanent count) = name_at program.globals count ≡ codes "N." ++ name
IsKindOf program name Temporary = Unit {0}
IsKindOf program name (Event e) =
    ((section_of program e.section).name ≡ name) × (is_event_section (section_of program e.section) ≡ true)

-- a class
pub record IsClassOf (program : ProgramTable) (written : Written) (class : ClassTable) : Type 0 where
  -- its variable has its name
  pub variable : name_at program.globals class.variable ≡ class.name
  -- it has the counter or the section of its kind
  pub kind : IsKindOf program class.name class.kind
  -- each item that names it is under the heading of its kind
  pub heading : All (λ h. h ≡ Some (named_heading class.kind)) (said_of written.headings class.name)
  -- its attributes are those that HAS gives it, in order
  pub attributes : class.attributes ≡ said_of written.attributes class.name
  -- the keys that break its ties are those of its one BREAK, or none
  pub ties : IsSaid [] (said_of written.ties class.name)
      (map (named_key class.attributes) (event_of_kind class.kind).ties)
  -- it is external if EXTERNAL names it
  pub external : (event_of_kind class.kind).external ≡ is_among class.name written.external

-- a set
pub record IsSetOf (program : ProgramTable) (written : Written) (set : SetTable) : Type 0 where
  -- one OWNS names it, with its owner
  pub owner : said_of written.owners set.name ≡ named_owner program set.owner ∷ []
  -- one BELONGS names it, with the class of its members
  pub member : said_of written.members set.name ≡ (class_of program set.member).name ∷ []
  -- its discipline is that of its one DEFINE, or FIFO
  pub discipline : IsSaid Fifo (said_of written.disciplines set.name)
      (named_discipline (class_of program set.member).attributes set.discipline)

-- all tables of a preamble
pub record IsOfItems (program : ProgramTable) (written : Written) : Type 0 where
  -- the global variables that items write, in order
  pub variables : program.globals ≡ written.variables
  -- the classes, in order
  pub class_order : map (λ c. c.name) program.classes ≡ written.classes
  -- each as it is written
  pub classes : All (IsClassOf program written) program.classes
  -- the sets, in order
  pub set_order : map (λ t. t.name) program.sets ≡ written.sets
  -- each as it is written
  pub sets : All (IsSetOf program written) program.sets
  -- the classes of PRIORITY, in order
  pub priority : map (λ c. (class_of program c).name) program.priority ≡ written.priority

-- tables of a program without a breach, numbers looked up in them, give the items of its preamble
abbrev pub TablesGiveTheItems : Type 0
TablesGiveTheItems =
    (decls : Decls) (qs : List Section) → breach decls qs ≡ None →
    IsOfItems (program_resolved decls qs) (items_written (headed_items decls.items))
