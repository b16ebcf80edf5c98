-- The tables of a program that a store needs: its classes and its sets, in order of declaration.
use Rattle.std.specs.Prelude.{◌≡◌, ◌<◌, ◌≤◌, ℕ, ◌==◌, Bool, true, false, List, length, take, map, count_by, slice_get}
use Rattle.std.specs.Prelude.{unwrap_or, Some}
use Rattle.std.specs.List.{range_with_len}
use Rattle.ss_program.specs.declared.kinds.ClassKind.{ClassKind}
use Rattle.ss_program.specs.declared.kinds.ClassKind.TheVariants.{Permanent}
use Rattle.ss_program.specs.declared.kinds.Discipline.TheVariants.{Fifo}
use Rattle.ss_program.specs.declared.kinds.Owner.{Owner}
use Rattle.ss_program.specs.declared.kinds.Owner.TheVariants.{System, OwnedBy}
use Rattle.ss_program.specs.Program as program
use Rattle.ss_program.specs.Program.{SetTable, ProgramTable, owned_among, list_number}
use Rattle.ss_words.specs.declared.limits.TheConstants.{MOST_CLASSES, MOST_SETS}
use Rattle.ss_store.specs.declared.shape.ClassShape.{ClassShape}
use Rattle.ss_store.specs.declared.shape.SetShape.{SetShape}

-- the classes, the sets, and how many sets the system owns
pub record Tables : Type 0 where
  -- the shape of each class
  pub classes : List ClassShape
  -- the shape of each set
  pub sets : List SetShape
  -- how many sets the system owns
  pub system : ℕ

-- ---- rows by their numbers; no sound program asks for one that isn't there

-- class number c
abbrev pub class_in : List ClassShape → ℕ → ClassShape
class_in cs c = unwrap_or (slice_get cs c) (record { attributes = 0; owned = 0; joined = 0; permanent = false })

-- class number c of the tables
abbrev pub class_of : Tables → ℕ → ClassShape
class_of tables c = class_in tables.classes c

-- the shape that is used if there is no such set
abbrev pub no_set : SetShape
no_set = record { discipline = Fifo; owner = System; list = 0; member = 0; slot = 0 }

-- set number s
abbrev pub set_of : Tables → ℕ → SetShape
set_of tables s = unwrap_or (slice_get tables.sets s) no_set

-- ---- the tables of a program

-- whether a class is permanent
abbrev pub is_permanent : ClassKind → Bool
is_permanent (Permanent n) = true
is_permanent _ = false

-- in how many of these sets the entities of class c may be
abbrev pub joined_among : ℕ → List SetTable → ℕ
joined_among c sets = count_by (λ t. c == t.member) sets

-- the shape of class c
abbrev pub class_shape : ProgramTable → ℕ → ClassShape
class_shape p c = record {
  attributes = length (program.class_of p c).attributes;
  owned = owned_among (OwnedBy c) p.sets;
  joined = joined_among c p.sets;
  permanent = is_permanent (program.class_of p c).kind;
}

-- the shape of set s
abbrev pub set_shape : ProgramTable → ℕ → SetShape
set_shape p s = record {
  discipline = (program.set_of p s).discipline;
  owner = (program.set_of p s).owner;
  list = list_number p s;
  member = (program.set_of p s).member;
  slot = joined_among (program.set_of p s).member (take s p.sets);
}

-- the tables of a program that a store needs
abbrev pub tables_of : ProgramTable → Tables
tables_of program = record {
  classes = map (class_shape program) (range_with_len 0 (length program.classes));
  sets = map (set_shape program) (range_with_len 0 (length program.sets));
  system = owned_among System program.sets;
}

-- ---- tables that a store can have

-- a set of the program
abbrev pub IsSet : List SetShape → SetShape → Type 0
IsSet sets shape = (i : ℕ) × (slice_get sets i ≡ Some shape)

-- how many sets an owner has
abbrev pub owned_by : Owner → Tables → ℕ
owned_by System tables = tables.system
owned_by (OwnedBy c) tables = (class_of tables c).owned

-- each set has a number of its own among those of its owner and among those of its members
pub record AreTables (tables : Tables) : Type 0 where
  -- a set's list is one of its owner's
  pub lists : (s : SetShape) → IsSet tables.sets s → s.list < owned_by s.owner tables
  -- a set's slot is one of its members'
  pub slots : (s : SetShape) → IsSet tables.sets s → s.slot < (class_of tables s.member).joined
  -- two sets of one owner have two lists
  pub one_list : (a b : SetShape) → IsSet tables.sets a → IsSet tables.sets b → a.owner ≡ b.owner → a.list ≡ b.list
      → a ≡ b
  -- two sets of one class of members have two slots
  pub one_slot : (a b : SetShape) → IsSet tables.sets a → IsSet tables.sets b → a.member ≡ b.member → a.slot ≡ b.slot
      → a ≡ b
  -- the classes are few
  pub few_classes : length tables.classes ≤ MOST_CLASSES
  -- a class owns few sets
  pub few_owned : (c : ℕ) → (class_of tables c).owned ≤ MOST_SETS
  -- a class may be in few sets
  pub few_joined : (c : ℕ) → (class_of tables c).joined ≤ MOST_SETS
  -- the system owns few sets
  pub few_system : tables.system ≤ MOST_SETS
