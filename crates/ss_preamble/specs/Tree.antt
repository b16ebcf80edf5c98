-- The items of a preamble as they are written, with names as lists of bytes.
use Rattle.std.specs.Prelude.{ℕ, List, map, Option}
use Rattle.ss_words.specs.Lists.{Name, Several}
use Rattle.ss_preamble.specs.declared.item.Heading.{Heading}
use Rattle.ss_words.specs.declared.terms.Rank.{Rank}

-- BY HIGH or BY LOW, and a name
pub record Key : Type 0 where
  -- which of two values comes first
  pub rank : Rank
  -- the attribute that is compared
  pub name : Name

-- HAS names, OWNS names, BELONGS TO names
pub data Clause : Type 0 where
  Has Owns BelongsTo : Several Name → Clause

-- FIFO SETS, LIFO SETS, SETS RANKED by keys
pub data SetDiscipline : Type 0 where
  Fifo Lifo : SetDiscipline
  Ranked : Several Key → SetDiscipline

-- DEFINE of variables, DEFINE of sets
pub data Definition : Type 0 where
  Variables : Several Name → Definition
  Sets : Several Name → SetDiscipline → Definition

-- PRIORITY ORDER IS names; BREAK name TIES keys; EXTERNAL EVENTS ARE names
pub data EventRule : Type 0 where
  PriorityOrder : Several Name → EventRule
  BreakTies : Name → Several Key → EventRule
  ExternalEvents : Several Name → EventRule

-- NORMALLY MODE IS INTEGER; a heading, with INCLUDE names or without; EVERY or SYSTEM with clauses
pub data Item : Type 0 where
  Normally : Item
  Headed : Heading → Option (Several Name) → Item
  OfEvery : Name → Several Clause → Item
  OfSystem : Several Clause → Item
  Defines : Definition → Item
  Orders : EventRule → Item

-- the items of a preamble, in order
abbrev pub Preamble : Type 0
Preamble = List Item

-- an item and the line of its first plain word
pub record ItemAt : Type 0 where
  -- the line of its first plain word
  pub line : ℕ
  -- the item itself
  pub item : Item

-- the items of a text with their lines, and the line of the preamble's END; none without a preamble
pub record Decls : Type 0 where
  -- each item, in the order of the text
  pub items : List ItemAt
  -- the line of END
  pub end : Option ℕ

-- the items without their lines
abbrev pub items_of : Decls → Preamble
items_of declarations = map (λ i. i.item) declarations.items
