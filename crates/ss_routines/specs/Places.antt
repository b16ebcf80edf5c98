-- Sections as lists of places, each with its line.
use Rattle.std.specs.Prelude.{ℕ, Bool, List}
use Rattle.ss_words.specs.Lists.{Name, Several}
use Rattle.ss_routines.specs.Expr.{Expr}
use Rattle.ss_routines.specs.Simple.{Simple}
use Rattle.ss_routines.specs.Loops.{Phrase, Computed, Question}
use Rattle.ss_routines.specs.Tree.{Head}

-- a place of an IF statement
pub data Branch : Type 0 where
  If : Question → Branch
  Else Always : Branch

-- a place of a FOR statement: a phrase, and whether DO is after it; LOOP; FIND FIRST CASE; the two
-- places of COMPUTE
pub data Loop : Type 0 where
  For : Phrase → Bool → Loop
  Next Find : Loop
  Gather : Expr → Loop
  Compute : Several Computed → Loop

-- a place of a section
pub data Place : Type 0 where
  Simply : Simple → Place
  Branches : Branch → Place
  Loops : Loop → Place
  EndOfSection : Place

-- a place, and its line
pub record Spot : Type 0 where
  -- the line of its first plain word
  pub line : ℕ
  -- the place
  pub place : Place

-- a local DEFINE
pub record LocalNames : Type 0 where
  -- the line of its first plain word
  pub line : ℕ
  -- the names that it gives
  pub names : Several Name

-- a section
pub record Section : Type 0 where
  -- the line of the head's first plain word
  pub line : ℕ
  -- the head
  pub head : Head
  -- the local DEFINEs
  pub locals : List LocalNames
  -- the places, of which END is the last
  pub places : List Spot
