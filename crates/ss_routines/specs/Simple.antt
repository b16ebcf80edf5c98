-- Statements that hold no other.
use Rattle.std.specs.Prelude.{ℕ, Bool, List, Option}
use Rattle.ss_words.specs.Lists.{Name, Several}
use Rattle.ss_words.specs.declared.terms.SetEnd.{SetEnd}
use Rattle.ss_routines.specs.declared.tree.simple.Article.{Article}
use Rattle.ss_routines.specs.Expr.{Expr}
use Rattle.ss_routines.specs.Condition.{Reference}

-- [LET] v = e, with whether LET is written; ADD e TO v; SUBTRACT e FROM v
pub data Assign : Type 0 where
  Let : Bool → Reference → Expr → Assign
  Add Subtract : Expr → Reference → Assign

-- CREATE c [CALLED v]; CREATE EVERY c [(n)]; DESTROY c [CALLED v]
pub data Making : Type 0 where
  Create : Name → Option Reference → Making
  CreateEvery : Name → Option Expr → Making
  Destroy : Name → Option Reference → Making

-- the place at which a member is filed: nothing is written, FIRST or LAST, BEFORE or AFTER another
pub data FilePlace : Type 0 where
  ByDiscipline : FilePlace
  AtEnd : SetEnd → FilePlace
  Before After : Expr → FilePlace

-- FILE x .. IN s; FILE FIRST or LAST x IN s; REMOVE FIRST or LAST v FROM s; REMOVE x FROM s
pub data Filing : Type 0 where
  File : Expr → FilePlace → Reference → Filing
  FileAt : SetEnd → Expr → Reference → Filing
  RemoveEnd : SetEnd → Reference → Reference → Filing
  Remove : Expr → Reference → Filing

-- how a list of names or values is written: not at all, after GIVEN, or in parentheses
pub data Listing (A : Type 0) : Type 0 where
  Unwritten : Listing A
  BehindGiven InParentheses : Several A → Listing A

-- CALL r, its values, and the targets after YIELDING or nothing; RETURN; STOP
pub data Transfer : Type 0 where
  Call : Name → Listing Expr → List Reference → Transfer
  Return Stop : Transfer

-- the values and the reference of a SCHEDULE: (values) [CALLED v], or [CALLED v] [GIVEN values]
pub data Details : Type 0 where
  ValuesFirst : Several Expr → Option Reference → Details
  CalledFirst : Option Reference → List Expr → Details

-- AT t; NOW; IN n DAYS
pub data When : Type 0 where
  At : Expr → When
  Now : When
  In : Expr → When

-- SCHEDULE; CANCEL e [CALLED v]; START SIMULATION
pub data Timing : Type 0 where
  Schedule : Article → Name → Details → When → Timing
  Cancel : Name → Option Reference → Timing
  StartSimulation : Timing

-- READ and its targets; PRINT n LINES, the values after WITH or none, and the picture; SKIP e LINES
pub data Exchange : Type 0 where
  Read : Several Reference → Exchange
  Print : ℕ → List Expr → List (List ℕ) → Exchange
  Skip : Expr → Exchange

-- a statement that holds no other, by its theme
pub data Simple : Type 0 where
  Assigns : Assign → Simple
  Makes : Making → Simple
  Files : Filing → Simple
  Transfers : Transfer → Simple
  Times : Timing → Simple
  Exchanges : Exchange → Simple
