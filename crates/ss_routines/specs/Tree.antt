-- The tree of a program's sections, its spelling, and the number of its parts that are open at
-- once.
use Rattle.std.specs.Prelude.{ℕ, suc, max, ◌+◌, Bool, true, false, List, [], ◌∷◌, ◌++◌, length}
use Rattle.std.specs.Prelude.{Option, Some}
use Rattle.std.specs.List.{flat_map}
use Rattle.ss_words.specs.declared.mark.Mark.TheVariants as m
use Rattle.ss_words.specs.declared.reserved.Reserved.TheVariants as r
use Rattle.ss_words.specs.Plain.{Plain, name, mark}
use Rattle.ss_words.specs.Lists.{Name, Several, all_of, spell_names}
use Rattle.ss_routines.specs.Expr.{Expr}
use Rattle.ss_routines.specs.Simple.{Listing, Unwritten, BehindGiven, InParentheses, Simple}
use Rattle.ss_routines.specs.SimpleSpelling.{spell_behind, spell_listing, spell_simple, greatest, depth_listing}
use Rattle.ss_routines.specs.SimpleSpelling.{depth_simple}
use Rattle.ss_routines.specs.Loops.{Phrase, Computed, Question, spell_name, spell_phrase, spell_compute, spell_question}
use Rattle.ss_routines.specs.Loops.{depth_phrase, depth_compute, depth_question}

-- a list of statements, as a body has it
mutual
  -- statements, one after the other
  pub data Block : Type 0 where
    no_statements : Block
    statement : Statement → Block → Block

  -- one that is no loop, or a FOR phrase and the part after it
  pub data Statement : Type 0 where
    alone : One → Statement
    loop : Phrase → Controlled → Statement

  -- one that holds no other; IF with its question, its statements and perhaps ELSE, up to ALWAYS
  pub data One : Type 0 where
    simple : Simple → One
    branch : Question → Block → Otherwise → One

  -- no ELSE; or ELSE and statements
  pub data Otherwise : Type 0 where
    no_else : Otherwise
    else_with : Block → Otherwise

  -- the part after a FOR phrase: a further phrase and the part after that; DO, statements and LOOP;
  -- one statement; FIND FIRST CASE; COMPUTE with its targets and its expression
  pub data Controlled : Type 0 where
    further : Phrase → Controlled → Controlled
    repeated : Block → Controlled
    single : One → Controlled
    find : Controlled
    compute : Several Computed → Expr → Controlled

-- MAIN; ROUTINE, its name, its parameters, and the names after YIELDING or none; EVENT, its name,
-- its parameters, and whether SAVING EVENT NOTICES is written
pub data Head : Type 0 where
  MainHead : Head
  RoutineHead : Name → Listing Name → List Name → Head
  EventHead : Name → Listing Name → Bool → Head

-- a section
pub record SectionTree : Type 0 where
  -- its head
  pub head : Head
  -- the names of its local DEFINEs
  pub locals : List (Several Name)
  -- its statements
  pub block : Block

-- the sections of a program, in order
abbrev pub Tree : Type 0
Tree = List SectionTree

-- ---- plain words

-- statements, and each part of them
abbrev mutual
  -- statements
  pub spell_block : Block → List Plain
  spell_block no_statements = []
  spell_block (statement t b) = spell_statement t ++ spell_block b

  -- a statement
  pub spell_statement : Statement → List Plain
  spell_statement (alone o) = spell_one o
  spell_statement (loop f c) = spell_phrase f ++ spell_controlled c

  -- a statement that is no loop
  pub spell_one : One → List Plain
  spell_one (simple a) = spell_simple a
  spell_one (branch q b e) =
      mark (m.Reserved r.If) ∷ (spell_question q ++ spell_block b ++ spell_otherwise e ++ mark
      (m.Reserved r.Always) ∷ [])

  -- ELSE and its statements, or nothing
  pub spell_otherwise : Otherwise → List Plain
  spell_otherwise no_else = []
  spell_otherwise (else_with b) = mark (m.Reserved r.Else) ∷ spell_block b

  -- the part that a FOR phrase controls
  pub spell_controlled : Controlled → List Plain
  spell_controlled (further f c) = spell_phrase f ++ spell_controlled c
  spell_controlled (repeated b) = mark (m.Reserved r.Do) ∷ (spell_block b ++ mark (m.Reserved r.Loop) ∷ [])
  spell_controlled (single o) = spell_one o
  spell_controlled find = mark (m.Reserved r.Find) ∷ mark (m.Reserved r.First) ∷ mark (m.Reserved r.Case) ∷ []
  spell_controlled (compute ts e) = spell_compute ts e

-- SAVING EVENT NOTICES, or nothing
abbrev pub spell_saving : Bool → List Plain
spell_saving true = mark (m.Reserved r.Saving) ∷ mark (m.Reserved r.Event) ∷ mark (m.Reserved r.Notices) ∷ []
spell_saving false = []

-- the head of a section
abbrev pub spell_head : Head → List Plain
spell_head MainHead = mark (m.Reserved r.Main) ∷ []
spell_head (RoutineHead n ps ys) =
    mark (m.Reserved r.Routine) ∷ name n ∷ (spell_listing spell_name ps ++ spell_behind (m.Reserved r.Yielding)
    spell_name ys)
spell_head (EventHead n ps b) = mark (m.Reserved r.Event) ∷ name n ∷ (spell_listing spell_name ps ++ spell_saving b)

-- a local DEFINE
abbrev pub spell_define : Several Name → List Plain
spell_define ns =
    mark (m.Reserved r.Define)
    ∷ (spell_names ns ++ mark (m.Reserved r.As) ∷ mark (m.Reserved r.Integer) ∷ mark (m.Reserved r.Variables) ∷ [])

-- a section, up to its END
abbrev pub spell_section : SectionTree → List Plain
spell_section section =
    spell_head section.head ++ flat_map spell_define section.locals ++ spell_block section.block
    ++ mark (m.Reserved r.End) ∷ []

-- the plain words of a program
abbrev pub spell : Tree → List Plain
spell ts = flat_map spell_section ts

-- ---- the greatest number of parentheses open at once

-- in statements, and in each part of them
abbrev mutual
  -- in statements
  pub depth_block : Block → ℕ
  depth_block no_statements = 0
  depth_block (statement t b) = max (depth_statement t) (depth_block b)

  -- in a statement
  pub depth_statement : Statement → ℕ
  depth_statement (alone o) = depth_one o
  depth_statement (loop f c) = max (depth_phrase f) (depth_controlled c)

  -- in a statement that is no loop
  pub depth_one : One → ℕ
  depth_one (simple a) = depth_simple a
  depth_one (branch q b e) = max (depth_question q) (max (depth_block b) (depth_otherwise e))

  -- after ELSE
  pub depth_otherwise : Otherwise → ℕ
  depth_otherwise no_else = 0
  depth_otherwise (else_with b) = depth_block b

  -- in the part that a FOR phrase controls
  pub depth_controlled : Controlled → ℕ
  depth_controlled (further f c) = max (depth_phrase f) (depth_controlled c)
  depth_controlled (repeated b) = depth_block b
  depth_controlled (single o) = depth_one o
  depth_controlled find = 0
  depth_controlled (compute ts e) = depth_compute ts e

-- parentheses around the parameters are a depth of 1
abbrev pub depth_head : Head → ℕ
depth_head MainHead = 0
depth_head (RoutineHead n ps ys) = depth_listing (λ p. 0) ps
depth_head (EventHead n ps b) = depth_listing (λ p. 0) ps

-- in a section
abbrev pub depth_section : SectionTree → ℕ
depth_section section = max (depth_head section.head) (depth_block section.block)

-- in a program
abbrev pub depth : Tree → ℕ
depth ts = greatest depth_section ts

-- ---- the greatest number of IFs open at once

-- in statements, and in each part of them
abbrev mutual
  -- in statements
  pub ifs_block : Block → ℕ
  ifs_block no_statements = 0
  ifs_block (statement t b) = max (ifs_statement t) (ifs_block b)

  -- in a statement
  pub ifs_statement : Statement → ℕ
  ifs_statement (alone o) = ifs_one o
  ifs_statement (loop f c) = ifs_controlled c

  -- in a statement that is no loop
  pub ifs_one : One → ℕ
  ifs_one (simple a) = 0
  ifs_one (branch q b e) = suc (max (ifs_block b) (ifs_otherwise e))

  -- after ELSE
  pub ifs_otherwise : Otherwise → ℕ
  ifs_otherwise no_else = 0
  ifs_otherwise (else_with b) = ifs_block b

  -- in the part that a FOR phrase controls
  pub ifs_controlled : Controlled → ℕ
  ifs_controlled (further f c) = ifs_controlled c
  ifs_controlled (repeated b) = ifs_block b
  ifs_controlled (single o) = ifs_one o
  ifs_controlled find = 0
  ifs_controlled (compute ts e) = 0

-- in a program
abbrev pub ifs : Tree → ℕ
ifs ts = greatest (λ t. ifs_block t.block) ts

-- ---- the greatest number of FOR phrases open at once

-- in statements, and in each part of them
abbrev mutual
  -- in statements
  pub phrases_block : Block → ℕ
  phrases_block no_statements = 0
  phrases_block (statement t b) = max (phrases_statement t) (phrases_block b)

  -- in a statement
  pub phrases_statement : Statement → ℕ
  phrases_statement (alone o) = phrases_one o
  phrases_statement (loop f c) = suc (phrases_controlled c)

  -- in a statement that is no loop
  pub phrases_one : One → ℕ
  phrases_one (simple a) = 0
  phrases_one (branch q b e) = max (phrases_block b) (phrases_otherwise e)

  -- after ELSE
  pub phrases_otherwise : Otherwise → ℕ
  phrases_otherwise no_else = 0
  phrases_otherwise (else_with b) = phrases_block b

  -- in the part that a FOR phrase controls
  pub phrases_controlled : Controlled → ℕ
  phrases_controlled (further f c) = suc (phrases_controlled c)
  phrases_controlled (repeated b) = phrases_block b
  phrases_controlled (single o) = phrases_one o
  phrases_controlled find = 0
  phrases_controlled (compute ts e) = 0

-- in a program
abbrev pub phrases : Tree → ℕ
phrases ts = greatest (λ t. phrases_block t.block) ts

-- ---- parameters

-- a written list as a list
abbrev pub listing_names : {A : Type 0} → Listing A → List A
listing_names Unwritten = []
listing_names (BehindGiven xs) = all_of xs
listing_names (InParentheses xs) = all_of xs

-- how many parameters a head has, given and yielded ones
abbrev pub parameters_head : Head → ℕ
parameters_head MainHead = 0
parameters_head (RoutineHead n ps ys) = length (listing_names ps) + length ys
parameters_head (EventHead n ps b) = length (listing_names ps)

-- the greatest number of parameters of a section
abbrev pub parameters : Tree → ℕ
parameters ts = greatest (λ t. parameters_head t.head) ts

-- whether a section begins with this word
abbrev pub is_head : Option Plain → Bool
is_head (Some (mark (m.Reserved r.Main))) = true
is_head (Some (mark (m.Reserved r.Routine))) = true
is_head (Some (mark (m.Reserved r.Event))) = true
is_head _ = false
