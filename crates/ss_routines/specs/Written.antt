-- The sections that a tree writes out, with the line of each place.
use Rattle.std.specs.Prelude.{ℕ, ◌+◌, true, false, List, [], ◌∷◌, ◌++◌, length}
use Rattle.std.specs.List.{flat_map}
use Rattle.ss_words.specs.Noting.{line}
use Rattle.ss_words.specs.Lists.{Name, Several}
use Rattle.ss_routines.specs.Loops.{Phrase, spell_phrase, spell_question}
use Rattle.ss_routines.specs.Places.{If, Else, Always, For, Next, Find, Gather, Compute, Place, Simply}
use Rattle.ss_routines.specs.Places.{Branches, Loops, EndOfSection, Spot, LocalNames, Section}
use Rattle.ss_routines.specs.Tree.{Block, no_statements, statement, Statement, alone, loop, One, simple, branch}
use Rattle.ss_routines.specs.Tree.{Otherwise, no_else, else_with, Controlled, further, repeated, single, find, compute}
use Rattle.ss_routines.specs.Tree.{SectionTree, Tree, spell_block, spell_statement, spell_otherwise}
use Rattle.ss_routines.specs.Tree.{spell_head, spell_define, spell_section}

-- lines: of each plain word. Each part is written out with the number of its first plain word
module _ (lines : List ℕ) where
  -- a place that begins with word k
  abbrev pub spot : ℕ → Place → Spot
  spot k p = record { line = line lines k; place = p }

  -- the places of statements, and of each part of them
  abbrev mutual
    -- statements
    pub flat_block : ℕ → Block → List Spot
    flat_block k no_statements = []
    flat_block k (statement t b) = flat_statement k t ++ flat_block (k + length (spell_statement t)) b

    -- a statement
    pub flat_statement : ℕ → Statement → List Spot
    flat_statement k (alone o) = flat_one k o
    flat_statement k (loop f c) = flat_loop k f (k + length (spell_phrase f)) c

    -- a statement that is no loop
    pub flat_one : ℕ → One → List Spot
    flat_one k (simple a) = spot k (Simply a) ∷ []
    flat_one k (branch q b e) =
        let i = k + 1 + length (spell_question q) in
        let j = i + length (spell_block b) in
        spot k (Branches (If q)) ∷ (flat_block i b ++ flat_otherwise j e ++ spot (j + length (spell_otherwise e))
        (Branches Always) ∷ [])

    -- ELSE and its statements, or nothing
    pub flat_otherwise : ℕ → Otherwise → List Spot
    flat_otherwise k no_else = []
    flat_otherwise k (else_with b) = spot k (Branches Else) ∷ flat_block (k + 1) b

    -- the phrase that begins with word k, and the part after it from word j on
    pub flat_loop : ℕ → Phrase → ℕ → Controlled → List Spot
    flat_loop k f j (further g c) = spot k (Loops (For f false)) ∷ flat_loop j g (j + length (spell_phrase g)) c
    flat_loop k f j (repeated b) =
        spot k (Loops (For f true)) ∷ (flat_block (j + 1) b ++ spot (j + 1 + length (spell_block b)) (Loops Next) ∷ [])
    flat_loop k f j (single o) = spot k (Loops (For f false)) ∷ flat_one j o
    flat_loop k f j find = spot k (Loops (For f false)) ∷ spot j (Loops Find) ∷ []
    flat_loop k f j (compute ts e) =
        spot k (Loops (For f false)) ∷ spot j (Loops (Gather e)) ∷ spot j (Loops (Compute ts)) ∷ []

  -- the local DEFINEs
  abbrev pub written_locals : ℕ → List (Several Name) → List LocalNames
  written_locals k [] = []
  written_locals k (ns ∷ nss) =
      record { line = line lines k; names = ns } ∷ written_locals (k + length (spell_define ns)) nss

  -- a section
  abbrev pub written_section : ℕ → SectionTree → Section
  written_section k t =
      let i = k + length (spell_head t.head) in
      let j = i + length (flat_map spell_define t.locals) in
      record {
        line = line lines k;
        head = t.head;
        locals = written_locals i t.locals;
        places = flat_block j t.block ++ spot (j + length (spell_block t.block)) EndOfSection ∷ [];
      }

  -- sections, one after the other
  abbrev pub written_from : ℕ → Tree → List Section
  written_from k [] = []
  written_from k (t ∷ ts) = written_section k t ∷ written_from (k + length (spell_section t)) ts

  -- the sections of a program
  abbrev pub written : Tree → List Section
  written t = written_from 0 t
