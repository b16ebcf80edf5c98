-- Reading statements from left to right.
use Rattle.std.specs.Prelude.{◌⊎◌, ℕ, zero, suc, List, [], ◌∷◌, Option, Some, None}
use mathlib.Core.Logic.{inl, inr}
use Rattle.ss_words.specs.declared.mark.Mark.TheVariants as m
use Rattle.ss_words.specs.declared.reserved.Reserved.TheVariants as r
use Rattle.ss_words.specs.declared.refusal.Refusal.TheVariants.{PastLimit}
use Rattle.ss_words.specs.Lists.{Several}
use Rattle.ss_words.specs.Reading.{Reading, pure, refuse}
use Rattle.ss_routines.specs.Combined.{pair, behind, before, made, if_mark, either, star, if_allowed, either_of}
use Rattle.ss_routines.specs.Combined.{made_of}
use Rattle.ss_routines.specs.Combined.{must}
use Rattle.ss_routines.specs.Expr.{Expr}
use Rattle.ss_routines.specs.Simple.{Simple}
use Rattle.ss_routines.specs.SimpleReading.{simple_at}
use Rattle.ss_routines.specs.Loops.{Phrase, Computed, Question}
use Rattle.ss_routines.specs.LoopReading.{phrase_at, compute_at, question_at}
use Rattle.ss_routines.specs.Tree.{Block, no_statements, statement, Statement, alone, loop, One, simple, branch}
use Rattle.ss_routines.specs.Tree.{Otherwise, no_else, else_with, Controlled, further, repeated, single, find, compute}

-- the part after IF, up to ALWAYS
abbrev pub Branching : Type 0
Branching = Question × (Block × Otherwise)

-- a phrase, and the part after it
abbrev pub Looping : Type 0
Looping = Phrase × Controlled

-- ELSE and statements, or nothing
abbrev pub otherwise_of : Option Block → Otherwise
otherwise_of None = no_else
otherwise_of (Some b) = else_with b

-- a statement that holds no other, or IF
abbrev pub one_of : Simple ⊎ Branching → One
one_of (inl a) = simple a
one_of (inr (q, (b, e))) = branch q b e

-- no loop, or a loop
abbrev pub statement_of : One ⊎ Looping → Statement
statement_of (inl o) = alone o
statement_of (inr (f, c)) = loop f c

-- statements in order
abbrev pub block_of : List Statement → Block
block_of [] = no_statements
block_of (t ∷ ts) = statement t (block_of ts)

-- the part after a phrase
abbrev pub controlled_of : Block ⊎ (Looping ⊎ (Unit {0} ⊎ ((Several Computed × Expr) ⊎ One))) → Controlled
controlled_of (inl b) = repeated b
controlled_of (inr (inl (f, c))) = further f c
controlled_of (inr (inr (inl u))) = find
controlled_of (inr (inr (inr (inl (ts, e))))) = compute ts e
controlled_of (inr (inr (inr (inr o)))) = single o

-- with at most n parentheses open at once
module _ (n : ℕ) where
  -- after IF: (FOUND | NONE | cond) {stmt} [ELSE {stmt}] ALWAYS; inside reads the statements
  unfoldable pub branch_with : Reading Block → Reading Branching
  branch_with inside =
      pair (question_at n) (pair inside (before (made otherwise_of (if_mark (m.Reserved r.Else) inside))
      (m.Reserved r.Always)))

  -- a_branch reads IF and the part after it, if it is here; a_loop reads FOR likewise
  module _ (a_branch : Reading (Option Branching)) (a_loop : Reading (Option Looping)) where
    -- a statement that is no loop, if one is here
    unfoldable pub one_with : Reading (Option One)
    one_with = made_of one_of (either_of (simple_at n) a_branch)

    -- a statement, if one is here
    unfoldable pub statement_with : Reading (Option Statement)
    statement_with = made_of statement_of (either_of one_with a_loop)

    -- {stmt}
    unfoldable pub block_with : Reading Block
    block_with = made block_of (star statement_with)

    -- after a phrase: DO {stmt} LOOP, another phrase and its part, FIND FIRST CASE, COMPUTE, or one
    unfoldable pub controlled_with : Reading Controlled
    controlled_with =
        made controlled_of (either (if_mark (m.Reserved r.Do) (before block_with (m.Reserved r.Loop))) (either a_loop
        (either (if_mark (m.Reserved r.Find) (behind (m.Reserved r.First) (behind (m.Reserved r.Case) (pure tt))))
        (either (if_mark (m.Reserved r.Compute) (compute_at n)) (must one_with)))))

  -- FOR and the part after it, if f more phrases may be open; a_branch k reads IF if k may be
  unfoldable pub loop_in : (ℕ → Reading (Option Branching)) → ℕ → Reading (Option Looping)
  loop_in a_branch zero = if_allowed 0 (m.Reserved r.For) (pair (phrase_at n) (refuse PastLimit))
  loop_in a_branch (suc f) =
      if_allowed (suc f) (m.Reserved r.For) (pair (phrase_at n) (controlled_with (a_branch f) (loop_in a_branch f)))

  -- IF and the part after it, if i more IFs and f more phrases may be open
  unfoldable pub branch_at : ℕ → ℕ → Reading (Option Branching)
  branch_at zero f = if_allowed 0 (m.Reserved r.If) (branch_with (refuse PastLimit))
  branch_at (suc i) f =
      if_allowed (suc i) (m.Reserved r.If) (branch_with (block_with (branch_at i f) (loop_in (branch_at i) f)))

  -- statements, if i IFs and f phrases may be open at once
  unfoldable pub block_at : ℕ → ℕ → Reading Block
  block_at i f = block_with (branch_at i f) (loop_in (branch_at i) f)
