-- A section that is written out has its END as its last place, and no other END.
use Rattle.std.proofs.Common.{◌≡◌, ℕ, true, false, refl, List, [], ◌∷◌, ◌++◌}
use Rattle.ss_routines.specs.Loops.{Phrase}
use Rattle.ss_routines.specs.Places.{Spot, Section}
use Rattle.ss_routines.specs.Tree.{Block, no_statements, statement, Statement, alone, loop, One, simple, branch}
use Rattle.ss_routines.specs.Tree.{Otherwise, no_else, else_with, Controlled, further, repeated, single, find, compute}
use Rattle.ss_routines.specs.Tree.{Tree}
use Rattle.ss_routines.specs.Written.{flat_block, flat_statement, flat_one, flat_otherwise, flat_loop, written_from}
use Rattle.ss_routines.specs.OfProgram.{AreOfProgram}
use Rattle.ss_routines.specs.Ended.{is_end, IsEnded, AreEnded}

-- no place is END
abbrev HasNoEnd : List Spot → Type 0
HasNoEnd [] = Unit {0}
HasNoEnd (s ∷ ss) = (is_end s.place ≡ false) × HasNoEnd ss

both : (xs ys : List Spot) → HasNoEnd xs → HasNoEnd ys → HasNoEnd (xs ++ ys)
both [] ys h g = g
both (x ∷ xs) ys h g = (h.0, both xs ys h.1 g)

-- one place more, which is no END
ended_more : (s : Spot) (xs : List Spot) → is_end s.place ≡ false → IsEnded xs → IsEnded (s ∷ xs)
ended_more s [] e h = absurd h
ended_more s (x ∷ xs) e h = (e, h)

ended_by : (xs : List Spot) (s : Spot) → HasNoEnd xs → is_end s.place ≡ true → IsEnded (xs ++ s ∷ [])
ended_by [] s h e = e
ended_by (x ∷ xs) s h e = ended_more x (xs ++ s ∷ []) h.0 (ended_by xs s h.1 e)

module _ (lines : List ℕ) where
  mutual
    block_has_no_end : (k : ℕ) (b : Block) → HasNoEnd (flat_block lines k b)
    block_has_no_end k no_statements = tt
    block_has_no_end k (statement t b) =
        both (flat_statement lines k t) _ (statement_has_no_end k t) (block_has_no_end _ b)

    statement_has_no_end : (k : ℕ) (t : Statement) → HasNoEnd (flat_statement lines k t)
    statement_has_no_end k (alone o) = one_has_no_end k o
    statement_has_no_end k (loop f c) = loop_has_no_end k f _ c

    one_has_no_end : (k : ℕ) (o : One) → HasNoEnd (flat_one lines k o)
    one_has_no_end k (simple a) = (refl, tt)
    one_has_no_end k (branch q b e) = (
      refl,
      both (flat_block lines _ b ++ flat_otherwise lines _ e) _
          (both (flat_block lines _ b) _ (block_has_no_end _ b) (otherwise_has_no_end _ e)) (refl, tt),
    )

    otherwise_has_no_end : (k : ℕ) (e : Otherwise) → HasNoEnd (flat_otherwise lines k e)
    otherwise_has_no_end k no_else = tt
    otherwise_has_no_end k (else_with b) = (refl, block_has_no_end _ b)

    loop_has_no_end : (k : ℕ) (f : Phrase) (j : ℕ) (c : Controlled) → HasNoEnd (flat_loop lines k f j c)
    loop_has_no_end k f j (further g c) = (refl, loop_has_no_end j g _ c)
    loop_has_no_end k f j (repeated b) = (refl, both (flat_block lines _ b) _ (block_has_no_end _ b) (refl, tt))
    loop_has_no_end k f j (single o) = (refl, one_has_no_end j o)
    loop_has_no_end k f j find = (refl, (refl, tt))
    loop_has_no_end k f j (compute ts e) = (refl, (refl, (refl, tt)))

  sections_ended : (t : Tree) (k : ℕ) → AreEnded (written_from lines k t)
  sections_ended [] k = tt
  sections_ended (s ∷ ts) k =
      (ended_by (flat_block lines _ s.block) _ (block_has_no_end _ s.block) refl, sections_ended ts _)

-- the sections of a program end with their END
pub program_ended : (ss : List Section) → AreOfProgram ss → AreEnded ss
program_ended ss h = rw h.3 (sections_ended _ h.0 0)
