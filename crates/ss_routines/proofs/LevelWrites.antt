-- Noting places while reading statements, however many IFs and phrases may be open.
use Rattle.std.proofs.Common.{◌≡◌, ℕ, zero, suc, ◌+◌, ◌≤◌, Bool, true, false, List, [], ◌++◌, length, Option, Some}
use Rattle.std.proofs.Common.{None, refl, arith}
use Rattle.ss_words.specs.declared.mark.Mark.TheVariants as m
use Rattle.ss_words.specs.declared.reserved.Reserved.TheVariants as r
use Rattle.ss_words.specs.declared.refusal.Refusal.TheVariants.{PastLimit}
use Rattle.ss_words.specs.Reading.{Reading, bind, pure, refuse}
use Rattle.ss_words.specs.Marks.{eat}
use Rattle.ss_words.specs.Noting.{line}
use Rattle.ss_words.proofs.Laws.{Good, Any, fits_option, spell_option}
use Rattle.ss_words.proofs.Local.{same}
use Rattle.ss_words.proofs.Marks.{spell_eaten, eat_good}
use Rattle.ss_words.proofs.Writes.{Writes, pure_writes, here_writes, bind_writes, same_writes, noted}
use Rattle.ss_routines.specs.Combined.{pair, eat_allowed, if_allowed}
use Rattle.ss_routines.specs.SimpleSpelling.{spell_simple, depth_simple}
use Rattle.ss_routines.specs.SimpleReading.{simple_at}
use Rattle.ss_routines.specs.Loops.{Phrase, spell_phrase, spell_question, depth_phrase, depth_question}
use Rattle.ss_routines.specs.LoopReading.{phrase_at, question_at}
use Rattle.ss_routines.specs.Places.{Spot}
use Rattle.ss_routines.specs.Tree.{Controlled, branch, loop, spell_block, spell_one, spell_statement}
use Rattle.ss_routines.specs.Tree.{spell_controlled}
use Rattle.ss_routines.specs.BlockReading.{Branching, Looping, branch_with, one_with, statement_with, block_with}
use Rattle.ss_routines.specs.BlockReading.{controlled_with, loop_in, branch_at, block_at}
use Rattle.ss_routines.specs.Written.{flat_one, flat_statement, flat_loop}
use Rattle.ss_routines.specs.PlacesAtLines.{noting_block, noting_controlled, noting_loop, noting_if}
use Rattle.ss_routines.specs.PlacesAtLines.{noting_statements}
use Rattle.ss_routines.proofs.SimpleLaw.{simple_law}
use Rattle.ss_routines.proofs.LoopLaw.{question_law, phrase_law, PhraseWords}
use Rattle.ss_routines.proofs.BlockLaw.{FitsBlock, FitsStatement, FitsOne, FitsControlled, FitsBranch, FitsLoop}
use Rattle.ss_routines.proofs.BlockLaw.{branch_words, one_law, statement_law, controlled_level, branch_law}
use Rattle.ss_routines.proofs.BlockLevels.{loop_same, branch_same, inside_same}
use Rattle.ss_routines.proofs.BlockWrites.{assoc_writes, none_writes, BlockWrites, BranchWrites, LoopWrites}
use Rattle.ss_routines.proofs.BlockWrites.{branch_writes, block_writes, controlled_writes}

-- ---- the part that is read is spelled so, at each room

module _ (n : ℕ) where
  simple_good : Good (fits_option (λ a. depth_simple a ≤ n)) (spell_option spell_simple) [] (simple_at n)
  simple_good = let l = simple_law same n n refl in l.good

  question_good : Good (λ q. depth_question q ≤ n) spell_question [] (question_at n)
  question_good = let l = question_law same n n refl in l.good

  phrase_good : Good (λ f. depth_phrase f ≤ n) (PhraseWords same n n refl) [] (phrase_at n)
  phrase_good = let l = phrase_law same n n refl in l.good

  module _ (i f : ℕ) where
    abbrev b : Reading (Option Branching)
    b = branch_at n i f

    abbrev l : Reading (Option Looping)
    l = loop_in n (branch_at n i) f

    loops_good : Good (fits_option (FitsLoop n i f)) (spell_option (λ x. spell_statement (loop x.0 x.1))) [] l
    loops_good = let s = loop_same n i (branch_at n i) (branch_same n i) f in s.good

    one_good : Good (fits_option (FitsOne n i f)) (spell_option spell_one) [] (one_with n b l)
    one_good =
        let s = one_law same n n refl i f b b (branch_same n i f) l l
        (loop_same n i (branch_at n i) (branch_same n i) f) in s.good

    statement_good : Good (fits_option (FitsStatement n i f)) (spell_option spell_statement) [] (statement_with n b l)
    statement_good =
        let s = statement_law same n n refl i f b b (branch_same n i f) l l
        (loop_same n i (branch_at n i) (branch_same n i) f) in s.good

    inside_good : Good (FitsBlock n i f) spell_block [] (block_with n b l)
    inside_good = let s = inside_same n i f in s.good

    controlled_good : Good (FitsControlled n i f) spell_controlled [] (controlled_with n b l)
    controlled_good =
        let s = controlled_level same n n refl i f b b (branch_same n i f) l l
        (loop_same n i (branch_at n i) (branch_same n i) f) in s.good

    branching_good : Good (FitsBranch n (suc i) f) branch_words [] (branch_with n (block_with n b l))
    branching_good =
        let s = branch_law same n n refl i f (block_with n b l) (block_with n b l) (inside_same n i f) in s.good

-- ---- noting

module _ (lines : List ℕ) (n : ℕ) where
  module _ (i f : ℕ) (lb : BranchWrites lines n (branch_at n i f) (noting_if lines n i f))
      (ll : LoopWrites lines n (loop_in n (branch_at n i) f) (noting_loop lines n (noting_if lines n i) f)) where
    -- statements
    inside_writes : BlockWrites lines n (block_with n (branch_at n i f) (loop_in n (branch_at n i) f))
        (noting_block lines n (noting_if lines n i f) (noting_loop lines n (noting_if lines n i) f))
    inside_writes k acc =
        block_writes lines n (branch_at n i f) (noting_if lines n i f) (loop_in n (branch_at n i) f)
        (noting_loop lines n (noting_if lines n i) f) lb ll (λ a. depth_simple a ≤ n) (simple_good n) (FitsOne n i f)
        (one_good n i f) (FitsStatement n i f) (statement_good n i f) k acc

    -- the part after a phrase
    behind_writes : (k : ℕ) (g : Phrase) (j : ℕ) (acc : List Spot)
        → Writes (length lines) (λ c. acc ++ flat_loop lines k g j c) j
        (controlled_with n (branch_at n i f) (loop_in n (branch_at n i) f))
        (noting_controlled lines n (noting_if lines n i f) (noting_loop lines n (noting_if lines n i) f) (line lines k)
        g acc)
    behind_writes k g j acc =
        controlled_writes lines n (branch_at n i f) (noting_if lines n i f) (loop_in n (branch_at n i) f)
        (noting_loop lines n (noting_if lines n i) f) lb ll (λ a. depth_simple a ≤ n) (simple_good n) (FitsOne n i f)
        (one_good n i f) (FitsStatement n i f) (statement_good n i f)
        (FitsLoop n i f) (loops_good n i f) (FitsBlock n i f) (inside_good n i f) k g j acc

    abbrev for_out : ℕ → List Spot → Option Looping → Bool × List Spot
    for_out k acc = noted (λ x. flat_statement lines k (loop x.0 x.1)) acc

    same_place : (k : ℕ) (g : Phrase) → k + 1 + length (PhraseWords same n n refl g) ≡ k + length (spell_phrase g)
    same_place k g = omega arith

    for_done : (k : ℕ) (g : Phrase) (acc : List Spot) (i' : ℕ) (c : Controlled)
        → Writes (length lines) (for_out k acc) i' (bind (pure (g, c)) (λ a. pure (Some a)))
        (pure (true, acc ++ flat_loop lines k g (k + 1 + length (PhraseWords same n n refl g)) c))
    unfolding bind pure
    for_done k g acc i' c = done k g acc i' c
      where
        done : (k : ℕ) (g : Phrase) (acc : List Spot) (i' : ℕ) (c : Controlled)
            → Writes (length lines) (for_out k acc) i' (pure (Some (g, c)))
            (pure (true, acc ++ flat_loop lines k g (k + 1 + length (PhraseWords same n n refl g)) c))
        done k g acc i' c =
            pure_writes (length lines) (for_out k acc) i' (Some (g, c))
            (true, acc ++ flat_loop lines k g (k + 1 + length (PhraseWords same n n refl g)) c)
            (λ t. (true, acc ++ flat_loop lines k g (same_place k g t) c))

    for_behind : (k : ℕ) (g : Phrase) (acc : List Spot)
        → Writes (length lines) (for_out k acc) (k + 1 + length (PhraseWords same n n refl g))
        (bind (bind (controlled_with n (branch_at n i f) (loop_in n (branch_at n i) f)) (λ c. pure (g, c)))
        (λ a. pure (Some a)))
        (bind (noting_controlled lines n (noting_if lines n i f) (noting_loop lines n (noting_if lines n i) f)
        (line lines k) g acc) (λ a. pure (true, a)))
    for_behind k g acc =
        let j = k + 1 + length (PhraseWords same n n refl g) in
        assoc_writes (length lines) j (for_out k acc) (controlled_with n (branch_at n i f)
        (loop_in n (branch_at n i) f)) (λ c. pure (g, c)) (λ a. pure (Some a)) _
        (bind_writes (length lines) (FitsControlled n i f) spell_controlled (λ c. acc ++ flat_loop lines k g j c)
        (for_out k acc) j _ _ (λ c. for_done k g acc (j + length (spell_controlled c)) c)
        (controlled_with n (branch_at n i f) (loop_in n (branch_at n i) f)) _ (controlled_good n i f)
        (behind_writes k g j acc))

    -- FOR, if one more phrase may be open
    for_writes : LoopWrites lines n (loop_in n (branch_at n i) (suc f))
        (noting_loop lines n (noting_if lines n i) (suc f))
    unfolding loop_in noting_loop if_allowed eat_allowed pair
    for_writes k acc =
        here_writes (length lines) _ k lines _ _ refl (same_writes (length lines) Any (spell_eaten (m.Reserved r.For))
        (for_out k acc) k _ _ (elim [
          | true ↦ assoc_writes (length lines) (k + 1) (for_out k acc) (phrase_at n) _ _ _
              (same_writes (length lines) (λ g. depth_phrase g ≤ n) (PhraseWords same n n refl) (for_out k acc)
              (k + 1) _ _
              (λ g. for_behind k g acc) (phrase_at n) (phrase_good n))
          | false ↦ pure_writes (length lines) (for_out k acc) _ None (false, acc) refl
        ]) (eat (m.Reserved r.For)) (eat_good (m.Reserved r.For)))

    abbrev if_out : ℕ → List Spot → Option Branching → Bool × List Spot
    if_out k acc = noted (λ x. flat_one lines k (branch x.0 x.1.0 x.1.1)) acc

    -- IF, if one more may be open
    if_writes : BranchWrites lines n (branch_at n (suc i) f) (noting_if lines n (suc i) f)
    unfolding branch_at noting_if if_allowed eat_allowed
    if_writes k acc =
        here_writes (length lines) _ k lines _ _ refl (same_writes (length lines) Any (spell_eaten (m.Reserved r.If))
        (if_out k acc) k _ _ (elim [
          | true ↦ bind_writes (length lines) (FitsBranch n (suc i) f) branch_words
              (λ x. acc ++ flat_one lines k (branch x.0 x.1.0 x.1.1)) (if_out k acc) (k + 1) _ _
              (λ x. pure_writes (length lines) (if_out k acc) _ (Some x)
              (true, acc ++ flat_one lines k (branch x.0 x.1.0 x.1.1)) refl)
              (branch_with n (block_with n (branch_at n i f) (loop_in n (branch_at n i) f))) _ (branching_good n i f)
              (branch_writes lines n (block_with n (branch_at n i f) (loop_in n (branch_at n i) f))
              (noting_block lines n (noting_if lines n i f) (noting_loop lines n (noting_if lines n i) f))
              (FitsBlock n i f) (inside_good n i f) inside_writes (λ q. depth_question q ≤ n) (question_good n) k acc)
          | false ↦ pure_writes (length lines) (if_out k acc) _ None (false, acc) refl
        ]) (eat (m.Reserved r.If)) (eat_good (m.Reserved r.If)))

  -- ---- all rooms

  none_for : (i : ℕ) → LoopWrites lines n (loop_in n (branch_at n i) 0) (noting_loop lines n (noting_if lines n i) 0)
  unfolding loop_in noting_loop
  none_for i k acc =
      none_writes (length lines) k (m.Reserved r.For) (pair (phrase_at n) (refuse PastLimit)) acc
      (λ x. flat_statement lines k (loop x.0 x.1))

  none_if : (f : ℕ) → BranchWrites lines n (branch_at n 0 f) (noting_if lines n 0 f)
  unfolding branch_at noting_if
  none_if f k acc =
      none_writes (length lines) k (m.Reserved r.If) (branch_with n (refuse PastLimit)) acc
      (λ x. flat_one lines k (branch x.0 x.1.0 x.1.1))

  loops_write : (i : ℕ) → ((f : ℕ) → BranchWrites lines n (branch_at n i f) (noting_if lines n i f)) → (f : ℕ)
      → LoopWrites lines n (loop_in n (branch_at n i) f) (noting_loop lines n (noting_if lines n i) f)
  loops_write i lb zero = none_for i
  loops_write i lb (suc f) = for_writes i f (lb f) (loops_write i lb f)

  branches_write : (i f : ℕ) → BranchWrites lines n (branch_at n i f) (noting_if lines n i f)
  branches_write zero f = none_if f
  branches_write (suc i) f = if_writes i f (branches_write i f) (loops_write i (branches_write i) f)

  pub statements_write : (i f : ℕ) → BlockWrites lines n (block_at n i f) (noting_statements lines n i f)
  unfolding block_at
  statements_write i f k acc = inside_writes i f (branches_write i f) (loops_write i (branches_write i) f) k acc
