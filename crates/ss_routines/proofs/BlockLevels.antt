-- The laws of the reading of statements, for each number of IFs and phrases that may be open.
use Rattle.std.proofs.Common.{◌≡◌, ℕ, zero, suc, [], ◌∷◌, Option, refl, arith}
use Rattle.ss_words.specs.declared.mark.Mark.TheVariants as m
use Rattle.ss_words.specs.declared.reserved.Reserved.TheVariants as r
use Rattle.ss_words.specs.declared.refusal.Refusal.TheVariants.{PastLimit}
use Rattle.ss_words.specs.Plain.{mark}
use Rattle.ss_words.specs.Reading.{Reading, refuse}
use Rattle.ss_words.proofs.Local.{Rooms, same, more, Local}
use Rattle.ss_routines.specs.Combined.{pair, if_allowed}
use Rattle.ss_routines.specs.LoopReading.{phrase_at}
use Rattle.ss_routines.specs.Tree.{Block, spell_block}
use Rattle.ss_routines.specs.BlockReading.{Branching, Looping, branch_with, block_with, controlled_with, loop_in}
use Rattle.ss_routines.specs.BlockReading.{branch_at, block_at}
use Rattle.ss_routines.proofs.Tally.{Leaves, plain_word}
use Rattle.ss_routines.proofs.Form.{Anything}
use Rattle.ss_routines.proofs.Law.{Law, form_of}
use Rattle.ss_routines.proofs.ExprLaw.{Wider}
use Rattle.ss_routines.proofs.SimpleLaw.{Calm}
use Rattle.ss_routines.proofs.LimitedParts.{allowed_law, none_law, none_more_law}
use Rattle.ss_routines.proofs.PartingWords.{EndsBlock}
use Rattle.ss_routines.proofs.BlockLaw.{FitsBlock, FitsBranch, FitsLoop, BranchLaw, LoopLaw, branch_words, loop_words}
use Rattle.ss_routines.proofs.BlockLaw.{branch_law, looping_law, block_level, controlled_level}

if_leaves : Leaves 0 (mark (m.Reserved r.If) ∷ [])
if_leaves = plain_word _ refl refl refl

for_leaves : Leaves 0 (mark (m.Reserved r.For) ∷ [])
for_leaves = plain_word _ refl refl refl

no_branch : (n f : ℕ) (x : Branching) → FitsBranch n 0 f x → ⊥
no_branch n f x h = let g = h.branches in absurd (omega (arith, g))

no_loop : (n i : ℕ) (x : Looping) → FitsLoop n i 0 x → ⊥
no_loop n i x h = let g = h.loops in absurd (omega (arith, g))

module _ (rooms : Rooms) (n k : ℕ) (w : Wider rooms n k) where
  -- ---- if one more may be open

  -- IF, from the part after it
  branch_more : (i j f : ℕ) (p p' : Reading Block) → Law rooms n (FitsBlock n i f) spell_block EndsBlock p p'
      → BranchLaw rooms n (suc i) f (if_allowed (suc i) (m.Reserved r.If) (branch_with n p))
      (if_allowed (suc j) (m.Reserved r.If) (branch_with k p'))
  branch_more i j f p p' lb =
      let l = allowed_law (m.Reserved r.If) branch_words if_leaves i j
      (form_of rooms n (FitsBranch n (suc i) f) branch_words Anything (branch_with n p) (branch_with k p')
      (branch_law rooms n k w i f p p' lb)) in
      record { good = l.good; near = l.near; counted = l.counted; some = l.some; goes = l.goes; stops = l.stops }

  module _ (i f g : ℕ) (b b' : Reading (Option Branching)) (lb : BranchLaw rooms n i f b b')
      (l l' : Reading (Option Looping)) (ll : LoopLaw rooms n i f l l') where
    -- the part after FOR, from its parts
    looping : Law rooms n (FitsLoop n i (suc f)) (loop_words rooms n k w) Calm
        (pair (phrase_at n) (controlled_with n b l)) (pair (phrase_at k) (controlled_with k b' l'))
    looping =
        looping_law rooms n k w i f (controlled_with n b l) (controlled_with k b' l')
        (controlled_level rooms n k w i f b b' lb l l' ll)

    -- FOR likewise
    loop_more : LoopLaw rooms n i (suc f) (if_allowed (suc f) (m.Reserved r.For)
        (pair (phrase_at n) (controlled_with n b l))) (if_allowed (suc g) (m.Reserved r.For)
        (pair (phrase_at k) (controlled_with k b' l')))
    loop_more =
        let a = allowed_law (m.Reserved r.For) (loop_words rooms n k w) for_leaves f g
        (form_of rooms n (FitsLoop n i (suc f)) (loop_words rooms n k w) Calm
        (pair (phrase_at n) (controlled_with n b l)) (pair (phrase_at k) (controlled_with k b' l')) looping) in
        record { good = a.good; near = a.near; counted = a.counted; some = a.some; goes = a.goes; stops = a.stops }

-- ---- if none may be open

module _ (n : ℕ) where
  branch_none : (f : ℕ) (p p' : Reading Branching) → BranchLaw same n 0 f (if_allowed 0 (m.Reserved r.If) p)
      (if_allowed 0 (m.Reserved r.If) p')
  branch_none f p p' =
      let l = none_law (m.Reserved r.If) branch_words n (FitsBranch n 0 f) p tt (no_branch n f) Anything p' in
      record { good = l.good; near = l.near; counted = l.counted; some = l.some; goes = l.goes; stops = l.stops }

  branch_none_more : (f j : ℕ) (p p' : Reading Branching) → Local same p' p'
      → BranchLaw more n 0 f (if_allowed 0 (m.Reserved r.If) p) (if_allowed (suc j) (m.Reserved r.If) p')
  branch_none_more f j p p' near =
      let l = none_more_law (m.Reserved r.If) branch_words n (FitsBranch n 0 f) p tt (no_branch n f) Anything tt j p'
      near in
      record { good = l.good; near = l.near; counted = l.counted; some = l.some; goes = l.goes; stops = l.stops }

  loop_none : (i : ℕ) (p p' : Reading Looping) → LoopLaw same n i 0 (if_allowed 0 (m.Reserved r.For) p)
      (if_allowed 0 (m.Reserved r.For) p')
  loop_none i p p' =
      let l = none_law (m.Reserved r.For) (loop_words same n n refl) n (FitsLoop n i 0) p tt (no_loop n i) Calm p' in
      record { good = l.good; near = l.near; counted = l.counted; some = l.some; goes = l.goes; stops = l.stops }

  loop_none_more : (i g : ℕ) (p p' : Reading Looping) → Local same p' p'
      → LoopLaw more n i 0 (if_allowed 0 (m.Reserved r.For) p) (if_allowed (suc g) (m.Reserved r.For) p')
  loop_none_more i g p p' near =
      let l = none_more_law (m.Reserved r.For) (loop_words same n n refl) n (FitsLoop n i 0) p tt (no_loop n i) Calm tt
      g p' near in
      record { good = l.good; near = l.near; counted = l.counted; some = l.some; goes = l.goes; stops = l.stops }

-- ---- the same rooms

module _ (n : ℕ) where
  pub loop_same : (i : ℕ) (b : ℕ → Reading (Option Branching)) → ((f : ℕ) → BranchLaw same n i f (b f) (b f)) → (f : ℕ)
      → LoopLaw same n i f (loop_in n b f) (loop_in n b f)
  unfolding loop_in
  loop_same i b lb zero = loop_none n i (pair (phrase_at n) (refuse PastLimit)) (pair (phrase_at n) (refuse PastLimit))
  loop_same i b lb (suc f) =
      loop_more same n n refl i f f (b f) (b f) (lb f) (loop_in n b f) (loop_in n b f) (loop_same i b lb f)

  pub branch_same : (i f : ℕ) → BranchLaw same n i f (branch_at n i f) (branch_at n i f)
  unfolding branch_at
  branch_same zero f = branch_none n f (branch_with n (refuse PastLimit)) (branch_with n (refuse PastLimit))
  branch_same (suc i) f =
      let p = block_with n (branch_at n i f) (loop_in n (branch_at n i) f) in
      branch_more same n n refl i i f p p (block_level same n n refl i f (branch_at n i f) (branch_at n i f)
      (branch_same i f) (loop_in n (branch_at n i) f) (loop_in n (branch_at n i) f)
      (loop_same i (branch_at n i) (branch_same i) f))

  -- the statements of an IF
  pub inside_same : (i f : ℕ) → Law same n (FitsBlock n i f) spell_block EndsBlock
      (block_with n (branch_at n i f) (loop_in n (branch_at n i) f))
      (block_with n (branch_at n i f) (loop_in n (branch_at n i) f))
  inside_same i f =
      block_level same n n refl i f (branch_at n i f) (branch_at n i f) (branch_same i f) (loop_in n (branch_at n i) f)
      (loop_in n (branch_at n i) f) (loop_same i (branch_at n i) (branch_same i) f)

-- ---- all rooms

-- IFs of the first rooms against those of the second, by how many phrases may be open
abbrev BranchLaws : Rooms → ℕ → ℕ → (ℕ → Reading (Option Branching)) → (ℕ → Reading (Option Branching)) → Type 0
BranchLaws rooms n i b b' = (f g : ℕ) → Wider rooms f g → BranchLaw rooms n i f (b f) (b' g)

module _ (n k : ℕ) where
  loop_law : (rooms : Rooms) (w : Wider rooms n k) (i j : ℕ) (b b' : ℕ → Reading (Option Branching))
      → BranchLaws rooms n i b b' → ((g : ℕ) → BranchLaw same k j g (b' g) (b' g))
      → (f g : ℕ) → Wider rooms f g → LoopLaw rooms n i f (loop_in n b f) (loop_in k b' g)
  unfolding loop_in
  loop_law same w i j b b' lb ls zero zero v =
      loop_none n i (pair (phrase_at n) (refuse PastLimit)) (pair (phrase_at k) (refuse PastLimit))
  loop_law same w i j b b' lb ls zero (suc g) v = absurd (omega arith)
  loop_law same w i j b b' lb ls (suc f) zero v = absurd (omega arith)
  loop_law same w i j b b' lb ls (suc f) (suc g) v =
      loop_more same n k w i f g (b f) (b' g) (lb f g (omega arith)) (loop_in n b f) (loop_in k b' g)
      (loop_law same w i j b b' lb ls f g (omega arith))
  loop_law more w i j b b' lb ls zero zero v = absurd (omega arith)
  loop_law more w i j b b' lb ls zero (suc g) v =
      let l = looping same k k refl j g g (b' g) (b' g) (ls g) (loop_in k b' g) (loop_in k b' g)
      (loop_same k j b' ls g) in
      loop_none_more n i g (pair (phrase_at n) (refuse PastLimit))
      (pair (phrase_at k) (controlled_with k (b' g) (loop_in k b' g))) l.near
  loop_law more w i j b b' lb ls (suc f) zero v = absurd (omega arith)
  loop_law more w i j b b' lb ls (suc f) (suc g) v =
      loop_more more n k w i f g (b f) (b' g) (lb f g (omega arith)) (loop_in n b f) (loop_in k b' g)
      (loop_law more w i j b b' lb ls f g (omega arith))

  -- statements, from IF
  inside_law : (rooms : Rooms) (w : Wider rooms n k) (i j : ℕ) → BranchLaws rooms n i (branch_at n i) (branch_at k j)
      → (f g : ℕ) → Wider rooms f g
      → Law rooms n (FitsBlock n i f) spell_block EndsBlock
      (block_with n (branch_at n i f) (loop_in n (branch_at n i) f))
      (block_with k (branch_at k j g) (loop_in k (branch_at k j) g))
  inside_law rooms w i j lb f g v =
      block_level rooms n k w i f (branch_at n i f) (branch_at k j g) (lb f g v) (loop_in n (branch_at n i) f)
      (loop_in k (branch_at k j) g)
      (loop_law rooms w i j (branch_at n i) (branch_at k j) lb (branch_same k j) f g v)

  branch_at-law : (rooms : Rooms) (w : Wider rooms n k) (i j : ℕ) → Wider rooms i j
      → BranchLaws rooms n i (branch_at n i) (branch_at k j)
  unfolding branch_at
  branch_at-law same w zero zero u f g v =
      let same_room : f ≡ g = v in branch_none n f (branch_with n (refuse PastLimit)) (branch_with k (refuse PastLimit))
  branch_at-law same w zero (suc j) u f g v = absurd (omega arith)
  branch_at-law same w (suc i) zero u f g v = absurd (omega arith)
  branch_at-law same w (suc i) (suc j) u f g v =
      branch_more same n k w i j f _ _ (inside_law same w i j (branch_at-law same w i j (omega arith)) f g v)
  branch_at-law more w zero zero u f g v = absurd (omega arith)
  branch_at-law more w zero (suc j) u f g v =
      let l = branch_law same k k refl j g _ _ (inside_same k j g) in
      branch_none_more n f j (branch_with n (refuse PastLimit))
      (branch_with k (block_with k (branch_at k j g) (loop_in k (branch_at k j) g))) l.near
  branch_at-law more w (suc i) zero u f g v = absurd (omega arith)
  branch_at-law more w (suc i) (suc j) u f g v =
      branch_more more n k w i j f _ _ (inside_law more w i j (branch_at-law more w i j (omega arith)) f g v)

  pub block_law : (rooms : Rooms) → Wider rooms n k → (i j f g : ℕ) → Wider rooms i j → Wider rooms f g
      → Law rooms n (FitsBlock n i f) spell_block EndsBlock (block_at n i f) (block_at k j g)
  unfolding block_at
  block_law rooms w i j f g u v = inside_law rooms w i j (branch_at-law rooms w i j u) f g v
