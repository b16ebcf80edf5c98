-- The laws of the reading of statements.
use Rattle.std.proofs.Common.{◌≡◌, ◌⊎◌, ℕ, suc, ◌≤◌, List, [], ◌∷◌, ◌++◌}
use Rattle.std.proofs.Common.{Option, Some, None, Result, Ok, Err, refl, sym, ap, ◌∙◌, append_assoc, arith}
use Rattle.std.specs.List.{flat_map}
use mathlib.Core.Logic.{inl, inr}
use Rattle.ss_words.specs.declared.mark.Mark.TheVariants as m
use Rattle.ss_words.specs.declared.reserved.Reserved.TheVariants as r
use Rattle.ss_words.specs.declared.refusal.Refusal.{Refusal}
use Rattle.ss_words.specs.Plain.{Plain, mark}
use Rattle.ss_words.specs.Lists.{Several, spell_several}
use Rattle.ss_words.specs.Reading.{Reading}
use Rattle.ss_words.proofs.Laws.{IsRead, Good}
use Rattle.ss_words.proofs.Local.{Rooms}
use Rattle.ss_routines.specs.Combined.{pair}
use Rattle.ss_routines.specs.Expr.{Expr, spell_expr}
use Rattle.ss_routines.specs.Simple.{Simple, Transfers, Stop}
use Rattle.ss_routines.specs.SimpleSpelling.{spell_simple, depth_simple}
use Rattle.ss_routines.specs.SimpleReading.{simple_at}
use Rattle.ss_routines.specs.Loops.{Phrase, Computed, Question, spell_computed, spell_question, depth_phrase}
use Rattle.ss_routines.specs.Loops.{depth_question}
use Rattle.ss_routines.specs.LoopReading.{phrase_at, compute_at, question_at}
use Rattle.ss_routines.specs.Tree.{Block, no_statements, statement, Statement, alone, loop, One, simple, branch}
use Rattle.ss_routines.specs.Tree.{Otherwise, no_else, else_with, Controlled, further, repeated, single, find, compute}
use Rattle.ss_routines.specs.Tree.{spell_block, spell_statement, spell_one, spell_otherwise, spell_controlled}
use Rattle.ss_routines.specs.Tree.{depth_block, depth_statement, depth_one, depth_otherwise, depth_controlled}
use Rattle.ss_routines.specs.Tree.{ifs_block}
use Rattle.ss_routines.specs.Tree.{ifs_statement, ifs_one, ifs_otherwise, ifs_controlled, phrases_block}
use Rattle.ss_routines.specs.Tree.{phrases_statement, phrases_one, phrases_otherwise, phrases_controlled}
use Rattle.ss_routines.specs.BlockReading.{Branching, Looping, otherwise_of, one_of, statement_of, block_of}
use Rattle.ss_routines.specs.BlockReading.{controlled_of, branch_with, one_with, statement_with, block_with}
use Rattle.ss_routines.specs.BlockReading.{controlled_with}
use Rattle.ss_routines.proofs.Tally.{Leaves, plain_word}
use Rattle.ss_routines.proofs.Form.{Form, Item, Each, Anything, nothing_form, pair_form, behind_form, before_form}
use Rattle.ss_routines.proofs.Form.{made_form, mark_item, option_form, either_form, star_form}
use Rattle.ss_routines.proofs.Items.{ending, ending_item, or_item, made_item, must_form}
use Rattle.ss_routines.proofs.Law.{Law, form_of}
use Rattle.ss_routines.proofs.ExprLaw.{Wider}
use Rattle.ss_routines.proofs.SimpleLaw.{Calm, NoSimple, simple_law}
use Rattle.ss_routines.proofs.ConditionLaw.{EndsCondition}
use Rattle.ss_routines.proofs.LoopLaw.{question_law, compute_law, phrase_law, ComputeWords, ComputeFits}
use Rattle.ss_routines.proofs.LoopLaw.{PhraseWords, EndsPhrase}
use Rattle.ss_routines.proofs.LimitedParts.{PartLaw, item_of, laws_of, Not}
use Rattle.ss_routines.proofs.PartingWords.{Settled, settled, statement_parts, controlled_parts, one_no_loop}
use Rattle.ss_routines.proofs.PartingWords.{NoStatement}
use Rattle.ss_routines.proofs.PartingWords.{EndsBlock, if_begins, for_begins, always_ends, loop_ends, otherwise_ends}

-- ---- the same part with other words for its spelling and for keeping the limits

module _ {rooms : Rooms} {n : ℕ} {A : Type 0} (F : Form rooms n A) (sp : A → List Plain) (fits : A → Type 0)
    (spelled : (a : A) → sp a ≡ F.sp a) (there : (a : A) → F.fits a → fits a) (back : (a : A) → fits a → F.fits a) where
  refit_read : (o : Result A Refusal) (ws r : List Plain) → IsRead F.fits F.sp [] o ws r → IsRead fits sp [] o ws r
  refit_read (Ok a) ws r (f, q, e, k) = (there a f, q, e, spelled a ∙ k)
  refit_read (Err g) ws r (q, e, a, f, x, k) = (q, e, a, there a f, x, spelled a ∙ k)

  pub refit_good : Good fits sp [] F.p
  refit_good =
      let g = F.good in record {
        read = λ ws. refit_read (F.p ws).0 ws (F.p ws).1 (g.read ws);
        some = (g.some.0, there g.some.0 g.some.1, g.some.2, spelled g.some.0 ∙ g.some.3);
      }

  pub refit_read_back : (a : A) (y : List Plain) → fits a → F.ends y → F.p (sp a ++ y) ≡ (Ok a, y)
  refit_read_back a y f e = ap (λ (u : List Plain). F.p (u ++ y)) (spelled a) ∙ F.again a y (back a f) e

  abbrev pub refit : Form rooms n A
  refit =
      record {
        sp = sp;
        fits = fits;
        ends = F.ends;
        p = F.p;
        p' = F.p';
        good = refit_good;
        near = F.near;
        counted = F.counted;
        again = refit_read_back;
      }

-- ---- the limits

-- n parentheses, i IFs and f phrases may be open at once; the other three are the numbers in the
-- part
pub record Fits (n i f parentheses ifs phrases : ℕ) : Type 0 where
  pub deep : parentheses ≤ n
  pub branches : ifs ≤ i
  pub loops : phrases ≤ f

module _ (n i f : ℕ) where
  abbrev pub FitsBlock : Block → Type 0
  FitsBlock b = Fits n i f (depth_block b) (ifs_block b) (phrases_block b)

  abbrev pub FitsStatement : Statement → Type 0
  FitsStatement t = Fits n i f (depth_statement t) (ifs_statement t) (phrases_statement t)

  abbrev pub FitsOne : One → Type 0
  FitsOne o = Fits n i f (depth_one o) (ifs_one o) (phrases_one o)

  abbrev pub FitsOtherwise : Otherwise → Type 0
  FitsOtherwise e = Fits n i f (depth_otherwise e) (ifs_otherwise e) (phrases_otherwise e)

  abbrev pub FitsControlled : Controlled → Type 0
  FitsControlled c = Fits n i f (depth_controlled c) (ifs_controlled c) (phrases_controlled c)

  abbrev pub FitsBranch : Branching → Type 0
  FitsBranch x = FitsOne (branch x.0 x.1.0 x.1.1)

  abbrev pub FitsLoop : Looping → Type 0
  FitsLoop x = FitsStatement (loop x.0 x.1)

-- the plain words of IF and the part after it
abbrev pub spell_branch : Branching → List Plain
spell_branch x = spell_one (branch x.0 x.1.0 x.1.1)

-- the same without IF
abbrev pub branch_words : Branching → List Plain
branch_words x = spell_question x.0 ++ spell_block x.1.0 ++ spell_otherwise x.1.1 ++ mark (m.Reserved r.Always) ∷ []

-- the plain words of FOR and the part after it
abbrev pub spell_loop : Looping → List Plain
spell_loop x = spell_statement (loop x.0 x.1)

-- the laws of IF and of FOR with the part after each of them
abbrev pub BranchLaw : Rooms → ℕ → ℕ → ℕ → Reading (Option Branching) → Reading (Option Branching) → Type 0
BranchLaw rooms n i f p p' = PartLaw rooms n (FitsBranch n i f) spell_branch Anything (Not (m.Reserved r.If)) p p'

abbrev pub LoopLaw : Rooms → ℕ → ℕ → ℕ → Reading (Option Looping) → Reading (Option Looping) → Type 0
LoopLaw rooms n i f p p' = PartLaw rooms n (FitsLoop n i f) spell_loop Calm (Not (m.Reserved r.For)) p p'

-- ---- the parts

split_one : One → Simple ⊎ Branching
split_one (simple a) = inl a
split_one (branch q b e) = inr (q, (b, e))

whole_one : (o : One) → one_of (split_one o) ≡ o
unfolding split_one
whole_one (simple a) = refl
whole_one (branch q b e) = refl

split_statement : Statement → One ⊎ Looping
split_statement (alone o) = inl o
split_statement (loop f c) = inr (f, c)

whole_statement : (t : Statement) → statement_of (split_statement t) ≡ t
unfolding split_statement
whole_statement (alone o) = refl
whole_statement (loop f c) = refl

split_block : Block → List Statement
split_block no_statements = []
split_block (statement t b) = t ∷ split_block b

whole_block : (b : Block) → block_of (split_block b) ≡ b
unfolding split_block
whole_block no_statements = refl
whole_block (statement t b) = ap (statement t) (whole_block b)

block_spelled : (ts : List Statement) → spell_block (block_of ts) ≡ flat_map spell_statement ts
block_spelled [] = refl
block_spelled (t ∷ ts) = ap (λ (u : List Plain). spell_statement t ++ u) (block_spelled ts)

split_otherwise : Otherwise → Option Block
split_otherwise no_else = None
split_otherwise (else_with b) = Some b

whole_otherwise : (e : Otherwise) → otherwise_of (split_otherwise e) ≡ e
unfolding split_otherwise
whole_otherwise no_else = refl
whole_otherwise (else_with b) = refl

abbrev ControlledParts : Type 0
ControlledParts = Block ⊎ (Looping ⊎ (Unit {0} ⊎ ((Several Computed × Expr) ⊎ One)))

split_controlled : Controlled → ControlledParts
split_controlled (further f c) = inr (inl (f, c))
split_controlled (repeated b) = inl b
split_controlled find = inr (inr (inl tt))
split_controlled (compute ts e) = inr (inr (inr (inl (ts, e))))
split_controlled (single o) = inr (inr (inr (inr o)))

whole_controlled : (c : Controlled) → controlled_of (split_controlled c) ≡ c
unfolding split_controlled
whole_controlled (further f c) = refl
whole_controlled (repeated b) = refl
whole_controlled find = refl
whole_controlled (compute ts e) = refl
whole_controlled (single o) = refl

block_settled : (b : Block) (y : List Plain) → Settled y → Settled (spell_block b ++ y)
block_settled no_statements y h = h
block_settled (statement t b) y h =
    let e : (spell_statement t ++ spell_block b) ++ y ≡ spell_statement t ++ (spell_block b ++ y) =
    append_assoc (spell_statement t) (spell_block b) y in rw e
    (settled (spell_statement t ++ (spell_block b ++ y)) (statement_parts t (spell_block b ++ y)))

if_leaves : Leaves 0 (mark (m.Reserved r.If) ∷ [])
if_leaves = plain_word _ refl refl refl

for_leaves : Leaves 0 (mark (m.Reserved r.For) ∷ [])
for_leaves = plain_word _ refl refl refl

else_leaves : Leaves 0 (mark (m.Reserved r.Else) ∷ [])
else_leaves = plain_word _ refl refl refl

always_leaves : Leaves 0 (mark (m.Reserved r.Always) ∷ [])
always_leaves = plain_word _ refl refl refl

do_leaves : Leaves 0 (mark (m.Reserved r.Do) ∷ [])
do_leaves = plain_word _ refl refl refl

loop_leaves : Leaves 0 (mark (m.Reserved r.Loop) ∷ [])
loop_leaves = plain_word _ refl refl refl

find_leaves : Leaves 0 (mark (m.Reserved r.Find) ∷ [])
find_leaves = plain_word _ refl refl refl

first_leaves : Leaves 0 (mark (m.Reserved r.First) ∷ [])
first_leaves = plain_word _ refl refl refl

case_leaves : Leaves 0 (mark (m.Reserved r.Case) ∷ [])
case_leaves = plain_word _ refl refl refl

compute_leaves : Leaves 0 (mark (m.Reserved r.Compute) ∷ [])
compute_leaves = plain_word _ refl refl refl

module _ (rooms : Rooms) (n k : ℕ) (w : Wider rooms n k) where
  -- no part of a phrase goes on there
  phrase_ends : (y : List Plain) → Settled y → EndsPhrase rooms n k w y
  phrase_ends y h = (h.quiet, h.no_qualifier)

  condition_ends : (y : List Plain) → Settled y → EndsCondition y
  condition_ends y h = let q = h.quiet in q.condition

  -- the plain words after FOR
  abbrev pub loop_words : Looping → List Plain
  loop_words x = PhraseWords rooms n k w x.0 ++ spell_controlled x.1

  abbrev the_simple : Item rooms n Simple
  the_simple =
      let l = simple_law rooms n k w in record {
        sp = spell_simple;
        fits = λ a. depth_simple a ≤ n;
        ends = Calm;
        none = NoSimple;
        p = simple_at n;
        p' = simple_at k;
        good = l.good;
        near = l.near;
        counted = l.counted;
        some =
            l.some;
        goes = l.goes;
        stops = l.stops;
      }

  abbrev the_question : Form rooms n Question
  the_question =
      form_of rooms n (λ q. depth_question q ≤ n) spell_question EndsCondition (question_at n) (question_at k)
      (question_law rooms n k w)

  abbrev the_phrase : Form rooms n Phrase
  the_phrase =
      form_of rooms n (λ f. depth_phrase f ≤ n) (PhraseWords rooms n k w) (EndsPhrase rooms n k w) (phrase_at n)
      (phrase_at k) (phrase_law rooms n k w)

  abbrev the_compute : Form rooms n (Several Computed × Expr)
  the_compute =
      form_of rooms n (ComputeFits rooms n k w) (ComputeWords rooms n k w) Calm (compute_at n) (compute_at k)
      (calm_compute)
    where
      calm_compute : Law rooms n (ComputeFits rooms n k w) (ComputeWords rooms n k w) Calm (compute_at n) (compute_at k)
      calm_compute =
          let l = compute_law rooms n k w in record {
            good = l.good;
            near = l.near;
            counted = l.counted;
            again = λ a y f e. l.again a y f e.ends;
          }

  module _ (i f : ℕ) where
    -- ---- after IF

    module _ (p p' : Reading Block) (lb : Law rooms n (FitsBlock n i f) spell_block EndsBlock p p') where
      abbrev a_block : Form rooms n Block
      a_block = form_of rooms n (FitsBlock n i f) spell_block EndsBlock p p' lb

      abbrev else_part : Form rooms n (Option Block)
      else_part = option_form (mark_item (m.Reserved r.Else) else_leaves a_block)

      otherwise_spelled : (x : Option Block) → spell_otherwise (otherwise_of x) ≡ else_part.sp x
      otherwise_spelled None = refl
      otherwise_spelled (Some b) = refl

      otherwise_there : (x : Option Block) → else_part.fits x → FitsOtherwise n i f (otherwise_of x)
      otherwise_there None h = record { deep = omega arith; branches = omega arith; loops = omega arith }
      otherwise_there (Some b) h = h

      otherwise_back : (e : Otherwise) → FitsOtherwise n i f e → else_part.fits (split_otherwise e)
      unfolding split_otherwise
      otherwise_back no_else h = tt
      otherwise_back (else_with b) h = h

      abbrev the_otherwise : Form rooms n Otherwise
      the_otherwise =
          made_form else_part spell_otherwise (FitsOtherwise n i f) otherwise_of split_otherwise whole_otherwise
          otherwise_spelled otherwise_there otherwise_back

      abbrev to_always : Form rooms n Otherwise
      to_always = before_form the_otherwise (m.Reserved r.Always) always_leaves (λ y. (always_ends y, refl))

      else_ended : (e : Otherwise) (y : List Plain) → EndsBlock (to_always.sp e ++ y)
      else_ended e y =
          let h : (spell_otherwise e ++ mark (m.Reserved r.Always) ∷ []) ++ y ≡ spell_otherwise e ++ mark
          (m.Reserved r.Always) ∷ y = append_assoc (spell_otherwise e) (mark (m.Reserved r.Always) ∷ []) y in rw h
          (otherwise_ends e y)

      abbrev to_end : Form rooms n (Block × Otherwise)
      to_end = pair_form a_block to_always (λ e y h g. else_ended e y)

      question_ended : (x : Block × Otherwise) (y : List Plain) → EndsCondition (to_end.sp x ++ y)
      question_ended (b, e) y =
          let rest : (spell_otherwise e ++ mark (m.Reserved r.Always) ∷ []) ++ y ≡ spell_otherwise e ++ mark
          (m.Reserved r.Always) ∷ y = append_assoc (spell_otherwise e) (mark (m.Reserved r.Always) ∷ []) y in
          let same : to_end.sp (b, e) ++ y ≡ spell_block b ++ (spell_otherwise e ++ mark (m.Reserved r.Always) ∷ y) =
          append_assoc (spell_block b) (spell_otherwise e ++ mark (m.Reserved r.Always) ∷ []) y
          ∙ ap (λ (u : List Plain). spell_block b ++ u) rest in
          rw same (condition_ends _ (block_settled b _ (else_settled e y)))
        where
          else_settled : (e : Otherwise) (y : List Plain)
              → Settled (spell_otherwise e ++ mark (m.Reserved r.Always) ∷ y)
          else_settled no_else y = settled _ refl
          else_settled (else_with b) y = settled _ refl

      abbrev behind_if : Form rooms n Branching
      behind_if =
          refit (pair_form the_question to_end (λ x y h g. question_ended x y)) branch_words (FitsBranch n (suc i) f)
          branch_spelled branch_there branch_back
        where
          branch_spelled : (x : Branching) → branch_words x ≡ spell_question x.0
              ++ (spell_block x.1.0 ++ (spell_otherwise x.1.1 ++ mark (m.Reserved r.Always) ∷ []))
          branch_spelled x = simp append_assoc

          branch_there : (x : Branching) → (depth_question x.0 ≤ n)
              × (FitsBlock n i f x.1.0 × FitsOtherwise n i f x.1.1) → FitsBranch n (suc i) f x
          branch_there (q, (b, e)) (hq, (hb, he)) =
              record {
                deep = (let d = hb.deep in let g = he.deep in omega (arith, hq, d, g));
                branches = (let d = hb.branches in let g = he.branches in omega (arith, d, g));
                loops =
                    (let d = hb.loops in let g = he.loops in omega (arith, d, g));
              }

          branch_back : (x : Branching) → FitsBranch n (suc i) f x → (depth_question x.0 ≤ n)
              × (FitsBlock n i f x.1.0 × FitsOtherwise n i f x.1.1)
          branch_back (q, (b, e)) h =
              let d = h.deep in let g = h.branches in let l =
              h.loops in (
                omega (arith, d),
                (
                  record {
                    deep = omega (arith, d);
                    branches = omega (arith, g);
                    loops = omega (arith, l);
                  },
                  record {
                    deep = omega (arith, d);
                    branches = omega (arith, g);
                    loops =
                        omega (arith, l);
                  },
                ),
              )

      pub branch_law : Law rooms n (FitsBranch n (suc i) f) branch_words Anything (branch_with n p) (branch_with k p')
      unfolding branch_with
      branch_law = let g = behind_if in record { good = g.good; near = g.near; counted = g.counted; again = g.again }

    -- ---- one level

    module _ (b b' : Reading (Option Branching)) (lb : BranchLaw rooms n i f b b') (l l' : Reading (Option Looping))
        (ll : LoopLaw rooms n i f l l') where
      abbrev the_branch : Item rooms n Branching
      the_branch = item_of rooms n (FitsBranch n i f) spell_branch Anything (Not (m.Reserved r.If)) b b' lb

      abbrev the_loop : Item rooms n Looping
      the_loop = item_of rooms n (FitsLoop n i f) spell_loop Calm (Not (m.Reserved r.For)) l l' ll

      -- ---- a statement that is no loop

      abbrev one_part : Item rooms n (Simple ⊎ Branching)
      one_part =
          ending_item (or_item the_simple the_branch (λ x y h e. if_begins (spell_branch x ++ y) refl)) Calm
          (λ y e. (e, tt))

      one_spelled : (x : Simple ⊎ Branching) → spell_one (one_of x) ≡ one_part.sp x
      one_spelled (inl a) = refl
      one_spelled (inr x) = refl

      one_there : (x : Simple ⊎ Branching) → one_part.fits x → FitsOne n i f (one_of x)
      one_there (inl a) h = record { deep = h; branches = omega arith; loops = omega arith }
      one_there (inr x) h = h

      one_back : (o : One) → FitsOne n i f o → one_part.fits (split_one o)
      unfolding split_one
      one_back (simple a) h = h.deep
      one_back (branch q s e) h = h

      pub one_law : PartLaw rooms n (FitsOne n i f) spell_one Calm (λ y. NoSimple y × Not (m.Reserved r.If) y)
          (one_with n b l) (one_with k b' l')
      unfolding one_with
      one_law =
          laws_of (made_item one_part spell_one (FitsOne n i f) one_of split_one whole_one one_spelled one_there
          one_back)

      abbrev the_one : Item rooms n One
      the_one =
          item_of rooms n (FitsOne n i f) spell_one Calm (λ y. NoSimple y × Not (m.Reserved r.If) y) (one_with n b l)
          (one_with k b' l') one_law

      -- ---- a statement

      abbrev statement_part : Item rooms n (One ⊎ Looping)
      statement_part =
          ending_item (or_item the_one the_loop (λ x y h e. for_begins (spell_loop x ++ y) refl)) Calm (λ y e. (e, e))

      statement_spelled : (x : One ⊎ Looping) → spell_statement (statement_of x) ≡ statement_part.sp x
      statement_spelled (inl o) = refl
      statement_spelled (inr x) = refl

      statement_there : (x : One ⊎ Looping) → statement_part.fits x → FitsStatement n i f (statement_of x)
      statement_there (inl o) h = h
      statement_there (inr x) h = h

      statement_back : (t : Statement) → FitsStatement n i f t → statement_part.fits (split_statement t)
      unfolding split_statement
      statement_back (alone o) h = h
      statement_back (loop g c) h = h

      pub statement_law : PartLaw rooms n (FitsStatement n i f) spell_statement Calm NoStatement (statement_with n b l)
          (statement_with k b' l')
      unfolding statement_with
      statement_law =
          laws_of (made_item statement_part spell_statement (FitsStatement n i f) statement_of split_statement
          whole_statement statement_spelled statement_there statement_back)

      abbrev the_statement : Item rooms n Statement
      the_statement =
          item_of rooms n (FitsStatement n i f) spell_statement Calm NoStatement (statement_with n b l)
          (statement_with k b' l') statement_law

      -- ---- statements

      block_there : (ts : List Statement) → Each (FitsStatement n i f) ts → FitsBlock n i f (block_of ts)
      block_there [] h = record { deep = omega arith; branches = omega arith; loops = omega arith }
      block_there (t ∷ ts) (h, hs) =
          let g = block_there ts hs in record {
            deep = (let x = h.deep in let y = g.deep in omega (arith, x, y));
            branches = (let x = h.branches in let y = g.branches in omega (arith, x, y));
            loops =
                (let x = h.loops in let y = g.loops in omega (arith, x, y));
          }

      block_back : (s : Block) → FitsBlock n i f s → Each (FitsStatement n i f) (split_block s)
      unfolding split_block
      block_back no_statements h = tt
      block_back (statement t s) h = let x = h.deep in let y = h.branches in let z = h.loops in (
        record { deep = omega (arith, x); branches = omega (arith, y); loops = omega (arith, z) },
        block_back s
            (record { deep = omega (arith, x); branches = omega (arith, y); loops = omega (arith, z) }),
      )

      statement_calm : (t : Statement) (y : List Plain) → Calm (spell_statement t ++ y)
      statement_calm t y = let h = settled (spell_statement t ++ y) (statement_parts t y) in h.calm

      pub block_level : Law rooms n (FitsBlock n i f) spell_block EndsBlock (block_with n b l) (block_with k b' l')
      unfolding block_with
      block_level =
          let g = made_form (star_form the_statement statement_calm) spell_block (FitsBlock n i f) block_of split_block
          whole_block block_spelled block_there block_back in
          record { good = g.good; near = g.near; counted = g.counted; again = g.again }

      abbrev the_block : Form rooms n Block
      the_block =
          form_of rooms n (FitsBlock n i f) spell_block EndsBlock (block_with n b l) (block_with k b' l') block_level

      -- ---- the part after a phrase

      abbrev must_one : Form rooms n One
      must_one =
          must_form the_one (simple (Transfers Stop)) (record
          { deep = omega arith; branches = omega arith; loops = omega arith })

      abbrev compute_part : Form rooms n ((Several Computed × Expr) ⊎ One)
      compute_part =
          ending (either_form (mark_item (m.Reserved r.Compute) compute_leaves the_compute) must_one
          (λ o y h e. let g = one_no_loop o y in g.1.1.1)) Calm (λ y e. (e, e))

      not_find : (x : (Several Computed × Expr) ⊎ One) (y : List Plain)
          → Not (m.Reserved r.Find) (compute_part.sp x ++ y)
      not_find (inl x) y = refl
      not_find (inr o) y = let g = one_no_loop o y in g.1.1.0

      abbrev find_part : Form rooms n (Unit {0} ⊎ ((Several Computed × Expr) ⊎ One))
      find_part =
          ending (either_form (mark_item (m.Reserved r.Find) find_leaves
          (behind_form (m.Reserved r.First) first_leaves
          (behind_form (m.Reserved r.Case) case_leaves (nothing_form rooms n)))) compute_part (λ x y h e. not_find x y))
          Calm (λ y e. (tt, e))

      not_for : (x : Unit {0} ⊎ ((Several Computed × Expr) ⊎ One)) (y : List Plain)
          → Not (m.Reserved r.For) (find_part.sp x ++ y)
      not_for (inl u) y = refl
      not_for (inr (inl x)) y = refl
      not_for (inr (inr o)) y = let g = one_no_loop o y in g.0

      abbrev loop_part : Form rooms n (Looping ⊎ (Unit {0} ⊎ ((Several Computed × Expr) ⊎ One)))
      loop_part = ending (either_form the_loop find_part (λ x y h e. not_for x y)) Calm (λ y e. (e, e))

      not_do : (x : Looping ⊎ (Unit {0} ⊎ ((Several Computed × Expr) ⊎ One))) (y : List Plain)
          → Not (m.Reserved r.Do) (loop_part.sp x ++ y)
      not_do (inl x) y = refl
      not_do (inr (inl u)) y = refl
      not_do (inr (inr (inl x))) y = refl
      not_do (inr (inr (inr o))) y = let g = one_no_loop o y in g.1.0

      abbrev controlled_part : Form rooms n ControlledParts
      controlled_part =
          ending (either_form (mark_item (m.Reserved r.Do) do_leaves
          (before_form the_block (m.Reserved r.Loop) loop_leaves loop_ends)) loop_part (λ x y h e. not_do x y)) Calm
          (λ y e. (tt, e))

      controlled_spelled : (x : ControlledParts) → spell_controlled (controlled_of x) ≡ controlled_part.sp x
      controlled_spelled (inl s) = refl
      controlled_spelled (inr (inl x)) = refl
      controlled_spelled (inr (inr (inl u))) = refl
      controlled_spelled (inr (inr (inr (inl x)))) =
          ap (λ (u : List Plain). mark (m.Reserved r.Compute) ∷ u)
          (sym (append_assoc (spell_several spell_computed x.0) (mark (m.Reserved r.In) ∷ []) (spell_expr x.1)))
      controlled_spelled (inr (inr (inr (inr o)))) = refl

      controlled_there : (x : ControlledParts) → controlled_part.fits x → FitsControlled n i f (controlled_of x)
      controlled_there (inr (inl x)) h =
          let d = h.deep in let g = h.branches in let j =
          h.loops in record { deep = omega (arith, d); branches = omega (arith, g); loops = omega (arith, j) }
      controlled_there (inl s) h = h
      controlled_there (inr (inr (inl u))) h =
          record { deep = omega arith; branches = omega arith; loops = omega arith }
      controlled_there (inr (inr (inr (inl x)))) h =
          record { deep = omega (arith, h.0, h.1); branches = omega arith; loops = omega arith }
      controlled_there (inr (inr (inr (inr o)))) h = h

      controlled_back : (c : Controlled) → FitsControlled n i f c → controlled_part.fits (split_controlled c)
      unfolding split_controlled
      controlled_back (further g c) h =
          let d = h.deep in let x = h.branches in let j =
          h.loops in record { deep = omega (arith, d); branches = omega (arith, x); loops = omega (arith, j) }
      controlled_back (repeated s) h = h
      controlled_back find h = tt
      controlled_back (compute ts e) h = let d = h.deep in (omega (arith, d), omega (arith, d))
      controlled_back (single o) h = h

      pub controlled_level : Law rooms n (FitsControlled n i f) spell_controlled Calm (controlled_with n b l)
          (controlled_with k b' l')
      unfolding controlled_with
      controlled_level =
          let g = made_form controlled_part spell_controlled (FitsControlled n i f) controlled_of split_controlled
          whole_controlled controlled_spelled controlled_there controlled_back in
          record { good = g.good; near = g.near; counted = g.counted; again = g.again }

    -- ---- after FOR

    module _ (p p' : Reading Controlled) (lc : Law rooms n (FitsControlled n i f) spell_controlled Calm p p') where
      abbrev a_controlled : Form rooms n Controlled
      a_controlled = form_of rooms n (FitsControlled n i f) spell_controlled Calm p p' lc

      abbrev behind_for : Form rooms n Looping
      behind_for =
          refit (pair_form the_phrase a_controlled (λ c y h e. phrase_ends (spell_controlled c ++ y)
          (settled (spell_controlled c ++ y) (controlled_parts c y)))) loop_words (FitsLoop n i (suc f)) (λ x. refl)
          loop_there loop_back
        where
          loop_there : (x : Looping) → (depth_phrase x.0 ≤ n) × FitsControlled n i f x.1 → FitsLoop n i (suc f) x
          loop_there (g, c) (hp, h) =
              let d = h.deep in let x = h.branches in let j =
              h.loops in record { deep = omega (arith, hp, d); branches = omega (arith, x); loops = omega (arith, j) }

          loop_back : (x : Looping) → FitsLoop n i (suc f) x → (depth_phrase x.0 ≤ n) × FitsControlled n i f x.1
          loop_back (g, c) h =
              let d = h.deep in let x = h.branches in let j =
              h.loops in (
                omega (arith, d),
                record {
                  deep = omega (arith, d);
                  branches = omega (arith, x);
                  loops = omega
                      (arith, j);
                },
              )

      pub looping_law : Law rooms n (FitsLoop n i (suc f)) loop_words Calm (pair (phrase_at n) p)
          (pair (phrase_at k) p')
      looping_law = let g = behind_for in record { good = g.good; near = g.near; counted = g.counted; again = g.again }
