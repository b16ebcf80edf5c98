-- Noting places while reading statements is reading the tree and writing it out.
use Rattle.std.proofs.Common.{◌≡◌, ◌⊎◌, ℕ, ◌+◌, Bool, true, false, List, [], ◌∷◌, ◌++◌, length}
use Rattle.std.proofs.Common.{length-append, Option, Some, None, Result, Ok, Err, refl, sym, ap, ◌∙◌}
use Rattle.std.proofs.Common.{append_assoc, arith}
use mathlib.Core.Logic.{inl, inr}
use Rattle.std.proofs.lemmas.List.{append-nil}
use Rattle.ss_words.specs.declared.mark.Mark.{Mark}
use Rattle.ss_words.specs.declared.mark.Mark.TheVariants as m
use Rattle.ss_words.specs.declared.reserved.Reserved.TheVariants as r
use Rattle.ss_words.specs.declared.refusal.Refusal.{Refusal}
use Rattle.ss_words.specs.declared.refusal.Refusal.TheVariants.{Unexpected, PastLimit}
use Rattle.ss_words.specs.Plain.{Plain, mark, first}
use Rattle.ss_words.specs.Lists.{Several}
use Rattle.ss_words.specs.Reading.{Read, Reading, goes_on, bind, pure, refuse, look}
use Rattle.ss_words.specs.Marks.{is, expect, eat}
use Rattle.ss_words.specs.Noting.{Noting, line, here}
use Rattle.ss_words.proofs.Laws.{IsRead, Good, Any, fits_option, spell_option, pure_good, bind_good}
use Rattle.ss_words.proofs.Loop.{on_ok}
use Rattle.ss_words.proofs.Marks.{spell_mark, spell_eaten, expect_good, eat_good}
use Rattle.ss_words.proofs.Writes.{Writes, pure_writes, refuse_writes, here_writes, bind_writes, same_writes}
use Rattle.ss_words.proofs.Writes.{map_writes, noted, many_writes}
use Rattle.ss_routines.specs.Combined.{pair, behind, before, made, if_mark, either, star, eat_allowed, if_allowed}
use Rattle.ss_routines.specs.Combined.{either_of}
use Rattle.ss_routines.specs.Combined.{made_of, must}
use Rattle.ss_routines.specs.Simple.{Simple}
use Rattle.ss_routines.specs.SimpleSpelling.{spell_simple}
use Rattle.ss_routines.specs.SimpleReading.{simple_at}
use Rattle.ss_routines.specs.Expr.{Expr}
use Rattle.ss_routines.specs.Loops.{Phrase, Computed, Question, spell_question}
use Rattle.ss_routines.specs.LoopReading.{compute_at, question_at}
use Rattle.ss_routines.specs.Places.{If, Else, Always, For, Next, Find, Gather, Compute, Simply, Branches, Loops, Spot}
use Rattle.ss_routines.specs.Tree.{Block, Statement, loop, One, branch}
use Rattle.ss_routines.specs.Tree.{Otherwise, no_else, else_with, Controlled, repeated}
use Rattle.ss_routines.specs.Tree.{spell_block, spell_statement, spell_one, spell_otherwise}
use Rattle.ss_routines.specs.BlockReading.{Branching, Looping, otherwise_of, one_of, statement_of, block_of}
use Rattle.ss_routines.specs.BlockReading.{controlled_of, branch_with, one_with, statement_with, block_with}
use Rattle.ss_routines.specs.BlockReading.{controlled_with}
use Rattle.ss_routines.specs.Written.{spot, flat_block, flat_statement, flat_one, flat_otherwise, flat_loop}
use Rattle.ss_routines.specs.PlacesAtLines.{NotingItem, noting_else, noting_branch, noting_one, noting_statement}
use Rattle.ss_routines.specs.PlacesAtLines.{noting_block, noting_must, noting_last, noting_repeated, noting_controlled}

-- ---- readings made of readings

module _ {A B C : Type 0} (words k : ℕ) (out : C → B) where
  -- one reading, and a second and a third after it
  pub assoc_writes : {D : Type 0} (p : Reading A) (g : A → Reading D) (h : D → Reading C) (p' : Reading B)
      → Writes words out k (bind p (λ a. bind (g a) h)) p' → Writes words out k (bind (bind p g) h) p'
  unfolding bind
  assoc_writes {D} p g h p' l =
      record {
        at = λ ws e. l.at ws e ∙ ap (λ (x : Read C). let y : Read B = (on_ok out x.0, x.1) in y)
            (once (p ws).0 (p ws).1);
      }
    where
      once : (o : Result A Refusal) (r : List Plain) → goes_on (λ a ws. goes_on h (g a ws).0 (g a ws).1) o r ≡ goes_on h
          (goes_on g o r).0 (goes_on g o r).1
      once (Ok a) r = refl
      once (Err e) r = refl

-- a part that notes its words by itself
pub done_writes : {A B : Type 0} (words k : ℕ) (out : A → B) (p : Reading A)
    → Writes words out k p (bind p (λ a. pure (out a)))
unfolding bind pure
done_writes {A} words k out p = record { at = λ ws h. put (p ws).0 (p ws).1 }
  where
    put : (o : Result A Refusal) (r : List Plain) → goes_on (λ a. pure (out a)) o r ≡ (on_ok out o, r)
    put (Ok a) r = refl
    put (Err e) r = refl

-- the same places, said otherwise
pub out_writes : {A B : Type 0} (words k : ℕ) (out out' : A → B) → ((a : A) → out a ≡ out' a)
    → (p : Reading A) (p' : Reading B) → Writes words out k p p' → Writes words out' k p p'
out_writes {A} {B} words k out out' alike p p' l = record { at = λ ws h. l.at ws h ∙ put (p ws).0 (p ws).1 }
  where
    put : (o : Result A Refusal) (r : List Plain) → (let x : Read B = (on_ok out o, r) in x) ≡ (on_ok out' o, r)
    put (Ok a) r = λ t. (Ok (alike a t), r)
    put (Err e) r = refl

-- a mark of which none may be open
pub none_writes : {A : Type 0} (words k : ℕ) (c : Mark) (q : Reading A) (acc : List Spot) (flat : A → List Spot)
    → Writes words (noted flat acc) k (if_allowed 0 c q)
    (bind (eat_allowed 0 c) (λ b. elim b [ true ↦ refuse PastLimit | false ↦ pure (false, acc) ]))
unfolding if_allowed eat_allowed look bind pure refuse
none_writes {A} words k c q acc flat = record { at = λ ws h. put (is c (first ws)) ws }
  where
    put : (b : Bool) (ws : List Plain) → (let x : Read
        Bool = (let p : Reading Bool = elim b [ true ↦ refuse PastLimit | false ↦ pure false ] in p ws) in goes_on
        (λ b. elim b [ true ↦ refuse PastLimit | false ↦ pure (false, acc) ]) x.0 x.1)
        ≡ (let x : Read Bool = (let p : Reading Bool = elim b [ true ↦ refuse PastLimit | false ↦ pure false ] in p
        ws) in let y : Read (Option A) = goes_on (λ b. elim b
        [ true ↦ bind q (λ a. pure (Some a)) | false ↦ pure None ]) x.0 x.1 in (on_ok (noted flat acc) y.0, y.1))
    put true ws = refl
    put false ws = refl

-- a mark and a part, or another part
module _ {A B C : Type 0} (words k : ℕ) (c : Mark) (out : A ⊎ B → C) (F : Reading A) (Q : Reading B) (X Y : Reading C)
    (lx : Writes words (λ a. out (inl a)) (k + 1) F X) (ly : Writes words (λ b. out (inr b)) k Q Y) where
  abbrev or_tree : Option A → Reading (A ⊎ B)
  or_tree o = elim o [ Some a ↦ pure (inl a) | None ↦ bind Q (λ b. pure (inr b)) ]

  abbrev if_tree : Bool → Reading (Option A)
  if_tree b = elim b [ true ↦ bind F (λ a. pure (Some a)) | false ↦ pure None ]

  abbrev if_noting_mark : Bool → Reading C
  if_noting_mark b = elim b [ true ↦ X | false ↦ Y ]

  left : (o : Result A Refusal) (r : List Plain) → (let z : Read C = (on_ok (λ a. out (inl a)) o, r) in z) ≡ (let
      y : Read (A ⊎ B) = goes_on or_tree (goes_on (λ a. pure (Some a)) o r).0 (goes_on (λ a. pure (Some a)) o r).1 in
      (on_ok out y.0, y.1))
  unfolding pure
  left (Ok a) r = refl
  left (Err e) r = refl

  right : (o : Result B Refusal) (r : List Plain) → (let z : Read C = (on_ok (λ b. out (inr b)) o, r) in z) ≡ (let
      y : Read (A ⊎ B) = goes_on (λ b. pure (inr b)) o r in (on_ok out y.0, y.1))
  unfolding pure
  right (Ok a) r = refl
  right (Err e) r = refl

  put : (o : Result Bool Refusal) (ws r : List Plain) → k + length ws ≡ words → IsRead Any (spell_eaten c) [] o ws r
      → goes_on if_noting_mark o r ≡ (let x : Read (Option A) = goes_on if_tree o r in let y : Read (A ⊎ B) = goes_on
      or_tree x.0 x.1 in (on_ok out y.0, y.1))
  unfolding bind pure
  put (Ok true) ws r h (f, q, e, s) =
      lx.at r (omega (arith, h, ap length e, ap length s, length-append q r)) ∙ left (F r).0 (F r).1
  put (Ok false) ws r h (f, q, e, s) =
      ly.at r (omega (arith, h, ap length e, ap length s, length-append q r)) ∙ right (Q r).0 (Q r).1
  put (Err g) ws r h read = refl

  pub mark_or_writes : Writes words out k (either (if_mark c F) Q) (bind (eat c) if_noting_mark)
  unfolding either if_mark bind
  mark_or_writes = record { at = λ ws h. put (eat c ws).0 ws (eat c ws).1 h ((eat_good c).read ws) }

-- an item or another, both noting
module _ {A B D : Type 0} (words k : ℕ) (fits : A → Type 0) (sp : A → List Plain) (i : Reading (Option A))
    (good : Good (fits_option fits) (spell_option sp) [] i) (j : Reading (Option B)) (f : A ⊎ B → D)
    (acc : List Spot) (flat : D → List Spot) (flatA : A → List Spot) (flatB : B → List Spot)
    (sameA : (a : A) → flatA a ≡ flat (f (inl a))) (sameB : (b : B) → flatB b ≡ flat (f (inr b)))
    (j' : Reading (Bool × List Spot)) (lj : Writes words (noted flatB acc) k j j') where
  abbrev or_items : Option A → Reading (Option (A ⊎ B))
  or_items o =
      elim o [
        | Some a ↦ pure (Some (inl a))
        | None ↦ bind j
            (λ q. elim q [ Some b ↦ pure (Some (inr b)) | None ↦ pure None ])
      ]

  abbrev made_item : Option (A ⊎ B) → Reading (Option D)
  made_item o = elim o [ Some a ↦ pure (Some (f a)) | None ↦ pure None ]

  abbrev Noted : Read (Option D) → Read (Bool × List Spot)
  Noted x = (on_ok (noted flat acc) x.0, x.1)

  second : (o : Result (Option B) Refusal) (r : List Plain)
      → (let z : Read (Bool × List Spot) = (on_ok (noted flatB acc) o, r) in z) ≡ (let x : Read
      (Option (A ⊎ B)) = goes_on (λ q. elim q [ Some b ↦ pure (Some (inr b)) | None ↦ pure None ]) o r in Noted
      (goes_on made_item x.0 x.1))
  unfolding pure
  second (Ok (Some b)) r = λ t. (Ok (true, acc ++ sameB b t), r)
  second (Ok None) r = refl
  second (Err e) r = refl

  behind_first : (o : Result (Option A) Refusal) (ws r : List Plain) → k + length ws ≡ words
      → IsRead (fits_option fits) (spell_option sp) [] o ws r → (g : Option A → Reading (Bool × List Spot))
      → ((a : A) (r : List Plain) → g (Some a) r ≡ (Ok (true, acc ++ flatA a), r))
      → ((r : List Plain) → g None r ≡ j' r)
      → goes_on g o r ≡ (let x : Read (Option (A ⊎ B)) = goes_on or_items o r in Noted (goes_on made_item x.0 x.1))
  unfolding pure bind
  behind_first (Ok (Some a)) ws r h read g some none = some a r ∙ (λ t. (Ok (true, acc ++ sameA a t), r))
  behind_first (Ok None) ws r h (f0, q, e, s) g some none =
      none r ∙ lj.at r (omega (arith, h, ap length e, ap length s, length-append q r)) ∙ second (j r).0 (j r).1
  behind_first (Err e) ws r h read g some none = refl

  -- the first item itself says which places it notes
  pub first_writes : (g : A → List Spot) → ((a : A) → g a ≡ acc ++ flatA a)
      → Writes words (noted flat acc) k (made_of f (either_of i j))
      (bind i (λ o. elim o [ Some a ↦ pure (true, g a) | None ↦ j' ]))
  unfolding made_of either_of bind pure
  first_writes g is =
      record {
        at = λ ws h. behind_first (i ws).0 ws (i ws).1 h (good.read ws)
            (λ o. elim o [ Some a ↦ pure (true, g a) | None ↦ j' ]) (λ a r. λ t. (Ok (true, is a t), r)) (λ r. refl);
      }

  -- the first item is noted already
  abbrev on : (List Spot → Reading (Bool × List Spot)) → Bool × List Spot → Reading (Bool × List Spot)
  on next x = elim x.0 [ true ↦ pure x | false ↦ next x.1 ]

  pub noted_writes : (next : List Spot → Reading (Bool × List Spot)) → next acc ≡ j' → (i' : Reading (Bool × List Spot))
      → Writes words (noted flatA acc) k i i' → Writes words (noted flat acc) k (made_of f (either_of i j))
      (bind i' (on next))
  unfolding made_of either_of bind pure
  noted_writes next is i' li =
      record {
        at = λ ws h. ap (λ (x : Read (Bool × List Spot)). goes_on (on next) x.0 x.1) (li.at ws h)
            ∙ told (i ws).0 (i ws).1
            ∙ behind_first (i ws).0 ws (i ws).1 h (good.read ws) (λ o. on next (noted flatA acc o))
            (λ a r. refl) (λ r. ap (λ (p : Reading (Bool × List Spot)). p r) is);
      }
    where
      told : (o : Result (Option A) Refusal) (r : List Plain)
          → goes_on (on next) (on_ok (noted flatA acc) o) r ≡ goes_on (λ o. on next (noted flatA acc o)) o r
      told (Ok o) r = refl
      told (Err e) r = refl

-- an item or a part
module _ {A B : Type 0} (words k : ℕ) (fits : A → Type 0) (sp : A → List Plain) (i : Reading (Option A))
    (good : Good (fits_option fits) (spell_option sp) [] i) (Q : Reading B)
    (acc : List Spot) (flatA : A → List Spot) (out : A ⊎ B → List Spot) (sameA : (a : A) → acc ++ flatA a ≡ out (inl a))
    (next : List Spot → Reading (List Spot)) (ln : Writes words (λ b. out (inr b)) k Q (next acc))
    (i' : Reading (Bool × List Spot)) (li : Writes words (noted flatA acc) k i i') where
  abbrev or_part : Option A → Reading (A ⊎ B)
  or_part o = elim o [ Some a ↦ pure (inl a) | None ↦ bind Q (λ b. pure (inr b)) ]

  abbrev go_on : Bool × List Spot → Reading (List Spot)
  go_on x = elim x.0 [ true ↦ pure x.1 | false ↦ next x.1 ]

  abbrev Out : Read (A ⊎ B) → Read (List Spot)
  Out x = (on_ok out x.0, x.1)

  rest_put : (o : Result B Refusal) (r : List Plain) → (let z : Read (List Spot) = (on_ok (λ b. out (inr b)) o, r) in z)
      ≡ Out (goes_on (λ b. pure (inr b)) o r)
  unfolding pure
  rest_put (Ok b) r = refl
  rest_put (Err e) r = refl

  item_put : (o : Result (Option A) Refusal) (ws r : List Plain) → k + length ws ≡ words
      → IsRead (fits_option fits) (spell_option sp) [] o ws r
      → goes_on go_on (on_ok (noted flatA acc) o) r ≡ Out (goes_on or_part o r)
  unfolding pure bind
  item_put (Ok (Some a)) ws r h read = λ t. (Ok (sameA a t), r)
  item_put (Ok None) ws r h (f0, q, e, s) =
      ln.at r (omega (arith, h, ap length e, ap length s, length-append q r)) ∙ rest_put (Q r).0 (Q r).1
  item_put (Err e) ws r h read = refl

  pub item_or_writes : Writes words out k (either i Q) (bind i' go_on)
  unfolding either bind
  item_or_writes =
      record {
        at = λ ws h. ap (λ (x : Read (Bool × List Spot)). goes_on go_on x.0 x.1) (li.at ws h)
            ∙ item_put (i ws).0 ws (i ws).1 h (good.read ws);
      }

-- ---- statements

module _ (lines : List ℕ) (n : ℕ) where
  abbrev words : ℕ
  words = length lines

  -- a list of statements
  flat_list : ℕ → List Statement → List Spot
  flat_list k [] = []
  flat_list k (t ∷ ts) = flat_statement lines k t ++ flat_list (k + length (spell_statement t)) ts

  flat_list_is : (ts : List Statement) (k : ℕ) → flat_list k ts ≡ flat_block lines k (block_of ts)
  unfolding flat_list
  flat_list_is [] k = refl
  flat_list_is (t ∷ ts) k =
      ap (λ (u : List Spot). flat_statement lines k t ++ u) (flat_list_is ts (k + length (spell_statement t)))

  -- a reading of statements, and the one that notes them
  abbrev pub BlockWrites : Reading Block → Noting Spot → Type 0
  BlockWrites p p' = (k : ℕ) (acc : List Spot) → Writes words (λ b. acc ++ flat_block lines k b) k p (p' acc)

  abbrev pub BranchWrites : Reading (Option Branching) → NotingItem → Type 0
  BranchWrites p p' =
      (k : ℕ) (acc : List Spot) → Writes words (noted (λ x. flat_one lines k (branch x.0 x.1.0 x.1.1)) acc) k p (p' acc)

  abbrev pub LoopWrites : Reading (Option Looping) → NotingItem → Type 0
  LoopWrites p p' =
      (k : ℕ) (acc : List Spot) → Writes words (noted (λ x. flat_statement lines k (loop x.0 x.1)) acc) k p (p' acc)

  module _ (inside : Reading Block) (inside' : Noting Spot) (fits : Block → Type 0)
      (good : Good fits spell_block [] inside) (li : BlockWrites inside inside') where
    pub else_writes : (k : ℕ) (acc : List Spot) → Writes words (λ e. acc ++ flat_otherwise lines k e) k
        (made otherwise_of (if_mark (m.Reserved r.Else) inside)) (noting_else lines n inside' acc)
    unfolding made if_mark noting_else
    else_writes k acc =
        map_writes words (λ o. acc ++ flat_otherwise lines k (otherwise_of o)) (λ e. acc ++ flat_otherwise lines k e) k
        otherwise_of (λ o. refl) (if_mark (m.Reserved r.Else) inside) (noting_else lines n inside' acc)
        (here_writes words _ k lines _ _ refl (same_writes words Any (spell_eaten (m.Reserved r.Else))
        (λ o. acc ++ flat_otherwise lines k (otherwise_of o)) k _ _ (elim [
          | true ↦ map_writes words (λ b. (acc ++ spot lines k (Branches Else) ∷ []) ++ flat_block lines (k + 1) b)
              (λ o. acc ++ flat_otherwise lines k (otherwise_of o)) (k + 1) (λ a. Some a)
              (λ b. append_assoc acc (spot lines k (Branches Else) ∷ []) (flat_block lines (k + 1) b)) inside
              (inside' (acc ++ spot lines k (Branches Else) ∷ []))
              (li (k + 1) (acc ++ spot lines k (Branches Else) ∷ []))
          | false ↦ pure_writes words _ _ None acc (sym (append-nil acc))
        ]) (eat (m.Reserved r.Else)) (eat_good (m.Reserved r.Else))))

    pub else_good : Good (λ e. Unit {0}) spell_otherwise [] (made otherwise_of (if_mark (m.Reserved r.Else) inside))
    unfolding made if_mark
    else_good =
        bind_good (fits_option fits) (λ e. Unit {0}) (spell_option (λ b. mark (m.Reserved r.Else) ∷ spell_block b))
        spell_otherwise [] _ (elim [
          | Some b ↦ (λ h. pure_good (λ e. Unit {0}) spell_otherwise _ (else_with b) tt
              refl)
          | None ↦ (λ h. pure_good (λ e. Unit {0}) spell_otherwise _ no_else tt refl)
        ])
        (if_mark (m.Reserved r.Else) inside) (bind_good Any (fits_option fits) (spell_eaten (m.Reserved r.Else))
        (spell_option (λ b. mark (m.Reserved r.Else) ∷ spell_block b)) [] _ (elim [
          | true ↦ (λ u. bind_good fits (fits_option fits) spell_block
              (spell_option (λ b. mark (m.Reserved r.Else) ∷ spell_block b)) (mark (m.Reserved r.Else) ∷ []) _
              (λ b h. pure_good _ _ _ (Some b) h refl) inside good)
          | false ↦ (λ u. pure_good _ _ _ None tt refl)
        ]) (eat (m.Reserved r.Else)) (eat_good (m.Reserved r.Else)))

    -- the words after the question, up to ALWAYS
    abbrev to_always : Reading Otherwise
    to_always = before (made otherwise_of (if_mark (m.Reserved r.Else) inside)) (m.Reserved r.Always)

    always_writes : (k : ℕ) (acc : List Spot) → Writes words
        (λ e. (acc ++ flat_otherwise lines k e) ++ spot lines (k + length (spell_otherwise e)) (Branches Always) ∷ []) k
        to_always
        (bind (noting_else lines n inside' acc) (λ e. here lines
        (λ j. bind (expect (m.Reserved r.Always)) (λ u. pure
        (e ++ (let s : Spot = record { line = j; place = Branches Always } in s) ∷ [])))))
    unfolding before
    always_writes k acc =
        bind_writes words (λ e. Unit {0}) spell_otherwise (λ e. acc ++ flat_otherwise lines k e) _ k _ _ (λ e.
        let j = k + length (spell_otherwise e) in
        here_writes words _ j lines _ _ refl (same_writes words Any (spell_mark (m.Reserved r.Always)) _ j _ _
        (λ u. pure_writes words _ _ e ((acc ++ flat_otherwise lines k e) ++ spot lines j (Branches Always) ∷ [])
        refl) (expect (m.Reserved r.Always)) (expect_good (m.Reserved r.Always))))
        (made otherwise_of (if_mark (m.Reserved r.Else) inside)) (noting_else lines n inside' acc) else_good
        (else_writes k acc)

    -- the places that a question and the words after it write, if IF is word k
    abbrev branch_out : ℕ → List Spot → Branching → List Spot
    branch_out k acc x = acc ++ flat_one lines k (branch x.0 x.1.0 x.1.1)

    pub branch_writes : (fitsQ : Question → Type 0) → Good fitsQ spell_question [] (question_at n)
        → (k : ℕ) (acc : List Spot) → Writes words (branch_out k acc) (k + 1) (branch_with n inside)
        (noting_branch lines n inside' (line lines k) acc)
    unfolding branch_with pair noting_branch
    branch_writes fitsQ gq k acc = same_writes words fitsQ spell_question (branch_out k acc) (k + 1) _ _ (λ q.
        let i = k + 1 + length (spell_question q) in
        let one = acc ++ spot lines k (Branches (If q)) ∷ [] in
        map_writes words (λ x. branch_out k acc (q, x)) (branch_out k acc) i (λ x. (q, x)) (λ x. refl) _ _
        (bind_writes words fits spell_block (λ b. one ++ flat_block lines i b) (λ x. branch_out k acc (q, x)) i _ _
        (λ b.
        let j = i + length (spell_block b) in
        map_writes words (λ e. ((one ++ flat_block lines i b) ++ flat_otherwise lines j e) ++ spot lines
        (j + length (spell_otherwise e)) (Branches Always) ∷ []) (λ x. branch_out k acc (q, x)) j (λ e. (b, e))
        (λ e. simp append_assoc) _ _ (always_writes j (one ++ flat_block lines i b)))
        inside (inside' one) good (li i one))) (question_at n) gq

  -- ---- one level

  module _ (b : Reading (Option Branching)) (b' : NotingItem) (l : Reading (Option Looping)) (l' : NotingItem)
      (lb : BranchWrites b b') (ll : LoopWrites l l')
      (fitsA : Simple → Type 0) (ga : Good (fits_option fitsA) (spell_option spell_simple) [] (simple_at n)) where
    one_writes : (k : ℕ) (acc : List Spot) → Writes words (noted (flat_one lines k) acc) k (one_with n b l)
        (noting_one lines n b' l' acc)
    unfolding one_with noting_one
    one_writes k acc =
        here_writes words _ k lines _ _ refl (first_writes words k fitsA spell_simple (simple_at n) ga b one_of acc
        (flat_one lines k) (λ a. spot lines k (Simply a) ∷ []) (λ x. flat_one lines k (branch x.0 x.1.0 x.1.1))
        (λ a. refl) (λ x. refl) (b' acc) (lb k acc) (λ a. acc ++ spot lines k (Simply a) ∷ []) (λ a. refl))

    module _ (fits1 : One → Type 0) (g1 : Good (fits_option fits1) (spell_option spell_one) [] (one_with n b l)) where
      statement_writes : (k : ℕ) (acc : List Spot) → Writes words (noted (flat_statement lines k) acc) k
          (statement_with n b l) (noting_statement lines n b' l' acc)
      unfolding statement_with noting_statement
      statement_writes k acc =
          noted_writes words k fits1 spell_one (one_with n b l) g1 l statement_of acc (flat_statement lines k)
          (flat_one lines k) (λ x. flat_statement lines k (loop x.0 x.1)) (λ o. refl) (λ x. refl) (l' acc) (ll k acc) l'
          refl (noting_one lines n b' l' acc) (one_writes k acc)

      must_writes : (k : ℕ) (acc : List Spot) → Writes words (λ o. acc ++ flat_one lines k o) k (must (one_with n b l))
          (noting_must lines n b' l' acc)
      unfolding must noting_must
      must_writes k acc =
          bind_writes words (fits_option fits1) (spell_option spell_one) (noted (flat_one lines k) acc)
          (λ o. acc ++ flat_one lines k o) k _ _ (elim [
            | Some o ↦ pure_writes words (λ o. acc ++ flat_one lines k o) _ o (acc ++ flat_one lines k o) refl
            | None ↦ refuse_writes words (λ o. acc ++ flat_one lines k o) _ Unexpected
          ]) (one_with n b l) (noting_one lines n b' l' acc) g1 (one_writes k acc)

      module _ (fitsT : Statement → Type 0) (gt : Good (fits_option fitsT) (spell_option spell_statement) []
          (statement_with n b l)) where
        pub block_writes : (k : ℕ) (acc : List Spot) → Writes words (λ s. acc ++ flat_block lines k s) k
            (block_with n b l) (noting_block lines n b' l' acc)
        unfolding block_with made star noting_block flat_list
        block_writes k acc =
            map_writes words (λ ts. acc ++ flat_list k ts) (λ s. acc ++ flat_block lines k s) k block_of
            (λ ts. ap (λ (u : List Spot). acc ++ u) (flat_list_is ts k)) _ _
            (many_writes words (fits_option fitsT) spell_statement (statement_with n b l) [] (λ t ts. t ∷ ts)
            (noting_statement lines n b' l') (flat_statement lines) flat_list gt (λ k. refl) (λ k t ts. refl)
            statement_writes k acc)

        -- ---- the part after a phrase

        abbrev Last : Type 0
        Last = Unit {0} ⊎ ((Several Computed × Expr) ⊎ One)

        abbrev last_with : Reading Last
        last_with =
            either (if_mark (m.Reserved r.Find) (behind (m.Reserved r.First) (behind (m.Reserved r.Case) (pure tt))))
            (either (if_mark (m.Reserved r.Compute) (compute_at n)) (must (one_with n b l)))

        abbrev last_out : ℕ → List Spot → Last → List Spot
        last_out j acc (inl u) = acc ++ spot lines j (Loops Find) ∷ []
        last_out j acc (inr (inl x)) =
            acc ++ spot lines j (Loops (Gather x.1)) ∷ spot lines j (Loops (Compute x.0)) ∷ []
        last_out j acc (inr (inr o)) = acc ++ flat_one lines j o

        last_writes : (j : ℕ) (acc : List Spot) → Writes words (last_out j acc) j last_with
            (noting_last lines n b' l' acc)
        unfolding noting_last
        last_writes j acc =
            here_writes words _ j lines _ _ refl (mark_or_writes words j (m.Reserved r.Find) (last_out j acc)
            (behind (m.Reserved r.First) (behind (m.Reserved r.Case) (pure tt)))
            (either (if_mark (m.Reserved r.Compute) (compute_at n)) (must (one_with n b l)))
            _ _ (done_writes words (j + 1) (λ u. last_out j acc (inl u))
            (behind (m.Reserved r.First) (behind (m.Reserved r.Case) (pure tt))))
            (mark_or_writes words j (m.Reserved r.Compute) (λ x. last_out j acc (inr x)) (compute_at n)
            (must (one_with n b l)) _ _ (done_writes words (j + 1) (λ x. last_out j acc (inr (inl x)))
            (compute_at n)) (must_writes j acc)))

        module _ (fitsL : Looping → Type 0) (gl : Good (fits_option fitsL)
            (spell_option (λ x. spell_statement (loop x.0 x.1))) [] l) (fitsB : Block → Type 0)
            (gb : Good fitsB spell_block [] (block_with n b l)) where
          -- the phrase f begins with word k, and the part after it begins with word j
          abbrev controlled_out : ℕ → Phrase → ℕ → List Spot → Controlled → List Spot
          controlled_out k f j acc c = acc ++ flat_loop lines k f j c

          repeated_writes : (k : ℕ) (f : Phrase) (j : ℕ) (acc : List Spot)
              → Writes words (λ s. controlled_out k f j acc (repeated s)) (j + 1)
              (before (block_with n b l) (m.Reserved r.Loop))
              (noting_repeated lines n b' l' (acc ++ spot lines k (Loops (For f true)) ∷ []))
          unfolding before noting_repeated
          repeated_writes k f j acc =
              bind_writes words fitsB spell_block (λ s. (acc ++ spot lines k (Loops (For f true)) ∷ []) ++ flat_block
              lines (j + 1) s) _ (j + 1) _ _ (λ s.
              let i = j + 1 + length (spell_block s) in
              here_writes words _ i lines _ _ refl (same_writes words Any (spell_mark (m.Reserved r.Loop)) _ i _ _
              (λ u. pure_writes words _ _ s (((acc ++ spot lines k (Loops (For f true)) ∷ []) ++ flat_block lines
              (j + 1) s) ++ spot lines i (Loops Next) ∷ []) (simp append_assoc)) (expect (m.Reserved r.Loop))
              (expect_good (m.Reserved r.Loop))))
              (block_with n b l) (noting_block lines n b' l' (acc ++ spot lines k (Loops (For f true)) ∷ [])) gb
              (block_writes (j + 1) (acc ++ spot lines k (Loops (For f true)) ∷ []))

          last_same : (k : ℕ) (f : Phrase) (j : ℕ) (acc : List Spot) (x : Last)
              → last_out j (acc ++ spot lines k (Loops (For f false)) ∷ []) x ≡ controlled_out k f j acc
              (controlled_of (inr (inr x)))
          last_same k f j acc (inl u) =
              append_assoc acc (spot lines k (Loops (For f false)) ∷ []) (spot lines j (Loops Find) ∷ [])
          last_same k f j acc (inr (inl x)) =
              append_assoc acc (spot lines k (Loops (For f false)) ∷ [])
              (spot lines j (Loops (Gather x.1)) ∷ spot lines j (Loops (Compute x.0)) ∷ [])
          last_same k f j acc (inr (inr o)) =
              append_assoc acc (spot lines k (Loops (For f false)) ∷ []) (flat_one lines j o)

          pub controlled_writes : (k : ℕ) (f : Phrase) (j : ℕ) (acc : List Spot)
              → Writes words (controlled_out k f j acc) j (controlled_with n b l)
              (noting_controlled lines n b' l' (line lines k) f acc)
          unfolding controlled_with made noting_controlled
          controlled_writes k f j acc =
              let one = acc ++ spot lines k (Loops (For f false)) ∷ [] in
              map_writes words (λ x. controlled_out k f j acc (controlled_of x)) (controlled_out k f j acc) j
              controlled_of (λ x. refl) _ _
              (mark_or_writes words j (m.Reserved r.Do) (λ x. controlled_out k f j acc (controlled_of x))
              (before (block_with n b l) (m.Reserved r.Loop)) (either l last_with) _ _ (repeated_writes k f j acc)
              (item_or_writes words j fitsL (λ x. spell_statement (loop x.0 x.1)) l gl last_with one
              (λ x. flat_statement lines j (loop x.0 x.1)) (λ x. controlled_out k f j acc (controlled_of (inr x)))
              (λ x. append_assoc acc (spot lines k (Loops (For f false)) ∷ []) (flat_statement lines j (loop x.0 x.1)))
              (noting_last lines n b' l')
              (out_writes words j (last_out j one) (λ x. controlled_out k f j acc (controlled_of (inr (inr x))))
              (last_same k f j acc) last_with (noting_last lines n b' l' one) (last_writes j one)) (l' one)
              (ll j one)))
