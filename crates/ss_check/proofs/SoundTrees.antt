-- The places of a section are those of a tree, for any meaning of their names.
use Rattle.std.proofs.Common.{◌≡◌, ◌≤◌, ℕ, suc, ◌+◌, true, false, List, [], ◌∷◌, ◌++◌, length, refl, sym, ap, ◌∙◌}
use Rattle.std.proofs.Common.{subst, arith}
use Rattle.std.specs.Prelude.{map}
use Rattle.std.specs.List.{flat_map}
use mathlib.Core.Logic.{inl, inr}
use Rattle.std.proofs.lemmas.List.{map-append}
use Rattle.ss_words.specs.Lists.{Name, all_of}
use Rattle.ss_words.specs.Noting.{line}
use Rattle.ss_routines.specs.Simple.{Simple, Assigns, Makes, Files, Transfers, Times, Exchanges, Call, Return, Stop}
use Rattle.ss_routines.specs.Simple.{Read, Print, Skip}
use Rattle.ss_routines.specs.Loops.{Phrase, spell_phrase, spell_question}
use Rattle.ss_routines.specs.Tree as t
use Rattle.ss_routines.specs.Tree.{spell_block, spell_statement, spell_otherwise, spell_head, spell_define}
use Rattle.ss_routines.specs.Tree.{spell_section, Tree, parameters_head, parameters, phrases}
use Rattle.ss_routines.specs.Places.{Section, EndOfSection}
use Rattle.ss_routines.specs.Places as w
use Rattle.ss_routines.specs.Written as written
use Rattle.ss_program.specs.declared.place.Control.TheVariants.{End}
use Rattle.ss_program.specs.declared.place.Place.{Place}
use Rattle.ss_program.specs.declared.place.Place.TheVariants.{Control}
use Rattle.ss_program.specs.declared.place.Spot.{Spot}
use Rattle.ss_program.specs.ProgramSound.{is_end, IsEnded}
use Rattle.ss_check.specs.Declarations.{Declared}
use Rattle.ss_check.specs.ResolvedNames.{Names}
use Rattle.ss_check.specs.Resolved.{resolved_expr, resolved_range, resolved_qualifier, resolved_question}
use Rattle.ss_check.specs.Resolved.{resolved_telling, resolved_simple, resolved_spot}
use Rattle.ss_check.proofs.SoundLists.{In}
use Rattle.ss_check.proofs.SoundShapes.{is_simple, Head, for_at, Block, no_statements, statement, Statement, alone}
use Rattle.ss_check.proofs.SoundShapes.{loop, One, simple, branch, Otherwise, no_else, else_with, Controlled, further}
use Rattle.ss_check.proofs.SoundShapes.{repeated, single, find, compute, flat_block, flat_statement, flat_one}
use Rattle.ss_check.proofs.SoundShapes.{flat_otherwise, flat_loop}
use Rattle.ss_check.proofs.SoundCounting.{Joins, Counts, block_passes}
use Rattle.ss_check.proofs.SoundSteps.{phrases_block, phrases_statement, phrases_one, phrases_otherwise}
use Rattle.ss_check.proofs.SoundSteps.{phrases_controlled, AreSteps, section_steps}

module _ (d : Declared) (v : Names) (locals : List Name) (lines : List ℕ) where
  -- ---- trees whose names are numbers

  abbrev head_at : ℕ → Phrase → Head
  head_at k f = record {
    line = line lines k;
    phrase = resolved_range d v locals f.range;
    qualifiers = map (resolved_qualifier d v locals) f.qualifiers;
  }

  is_run : (a : Simple) → is_simple (resolved_simple d v locals a) ≡ true
  is_run (Assigns a) = refl
  is_run (Makes a) = refl
  is_run (Files a) = refl
  is_run (Transfers (Call n es rs)) = refl
  is_run (Transfers Return) = refl
  is_run (Transfers Stop) = refl
  is_run (Times a) = refl
  is_run (Exchanges (Read rs)) = refl
  is_run (Exchanges (Print n es ls)) = refl
  is_run (Exchanges (Skip e)) = refl

  abbrev mutual
    shape_block : ℕ → t.Block → Block
    shape_block k t.no_statements = no_statements
    shape_block k (t.statement s b) = statement (shape_statement k s) (shape_block (k + length (spell_statement s)) b)

    shape_statement : ℕ → t.Statement → Statement
    shape_statement k (t.alone o) = alone (shape_one k o)
    shape_statement k (t.loop f c) = loop (head_at k f) (shape_controlled (k + length (spell_phrase f)) c)

    shape_one : ℕ → t.One → One
    shape_one k (t.simple a) = simple (record { line = line lines k; place = resolved_simple d v locals a }) (is_run a)
    shape_one k (t.branch q b e) =
        branch (line lines k) (resolved_question d v locals q) (shape_block (k + 1 + length (spell_question q)) b)
        (shape_otherwise (k + 1 + length (spell_question q) + length (spell_block b)) e)
        (line lines (k + 1 + length (spell_question q) + length (spell_block b) + length (spell_otherwise e)))

    shape_otherwise : ℕ → t.Otherwise → Otherwise
    shape_otherwise k t.no_else = no_else
    shape_otherwise k (t.else_with b) = else_with (line lines k) (shape_block (k + 1) b)

    shape_controlled : ℕ → t.Controlled → Controlled
    shape_controlled k (t.further g c) = further (head_at k g) (shape_controlled (k + length (spell_phrase g)) c)
    shape_controlled k (t.repeated b) = repeated (shape_block (k + 1) b) (line lines (k + 1 + length (spell_block b)))
    shape_controlled k (t.single o) = single (shape_one k o)
    shape_controlled k t.find = find (line lines k)
    shape_controlled k (t.compute ts e) =
        compute (line lines k) (resolved_expr d v locals e) (line lines k)
        (map (resolved_telling d v locals) (all_of ts))

  -- ---- their places are those of the section

  abbrev g : w.Spot → Spot
  g q = resolved_spot d v locals q

  mutual
    block_flat : (b : t.Block) (k : ℕ) → flat_block (shape_block k b) ≡ map g (written.flat_block lines k b)
    block_flat t.no_statements k = refl
    block_flat (t.statement s b) k =
        ap (λ (xs : List Spot). xs ++ flat_block (shape_block (k + length (spell_statement s)) b)) (statement_flat s k)
        ∙ ap (λ (ys : List Spot). map g (written.flat_statement lines k s) ++ ys)
        (block_flat b (k + length (spell_statement s)))
        ∙ sym (map-append g (written.flat_statement lines k s)
        (written.flat_block lines (k + length (spell_statement s)) b))

    statement_flat : (s : t.Statement) (k : ℕ) →
        flat_statement (shape_statement k s) ≡ map g (written.flat_statement lines k s)
    statement_flat (t.alone o) k = one_flat o k
    statement_flat (t.loop f c) k = loop_flat c f k (k + length (spell_phrase f))

    one_flat : (o : t.One) (k : ℕ) → flat_one (shape_one k o) ≡ map g (written.flat_one lines k o)
    one_flat (t.simple a) k = refl
    one_flat (t.branch q b e) k =
        let i = k + 1 + length (spell_question q) in
        let j = i + length (spell_block b) in
        let n = j + length (spell_otherwise e) in
        let x : w.Spot = written.spot lines k (w.Branches (w.If q)) in
        let y : w.Spot = written.spot lines n (w.Branches w.Always) in
        let xs = written.flat_block lines i b in
        let ys = written.flat_otherwise lines j e in
        ap (λ (zs : List Spot). g x ∷ zs)
        (ap (λ (zs : List Spot). zs ++ flat_otherwise (shape_otherwise j e) ++ g y ∷ []) (block_flat b i)
        ∙ ap (λ (zs : List Spot). map g xs ++ zs ++ g y ∷ []) (otherwise_flat e j)
        ∙ ap (λ (zs : List Spot). zs ++ g y ∷ []) (sym (map-append g xs ys))
        ∙ sym (map-append g (xs ++ ys) (y ∷ [])))

    otherwise_flat : (e : t.Otherwise) (k : ℕ) →
        flat_otherwise (shape_otherwise k e) ≡ map g (written.flat_otherwise lines k e)
    otherwise_flat t.no_else k = refl
    otherwise_flat (t.else_with b) k =
        ap (λ (zs : List Spot). g (written.spot lines k (w.Branches w.Else)) ∷ zs) (block_flat b (k + 1))

    loop_flat : (c : t.Controlled) (f : Phrase) (k j : ℕ) →
        flat_loop (head_at k f) (shape_controlled j c) ≡ map g (written.flat_loop lines k f j c)
    loop_flat (t.further h c) f k j =
        ap (λ (zs : List Spot). for_at (head_at k f) false ∷ zs) (loop_flat c h j (j + length (spell_phrase h)))
    loop_flat (t.repeated b) f k j =
        let y : w.Spot = written.spot lines (j + 1 + length (spell_block b)) (w.Loops w.Next) in
        ap (λ (zs : List Spot). for_at (head_at k f) true ∷ zs)
        (ap (λ (zs : List Spot). zs ++ g y ∷ []) (block_flat b (j + 1))
        ∙ sym (map-append g (written.flat_block lines (j + 1) b) (y ∷ [])))
    loop_flat (t.single o) f k j = ap (λ (zs : List Spot). for_at (head_at k f) false ∷ zs) (one_flat o j)
    loop_flat t.find f k j = refl
    loop_flat (t.compute ts e) f k j = refl

  -- ---- as many phrases are open

  mutual
    block_phrases : (b : t.Block) (k : ℕ) → phrases_block (shape_block k b) ≡ t.phrases_block b
    block_phrases t.no_statements k = refl
    block_phrases (t.statement s b) k =
        let x = statement_phrases s k in let y = block_phrases b (k + length (spell_statement s)) in rw (x, y) refl

    statement_phrases : (s : t.Statement) (k : ℕ) → phrases_statement (shape_statement k s) ≡ t.phrases_statement s
    statement_phrases (t.alone o) k = one_phrases o k
    statement_phrases (t.loop f c) k = ap suc (controlled_phrases c (k + length (spell_phrase f)))

    one_phrases : (o : t.One) (k : ℕ) → phrases_one (shape_one k o) ≡ t.phrases_one o
    one_phrases (t.simple a) k = refl
    one_phrases (t.branch q b e) k =
        let i = k + 1 + length (spell_question q) in
        let x = block_phrases b i in let y = otherwise_phrases e (i + length (spell_block b)) in rw (x, y) refl

    otherwise_phrases : (e : t.Otherwise) (k : ℕ) → phrases_otherwise (shape_otherwise k e) ≡ t.phrases_otherwise e
    otherwise_phrases t.no_else k = refl
    otherwise_phrases (t.else_with b) k = block_phrases b (k + 1)

    controlled_phrases : (c : t.Controlled) (k : ℕ) → phrases_controlled (shape_controlled k c) ≡ t.phrases_controlled c
    controlled_phrases (t.further h c) k = ap suc (controlled_phrases c (k + length (spell_phrase h)))
    controlled_phrases (t.repeated b) k = block_phrases b (k + 1)
    controlled_phrases (t.single o) k = one_phrases o k
    controlled_phrases t.find k = refl
    controlled_phrases (t.compute ts e) k = refl

-- ---- END

abbrev HasNoEnd : List Spot → Type 0
HasNoEnd [] = Unit {0}
HasNoEnd (s ∷ ss) = (is_end s.place ≡ false) × HasNoEnd ss

no_end_both : (xs ys : List Spot) → HasNoEnd xs → HasNoEnd ys → HasNoEnd (xs ++ ys)
no_end_both [] ys h i = i
no_end_both (x ∷ xs) ys h i = (h.0, no_end_both xs ys h.1 i)

simple_no_end : (x : Place) → is_simple x ≡ true → is_end x ≡ false
simple_no_end (Control End) h = cc
simple_no_end (Control Rattle.ss_program.specs.declared.place.Control.TheVariants.Stop) h = refl
simple_no_end (Control Rattle.ss_program.specs.declared.place.Control.TheVariants.Return) h = refl
simple_no_end x h = refl

no_end_joins : Joins (λ k xs. HasNoEnd xs)
no_end_joins = record { none = λ k. tt; both = λ k xs ys h i. no_end_both xs ys h i; deeper = λ k xs h. h }

no_end_counts : Counts (λ k xs. HasNoEnd xs)
no_end_counts = record {
  inside = 0;
  plain = λ s h. (simple_no_end s.place h, tt);
  bare = λ f. (refl, tt);
  finds = λ l. (refl, tt);
  gathers = λ l e. (refl, tt);
  tells = λ l ts. (refl, tt);
  other = λ l. (refl, tt);
  branches = λ l m q xs h. (refl, no_end_both xs _ h (refl, tt));
  loops = λ m f xs h. (refl, no_end_both xs _ h (refl, tt));
}

ended_more : (s : Spot) (xs : List Spot) → is_end s.place ≡ false → IsEnded xs → IsEnded (s ∷ xs)
ended_more s [] e h = absurd h
ended_more s (x ∷ xs) e h = (e, h)

ended_by : (xs : List Spot) (s : Spot) → HasNoEnd xs → is_end s.place ≡ true → IsEnded (xs ++ s ∷ [])
ended_by [] s h e = e
ended_by (x ∷ xs) s h e = ended_more x (xs ++ s ∷ []) h.0 (ended_by xs s h.1 e)

-- ---- sections of trees

-- a section that a tree writes out, with few parameters and few phrases open at once
pub record IsOfTree (q : Section) : Type 0 where
  pub lines : List ℕ
  pub from : ℕ
  pub block : t.Block
  pub end : ℕ
  pub places : q.places ≡ written.flat_block lines from block ++ record { line = end; place = EndOfSection } ∷ []
  pub few_phrases : t.phrases_block block ≤ 16
  pub few_parameters : parameters_head q.head ≤ 32

pub of_tree : (lines : List ℕ) (k : ℕ) (ts : Tree) (q : Section) → phrases ts ≤ 16 → parameters ts ≤ 32 →
    In q (written.written_from lines k ts) → IsOfTree q
of_tree lines k [] q a b i = absurd i
of_tree lines k (s ∷ ts) q a b (inl e) = subst IsOfTree (sym e) (record {
  lines = lines;
  from = k + length (spell_head s.head) + length (flat_map spell_define s.locals);
  block = s.block;
  end = line lines
      (k + length (spell_head s.head) + length (flat_map spell_define s.locals) + length (spell_block s.block));
  places = refl;
  few_phrases = omega (arith, a);
  few_parameters = omega (arith, b);
})
of_tree lines k (s ∷ ts) q a b (inr i) =
    of_tree lines (k + length (spell_section s)) ts q (omega (arith, a)) (omega (arith, b)) i

module _ (d : Declared) (v : Names) (locals : List Name) (q : Section) (h : IsOfTree q) where
  abbrev pub places : List Spot
  places = map (resolved_spot d v locals) q.places

  abbrev tree : Block
  tree = shape_block d v locals h.lines h.from h.block

  abbrev last : Spot
  last = record { line = h.end; place = Control End }

  places_are : places ≡ flat_block tree ++ last ∷ []
  places_are =
      ap (map (resolved_spot d v locals)) h.places
      ∙ map-append (resolved_spot d v locals) (written.flat_block h.lines h.from h.block)
      (record { line = h.end; place = EndOfSection } ∷ [])
      ∙ ap (λ (zs : List Spot). zs ++ last ∷ []) (sym (block_flat d v locals h.lines h.block h.from))

  -- the next places of its places
  pub tree_steps : AreSteps places 0 places
  tree_steps =
      rw places_are
      (section_steps tree h.end
      (let e = block_phrases d v locals h.lines h.block h.from in let l = h.few_phrases in omega (arith, e, l)))

  -- END is its last place
  pub tree_ended : IsEnded places
  tree_ended =
      rw places_are
      (ended_by (flat_block tree) last (block_passes (λ k xs. HasNoEnd xs) no_end_joins no_end_counts tree) refl)
