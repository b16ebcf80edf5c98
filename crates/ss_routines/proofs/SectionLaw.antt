-- The laws of the reading of sections.
use Rattle.std.proofs.Common.{◌≡◌, ℕ, zero, suc, ◌≤◌, ◌<◌, Bool, true, false, List, [], ◌∷◌, ◌++◌, length, Option}
use Rattle.std.proofs.Common.{Some, None, Ok, refl, sym, ap, ◌∙◌, append_assoc, arith}
use Rattle.std.specs.List.{flat_map}
use Rattle.std.proofs.lemmas.List.{append-nil}
use Rattle.ss_words.specs.declared.mark.Mark.TheVariants as m
use Rattle.ss_words.specs.declared.word.Sign.TheVariants as s
use Rattle.ss_words.specs.declared.reserved.Reserved.TheVariants as r
use Rattle.ss_words.specs.declared.refusal.Refusal.TheVariants.{PastLimit}
use Rattle.ss_words.specs.Plain.{Plain, mark, first}
use Rattle.ss_words.specs.Lists.{Name, Several, spell_names, next_name, other_names, names}
use Rattle.ss_words.proofs.Lists as lists
use Rattle.ss_words.proofs.Lists.{names-good, names-local, names-read_back}
use Rattle.ss_words.specs.Reading.{Reading, bind, pure, refuse, look}
use Rattle.ss_words.specs.Marks.{is, expect, eat, a_name}
use Rattle.ss_words.proofs.Laws.{Good, Any, fits_option, spell_option, pure_good, refuse_good}
use Rattle.ss_routines.specs.Combined.{if_mark}
use Rattle.ss_routines.proofs.LimitedParts.{laws_of}
use Rattle.ss_words.proofs.Local.{Rooms, same, more, IsLimited, Local, LocalAt, pure_local, shut_local, bind_local}
use Rattle.ss_words.proofs.Local.{shorter, anywhere, past_at, look_local}
use Rattle.ss_words.proofs.Marks.{spell_mark, expect_good, expect_local, expect_read_back}
use Rattle.ss_words.proofs.ReadBack.{then}
use Rattle.ss_routines.specs.Simple.{Listing, Unwritten, BehindGiven, InParentheses}
use Rattle.ss_routines.specs.SimpleSpelling.{greatest, depth_listing}
use Rattle.ss_routines.specs.Tree.{Block, no_statements, statement, Head, MainHead, RoutineHead, EventHead, SectionTree}
use Rattle.ss_routines.specs.Tree.{Tree, spell_block, spell_statement, spell_head, spell_define, spell_section, spell}
use Rattle.ss_routines.specs.Tree.{depth_head, depth_section, ifs_block, phrases_block, parameters_head}
use Rattle.ss_routines.specs.BlockReading.{block_at}
use Rattle.ss_routines.specs.SectionReading.{head_at, as_variables, a_define, locals, section_at}
use Rattle.ss_routines.specs.Tree.{is_head}
use Rattle.ss_routines.specs.SectionReading.{sections_upto}
use Rattle.ss_routines.proofs.Tally.{Leaves, Tally, plain_word, pure_tally, bind_tally, eat_tally, name_tally}
use Rattle.ss_routines.proofs.Tally.{many_tally}
use Rattle.ss_routines.proofs.Form.{Form, Each, Anything, nothing_form, pair_form, behind_form, made_form}
use Rattle.ss_routines.proofs.Form.{mark_item, star_form}
use Rattle.ss_routines.proofs.Law.{Law, form_of}
use Rattle.ss_routines.proofs.ExprLaw.{Wider, comma_leaves}
use Rattle.ss_routines.proofs.PartingWords.{settled, parts, parts_other, statement_parts, end_ends}
use Rattle.ss_routines.proofs.BlockLaw.{Fits, FitsBlock}
use Rattle.ss_routines.proofs.BlockLevels.{block_law}
use Rattle.ss_routines.proofs.AnnouncedParts.{IsBegun, Keeps, keeps_of, bind_keeps, look_keeps, keeps_at}
use Rattle.ss_routines.proofs.HeadLaw.{AtMostHead, head_keep}
use Rattle.ss_routines.proofs.HeadNear.{head_near, head_takes}
use Rattle.ss_routines.proofs.HeadAgain.{EndsHead, head_again, Counts, IsSpared, Spares, pure_spares, bind_spares}
use Rattle.ss_routines.proofs.HeadAgain.{look_spares, expect_spares, tally_spares, head_spares}

-- ---- local DEFINEs

define_leaves : Leaves 0 (mark (m.Reserved r.Define) ∷ [])
define_leaves = plain_word _ refl refl refl

as_leaves : Leaves 0 (mark (m.Reserved r.As) ∷ [])
as_leaves = plain_word _ refl refl refl

integer_leaves : Leaves 0 (mark (m.Reserved r.Integer) ∷ [])
integer_leaves = plain_word _ refl refl refl

variables_leaves : Leaves 0 (mark (m.Reserved r.Variables) ∷ [])
variables_leaves = plain_word _ refl refl refl

names_depth : (ns : List Name) → greatest (λ v. 0) ns ≤ 0
names_depth [] = omega arith
names_depth (v ∷ ns) = let h = names_depth ns in omega (arith, h)

module _ (rooms : Rooms) (n : ℕ) where
  next_tally : Tally n next_name
  unfolding next_name
  next_tally =
      bind_tally n _ (elim [
        | true ↦ bind_tally n _ (λ v. pure_tally n (Some v)) a_name
            (name_tally n)
        | false ↦ pure_tally n None
      ]) (eat (m.Sign s.Comma)) (eat_tally n (m.Sign s.Comma) comma_leaves)

  others_tally : Tally n other_names
  unfolding other_names
  others_tally = many_tally n next_name [] (λ v vs. v ∷ vs) next_tally

  names_tally : Tally n names
  unfolding names
  names_tally =
      bind_tally n _ (λ v. bind_tally n _ (λ vs. pure_tally n (record { first = v; others = vs })) other_names
      others_tally) a_name (name_tally n)

  abbrev names_form : Form rooms n (Several Name)
  names_form =
      record {
        sp = spell_names;
        fits = Any;
        ends = lists.no_comma;
        p = names;
        p' = names;
        good = names-good;
        near = names-local rooms;
        counted = names_tally;
        again = λ ns y f e. names-read_back ns y e;
      }

  abbrev variables_part : Form rooms n (Unit {0})
  variables_part =
      behind_form (m.Reserved r.As) as_leaves (behind_form (m.Reserved r.Integer) integer_leaves
      (behind_form (m.Reserved r.Variables) variables_leaves (nothing_form rooms n)))

  abbrev define_part : Form rooms n (Several Name)
  define_part =
      made_form (pair_form names_form variables_part (λ u y f e. refl)) (λ ns. spell_names ns ++ variables_part.sp tt)
      Any (λ x. x.0) (λ ns. (ns, tt)) (λ ns. refl) (λ x. refl) (λ x h. tt) (λ ns h. (tt, tt))

  define_law : Law rooms n Any (λ ns. spell_names ns ++ variables_part.sp tt) Anything a_define a_define
  unfolding a_define as_variables
  define_law = let f = define_part in record { good = f.good; near = f.near; counted = f.counted; again = f.again }

  abbrev the_define : Form rooms n (Several Name)
  the_define = form_of rooms n Any (λ ns. spell_names ns ++ variables_part.sp tt) Anything a_define a_define define_law

  abbrev pub FitsLocals : List (Several Name) → Type 0
  FitsLocals ls = Each Any ls

  -- no further DEFINE is there
  abbrev pub NoDefine : List Plain → Type 0
  NoDefine y = is (m.Reserved r.Define) (first y) ≡ false

  pub locals_law : Law rooms n FitsLocals (flat_map spell_define) NoDefine locals locals
  unfolding locals
  locals_law =
      let f = star_form (mark_item (m.Reserved r.Define) define_leaves the_define) (λ ns y. tt) in record
      { good = f.good; near = f.near; counted = f.counted; again = λ a y g e. f.again a y g (tt, e) }

  pub all_locals : (ls : List (Several Name)) → FitsLocals ls
  all_locals [] = tt
  all_locals (ns ∷ ls) = (tt, all_locals ls)

pub define_good : Good Any (λ ns. spell_names ns ++ mark (m.Reserved r.As) ∷ mark (m.Reserved r.Integer) ∷ mark
    (m.Reserved r.Variables) ∷ []) [] a_define
define_good = let l = define_law same 0 in l.good

pub define_item_good : Good (fits_option Any) (spell_option spell_define) [] (if_mark (m.Reserved r.Define) a_define)
define_item_good = let l = laws_of (mark_item (m.Reserved r.Define) define_leaves (the_define same 0)) in l.good

-- ---- a section

-- a section keeps the limits
pub record FitsSection (n i f k : ℕ) (t : SectionTree) : Type 0 where
  pub open_ones : Fits n i f (depth_section t) (ifs_block t.block) (phrases_block t.block)
  pub parameters : parameters_head t.head ≤ suc k

-- sections keep the limits
abbrev pub FitsTree : ℕ → ℕ → ℕ → ℕ → ℕ → Tree → Type 0
FitsTree n i f k j ts = Each (FitsSection n i f k) ts × (length ts ≤ j)

abbrev end : Plain
end = mark (m.Reserved r.End)

abbrev pub of_parts : Head → List (Several Name) → Block → SectionTree
of_parts h ls b = record { head = h; locals = ls; block = b }

some_head : (h : Head) → IsBegun Any spell_section (spell_head h)
some_head h = (
  of_parts h [] no_statements,
  tt,
  end ∷ [],
  ap (λ (u : List Plain). u ++ end ∷ [])
      (append-nil (spell_head h ++ []) ∙ append-nil (spell_head h)),
)

some_locals : (h : Head) (ls : List (Several Name)) → IsBegun Any spell_section
    (spell_head h ++ flat_map spell_define ls)
some_locals h ls = (
  of_parts h ls no_statements,
  tt,
  end ∷ [],
  ap (λ (u : List Plain). u ++ end ∷ [])
      (append-nil (spell_head h ++ flat_map spell_define ls)),
)

some_block : (h : Head) (ls : List (Several Name)) (b : Block)
    → IsBegun Any spell_section ((spell_head h ++ flat_map spell_define ls) ++ spell_block b)
some_block h ls b = (of_parts h ls b, tt, end ∷ [], refl)

some_section : (t : SectionTree) → IsBegun Any spell_section (spell_section t)
some_section t = (t, tt, [], sym (append-nil (spell_section t)))

given_depth : (ps : Listing Name) → depth_listing (λ v. 0) ps ≤ 1
given_depth Unwritten = omega arith
given_depth (BehindGiven ns) = let h = names_depth ns.others in omega (arith, h)
given_depth (InParentheses ns) = let h = names_depth ns.others in omega (arith, h)

head_depth : (h : Head) → depth_head h ≤ 1
head_depth MainHead = omega arith
head_depth (RoutineHead n ps ys) = given_depth ps
head_depth (EventHead n ps b) = given_depth ps

-- another section, if b says that one is there
abbrev pub read_on : ℕ → ℕ → ℕ → ℕ → ℕ → Bool → Reading Tree
read_on n i f k j b =
    elim b [
      | true ↦ bind (section_at n i f (suc k)) (λ t. bind (sections_upto n i f (suc k) j)
          (λ ts. pure (t ∷ ts)))
      | false ↦ pure []
    ]

module _ (n i f k : ℕ) (some_open : 0 < n) where
  section_fits : (h : Head) (ls : List (Several Name)) (b : Block) → AtMostHead (suc k) h → FitsBlock n i f b
      → FitsSection n i f k (of_parts h ls b)
  section_fits h ls b ph fb =
      let d = fb.deep in record {
        open_ones = record {
          deep = omega (arith, d, head_depth h, some_open);
          branches = fb.branches;
          loops = fb.loops;
        };
        parameters = ph;
      }

  abbrev FitsOne : SectionTree → Type 0
  FitsOne t = FitsSection n i f k t

  block_good : Good (FitsBlock n i f) spell_block [] (block_at n i f)
  block_good = let l = block_law n n same refl i i f f refl refl in l.good

  locals_good : Good (FitsLocals same n) (flat_map spell_define) [] locals
  locals_good = let l = locals_law same n in l.good

  pub section_keeps : Keeps FitsOne spell_section [] (section_at n i f (suc k))
  unfolding section_at
  section_keeps =
      bind_keeps (AtMostHead (suc k)) FitsOne spell_head spell_section [] _
      (λ h ph. bind_keeps (FitsLocals same n) FitsOne (flat_map spell_define) spell_section (spell_head h) _ (λ ls pl.
      bind_keeps (FitsBlock n i f) FitsOne spell_block spell_section (spell_head h ++ flat_map spell_define ls) _
      (λ b pb. bind_keeps Any FitsOne (spell_mark (m.Reserved r.End)) spell_section
      ((spell_head h ++ flat_map spell_define ls) ++ spell_block b) _
      (λ u v. keeps_of FitsOne spell_section _ (pure (of_parts h ls b))
      (pure_good FitsOne spell_section _ (of_parts h ls b) (section_fits h ls b ph pb) refl))
      (λ u. some_section (of_parts h ls b)) (expect (m.Reserved r.End))
      (keeps_of Any (spell_mark (m.Reserved r.End)) [] (expect (m.Reserved r.End))
      (expect_good (m.Reserved r.End))))
      (some_block h ls) (block_at n i f) (keeps_of (FitsBlock n i f) spell_block [] (block_at n i f) block_good))
      (some_locals h) locals (keeps_of (FitsLocals same n) (flat_map spell_define) [] locals locals_good))
      some_head (head_at (suc k)) (head_keep k)

  abbrev FitsAll : ℕ → Tree → Type 0
  FitsAll j ts = FitsTree n i f k j ts

  pub sections_keep : (j : ℕ) → Keeps (FitsAll j) spell [] (sections_upto n i f (suc k) j)
  unfolding sections_upto
  sections_keep zero =
      look_keeps (FitsAll 0) spell [] _ ([], (tt, omega arith), [], refl)
      (λ w. keeps_at (FitsAll 0) spell [] w _ (elim (is_head w) as (λ b. Keeps (FitsAll 0) spell []
      (elim b [ true ↦ refuse PastLimit | false ↦ pure [] ])) [
        | true ↦ keeps_of (FitsAll 0) spell [] (refuse PastLimit)
            (refuse_good (FitsAll 0) spell [] PastLimit [] (tt, omega arith) [] refl)
        | false ↦ keeps_of (FitsAll 0) spell [] (pure []) (pure_good (FitsAll 0) spell [] [] (tt, omega arith) refl)
      ]))
  sections_keep (suc j) =
      look_keeps (FitsAll (suc j)) spell [] _ ([], (tt, omega arith), [], refl)
      (λ w. keeps_at (FitsAll (suc j)) spell [] w _ (elim
      (is_head w) as (λ b. Keeps (FitsAll (suc j)) spell []
      (elim b [
        | true ↦ bind (section_at n i f (suc k))
            (λ t. bind (sections_upto n i f (suc k) j) (λ ts. pure (t ∷ ts)))
        | false ↦ pure []
      ])) [
        | true ↦ bind_keeps FitsOne (FitsAll (suc j)) spell_section spell [] _
            (λ t pt. bind_keeps (FitsAll j) (FitsAll (suc j)) spell spell (spell_section t) _
            (λ ts ps. keeps_of (FitsAll (suc j)) spell _ (pure (t ∷ ts))
            (pure_good (FitsAll (suc j)) spell _ (t ∷ ts) ((pt, ps.0), (let a = ps.1 in omega (arith, a))) refl))
            (λ ts. (t ∷ ts, tt, [], sym (append-nil (spell (t ∷ ts)))))
            (sections_upto n i f (suc k) j) (sections_keep j))
            (λ t. (t ∷ [], tt, [], refl)) (section_at n i f (suc k)) section_keeps
        | false ↦ keeps_of (FitsAll (suc j)) spell [] (pure [])
            (pure_good (FitsAll (suc j)) spell [] [] (tt, omega arith) refl)
      ]))

  -- ---- a spelled part is read again

  head_ends : (y : List Plain) → parts (first y) ≡ true → EndsHead y
  head_ends y e =
      let h = settled y e in let c = h.calm in let x =
      c.ends in record {
        no_comma = c.no_comma;
        no_given = c.no_given;
        no_open = x.no_open;
        no_yielding = c.no_yielding;
        no_saving = (parts_other (first y) e).0;
      }

  block_parts : (b : Block) (y : List Plain) → parts (first (spell_block b ++ end ∷ y)) ≡ true
  block_parts no_statements y = refl
  block_parts (statement t b) y =
      let e : (spell_statement t ++ spell_block b) ++ end ∷ y ≡ spell_statement t ++ (spell_block b ++ end ∷ y) =
      append_assoc (spell_statement t) (spell_block b) (end ∷ y) in rw e (statement_parts t (spell_block b ++ end ∷ y))

  locals_end : (ls : List (Several Name)) (b : Block) (y : List Plain)
      → EndsHead (flat_map spell_define ls ++ (spell_block b ++ end ∷ y))
  locals_end [] b y = head_ends (spell_block b ++ end ∷ y) (block_parts b y)
  locals_end (ns ∷ ls) b y =
      record { no_comma = refl; no_given = refl; no_open = refl; no_yielding = refl; no_saving = refl }

  section_again : (t : SectionTree) (y : List Plain) → FitsOne t
      → section_at n i f (suc k) (spell_section t ++ y) ≡ (Ok t, y)
  unfolding section_at pure
  section_again t y h =
      let x = h.open_ones in
      let d = x.deep in
      let z : List Plain = end ∷ y in
      let v = spell_block t.block ++ z in
      let w = flat_map spell_define t.locals ++ v in
      let regroup : spell_section t ++ y ≡ spell_head t.head ++ w = simp append_assoc in
      let lb = block_law n n same refl i i f f refl refl in
      let ll = locals_law same n in
      ap (section_at n i f (suc k)) regroup
      ∙ then (head_at (suc k)) _ t.head (spell_head t.head ++ w) w
      (head_again k t.head w h.parameters (locals_end t.locals t.block y))
      ∙ then locals _ t.locals w v (ll.again t.locals v (all_locals same n t.locals)
      ((parts_other (first v) (block_parts t.block y)).1))
      ∙ then (block_at n i f) _ t.block v z (lb.again t.block z
      (record { deep = omega (arith, d); branches = x.branches; loops = x.loops }) (end_ends y))
      ∙ then (expect (m.Reserved r.End)) _ tt z y (expect_read_back (m.Reserved r.End) y)

  section_first : (t : SectionTree) (y : List Plain) → is_head (first (spell_section t ++ y)) ≡ true
  section_first t y =
      let regroup : spell_section t ++ y ≡ spell_head t.head
      ++ (flat_map spell_define t.locals ++ (spell_block t.block ++ end ∷ y)) =
      simp append_assoc in ap (λ (u : List Plain). is_head (first u)) regroup ∙ at t.head _
    where
      at : (h : Head) (y : List Plain) → is_head (first (spell_head h ++ y)) ≡ true
      at MainHead y = refl
      at (RoutineHead n ps ys) y = refl
      at (EventHead n ps b) y = refl

  pub sections_again : (j : ℕ) (ts : Tree) → FitsAll j ts → sections_upto n i f (suc k) j (spell ts) ≡ (Ok ts, [])
  unfolding sections_upto look pure
  sections_again zero [] h = refl
  sections_again zero (t ∷ ts) h = let a = h.1 in absurd (omega (arith, a))
  sections_again (suc j) [] h = refl
  sections_again (suc j) (t ∷ ts) h =
      let a = h.1 in
      ap (λ (b : Bool). read_on n i f k j b (spell_section t ++ spell ts)) (section_first t (spell ts))
      ∙ then (section_at n i f (suc k)) _ t (spell_section t ++ spell ts) (spell ts) (section_again t (spell ts) h.0.0)
      ∙ then (sections_upto n i f (suc k) j) _ ts (spell ts) [] (sections_again j ts (h.0.1, omega (arith, a)))

  -- ---- no comma and no YIELDING is refused by a limit

  section_spares : Spares (section_at n i f (suc k))
  unfolding section_at
  section_spares =
      let lb = block_law n n same refl i i f f refl refl in
      let ll = locals_law same n in
      bind_spares _ (λ h. bind_spares _ (λ ls. bind_spares _
      (λ b. bind_spares _ (λ u. pure_spares (of_parts h ls b)) (expect (m.Reserved r.End))
      (expect_spares (m.Reserved r.End))) (block_at n i f) (tally_spares n (block_at n i f) lb.counted)) locals
      (tally_spares n locals ll.counted)) (head_at (suc k)) (head_spares (suc k))

  head_counts : (w : Option Plain) (ws : List Plain) (b : Bool) → is_head w ≡ b → first ws ≡ w
      → (let p : Reading Tree = elim b [ true ↦ refuse PastLimit | false ↦ pure [] ] in IsSpared (p ws).0 (p ws).1)
  unfolding refuse pure
  head_counts w ws false e h = tt
  head_counts w [] true e h = tt
  head_counts w (v ∷ ws) true e h = head_word v (ap is_head h ∙ e)
    where
      head_word : (v : Plain) → is_head (Some v) ≡ true → Counts (Some v)
      head_word (mark (m.Reserved r.Main)) e = refl
      head_word (mark (m.Reserved r.Routine)) e = refl
      head_word (mark (m.Reserved r.Event)) e = refl
      head_word _ e = absurd cc

  next_spares : (j : ℕ) → Spares (sections_upto n i f (suc k) j) → (b : Bool) → Spares (read_on n i f k j b)
  next_spares j h true =
      bind_spares _ (λ t. bind_spares _ (λ ts. pure_spares (t ∷ ts)) (sections_upto n i f (suc k) j) h)
      (section_at n i f (suc k)) section_spares
  next_spares j h false = pure_spares []

  pub sections_spare : (j : ℕ) → Spares (sections_upto n i f (suc k) j)
  unfolding sections_upto
  sections_spare zero = look_spares _ (λ w ws e. head_counts w ws (is_head w) refl e)
  sections_spare (suc j) = look_spares _ (λ w ws e. let h = next_spares j (sections_spare j) (is_head w) in h.at ws)

-- ---- a reading looks no further than the word at which it stops

module _ (rooms : Rooms) (n i f k n' i' f' k' : ℕ) (wn : Wider rooms n n') (wi : Wider rooms i i')
    (wf : Wider rooms f f') (wk : Wider rooms k k') where
  pub section_near : Local rooms (section_at n i f (suc k)) (section_at n' i' f' (suc k'))
  unfolding section_at
  section_near =
      let lb = block_law n n' rooms wn i i' f f' wi wf in
      let ll = locals_law rooms n in
      bind_local rooms _ _ (λ h. bind_local rooms _ _ (λ ls. bind_local rooms _ _
      (λ b. bind_local rooms _ _ (λ u. pure_local rooms (of_parts h ls b)) (expect (m.Reserved r.End))
      (expect (m.Reserved r.End)) (expect_local rooms (m.Reserved r.End)))
      (block_at n' i' f') (block_at n i f) lb.near) locals locals ll.near) (head_at (suc k')) (head_at (suc k))
      (head_near rooms k k' wk)

-- the part after a head
abbrev body_at : ℕ → ℕ → ℕ → Head → Reading SectionTree
body_at n i f h =
    bind locals (λ ls. bind (block_at n i f) (λ b. bind (expect (m.Reserved r.End)) (λ u. pure (of_parts h ls b))))

body_same : (n i f : ℕ) (h : Head) → Local same (body_at n i f h) (body_at n i f h)
body_same n i f h =
    let lb = block_law n n same refl i i f f refl refl in
    let ll = locals_law same n in
    bind_local same _ _ (λ ls. bind_local same _ _ (λ b. bind_local same _ _ (λ u. pure_local same (of_parts h ls b))
    (expect (m.Reserved r.End)) (expect (m.Reserved r.End)) (expect_local same (m.Reserved r.End))) (block_at n i f)
    (block_at n i f) lb.near) locals locals ll.near

section_short : (n i f k : ℕ) (w : Plain) (ws : List Plain) → length (head_at (suc k) (w ∷ ws)).1 ≤ length ws
    → length (section_at n i f (suc k) (w ∷ ws)).1 ≤ length ws
unfolding section_at
section_short n i f k w ws le =
    shorter same (body_at n i f) (body_at n i f) (body_same n i f) (head_at (suc k)) (w ∷ ws) (length ws) le

abbrev first_only : Bool → Reading Tree
first_only b = elim b [ true ↦ refuse PastLimit | false ↦ pure [] ]

module _ (n i f k : ℕ) where
  sections_same : (j : ℕ) → Local same (sections_upto n i f (suc k) j) (sections_upto n i f (suc k) j)
  unfolding sections_upto
  sections_same zero =
      look_local same _ _ (λ w. anywhere same w _ _ (elim (is_head w) as (λ b. Local same (first_only b) (first_only b))
      [ true ↦ shut_local | false ↦ pure_local same [] ]))
  sections_same (suc j) =
      look_local same _ _ (λ w. anywhere same w _ _ (elim
      (is_head w) as (λ b. Local same (read_on n i f k j b) (read_on n i f k j b)) [
        | true ↦ bind_local same _ _ (λ t. bind_local same _ _ (λ ts. pure_local same (t ∷ ts))
            (sections_upto n i f (suc k) j) (sections_upto n i f (suc k) j) (sections_same j))
            (section_at n i f (suc k))
            (section_at n i f (suc k)) (section_near same n i f k n i f k refl refl refl refl)
        | false ↦ pure_local same []
      ]))

  -- if one more section may be there, its head is passed
  passes_head : (j : ℕ) (w : Plain) (ws : List Plain) → is_head (Some w) ≡ true
      → length (read_on n i f k j true (w ∷ ws)).1 ≤ length ws
  passes_head j w ws e =
      shorter same (λ t. bind (sections_upto n i f (suc k) j) (λ ts. pure (t ∷ ts)))
      (λ t. bind (sections_upto n i f (suc k) j) (λ ts. pure (t ∷ ts)))
      (λ t. bind_local same _ _ (λ ts. pure_local same (t ∷ ts)) (sections_upto n i f (suc k) j)
      (sections_upto n i f (suc k) j) (sections_same j)) (section_at n i f (suc k)) (w ∷ ws) (length ws)
      (section_passes w ws e)
    where
      section_passes : (w : Plain) (ws : List Plain) → is_head (Some w) ≡ true
          → length (section_at n i f (suc k) (w ∷ ws)).1 ≤ length ws
      section_passes w ws e = section_short n i f k w ws (head_takes k w ws e)

  past_head : (j : ℕ) (w : Option Plain) (b : Bool) → is_head w ≡ b
      → LocalAt more w (first_only b) (read_on n i f k j b)
  past_head j w false e = anywhere more w _ _ (pure_local more [])
  past_head j None true e = absurd cc
  past_head j (Some w) true e = past_at w (read_on n i f k j true) (head_limited w e) (λ ws. passes_head j w ws e)
    where
      head_limited : (w : Plain) → is_head (Some w) ≡ true → IsLimited (Some w)
      head_limited (mark (m.Reserved r.Main)) e = tt
      head_limited (mark (m.Reserved r.Routine)) e = tt
      head_limited (mark (m.Reserved r.Event)) e = tt
      head_limited _ e = absurd cc

module _ (rooms : Rooms) (n i f k n' i' f' k' : ℕ) (wn : Wider rooms n n') (wi : Wider rooms i i')
    (wf : Wider rooms f f') (wk : Wider rooms k k') where
  next_near : (j j' : ℕ) → Local rooms (sections_upto n i f (suc k) j) (sections_upto n' i' f' (suc k') j')
      → Local rooms (sections_upto n i f (suc k) (suc j)) (sections_upto n' i' f' (suc k') (suc j'))
  unfolding sections_upto
  next_near j j' h =
      look_local rooms _ _ (λ w. anywhere rooms w _ _ (elim
      (is_head w) as (λ b. Local rooms (read_on n i f k j b) (read_on n' i' f' k' j' b)) [
        | true ↦ bind_local rooms _ _ (λ t. bind_local rooms _ _ (λ ts. pure_local rooms (t ∷ ts))
            (sections_upto n' i' f' (suc k') j') (sections_upto n i f (suc k) j) h) (section_at n' i' f' (suc k'))
            (section_at n i f (suc k)) (section_near rooms n i f k n' i' f' k' wn wi wf wk)
        | false ↦ pure_local rooms []
      ]))

none_near : (n i f k n' i' f' k' : ℕ) → Local same (sections_upto n i f (suc k) 0) (sections_upto n' i' f' (suc k') 0)
unfolding sections_upto
none_near n i f k n' i' f' k' =
    look_local same _ _ (λ w. anywhere same w _ _ (elim (is_head w) as (λ b. Local same (first_only b) (first_only b))
    [ true ↦ shut_local | false ↦ pure_local same [] ]))

first_near : (n i f k n' i' f' k' j : ℕ) → Local more (sections_upto n i f (suc k) 0)
    (sections_upto n' i' f' (suc k') (suc j))
unfolding sections_upto
first_near n i f k n' i' f' k' j = look_local more _ _ (λ w. past_head n' i' f' k' j w (is_head w) refl)

pub sections_near : (rooms : Rooms) (n i f k n' i' f' k' : ℕ) → Wider rooms n n' → Wider rooms i i' → Wider rooms f f'
    → Wider rooms k k' → (j j' : ℕ) → Wider rooms j j'
    → Local rooms (sections_upto n i f (suc k) j) (sections_upto n' i' f' (suc k') j')
sections_near same n i f k n' i' f' k' wn wi wf wk zero zero w = none_near n i f k n' i' f' k'
sections_near same n i f k n' i' f' k' wn wi wf wk zero (suc j') w = absurd (omega arith)
sections_near same n i f k n' i' f' k' wn wi wf wk (suc j) zero w = absurd (omega arith)
sections_near same n i f k n' i' f' k' wn wi wf wk (suc j) (suc j') w =
    next_near same n i f k n' i' f' k' wn wi wf wk j j'
    (sections_near same n i f k n' i' f' k' wn wi wf wk j j' (omega arith))
sections_near more n i f k n' i' f' k' wn wi wf wk zero zero w = absurd (omega arith)
sections_near more n i f k n' i' f' k' wn wi wf wk zero (suc j') w = first_near n i f k n' i' f' k' j'
sections_near more n i f k n' i' f' k' wn wi wf wk (suc j) zero w = absurd (omega arith)
sections_near more n i f k n' i' f' k' wn wi wf wk (suc j) (suc j') w =
    next_near more n i f k n' i' f' k' wn wi wf wk j j'
    (sections_near more n i f k n' i' f' k' wn wi wf wk j j' (omega arith))
