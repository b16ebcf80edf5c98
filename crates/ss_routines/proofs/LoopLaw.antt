-- The laws of the reading of FOR phrases, of the question of an IF and of COMPUTE.
use Rattle.std.proofs.Common.{◌≡◌, ◌⊎◌, ℕ, ◌≤◌, Bool, false, List, [], ◌∷◌, ◌++◌, Option}
use Rattle.std.proofs.Common.{Some, None, refl, sym, ap, ◌∙◌, append_assoc, arith}
use Rattle.std.specs.List.{flat_map}
use mathlib.Core.Logic.{inl, inr}
use Rattle.ss_words.specs.declared.mark.Mark.TheVariants as m
use Rattle.ss_words.specs.declared.word.Sign.TheVariants as s
use Rattle.ss_words.specs.declared.reserved.Reserved.TheVariants as r
use Rattle.ss_words.specs.Plain.{Plain, name, number, mark, first}
use Rattle.ss_words.specs.Lists.{Name, Several, spell_several}
use Rattle.ss_words.specs.Marks.{is}
use Rattle.ss_words.proofs.Laws.{Any}
use Rattle.ss_words.proofs.Local.{Rooms}
use Rattle.ss_words.specs.declared.terms.Direction.{Direction}
use Rattle.ss_words.specs.declared.terms.Direction.TheVariants.{Onward, Backward}
use Rattle.ss_words.specs.declared.terms.QualifierWord.{QualifierWord}
use Rattle.ss_words.specs.declared.terms.QualifierWord.TheVariants.{With, Unless, While, Until}
use Rattle.ss_words.specs.declared.terms.Statistic.{Statistic}
use Rattle.ss_words.specs.declared.terms.Statistic.TheVariants as statistic
use Rattle.ss_routines.specs.Combined.{several}
use Rattle.ss_words.specs.declared.terms.TermSign.TheVariants.{Plus, Minus}
use Rattle.ss_routines.specs.Expr.{Expr, expr, term, digits, named, applied, within, spell_expr, depth_expr}
use Rattle.ss_routines.specs.ExprReading.{expr_at}
use Rattle.ss_routines.specs.Condition.{Reference, Condition, condition, Conjunction, conjunction, Relation, compared}
use Rattle.ss_routines.specs.Condition.{is_empty, is_in, nested, spell_comparison, spell_copula, spell_reference}
use Rattle.ss_routines.specs.Condition.{spell_condition, spell_alternatives, spell_conjunction, spell_additions}
use Rattle.ss_routines.specs.Condition.{spell_relation, depth_reference, depth_condition}
use Rattle.ss_routines.specs.SimpleSpelling.{greatest, greatest_of, if_there}
use Rattle.ss_routines.specs.SimpleReading.{reference_at}
use Rattle.ss_routines.specs.ConditionReading.{condition_at}
use Rattle.ss_routines.specs.Loops.{WalkStart, AtEnd, From, After, Range, Counting, Each, Walking, Qualifier, Phrase}
use Rattle.ss_routines.specs.Loops.{Computed, Question, Holds, Found, NoneFound, spell_walk_start, spell_direction}
use Rattle.ss_routines.specs.Loops.{spell_order, spell_range, spell_qualifier_word, spell_qualifier}
use Rattle.ss_routines.specs.Loops.{depth_qualifier, depth_phrase, spell_statistic, spell_computed}
use Rattle.ss_routines.specs.Loops.{spell_question, depth_walk_start, depth_range, depth_computed, depth_question}
use Rattle.ss_routines.specs.LoopReading.{qualifier_of, statistic_of, start_of, order_of, direction_of, range_of}
use Rattle.ss_routines.specs.LoopReading.{question_of, start_at, an_order, walk_at, a_direction, counting_at, range_at}
use Rattle.ss_routines.specs.LoopReading.{qualifiers_at, phrase_at, computed_at, compute_at, question_at}
use Rattle.ss_routines.proofs.Tally.{Leaves, plain_word}
use Rattle.ss_routines.proofs.Form.{Form, Item, Each as EachOf, Table, name_form, nothing_form, pair_form, behind_form}
use Rattle.ss_routines.proofs.Form.{before_form, made_form, mark_item, option_form, either_form, star_form, table_item}
use Rattle.ss_routines.proofs.Form.{word_item}
use Rattle.ss_routines.proofs.Items.{ending, made_item, must_form}
use Rattle.ss_routines.proofs.Law.{Law, form_of}
use Rattle.ss_routines.proofs.ExprLaw.{Ends, Wider, EndsList, expr_law, several_law, each_greatest, greatest_each}
use Rattle.ss_routines.proofs.SimpleLaw.{ends_at, reference_law}
use Rattle.ss_routines.proofs.ConditionLaw.{EndsCondition, condition_law}

-- ---- tables

qualifier_there : (w : QualifierWord) → qualifier_of (Some (spell_qualifier_word w)) ≡ Some w
qualifier_there With = refl
qualifier_there Unless = refl
qualifier_there While = refl
qualifier_there Until = refl

qualifier_at : Option QualifierWord → Option Plain
qualifier_at None = None
qualifier_at (Some w) = Some (spell_qualifier_word w)

qualifier_is : (v : Option Plain) (w : QualifierWord) → qualifier_of v ≡ Some w → v ≡ qualifier_at (qualifier_of v)
unfolding qualifier_at
qualifier_is (Some (mark (m.Reserved r.With))) w e = refl
qualifier_is (Some (mark (m.Reserved r.Unless))) w e = refl
qualifier_is (Some (mark (m.Reserved r.While))) w e = refl
qualifier_is (Some (mark (m.Reserved r.Until))) w e = refl
qualifier_is _ w e = absurd cc

qualifier_only : (v : Option Plain) (w : QualifierWord) → qualifier_of v ≡ Some w → v ≡ Some (spell_qualifier_word w)
unfolding qualifier_at
qualifier_only v w e = qualifier_is v w e ∙ ap qualifier_at e

qualifier_leaves : (w : QualifierWord) → Leaves 0 (spell_qualifier_word w ∷ [])
qualifier_leaves With = plain_word _ refl refl refl
qualifier_leaves Unless = plain_word _ refl refl refl
qualifier_leaves While = plain_word _ refl refl refl
qualifier_leaves Until = plain_word _ refl refl refl

abbrev qualifier_table : Table QualifierWord
qualifier_table =
    record {
      of = qualifier_of;
      word = spell_qualifier_word;
      there = qualifier_there;
      only = qualifier_only;
      leaves = qualifier_leaves;
    }

statistic_there : (w : Statistic) → statistic_of (Some (spell_statistic w)) ≡ Some w
statistic_there statistic.Number = refl
statistic_there statistic.Sum = refl
statistic_there statistic.Maximum = refl
statistic_there statistic.Minimum = refl

statistic_at : Option Statistic → Option Plain
statistic_at None = None
statistic_at (Some w) = Some (spell_statistic w)

statistic_is : (v : Option Plain) (w : Statistic) → statistic_of v ≡ Some w → v ≡ statistic_at (statistic_of v)
unfolding statistic_at
statistic_is (Some (mark (m.Reserved r.Number))) w e = refl
statistic_is (Some (mark (m.Reserved r.Sum))) w e = refl
statistic_is (Some (mark (m.Reserved r.Maximum))) w e = refl
statistic_is (Some (mark (m.Reserved r.Minimum))) w e = refl
statistic_is _ w e = absurd cc

statistic_only : (v : Option Plain) (w : Statistic) → statistic_of v ≡ Some w → v ≡ Some (spell_statistic w)
unfolding statistic_at
statistic_only v w e = statistic_is v w e ∙ ap statistic_at e

statistic_leaves : (w : Statistic) → Leaves 0 (spell_statistic w ∷ [])
statistic_leaves statistic.Number = plain_word _ refl refl refl
statistic_leaves statistic.Sum = plain_word _ refl refl refl
statistic_leaves statistic.Maximum = plain_word _ refl refl refl
statistic_leaves statistic.Minimum = plain_word _ refl refl refl

abbrev statistic_table : Table Statistic
statistic_table =
    record {
      of = statistic_of;
      word = spell_statistic;
      there = statistic_there;
      only = statistic_only;
      leaves = statistic_leaves;
    }

-- no part of a FOR phrase goes on there
pub record Quiet (y : List Plain) : Type 0 where
  pub condition : EndsCondition y
  pub no_by : is (m.Reserved r.By) (first y) ≡ false
  pub no_called : is (m.Reserved r.Called) (first y) ≡ false
  pub no_in : is (m.Reserved r.In) (first y) ≡ false
  pub no_from : is (m.Reserved r.From) (first y) ≡ false
  pub no_after : is (m.Reserved r.After) (first y) ≡ false

-- ---- the first word of an expression and of a condition

module _ (t : Option Plain → Bool) (no_number : (i : ℕ) → t (Some (number i)) ≡ false)
    (no_name : (v : Name) → t (Some (name v)) ≡ false)
    (no_open : t (Some (mark (m.Sign s.Open))) ≡ false) (no_plus : t (Some (mark (m.Sign s.Plus))) ≡ false)
    (no_minus : t (Some (mark (m.Sign s.Minus))) ≡ false) where
  expr_first : (e : Expr) (y : List Plain) → t (first (spell_expr e ++ y)) ≡ false
  expr_first (expr (Some Plus) p ss) y = no_plus
  expr_first (expr (Some Minus) p ss) y = no_minus
  expr_first (expr None (term (digits i) ps) ss) y = no_number i
  expr_first (expr None (term (named v) ps) ss) y = no_name v
  expr_first (expr None (term (applied v e es) ps) ss) y = no_name v
  expr_first (expr None (term (within e) ps) ss) y = no_open

  relation_first : (q : Relation) (y : List Plain) → t (first (spell_relation q ++ y)) ≡ false
  relation_first (compared e c f) y =
      ap (λ (u : List Plain). t (first u)) (append_assoc (spell_expr e) (spell_comparison c ∷ spell_expr f) y)
      ∙ expr_first e _
  relation_first (is_empty v c) y = no_name v.name
  relation_first (is_in e c v) y =
      let regroup : (spell_expr e ++ spell_copula c ++ mark (m.Reserved r.In) ∷ spell_reference v) ++ y ≡ spell_expr e
      ++ (spell_copula c ++ (mark (m.Reserved r.In) ∷ (spell_reference v ++ y))) = simp append_assoc in
      ap (λ (u : List Plain). t (first u)) regroup ∙ expr_first e _
  relation_first (nested c) y = no_open

  conjunction_first : (c : Conjunction) (y : List Plain) → t (first (spell_conjunction c ++ y)) ≡ false
  conjunction_first (conjunction q qs) y =
      ap (λ (u : List Plain). t (first u)) (append_assoc (spell_relation q) (spell_additions qs) y) ∙ relation_first q _

  pub condition_first : (c : Condition) (y : List Plain) → t (first (spell_condition c ++ y)) ≡ false
  condition_first (condition c cs) y =
      ap (λ (u : List Plain). t (first u)) (append_assoc (spell_conjunction c) (spell_alternatives cs) y)
      ∙ conjunction_first c _

module _ (rooms : Rooms) (n k : ℕ) (w : Wider rooms n k) where
  abbrev value : Form rooms n Expr
  value = form_of rooms n (λ e. depth_expr e ≤ n) spell_expr Ends (expr_at n) (expr_at k) (expr_law rooms n k w)

  abbrev EndsName : List Plain → Type 0
  EndsName y = is (m.Sign s.Open) (first y) ≡ false

  abbrev target : Form rooms n Reference
  target =
      form_of rooms n (λ v. depth_reference v ≤ n) spell_reference EndsName (reference_at n) (reference_at k)
      (reference_law rooms n k w)

  abbrev a_condition : Form rooms n Condition
  a_condition =
      form_of rooms n (λ c. depth_condition c ≤ n) spell_condition EndsCondition (condition_at n) (condition_at k)
      (condition_law rooms n k w)

  abbrev OfForm : {A : Type 0} (F : Form rooms n A) → Law rooms n F.fits F.sp F.ends F.p F.p'
  OfForm F = record { good = F.good; near = F.near; counted = F.counted; again = F.again }

  -- ---- the question of an IF

  found_leaves : Leaves 0 (mark (m.Reserved r.Found) ∷ [])
  found_leaves = plain_word _ refl refl refl

  none_leaves : Leaves 0 (mark (m.Reserved r.NoneFound) ∷ [])
  none_leaves = plain_word _ refl refl refl

  from_leaves : Leaves 0 (mark (m.Reserved r.From) ∷ [])
  from_leaves = plain_word _ refl refl refl

  after_leaves : Leaves 0 (mark (m.Reserved r.After) ∷ [])
  after_leaves = plain_word _ refl refl refl

  in_leaves : Leaves 0 (mark (m.Reserved r.In) ∷ [])
  in_leaves = plain_word _ refl refl refl

  reverse_leaves : Leaves 0 (mark (m.Reserved r.Reverse) ∷ [])
  reverse_leaves = plain_word _ refl refl refl

  order_leaves : Leaves 0 (mark (m.Reserved r.Order) ∷ [])
  order_leaves = plain_word _ refl refl refl

  called_leaves : Leaves 0 (mark (m.Reserved r.Called) ∷ [])
  called_leaves = plain_word _ refl refl refl

  back_leaves : Leaves 0 (mark (m.Reserved r.Back) ∷ [])
  back_leaves = plain_word _ refl refl refl

  to_leaves : Leaves 0 (mark (m.Reserved r.To) ∷ [])
  to_leaves = plain_word _ refl refl refl

  by_leaves : Leaves 0 (mark (m.Reserved r.By) ∷ [])
  by_leaves = plain_word _ refl refl refl

  every_leaves : Leaves 0 (mark (m.Reserved r.Every) ∷ [])
  every_leaves = plain_word _ refl refl refl

  as_leaves : Leaves 0 (mark (m.Reserved r.As) ∷ [])
  as_leaves = plain_word _ refl refl refl

  equal_leaves : Leaves 0 (mark (m.Sign s.Equal) ∷ [])
  equal_leaves = plain_word _ refl refl refl

  abbrev condition_or_none : Form rooms n (Unit {0} ⊎ Condition)
  condition_or_none =
      either_form (mark_item (m.Reserved r.NoneFound) none_leaves (nothing_form rooms n)) a_condition
      (λ c y f e. condition_first (is (m.Reserved r.NoneFound)) (λ i. refl) (λ v. refl) refl refl refl c y)

  not_found : (b : Unit {0} ⊎ Condition) (y : List Plain)
      → is (m.Reserved r.Found) (first (condition_or_none.sp b ++ y)) ≡ false
  not_found (inl u) y = refl
  not_found (inr c) y = condition_first (is (m.Reserved r.Found)) (λ i. refl) (λ v. refl) refl refl refl c y

  abbrev question_part : Form rooms n (Unit {0} ⊎ (Unit {0} ⊎ Condition))
  question_part =
      either_form (mark_item (m.Reserved r.Found) found_leaves (nothing_form rooms n)) condition_or_none
      (λ b y f e. not_found b y)

  split_question : Question → Unit {0} ⊎ (Unit {0} ⊎ Condition)
  split_question Found = inl tt
  split_question NoneFound = inr (inl tt)
  split_question (Holds c) = inr (inr c)

  whole_question : (q : Question) → question_of (split_question q) ≡ q
  unfolding split_question
  whole_question Found = refl
  whole_question NoneFound = refl
  whole_question (Holds c) = refl

  question_spelled : (x : Unit {0} ⊎ (Unit {0} ⊎ Condition)) → spell_question (question_of x) ≡ question_part.sp x
  question_spelled (inl u) = refl
  question_spelled (inr (inl u)) = refl
  question_spelled (inr (inr c)) = refl

  question_there : (x : Unit {0} ⊎ (Unit {0} ⊎ Condition)) → question_part.fits x → depth_question (question_of x) ≤ n
  question_there (inl u) h = omega arith
  question_there (inr (inl u)) h = omega arith
  question_there (inr (inr c)) h = h

  question_back : (q : Question) → depth_question q ≤ n → question_part.fits (split_question q)
  unfolding split_question
  question_back Found h = tt
  question_back NoneFound h = tt
  question_back (Holds c) h = h

  pub question_law : Law rooms n (λ q. depth_question q ≤ n) spell_question EndsCondition (question_at n)
      (question_at k)
  unfolding question_at
  question_law =
      let f = made_form question_part spell_question (λ q. depth_question q ≤ n) question_of split_question
      whole_question question_spelled question_there question_back in
      record { good = f.good; near = f.near; counted = f.counted; again = λ a y h e. f.again a y h (tt, (tt, e)) }

  -- ---- COMPUTE

  abbrev computed_part : Form rooms n (Reference × Statistic)
  computed_part =
      pair_form (before_form target (m.Reserved r.As) as_leaves (λ y. refl))
      (must_form (table_item rooms n statistic_table) statistic.Number tt) (λ b y f e. tt)

  computed_law : Law rooms n (λ t. depth_computed t ≤ n) spell_computed (λ y. Unit {0}) (computed_at n) (computed_at k)
  unfolding computed_at
  computed_law =
      let f = made_form computed_part spell_computed (λ t. depth_computed t ≤ n)
      (λ x. record { target = x.0; statistic = x.1 }) (λ t. (t.target, t.statistic)) (λ t. refl)
      (λ x. sym (append_assoc (spell_reference x.0) (mark (m.Reserved r.As) ∷ []) (spell_statistic x.1 ∷ [])))
      (λ x h. h.0) (λ t h. (h, tt)) in
      record { good = f.good; near = f.near; counted = f.counted; again = f.again }

  abbrev several_computed : Form rooms n (Several Computed)
  several_computed =
      form_of rooms n (λ ts. greatest_of depth_computed ts ≤ n) (spell_several spell_computed)
      (EndsList (λ y. Unit {0})) (several (computed_at n)) (several (computed_at k))
      (several_law depth_computed spell_computed (λ y. Unit {0}) (computed_at n) (computed_at k) computed_law (λ y. tt))

  abbrev compute_part : Form rooms n (Several Computed × Expr)
  compute_part =
      pair_form (before_form several_computed (m.Reserved r.In) in_leaves (λ y. (tt, refl))) value (λ b y f e. tt)

  -- the words after COMPUTE
  abbrev pub ComputeWords : Several Computed × Expr → List Plain
  ComputeWords x = (spell_several spell_computed x.0 ++ mark (m.Reserved r.In) ∷ []) ++ spell_expr x.1

  abbrev pub ComputeFits : Several Computed × Expr → Type 0
  ComputeFits x = (greatest_of depth_computed x.0 ≤ n) × (depth_expr x.1 ≤ n)

  pub compute_law : Law rooms n ComputeFits ComputeWords Ends (compute_at n) (compute_at k)
  unfolding compute_at
  compute_law = OfForm compute_part

  -- ---- the start of a walk, and its order

  abbrev EndsStart : List Plain → Type 0
  EndsStart y = Ends y × (is (m.Reserved r.From) (first y) ≡ false) × (is (m.Reserved r.After) (first y) ≡ false)

  abbrev after_part : Form rooms n (Option Expr)
  after_part = ending (option_form (mark_item (m.Reserved r.After) after_leaves value)) EndsStart (λ y e. (e.0, e.2))

  not_from : (b : Option Expr) (y : List Plain) → EndsStart y
      → is (m.Reserved r.From) (first (after_part.sp b ++ y)) ≡ false
  not_from None y e = e.1
  not_from (Some x) y e = refl

  abbrev start_part : Form rooms n (Expr ⊎ Option Expr)
  start_part =
      ending (either_form (mark_item (m.Reserved r.From) from_leaves value) after_part (λ b y f e. not_from b y e))
      EndsStart (λ y e. (e.0, e))

  split_start : WalkStart → Expr ⊎ Option Expr
  split_start AtEnd = inr None
  split_start (From e) = inl e
  split_start (After e) = inr (Some e)

  whole_start : (b : WalkStart) → start_of (split_start b) ≡ b
  unfolding split_start
  whole_start AtEnd = refl
  whole_start (From e) = refl
  whole_start (After e) = refl

  start_spelled : (x : Expr ⊎ Option Expr) → spell_walk_start (start_of x) ≡ start_part.sp x
  start_spelled (inl e) = refl
  start_spelled (inr None) = refl
  start_spelled (inr (Some e)) = refl

  start_there : (x : Expr ⊎ Option Expr) → start_part.fits x → depth_walk_start (start_of x) ≤ n
  start_there (inl e) h = h
  start_there (inr None) h = omega arith
  start_there (inr (Some e)) h = h

  start_back : (b : WalkStart) → depth_walk_start b ≤ n → start_part.fits (split_start b)
  unfolding split_start
  start_back AtEnd h = tt
  start_back (From e) h = h
  start_back (After e) h = h

  start_law : Law rooms n (λ b. depth_walk_start b ≤ n) spell_walk_start EndsStart (start_at n) (start_at k)
  unfolding start_at
  start_law =
      OfForm (made_form start_part spell_walk_start (λ b. depth_walk_start b ≤ n) start_of split_start whole_start
      start_spelled start_there start_back)

  abbrev the_start : Form rooms n WalkStart
  the_start =
      form_of rooms n (λ b. depth_walk_start b ≤ n) spell_walk_start EndsStart (start_at n) (start_at k) start_law

  abbrev order_part : Form rooms n (Option (Unit {0}))
  order_part =
      option_form (mark_item (m.Reserved r.In) in_leaves
      (behind_form (m.Reserved r.Reverse) reverse_leaves
      (behind_form (m.Reserved r.Order) order_leaves (nothing_form rooms n))))

  split_order : Direction → Option (Unit {0})
  split_order Onward = None
  split_order Backward = Some tt

  whole_order : (d : Direction) → order_of (split_order d) ≡ d
  unfolding split_order
  whole_order Onward = refl
  whole_order Backward = refl

  order_spelled : (x : Option (Unit {0})) → spell_order (order_of x) ≡ order_part.sp x
  order_spelled None = refl
  order_spelled (Some u) = refl

  order_back : (d : Direction) → order_part.fits (split_order d)
  unfolding split_order
  order_back Onward = tt
  order_back Backward = tt

  order_law : Law rooms n Any spell_order (λ y. is (m.Reserved r.In) (first y) ≡ false) an_order an_order
  unfolding an_order
  order_law =
      let f = made_form order_part spell_order Any order_of split_order whole_order order_spelled (λ x h. tt)
      (λ d h. order_back d) in
      record { good = f.good; near = f.near; counted = f.counted; again = λ a y h e. f.again a y h (tt, e) }

  abbrev the_order : Form rooms n Direction
  the_order = form_of rooms n Any spell_order (λ y. is (m.Reserved r.In) (first y) ≡ false) an_order an_order order_law

  -- ---- the range of a FOR phrase

  abbrev EndsWalk : List Plain → Type 0
  EndsWalk y = EndsStart y × (is (m.Reserved r.In) (first y) ≡ false)

  start_end : (d : Direction) (y : List Plain) → EndsWalk y → EndsStart (spell_order d ++ y)
  start_end Onward y e = e.0
  start_end Backward y e = (ends_at _ _ refl refl refl, refl, refl)

  abbrev walked : Form rooms n (WalkStart × Direction)
  walked = pair_form the_start (ending the_order EndsWalk (λ y e. e.1)) (λ d y f e. start_end d y e)

  set_end : (x : WalkStart × Direction) (y : List Plain) → EndsWalk y → EndsName (walked.sp x ++ y)
  set_end (AtEnd, Onward) y e = let h = e.0 in let g = h.0 in g.no_open
  set_end (AtEnd, Backward) y e = refl
  set_end (From b, d) y e = refl
  set_end (After b, d) y e = refl

  abbrev in_set : Form rooms n (Reference × (WalkStart × Direction))
  in_set = pair_form target walked (λ x y f e. set_end x y e)

  abbrev EndsCalled : List Plain → Type 0
  EndsCalled y = (is (m.Reserved r.Called) (first y) ≡ false) × (is (m.Reserved r.In) (first y) ≡ false)

  abbrev called_name : Form rooms n (Option Name)
  called_name =
      ending (option_form (mark_item (m.Reserved r.Called) called_leaves (name_form rooms n))) EndsCalled
      (λ y e. (tt, e.0))

  not_in : (b : Option Name) (y : List Plain) → EndsCalled y
      → is (m.Reserved r.In) (first (called_name.sp b ++ y)) ≡ false
  not_in None y e = e.1
  not_in (Some v) y e = refl

  abbrev walk_part : Form rooms n ((Reference × (WalkStart × Direction)) ⊎ Option Name)
  walk_part = either_form (mark_item (m.Reserved r.In) in_leaves in_set) called_name (λ b y f e. not_in b y e)

  walk_law : Law rooms n walk_part.fits walk_part.sp walk_part.ends (walk_at n) (walk_at k)
  unfolding walk_at
  walk_law = OfForm walk_part

  abbrev the_walk : Form rooms n ((Reference × (WalkStart × Direction)) ⊎ Option Name)
  the_walk = form_of rooms n walk_part.fits walk_part.sp walk_part.ends (walk_at n) (walk_at k) walk_law

  abbrev direction_part : Form rooms n (Unit {0} ⊎ Unit {0})
  direction_part =
      either_form (mark_item (m.Reserved r.Back) back_leaves
      (behind_form (m.Reserved r.From) from_leaves (nothing_form rooms n)))
      (behind_form (m.Sign s.Equal) equal_leaves (nothing_form rooms n)) (λ b y f e. refl)

  split_direction : Direction → Unit {0} ⊎ Unit {0}
  split_direction Onward = inr tt
  split_direction Backward = inl tt

  whole_direction : (d : Direction) → direction_of (split_direction d) ≡ d
  unfolding split_direction
  whole_direction Onward = refl
  whole_direction Backward = refl

  direction_spelled : (x : Unit {0} ⊎ Unit {0}) → spell_direction (direction_of x) ≡ direction_part.sp x
  direction_spelled (inl u) = refl
  direction_spelled (inr u) = refl

  direction_back : (d : Direction) → direction_part.fits (split_direction d)
  unfolding split_direction
  direction_back Onward = tt
  direction_back Backward = tt

  direction_law : Law rooms n Any spell_direction (λ y. Unit {0}) a_direction a_direction
  unfolding a_direction
  direction_law =
      let f = made_form direction_part spell_direction Any direction_of split_direction whole_direction
      direction_spelled (λ x h. tt) (λ d h. direction_back d) in
      record { good = f.good; near = f.near; counted = f.counted; again = λ a y h e. f.again a y h (tt, tt) }

  abbrev the_direction : Form rooms n Direction
  the_direction = form_of rooms n Any spell_direction (λ y. Unit {0}) a_direction a_direction direction_law

  abbrev by_part : Form rooms n (Option Expr)
  by_part = option_form (mark_item (m.Reserved r.By) by_leaves value)

  last_end : (b : Option Expr) (y : List Plain) → Ends y × (is (m.Reserved r.By) (first y) ≡ false)
      → Ends (by_part.sp b ++ y)
  last_end None y e = e.0
  last_end (Some x) y e = ends_at _ _ refl refl refl

  abbrev counting_part : Form rooms n (Name × (Direction × (Expr × (Expr × Option Expr))))
  counting_part =
      pair_form (name_form rooms n) (pair_form the_direction
      (pair_form (before_form value (m.Reserved r.To) to_leaves (λ y. ends_at _ y refl refl refl))
      (pair_form value by_part (λ b y f e. last_end b y e)) (λ b y f e. tt)) (λ b y f e. tt)) (λ b y f e. tt)

  counting_law : Law rooms n counting_part.fits counting_part.sp counting_part.ends (counting_at n) (counting_at k)
  unfolding counting_at
  counting_law = OfForm counting_part

  abbrev the_counting : Form rooms n (Name × (Direction × (Expr × (Expr × Option Expr))))
  the_counting =
      form_of rooms n counting_part.fits counting_part.sp counting_part.ends (counting_at n) (counting_at k)
      counting_law

  abbrev RangeParts : Type 0
  RangeParts =
      (Name × ((Reference × (WalkStart × Direction)) ⊎ Option Name))
      ⊎ (Name × (Direction × (Expr × (Expr × Option Expr))))

  abbrev range_part : Form rooms n RangeParts
  range_part =
      either_form (mark_item (m.Reserved r.Every) every_leaves (pair_form (name_form rooms n) the_walk (λ b y f e. tt)))
      the_counting (λ b y f e. refl)

  split_range : Range → RangeParts
  split_range (Counting d v a b c) = inr (v, (d, (a, (b, c))))
  split_range (Each c v) = inl (c, inr v)
  split_range (Walking d c v b) = inl (c, inl (v, (b, d)))

  whole_range : (x : Range) → range_of (split_range x) ≡ x
  unfolding split_range
  whole_range (Counting d v a b c) = refl
  whole_range (Each c v) = refl
  whole_range (Walking d c v b) = refl

  counting_words : (d : Direction) (v : Name) (a b : Expr) (c : Option Expr)
      → spell_range (Counting d v a b c) ≡ counting_part.sp (v, (d, (a, (b, c))))
  counting_words d v a b None =
      let same : spell_direction d ++ spell_expr a ++ mark (m.Reserved r.To) ∷ (spell_expr b ++ []) ≡ spell_direction d
      ++ ((spell_expr a ++ mark (m.Reserved r.To) ∷ []) ++ (spell_expr b ++ [])) = simp append_assoc in
      ap (λ (u : List Plain). name v ∷ u) same
  counting_words d v a b (Some c) =
      let by : List Plain = mark (m.Reserved r.By) ∷ spell_expr c in
      let same : spell_direction d ++ spell_expr a ++ mark (m.Reserved r.To) ∷ (spell_expr b ++ by) ≡ spell_direction d
      ++ ((spell_expr a ++ mark (m.Reserved r.To) ∷ []) ++ (spell_expr b ++ by)) = simp append_assoc in
      ap (λ (u : List Plain). name v ∷ u) same

  range_spelled : (x : RangeParts) → spell_range (range_of x) ≡ range_part.sp x
  range_spelled (inl (c, inl (v, (b, d)))) =
      ap (λ (u : List Plain). mark (m.Reserved r.Every) ∷ name c ∷ mark (m.Reserved r.In) ∷ u)
      (append_assoc (spell_reference v) (spell_walk_start b) (spell_order d))
  range_spelled (inl (c, inr None)) = refl
  range_spelled (inl (c, inr (Some v))) = refl
  range_spelled (inr (v, (d, (a, (b, c))))) = counting_words d v a b c

  range_there : (x : RangeParts) → range_part.fits x → depth_range (range_of x) ≤ n
  range_there (inl (c, inl (v, (b, d)))) h = let i = h.1.0 in let j = h.1.1.0 in omega (arith, i, j)
  range_there (inl (c, inr v)) h = omega arith
  range_there (inr (v, (d, (a, (b, None))))) h = let i = h.1.1.0 in let j = h.1.1.1.0 in omega (arith, i, j)
  range_there (inr (v, (d, (a, (b, Some c))))) h =
      let i = h.1.1.0 in let j = h.1.1.1.0 in let l = h.1.1.1.1 in omega (arith, i, j, l)

  called_fits : (v : Option Name) → called_name.fits v
  called_fits None = tt
  called_fits (Some v) = tt

  by_fits : (c : Option Expr) → if_there depth_expr c ≤ n → by_part.fits c
  by_fits None h = tt
  by_fits (Some c) h = h

  range_back : (x : Range) → depth_range x ≤ n → range_part.fits (split_range x)
  unfolding split_range
  range_back (Counting d v a b c) h = (tt, (tt, (omega (arith, h), (omega (arith, h), by_fits c (omega (arith, h))))))
  range_back (Each c v) h = (tt, called_fits v)
  range_back (Walking d c v b) h = (tt, (omega (arith, h), (omega (arith, h), tt)))

  quiet_ends : (y : List Plain) → Quiet y → Ends y
  quiet_ends y e = let c = e.condition in let v = c.0 in v.0

  range_law : Law rooms n (λ x. depth_range x ≤ n) spell_range Quiet (range_at n) (range_at k)
  unfolding range_at
  range_law =
      let f = made_form range_part spell_range (λ x. depth_range x ≤ n) range_of split_range whole_range range_spelled
      range_there range_back in
      record {
        good = f.good;
        near = f.near;
        counted = f.counted;
        again = λ a y h e.
            let g = quiet_ends y e in
            f.again a y h ((((g, e.no_from, e.no_after), e.no_in), (e.no_called, e.no_in)), (g, e.no_by));
      }

  abbrev the_range : Form rooms n Range
  the_range = form_of rooms n (λ x. depth_range x ≤ n) spell_range Quiet (range_at n) (range_at k) range_law

  -- ---- qualifiers

  abbrev qualifier_item : Item rooms n Qualifier
  qualifier_item =
      made_item (word_item qualifier_table a_condition) spell_qualifier (λ q. depth_qualifier q ≤ n)
      (λ x. record { word = x.0; condition = x.1 }) (λ q. (q.word, q.condition)) (λ q. refl) (λ x. refl) (λ x h. h)
      (λ q h. h)

  quiet_word : (j : QualifierWord) (y : List Plain) → Quiet (spell_qualifier_word j ∷ y)
  quiet_word With y =
      record {
        condition = ((ends_at _ _ refl refl refl, refl, refl), refl, refl);
        no_by = refl;
        no_called = refl;
        no_in = refl;
        no_from = refl;
        no_after = refl;
      }
  quiet_word Unless y =
      record {
        condition = ((ends_at _ _ refl refl refl, refl, refl), refl, refl);
        no_by = refl;
        no_called = refl;
        no_in = refl;
        no_from = refl;
        no_after = refl;
      }
  quiet_word While y =
      record {
        condition = ((ends_at _ _ refl refl refl, refl, refl), refl, refl);
        no_by = refl;
        no_called = refl;
        no_in = refl;
        no_from = refl;
        no_after = refl;
      }
  quiet_word Until y =
      record {
        condition = ((ends_at _ _ refl refl refl, refl, refl), refl, refl);
        no_by = refl;
        no_called = refl;
        no_in = refl;
        no_from = refl;
        no_after = refl;
      }

  next_qualifier : (q : Qualifier) (y : List Plain) → EndsCondition (spell_qualifier q ++ y)
  next_qualifier q y = let h = quiet_word q.word (spell_condition q.condition ++ y) in h.condition

  abbrev qualifiers_part : Form rooms n (List Qualifier)
  qualifiers_part = star_form qualifier_item next_qualifier

  -- no part of a FOR phrase and no qualifier goes on there
  abbrev pub EndsPhrase : List Plain → Type 0
  EndsPhrase y = Quiet y × (qualifier_of (first y) ≡ None)

  qualifiers_law : Law rooms n qualifiers_part.fits qualifiers_part.sp EndsPhrase (qualifiers_at n) (qualifiers_at k)
  unfolding qualifiers_at
  qualifiers_law =
      let f = qualifiers_part in record {
        good = f.good;
        near = f.near;
        counted = f.counted;
        again = λ a y h e. f.again
            a y h (let q = e.0 in q.condition, e.1);
      }

  abbrev the_qualifiers : Form rooms n (List Qualifier)
  the_qualifiers =
      form_of rooms n qualifiers_part.fits qualifiers_part.sp EndsPhrase (qualifiers_at n) (qualifiers_at k)
      qualifiers_law

  range_end : (qs : List Qualifier) (y : List Plain) → EndsPhrase y → Quiet (flat_map spell_qualifier qs ++ y)
  range_end [] y e = e.0
  range_end (q ∷ qs) y e = quiet_word q.word ((spell_condition q.condition ++ flat_map spell_qualifier qs) ++ y)

  each_qualifier : (qs : List Qualifier) → EachOf (λ q. depth_qualifier q ≤ n) qs → greatest depth_qualifier qs ≤ n
  each_qualifier qs h = each_greatest depth_qualifier n qs h

  -- the words of a phrase after FOR
  abbrev pub PhraseWords : Phrase → List Plain
  PhraseWords f = spell_range f.range ++ flat_map spell_qualifier f.qualifiers

  pub phrase_law : Law rooms n (λ f. depth_phrase f ≤ n) PhraseWords EndsPhrase (phrase_at n) (phrase_at k)
  unfolding phrase_at
  phrase_law =
      OfForm (made_form (pair_form the_range the_qualifiers (λ qs y f e. range_end qs y e)) PhraseWords
      (λ f. depth_phrase f ≤ n) (λ x. record { range = x.0; qualifiers = x.1 }) (λ f. (f.range, f.qualifiers))
      (λ f. refl) (λ x. refl) (λ x h. let i = h.0 in let j = each_qualifier x.1 h.1 in omega (arith, i, j))
      (λ f h. (omega (arith, h), greatest_each depth_qualifier n f.qualifiers (omega (arith, h)))))
