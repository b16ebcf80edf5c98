-- The laws of the reading of conditions.
use Rattle.std.proofs.Common.{◌≡◌, ◌⊎◌, ℕ, zero, suc, ◌≤◌, true, false, List, [], ◌∷◌, ◌++◌}
use Rattle.std.proofs.Common.{Option, Some, None, Ok, refl, sym, ap, subst, ◌∙◌, append_assoc, arith}
use Rattle.std.specs.List.{flat_map}
use Rattle.std.proofs.lemmas.List.{append-nil}
use mathlib.Core.Logic.{inl, inr}
use Rattle.ss_words.specs.declared.mark.Mark.TheVariants as m
use Rattle.ss_words.specs.declared.word.Sign.TheVariants as s
use Rattle.ss_words.specs.declared.reserved.Reserved.TheVariants as r
use Rattle.ss_words.specs.declared.refusal.Refusal.TheVariants.{Unexpected, PastLimit}
use Rattle.ss_words.specs.Plain.{Plain, name, number, mark, first}
use Rattle.ss_words.specs.Reading.{Read, Reading, bind, pure, refuse}
use Rattle.ss_words.specs.Marks.{is, expect, eat}
use Rattle.ss_words.proofs.Laws.{Good, Any, fits_option, spell_option, pure_good, refuse_good, bind_good, then_good}
use Rattle.ss_words.proofs.Local.{Rooms, same, more, Local, pure_local, refuse_local, bind_local}
use Rattle.ss_words.proofs.Marks.{spell_mark, spell_eaten, expect_good, eat_good, expect_local, eat_local}
use Rattle.ss_words.proofs.Marks.{expect_read_back, eat_read_back, not_eaten}
use Rattle.ss_words.proofs.ReadBack.{then}
use Rattle.ss_words.specs.declared.terms.TermSign.{TermSign}
use Rattle.ss_words.specs.declared.terms.TermSign.TheVariants.{Plus, Minus}
use Rattle.ss_words.specs.declared.terms.Comparison.{Comparison}
use Rattle.ss_words.specs.declared.terms.Comparison.TheVariants.{Equal, Unequal, Less, Greater, AtMost, AtLeast}
use Rattle.ss_words.specs.declared.terms.Copula.{Copula}
use Rattle.ss_words.specs.declared.terms.Copula.TheVariants.{Is, IsNot}
use Rattle.ss_routines.specs.Combined.{by_table, if_open, if_mark, star}
use Rattle.ss_routines.specs.Expr.{Expr, expr, no_sums, Term, term, no_products, Factor, digits, named}
use Rattle.ss_routines.specs.Expr.{applied, within, no_exprs, sign, spell_within, spell_expr, spell_term}
use Rattle.ss_routines.specs.Expr.{spell_factor, spell_sums, depth_expr}
use Rattle.ss_routines.specs.Expr.{sums_of, products_of}
use Rattle.ss_routines.specs.ExprReading.{expr_at, rest_with}
use Rattle.ss_routines.specs.Condition.{Reference, Condition, condition, Alternatives, no_alternatives, alternative}
use Rattle.ss_routines.specs.Condition.{Conjunction, conjunction, Additions, no_additions, addition, Relation, compared}
use Rattle.ss_routines.specs.Condition.{is_empty, is_in, nested, spell_reference, spell_comparison}
use Rattle.ss_routines.specs.Condition.{spell_copula, spell_condition, spell_alternatives, spell_conjunction}
use Rattle.ss_routines.specs.Condition.{spell_additions, spell_relation, depth_reference, depth_condition}
use Rattle.ss_routines.specs.Condition.{depth_alternatives, depth_conjunction, depth_additions, depth_relation}
use Rattle.ss_routines.specs.SimpleReading.{reference_at}
use Rattle.ss_routines.specs.ConditionReading.{comparison_of, reference_of, copula}
use Rattle.ss_routines.specs.Condition.{alternatives_of, additions_of}
use Rattle.ss_routines.specs.ConditionReading.{set_with, behind_value, value_with, relation_with, conjoined_with}
use Rattle.ss_routines.specs.ConditionReading.{conjunction_with, either_with, either_at, condition_at}
use Rattle.ss_routines.proofs.Tally.{Leaves, Tally, plain_word, pure_tally, refuse_tally, bind_tally, expect_tally}
use Rattle.ss_routines.proofs.Tally.{eat_tally}
use Rattle.ss_routines.proofs.Form.{Form, Table, table_sp, table_any, table_near, table_counted, table_goes}
use Rattle.ss_routines.proofs.Form.{table_stops, mark_item, star_form}
use Rattle.ss_routines.proofs.Law.{Law, form_of, OpenLaw, open_law, shut_law, shut_more_law}
use Rattle.ss_routines.proofs.ExprLaw.{Ends, Wider, ExprLaw, expr_law, list_products, products_list, spell_products_of}
use Rattle.ss_routines.proofs.ExprLaw.{list_sums, sums_list, spell_sums_of, products_fit, fit_products, sums_fit}
use Rattle.ss_routines.proofs.ExprLaw.{fit_sums, RestSpelled, RestFits, rest_law}
use Rattle.ss_routines.proofs.SimpleLaw.{ends_at, reference_law}

-- ---- words

pub comparison_there : (c : Comparison) → comparison_of (Some (spell_comparison c)) ≡ Some c
comparison_there Equal = refl
comparison_there Unequal = refl
comparison_there Less = refl
comparison_there Greater = refl
comparison_there AtMost = refl
comparison_there AtLeast = refl

-- the word of a comparison, if there is one
word_at : Option Comparison → Option Plain
word_at None = None
word_at (Some c) = Some (spell_comparison c)

same_word : (o : Option Comparison) (c : Comparison) → o ≡ Some c → word_at o ≡ Some (spell_comparison c)
unfolding word_at
same_word o c e = ap word_at e

is_word : (v : Option Plain) (c : Comparison) → comparison_of v ≡ Some c → v ≡ word_at (comparison_of v)
unfolding word_at
is_word (Some (mark (m.Sign s.Equal))) c e = refl
is_word (Some (mark (m.Reserved r.Ne))) c e = refl
is_word (Some (mark (m.Sign s.Less))) c e = refl
is_word (Some (mark (m.Sign s.Greater))) c e = refl
is_word (Some (mark (m.Sign s.LessEqual))) c e = refl
is_word (Some (mark (m.Sign s.GreaterEqual))) c e = refl
is_word _ c e = absurd cc

pub comparison_only : (v : Option Plain) (c : Comparison) → comparison_of v ≡ Some c → v ≡ Some (spell_comparison c)
comparison_only v c e = is_word v c e ∙ same_word (comparison_of v) c e

pub comparison_leaves : (c : Comparison) → Leaves 0 (spell_comparison c ∷ [])
comparison_leaves Equal = plain_word _ refl refl refl
comparison_leaves Unequal = plain_word _ refl refl refl
comparison_leaves Less = plain_word _ refl refl refl
comparison_leaves Greater = plain_word _ refl refl refl
comparison_leaves AtMost = plain_word _ refl refl refl
comparison_leaves AtLeast = plain_word _ refl refl refl

abbrev pub comparison_table : Table Comparison
comparison_table =
    record {
      of = comparison_of;
      word = spell_comparison;
      there = comparison_there;
      only = comparison_only;
      leaves = comparison_leaves;
    }

comparison_ends : (c : Comparison) (y : List Plain) → Ends (spell_comparison c ∷ y)
comparison_ends Equal y = ends_at _ y refl refl refl
comparison_ends Unequal y = ends_at _ y refl refl refl
comparison_ends Less y = ends_at _ y refl refl refl
comparison_ends Greater y = ends_at _ y refl refl refl
comparison_ends AtMost y = ends_at _ y refl refl refl
comparison_ends AtLeast y = ends_at _ y refl refl refl

pub is_leaves : Leaves 0 (mark (m.Reserved r.Is) ∷ [])
is_leaves = plain_word _ refl refl refl

pub not_leaves : Leaves 0 (mark (m.Reserved r.Not) ∷ [])
not_leaves = plain_word _ refl refl refl

pub in_leaves : Leaves 0 (mark (m.Reserved r.In) ∷ [])
in_leaves = plain_word _ refl refl refl

pub empty_leaves : Leaves 0 (mark (m.Reserved r.Empty) ∷ [])
empty_leaves = plain_word _ refl refl refl

pub and_leaves : Leaves 0 (mark (m.Reserved r.And) ∷ [])
and_leaves = plain_word _ refl refl refl

pub or_leaves : Leaves 0 (mark (m.Reserved r.Or) ∷ [])
or_leaves = plain_word _ refl refl refl

-- ---- references that are expressions

applied_words : (v : List ℕ) (e : Expr) → spell_expr (expr None (term (applied v e no_exprs) no_products) no_sums)
    ≡ name v ∷ spell_within (spell_expr e)
applied_words v e =
    let close : List Plain = mark (m.Sign s.Close) ∷ [] in
    let inside : (((spell_expr e ++ []) ++ close) ++ []) ++ [] ≡ spell_expr e ++ close =
    append-nil (((spell_expr e ++ []) ++ close) ++ []) ∙ append-nil ((spell_expr e ++ []) ++ close)
    ∙ ap (λ (u : List Plain). u ++ close) (append-nil (spell_expr e)) in
    ap (λ (u : List Plain). name v ∷ mark (m.Sign s.Open) ∷ u) inside

expr_of : Reference → Expr
expr_of v =
    elim v.subscript [
      | None ↦ expr None (term (named v.name) no_products) no_sums
      | Some e ↦ expr None
          (term (applied v.name e no_exprs) no_products) no_sums
    ]

module _ (v : List ℕ) where
  abbrev with_subscript : Option Expr → Reference
  with_subscript o = record { name = v; subscript = o }

  expr_of_is : (o : Option Expr) → reference_of (expr_of (with_subscript o)) ≡ Some (with_subscript o)
  unfolding expr_of
  expr_of_is None = refl
  expr_of_is (Some e) = refl

  expr_of_words : (o : Option Expr) → spell_expr (expr_of (with_subscript o)) ≡ spell_reference (with_subscript o)
  unfolding expr_of
  expr_of_words None = refl
  expr_of_words (Some e) = applied_words v e

  expr_of_depth : (o : Option Expr) → depth_expr (expr_of (with_subscript o)) ≤ depth_reference (with_subscript o)
  unfolding expr_of
  expr_of_depth None = omega arith
  expr_of_depth (Some e) = omega arith

reference_is : (e : Expr) (v : Reference) → reference_of e ≡ Some v → (spell_reference v ≡ spell_expr e)
    × (depth_reference v ≤ depth_expr e)
reference_is (expr None (term (named i) no_products) no_sums) v h =
    let same : (let u : Reference = record { name = i; subscript = None } in u) ≡ v = cc in
    subst (λ (u : Reference). (spell_reference u ≡ name i ∷ []) × (depth_reference u ≤ 0)) same (refl, omega arith)
reference_is (expr None (term (applied i e no_exprs) no_products) no_sums) v h =
    let same : (let u : Reference = record { name = i; subscript = Some e } in u) ≡ v = cc in
    subst (λ (u : Reference). (spell_reference u ≡ spell_expr
    (expr None (term (applied i e no_exprs) no_products) no_sums))
    × (depth_reference u ≤ depth_expr (expr None (term (applied i e no_exprs) no_products) no_sums))) same
    (sym (applied_words i e), omega arith)
reference_is _ v h = absurd cc

-- ---- the part after a value

spell_not : Copula → List Plain
spell_not Is = []
spell_not IsNot = mark (m.Reserved r.Not) ∷ []

copula_words : (c : Copula) → spell_copula c ≡ mark (m.Reserved r.Is) ∷ spell_not c
unfolding spell_not
copula_words Is = refl
copula_words IsNot = refl

copula_good : Good Any spell_not [] copula
unfolding copula spell_not
copula_good =
    bind_good Any Any (spell_eaten (m.Reserved r.Not)) spell_not [] _
    (elim [
      | true ↦ (λ u. pure_good Any spell_not _ IsNot tt refl)
      | false ↦ (λ u. pure_good Any spell_not _ Is tt refl)
    ]) (eat (m.Reserved r.Not)) (eat_good (m.Reserved r.Not))

copula_local : (rooms : Rooms) → Local rooms copula copula
unfolding copula
copula_local rooms =
    bind_local rooms _ _ (elim [ true ↦ pure_local rooms IsNot | false ↦ pure_local rooms Is ]) (eat (m.Reserved r.Not))
    (eat (m.Reserved r.Not)) (eat_local rooms (m.Reserved r.Not))

copula_counted : (n : ℕ) → Tally n copula
unfolding copula
copula_counted n =
    bind_tally n _ (elim [ true ↦ pure_tally n IsNot | false ↦ pure_tally n Is ]) (eat (m.Reserved r.Not))
    (eat_tally n (m.Reserved r.Not) not_leaves)

copula_read_back : (c : Copula) (y : List Plain) → is (m.Reserved r.Not) (first y) ≡ false
    → copula (spell_not c ++ y) ≡ (Ok c, y)
unfolding copula spell_not pure
copula_read_back IsNot y e =
    then (eat (m.Reserved r.Not)) _ true (mark (m.Reserved r.Not) ∷ y) y (eat_read_back (m.Reserved r.Not) y)
copula_read_back Is y e = then (eat (m.Reserved r.Not)) _ false y y (not_eaten (m.Reserved r.Not) y e)

abbrev pub SpellValue : Expr ⊎ Relation → List Plain
SpellValue (inl e) = spell_expr e
SpellValue (inr q) = spell_relation q

abbrev pub SpellConjoined : Expr ⊎ Conjunction → List Plain
SpellConjoined (inl e) = spell_expr e
SpellConjoined (inr c) = spell_conjunction c

abbrev pub SpellEither : Expr ⊎ Condition → List Plain
SpellEither (inl e) = spell_expr e
SpellEither (inr c) = spell_condition c

abbrev pub depth_either : Expr ⊎ Condition → ℕ
depth_either (inl e) = depth_expr e
depth_either (inr c) = depth_condition c

module _ (rooms : Rooms) (n k : ℕ) (w : Wider rooms n k) where
  abbrev FitsExpr : Expr → Type 0
  FitsExpr e = depth_expr e ≤ n

  abbrev FitsReference : Reference → Type 0
  FitsReference v = depth_reference v ≤ n

  abbrev FitsRelation : Relation → Type 0
  FitsRelation q = depth_relation q ≤ n

  abbrev FitsValue : Expr ⊎ Relation → Type 0
  FitsValue (inl e) = depth_expr e ≤ n
  FitsValue (inr q) = depth_relation q ≤ n

  abbrev x : ExprLaw rooms n (expr_at n) (expr_at k)
  x = expr_law rooms n k w

  abbrev v_law : Law rooms n FitsReference spell_reference (λ y. is (m.Sign s.Open) (first y) ≡ false) (reference_at n)
      (reference_at k)
  v_law = reference_law rooms n k w

  empty_good : (e : Expr) (c : Copula) → depth_expr e ≤ n → (o : Option Reference) → reference_of e ≡ o
      → Good FitsRelation spell_relation ((spell_expr e ++ spell_copula c) ++ [])
      (elim o [ Some v ↦ bind (expect (m.Reserved r.Empty)) (λ u. pure (is_empty v c)) | None ↦ refuse Unexpected ])
  empty_good e c h (Some v) is_so =
      let (words, deep) = reference_is e v is_so in
      bind_good Any FitsRelation (spell_mark (m.Reserved r.Empty)) spell_relation _ _
      (λ u f. pure_good FitsRelation spell_relation _ (is_empty v c) (omega (arith, h, deep))
      (ap (λ (z : List Plain). z ++ mark (m.Reserved r.Empty) ∷ []) (append-nil (spell_expr e ++ spell_copula c))
      ∙ ap (λ (z : List Plain). (z ++ spell_copula c) ++ mark (m.Reserved r.Empty) ∷ []) (sym words)))
      (expect (m.Reserved r.Empty)) (expect_good (m.Reserved r.Empty))
  empty_good e c h None is_so =
      refuse_good FitsRelation spell_relation _ Unexpected (is_in e c (record { name = []; subscript = None }))
      (omega (arith, h)) (mark (m.Reserved r.In) ∷ name [] ∷ [])
      (ap (λ (z : List Plain). z ++ mark (m.Reserved r.In) ∷ name [] ∷ [])
      (sym (append-nil (spell_expr e ++ spell_copula c))))

  set_good : (e : Expr) (c : Copula) → depth_expr e ≤ n
      → Good FitsRelation spell_relation (spell_expr e ++ spell_copula c) (set_with n e c)
  unfolding set_with
  set_good e c h = bind_good Any FitsRelation (spell_eaten (m.Reserved r.In)) spell_relation _ _ (elim [
    | true ↦ (λ u. bind_good FitsReference FitsRelation spell_reference spell_relation _ _
        (λ v hv. pure_good FitsRelation spell_relation _ (is_in e c v) (omega (arith, h, hv))
        (append_assoc (spell_expr e ++ spell_copula c) (mark (m.Reserved r.In) ∷ []) (spell_reference v)))
        (reference_at n) v_law.good)
    | false ↦ (λ u. empty_good e c h (reference_of e) refl)
  ]) (eat (m.Reserved r.In)) (eat_good (m.Reserved r.In))

  empty_local : (c : Copula) (o : Option Reference) → Local {A = Relation} rooms
      (elim o [ Some v ↦ bind (expect (m.Reserved r.Empty)) (λ u. pure (is_empty v c)) | None ↦ refuse Unexpected ])
      (elim o [ Some v ↦ bind (expect (m.Reserved r.Empty)) (λ u. pure (is_empty v c)) | None ↦ refuse Unexpected ])
  empty_local c (Some v) =
      bind_local rooms _ _ (λ u. pure_local rooms (is_empty v c)) (expect (m.Reserved r.Empty))
      (expect (m.Reserved r.Empty)) (expect_local rooms (m.Reserved r.Empty))
  empty_local c None = refuse_local rooms

  set_local : (e : Expr) (c : Copula) → Local rooms (set_with n e c) (set_with k e c)
  unfolding set_with
  set_local e c =
      bind_local rooms _ _ (elim [
        | true ↦ bind_local rooms _ _ (λ v. pure_local rooms (is_in e c v)) (reference_at k)
            (reference_at n) v_law.near
        | false ↦ empty_local c (reference_of e)
      ]) (eat (m.Reserved r.In))
      (eat (m.Reserved r.In)) (eat_local rooms (m.Reserved r.In))

  empty_counted : (c : Copula) (o : Option Reference) → Tally {A = Relation} n
      (elim o [ Some v ↦ bind (expect (m.Reserved r.Empty)) (λ u. pure (is_empty v c)) | None ↦ refuse Unexpected ])
  empty_counted c (Some v) =
      bind_tally n _ (λ u. pure_tally n (is_empty v c)) (expect (m.Reserved r.Empty))
      (expect_tally n (m.Reserved r.Empty) empty_leaves)
  empty_counted c None = refuse_tally n

  set_counted : (e : Expr) (c : Copula) → Tally n (set_with n e c)
  unfolding set_with
  set_counted e c =
      bind_tally n _ (elim [
        | true ↦ bind_tally n _ (λ v. pure_tally n (is_in e c v)) (reference_at n)
            v_law.counted
        | false ↦ empty_counted c (reference_of e)
      ]) (eat (m.Reserved r.In))
      (eat_tally n (m.Reserved r.In) in_leaves)

  is_words : (e : Expr) (c : Copula) → ((spell_expr e ++ []) ++ mark (m.Reserved r.Is) ∷ []) ++ spell_not c ≡ spell_expr
      e ++ spell_copula c
  is_words e c =
      ap (λ (z : List Plain). (z ++ mark (m.Reserved r.Is) ∷ []) ++ spell_not c) (append-nil (spell_expr e))
      ∙ append_assoc (spell_expr e) (mark (m.Reserved r.Is) ∷ []) (spell_not c)
      ∙ ap (λ (z : List Plain). spell_expr e ++ z) (sym (copula_words c))

  behind_good : (e : Expr) → depth_expr e ≤ n → Good FitsValue SpellValue (spell_expr e) (behind_value n e)
  unfolding behind_value
  behind_good e h =
      bind_good (fits_option Any) FitsValue (spell_option (table_sp rooms n comparison_table)) SpellValue (spell_expr e)
      _ (elim [
        | Some c ↦ (λ u. bind_good FitsExpr FitsValue spell_expr SpellValue _ _
            (λ f hf. pure_good FitsValue SpellValue _ (inr (compared e c f)) (omega (arith, h, hf))
            (append_assoc (spell_expr e) (spell_comparison c ∷ []) (spell_expr f))) (expr_at n) x.good)
        | None ↦ (λ u. bind_good Any FitsValue (spell_eaten (m.Reserved r.Is)) SpellValue _ _ (elim [
          | true ↦ (λ v. bind_good Any FitsValue spell_not SpellValue _ _
              (λ c f. then_good FitsRelation FitsValue spell_relation SpellValue _ _
              (λ q hq. pure_good FitsValue SpellValue _ (inr q) hq refl) (set_with n e c)
              (subst (λ (z : List Plain). Good FitsRelation spell_relation z (set_with n e c)) (sym (is_words e c))
              (set_good e c h))) copula copula_good)
          | false ↦ (λ v. pure_good FitsValue SpellValue _ (inl e) h
              (append-nil (spell_expr e ++ []) ∙ append-nil (spell_expr e)))
        ]) (eat (m.Reserved r.Is)) (eat_good (m.Reserved r.Is)))
      ]) (by_table comparison_of) (table_any rooms n comparison_table)

  behind_local : (e : Expr) → Local rooms (behind_value n e) (behind_value k e)
  unfolding behind_value
  behind_local e = bind_local rooms _ _ (elim [
    | Some c ↦ bind_local rooms _ _ (λ f. pure_local rooms (inr (compared e c f))) (expr_at k) (expr_at n) x.near
    | None ↦ bind_local rooms _ _ (elim [
      | true ↦ bind_local rooms _ _ (λ c. bind_local rooms _ _ (λ q. pure_local rooms (inr q)) (set_with k e c)
          (set_with n e c) (set_local e c)) copula copula (copula_local rooms)
      | false ↦ pure_local rooms (inl e)
    ]) (eat (m.Reserved r.Is)) (eat (m.Reserved r.Is)) (eat_local rooms (m.Reserved r.Is))
  ]) (by_table comparison_of) (by_table comparison_of) (table_near rooms n comparison_table)

  behind_counted : (e : Expr) → Tally n (behind_value n e)
  unfolding behind_value
  behind_counted e = bind_tally n _ (elim [
    | Some c ↦ bind_tally n _ (λ f. pure_tally n (inr (compared e c f))) (expr_at n) x.counted
    | None ↦ bind_tally n _ (elim [
      | true ↦ bind_tally n _ (λ c. bind_tally n _ (λ q. pure_tally n (inr q)) (set_with n e c) (set_counted e c))
          copula (copula_counted n)
      | false ↦ pure_tally n (inl e)
    ]) (eat (m.Reserved r.Is)) (eat_tally n (m.Reserved r.Is) is_leaves)
  ]) (by_table comparison_of) (table_counted rooms n comparison_table)

  -- ---- read again

  set_empty : (e : Expr) (v : Reference) (c : Copula) (y : List Plain) → reference_of e ≡ Some v
      → set_with n e c (mark (m.Reserved r.Empty) ∷ y) ≡ (Ok (is_empty v c), y)
  unfolding set_with pure
  set_empty e v c y h =
      then (eat (m.Reserved r.In)) _ false (mark (m.Reserved r.Empty) ∷ y) (mark (m.Reserved r.Empty) ∷ y)
      (not_eaten (m.Reserved r.In) _ refl)
      ∙ ap (λ (o : Option Reference). let p : Reading Relation = elim o
      [ Some u ↦ bind (expect (m.Reserved r.Empty)) (λ z. pure (is_empty u c)) | None ↦ refuse Unexpected ] in p
      (mark (m.Reserved r.Empty) ∷ y)) h
      ∙ then (expect (m.Reserved r.Empty)) _ tt (mark (m.Reserved r.Empty) ∷ y) y
      (expect_read_back (m.Reserved r.Empty) y)

  set_in : (e : Expr) (v : Reference) (c : Copula) (y : List Plain) → depth_reference v ≤ n → Ends y
      → set_with n e c (mark (m.Reserved r.In) ∷ (spell_reference v ++ y)) ≡ (Ok (is_in e c v), y)
  unfolding set_with pure
  set_in e v c y h ends =
      then (eat (m.Reserved r.In)) _ true (mark (m.Reserved r.In) ∷ (spell_reference v ++ y)) (spell_reference v ++ y)
      (eat_read_back (m.Reserved r.In) _)
      ∙ then (reference_at n) _ v (spell_reference v ++ y) y (v_law.again v y h ends.no_open)

  -- after IS
  is_read_back : (e : Expr) (c : Copula) (q : Relation) (u y : List Plain) → is (m.Reserved r.Not) (first u) ≡ false
      → set_with n e c u ≡ (Ok q, y) → behind_value n e (spell_copula c ++ u) ≡ (Ok (inr q), y)
  unfolding behind_value pure
  is_read_back e c q u y not_next h =
      let z = spell_not c ++ u in
      let is_word : List Plain = mark (m.Reserved r.Is) ∷ z in
      ap (λ (t : List Plain). behind_value n e (t ++ u)) (copula_words c)
      ∙ then (by_table comparison_of) _ None is_word is_word (table_stops rooms n comparison_table is_word refl)
      ∙ then (eat (m.Reserved r.Is)) _ true is_word z (eat_read_back (m.Reserved r.Is) z)
      ∙ then copula _ c z u (copula_read_back c u not_next)
      ∙ then (set_with n e c) _ q u y h

  compared_read_back : (e f : Expr) (c : Comparison) (y : List Plain) → depth_expr f ≤ n → Ends y
      → behind_value n e (spell_comparison c ∷ (spell_expr f ++ y)) ≡ (Ok (inr (compared e c f)), y)
  unfolding behind_value pure
  compared_read_back e f c y h ends =
      then (by_table comparison_of) _ (Some c) (spell_comparison c ∷ (spell_expr f ++ y)) (spell_expr f ++ y)
      (table_goes rooms n comparison_table c _)
      ∙ then (expr_at n) _ f (spell_expr f ++ y) y (x.again f y h ends)

  -- no relation goes on there
  abbrev pub EndsValue : List Plain → Type 0
  EndsValue y = Ends y × (comparison_of (first y) ≡ None) × (is (m.Reserved r.Is) (first y) ≡ false)

  alone_read_back : (e : Expr) (y : List Plain) → EndsValue y → behind_value n e y ≡ (Ok (inl e), y)
  unfolding behind_value pure
  alone_read_back e y h =
      then (by_table comparison_of) _ None y y (table_stops rooms n comparison_table y h.1)
      ∙ then (eat (m.Reserved r.Is)) _ false y y (not_eaten (m.Reserved r.Is) y h.2)

  -- ---- one level

  -- an expression whose first factor is e in parentheses
  abbrev around : Expr → List Factor × List (TermSign × Term) → Expr
  around e z = expr None (term (within e) (products_of z.0)) (sums_of z.1)

  around_words : (e : Expr) (z : List Factor × List (TermSign × Term))
      → spell_expr (around e z) ≡ spell_within (spell_expr e) ++ RestSpelled z
  around_words e z =
      ap (λ (u : List Plain). (spell_within (spell_expr e) ++ u) ++ spell_sums (sums_of z.1)) (spell_products_of z.0)
      ∙ ap (λ (u : List Plain). (spell_within (spell_expr e) ++ flat_map (λ f. mark (m.Sign s.Star) ∷ spell_factor f)
      z.0) ++ u) (spell_sums_of z.1)
      ∙ append_assoc (spell_within (spell_expr e)) (flat_map (λ f. mark (m.Sign s.Star) ∷ spell_factor f) z.0)
      (flat_map (λ x. sign x.0 ∷ spell_term x.1) z.1)

  around_fits : (e : Expr) (z : List Factor × List (TermSign × Term)) → suc (depth_expr e) ≤ n → RestFits n z
      → depth_expr (around e z) ≤ n
  around_fits e z h f = let i = products_fit n z.0 f.0 in let j = sums_fit n z.1 f.1 in omega (arith, h, i, j)

  abbrev z_law : Law rooms n (RestFits n) RestSpelled Ends (rest_with n) (rest_with k)
  z_law = rest_law rooms n k w

  -- q reads in one more parenthesis; q' reads there with the rooms of p'
  module _ (q q' : Reading (Expr ⊎ Condition)) (lo : OpenLaw rooms n depth_either SpellEither (if_open n q)
      (if_open k q')) where
    abbrev FitsInner : Expr ⊎ Condition → Type 0
    FitsInner a = suc (depth_either a) ≤ n

    abbrev WithinEither : Expr ⊎ Condition → List Plain
    WithinEither a = spell_within (SpellEither a)

    opened_good : (a : Expr ⊎ Condition) → FitsInner a
        → Good FitsValue SpellValue (WithinEither a) (elim a
        [ inl e ↦ bind (rest_with n) (λ z. behind_value n (around e z)) | inr c ↦ pure (inr (nested c)) ])
    opened_good (inl e) h =
        bind_good (RestFits n) FitsValue RestSpelled SpellValue _ _
        (λ z f. subst (λ (u : List Plain). Good FitsValue SpellValue u (behind_value n (around e z))) (around_words e z)
        (behind_good (around e z) (around_fits e z h f))) (rest_with n) z_law.good
    opened_good (inr c) h = pure_good FitsValue SpellValue _ (inr (nested c)) h refl

    value_good : Good FitsValue SpellValue [] (value_with n q)
    unfolding value_with
    value_good = bind_good (fits_option FitsInner) FitsValue (spell_option WithinEither) SpellValue [] _ (elim [
      | Some a ↦ (λ h. opened_good a h)
      | None ↦ (λ u. bind_good FitsExpr FitsValue spell_expr SpellValue [] _ (λ e h. behind_good e h) (expr_at n)
          x.good)
    ]) (if_open n q) lo.good

    opened_local : (a : Expr ⊎ Condition) → Local {A = Expr ⊎ Relation} rooms
        (elim a [ inl e ↦ bind (rest_with n) (λ z. behind_value n (around e z)) | inr c ↦ pure (inr (nested c)) ])
        (elim a [ inl e ↦ bind (rest_with k) (λ z. behind_value k (around e z)) | inr c ↦ pure (inr (nested c)) ])
    opened_local (inl e) = bind_local rooms _ _ (λ z. behind_local (around e z)) (rest_with k) (rest_with n) z_law.near
    opened_local (inr c) = pure_local rooms (inr (nested c))

    value_local : Local rooms (value_with n q) (value_with k q')
    unfolding value_with
    value_local = bind_local rooms _ _ (elim [
      | Some a ↦ opened_local a
      | None ↦ bind_local rooms _ _ (λ e. behind_local e) (expr_at k) (expr_at n) x.near
    ]) (if_open k q') (if_open n q) lo.near

    opened_counted : (a : Expr ⊎ Condition) → Tally {A = Expr ⊎ Relation} n
        (elim a [ inl e ↦ bind (rest_with n) (λ z. behind_value n (around e z)) | inr c ↦ pure (inr (nested c)) ])
    opened_counted (inl e) = bind_tally n _ (λ z. behind_counted (around e z)) (rest_with n) z_law.counted
    opened_counted (inr c) = pure_tally n (inr (nested c))

    value_counted : Tally n (value_with n q)
    unfolding value_with
    value_counted = bind_tally n _ (elim [
      | Some a ↦ opened_counted a
      | None ↦ bind_tally n _ (λ e. behind_counted e) (expr_at n) x.counted
    ]) (if_open n q) lo.counted

    -- a value that begins with no parenthesis
    plain_read_back : (e : Expr) (y : List Plain) → is (m.Sign s.Open) (first (spell_expr e ++ y)) ≡ false
        → depth_expr e ≤ n → Ends y → value_with n q (spell_expr e ++ y) ≡ behind_value n e y
    unfolding value_with
    plain_read_back e y closed h ends =
        then (if_open n q) _ None (spell_expr e ++ y) (spell_expr e ++ y) (lo.stops (spell_expr e ++ y) closed)
        ∙ then (expr_at n) (behind_value n) e (spell_expr e ++ y) y (x.again e y h ends)

    -- a value that begins with one
    within_read_back : (e : Expr) (z : List Factor × List (TermSign × Term)) (y : List Plain) → suc (depth_expr e) ≤ n
        → RestFits n z → Ends y → value_with n q (spell_expr (around e z) ++ y) ≡ behind_value n (around e z) y
    unfolding value_with
    within_read_back e z y h f ends =
        let v = RestSpelled z ++ y in
        ap (λ (u : List Plain). value_with n q (u ++ y)) (around_words e z)
        ∙ ap (value_with n q) (append_assoc (spell_within (spell_expr e)) (RestSpelled z) y)
        ∙ then (if_open n q) _ (Some (inl e)) (spell_within (spell_expr e) ++ v) v (lo.goes (inl e) v h)
        ∙ then (rest_with n) _ z v y (z_law.again z y f ends)

    value_read_back : (e : Expr) (y : List Plain) → depth_expr e ≤ n → Ends y
        → value_with n q (spell_expr e ++ y) ≡ behind_value n e y
    value_read_back (expr (Some Plus) t ss) y h ends = plain_read_back (expr (Some Plus) t ss) y refl h ends
    value_read_back (expr (Some Minus) t ss) y h ends = plain_read_back (expr (Some Minus) t ss) y refl h ends
    value_read_back (expr None (term (digits i) ps) ss) y h ends =
        plain_read_back (expr None (term (digits i) ps) ss) y refl h ends
    value_read_back (expr None (term (named i) ps) ss) y h ends =
        plain_read_back (expr None (term (named i) ps) ss) y refl h ends
    value_read_back (expr None (term (applied i e es) ps) ss) y h ends =
        plain_read_back (expr None (term (applied i e es) ps) ss) y refl h ends
    value_read_back (expr None (term (within e) ps) ss) y h ends =
        let z : List Factor × List (TermSign × Term) = (list_products ps, list_sums ss) in
        let whole : around e z ≡ expr None (term (within e) ps) ss =
        ap (λ (u : _). expr None (term (within e) u) (sums_of (list_sums ss))) (products_list ps)
        ∙ ap (λ (u : _). expr None (term (within e) ps) u) (sums_list ss) in
        subst (λ (u : Expr). value_with n q (spell_expr u ++ y) ≡ behind_value n u y) whole
        (within_read_back e z y (omega (arith, h))
        (fit_products n ps (omega (arith, h)), fit_sums n ss (omega (arith, h))) ends)

    copula_ends : (c : Copula) (u : List Plain) → Ends (spell_copula c ++ u)
    copula_ends Is u = ends_at _ _ refl refl refl
    copula_ends IsNot u = ends_at _ _ refl refl refl

    empty_read_back : (v : List ℕ) (o : Option Expr) (c : Copula) (y : List Plain)
        → depth_reference (with_subscript v o) ≤ n
        → value_with n q ((spell_reference (with_subscript v o) ++ spell_copula c ++ mark (m.Reserved r.Empty) ∷ [])
        ++ y) ≡ (Ok (inr (is_empty (with_subscript v o) c)), y)
    empty_read_back v o c y h =
        let t = with_subscript v o in
        let u = mark (m.Reserved r.Empty) ∷ y in
        let e = expr_of t in
        let d = expr_of_depth v o in
        let regroup : (spell_reference t ++ spell_copula c ++ mark (m.Reserved r.Empty) ∷ []) ++ y ≡ spell_reference t
        ++ (spell_copula c ++ u) = simp append_assoc in
        ap (value_with n q) regroup
        ∙ ap (λ (z : List Plain). value_with n q (z ++ (spell_copula c ++ u))) (sym (expr_of_words v o))
        ∙ value_read_back e (spell_copula c ++ u) (omega (arith, h, d)) (copula_ends c u)
        ∙ is_read_back e c (is_empty t c) u y refl (set_empty e t c y (expr_of_is v o))

    relation_read_back : (p : Relation) (y : List Plain) → depth_relation p ≤ n → Ends y
        → value_with n q (spell_relation p ++ y) ≡ (Ok (inr p), y)
    unfolding value_with pure
    relation_read_back (compared e c f) y h ends =
        let u = spell_comparison c ∷ (spell_expr f ++ y) in
        ap (value_with n q) (append_assoc (spell_expr e) (spell_comparison c ∷ spell_expr f) y)
        ∙ value_read_back e u (omega (arith, h)) (comparison_ends c _)
        ∙ compared_read_back e f c y (omega (arith, h)) ends
    relation_read_back (is_empty v c) y h ends = empty_read_back v.name v.subscript c y h
    relation_read_back (is_in e c v) y h ends =
        let u = mark (m.Reserved r.In) ∷ (spell_reference v ++ y) in
        let regroup : (spell_expr e ++ spell_copula c ++ mark (m.Reserved r.In) ∷ spell_reference v) ++ y ≡ spell_expr e
        ++ (spell_copula c ++ u) = simp append_assoc in
        ap (value_with n q) regroup
        ∙ value_read_back e (spell_copula c ++ u) (omega (arith, h)) (copula_ends c u)
        ∙ is_read_back e c (is_in e c v) u y refl (set_in e v c y (omega (arith, h)) ends)
    relation_read_back (nested c) y h ends =
        then (if_open n q) _ (Some (inr c)) (spell_within (spell_condition c) ++ y) y (lo.goes (inr c) y h)

    -- ---- relations

    nought : Expr
    nought = expr None (term (digits 0) no_products) no_sums

    relation_law : Law rooms n FitsRelation spell_relation Ends (relation_with n q) (relation_with k q')
    unfolding relation_with nought pure
    relation_law = record {
      good = bind_good FitsValue FitsRelation SpellValue spell_relation [] _ (elim [
        | inl e ↦ (λ h. refuse_good FitsRelation spell_relation _ Unexpected (compared e Equal nought)
            (omega (arith, h)) (mark (m.Sign s.Equal) ∷ number 0 ∷ []) refl)
        | inr p ↦ (λ h. pure_good FitsRelation spell_relation _ p h refl)
      ]) (value_with n q) value_good;
      near =
          bind_local rooms _ _ (elim [ inl e ↦ refuse_local rooms | inr p ↦ pure_local rooms p ]) (value_with k q')
          (value_with n q) value_local;
      counted =
          bind_tally n _ (elim [ inl e ↦ refuse_tally n | inr p ↦ pure_tally n p ]) (value_with n q) value_counted;
      again = λ p y h e. then (value_with n q) _ (inr p) (spell_relation p ++ y) y (relation_read_back p y h e);
    }

    abbrev a_relation : Form rooms n Relation
    a_relation = form_of rooms n FitsRelation spell_relation Ends (relation_with n q) (relation_with k q') relation_law

    abbrev relations : Form rooms n (List Relation)
    relations = star_form (mark_item (m.Reserved r.And) and_leaves a_relation) (λ a y. ends_at _ _ refl refl refl)

    list_additions : Additions → List Relation
    list_additions no_additions = []
    list_additions (addition p ps) = p ∷ list_additions ps

    additions_list : (ps : Additions) → additions_of (list_additions ps) ≡ ps
    unfolding list_additions
    additions_list no_additions = refl
    additions_list (addition p ps) = ap (addition p) (additions_list ps)

    additions_words : (ps : List Relation) → spell_additions (additions_of ps) ≡ relations.sp ps
    additions_words [] = refl
    additions_words (p ∷ ps) =
        ap (λ (u : List Plain). mark (m.Reserved r.And) ∷ (spell_relation p ++ u)) (additions_words ps)

    additions_fit : (ps : List Relation) → relations.fits ps → depth_additions (additions_of ps) ≤ n
    additions_fit [] h = omega arith
    additions_fit (p ∷ ps) h = let i = h.0 in let j = additions_fit ps h.1 in omega (arith, i, j)

    fit_additions : (ps : Additions) → depth_additions ps ≤ n → relations.fits (list_additions ps)
    unfolding list_additions
    fit_additions no_additions h = tt
    fit_additions (addition p ps) h = (omega (arith, h), fit_additions ps (omega (arith, h)))

    abbrev FitsConjunction : Conjunction → Type 0
    FitsConjunction c = depth_conjunction c ≤ n

    abbrev FitsConjoined : Expr ⊎ Conjunction → Type 0
    FitsConjoined (inl e) = depth_expr e ≤ n
    FitsConjoined (inr c) = depth_conjunction c ≤ n

    -- the part after a first value
    abbrev conjoin : Expr ⊎ Relation → Reading (Expr ⊎ Conjunction)
    conjoin a =
        elim a [
          | inl e ↦ pure (inl e)
          | inr p ↦ bind (star (if_mark (m.Reserved r.And) (relation_with n q)))
              (λ ps. pure (inr (conjunction p (additions_of ps))))
        ]

    conjoined_good : Good FitsConjoined SpellConjoined [] (conjoined_with n q)
    unfolding conjoined_with
    conjoined_good = bind_good FitsValue FitsConjoined SpellValue SpellConjoined [] _ (elim [
      | inl e ↦ (λ h. pure_good FitsConjoined SpellConjoined _ (inl e) h refl)
      | inr p ↦ (λ h. bind_good relations.fits FitsConjoined relations.sp SpellConjoined _ _
          (λ ps f. pure_good FitsConjoined SpellConjoined _ (inr (conjunction p (additions_of ps)))
          (let i = additions_fit ps f in omega (arith, h, i))
          (ap (λ (u : List Plain). spell_relation p ++ u) (sym (additions_words ps)))) relations.p relations.good)
    ]) (value_with n q) value_good

    conjoined_local : Local rooms (conjoined_with n q) (conjoined_with k q')
    unfolding conjoined_with
    conjoined_local =
        bind_local rooms _ _ (elim [
          | inl e ↦ pure_local rooms (inl e)
          | inr p ↦ bind_local rooms _ _
              (λ ps. pure_local rooms (inr (conjunction p (additions_of ps)))) relations.p' relations.p relations.near
        ])
        (value_with k q') (value_with n q) value_local

    conjoined_counted : Tally n (conjoined_with n q)
    unfolding conjoined_with
    conjoined_counted =
        bind_tally n _ (elim [
          | inl e ↦ pure_tally n (inl e)
          | inr p ↦ bind_tally n _
              (λ ps. pure_tally n (inr (conjunction p (additions_of ps)))) relations.p relations.counted
        ]) (value_with n q)
        value_counted

    -- no further relation is there
    abbrev EndsConjunction : List Plain → Type 0
    EndsConjunction y = Ends y × (is (m.Reserved r.And) (first y) ≡ false)

    relations_end : (ps : List Relation) (y : List Plain) → Ends y → Ends (relations.sp ps ++ y)
    relations_end [] y e = e
    relations_end (p ∷ ps) y e = ends_at _ _ refl refl refl

    conjoined_read_back : (c : Conjunction) (y : List Plain) → depth_conjunction c ≤ n → EndsConjunction y
        → conjoined_with n q (spell_conjunction c ++ y) ≡ (Ok (inr c), y)
    unfolding conjoined_with pure
    conjoined_read_back (conjunction p ps) y h e =
        let xs = list_additions ps in
        let z = relations.sp xs ++ y in
        let words : spell_additions ps ≡ relations.sp xs = ap spell_additions (sym (additions_list ps))
        ∙ additions_words xs in
        ap (conjoined_with n q) (append_assoc (spell_relation p) (spell_additions ps) y)
        ∙ ap (λ (u : List Plain). conjoined_with n q (spell_relation p ++ (u ++ y))) words
        ∙ then (value_with n q) _ (inr p) (spell_relation p ++ z) z
        (relation_read_back p z (omega (arith, h)) (relations_end xs y e.0))
        ∙ then relations.p _ xs z y (relations.again xs y (fit_additions ps (omega (arith, h))) e)
        ∙ ap (λ (u : Additions). let o : Read (Expr ⊎ Conjunction) = (Ok (inr (conjunction p u)), y) in o)
        (additions_list ps)

    conjunction_law : Law rooms n FitsConjunction spell_conjunction EndsConjunction (conjunction_with n q)
        (conjunction_with k q')
    unfolding conjunction_with nought pure
    conjunction_law = record {
      good = bind_good FitsConjoined FitsConjunction SpellConjoined spell_conjunction [] _ (elim [
        | inl e ↦ (λ h. refuse_good FitsConjunction spell_conjunction _ Unexpected
            (conjunction (compared e Equal nought) no_additions) (omega (arith, h))
            (mark (m.Sign s.Equal) ∷ number 0 ∷ []) (append-nil (spell_relation (compared e Equal nought))))
        | inr c ↦ (λ h. pure_good FitsConjunction spell_conjunction _ c h refl)
      ]) (conjoined_with n q) conjoined_good;
      near =
          bind_local rooms _ _ (elim [ inl e ↦ refuse_local rooms | inr c ↦ pure_local rooms c ]) (conjoined_with k q')
          (conjoined_with n q) conjoined_local;
      counted =
          bind_tally n _ (elim [ inl e ↦ refuse_tally n | inr c ↦ pure_tally n c ]) (conjoined_with n q)
          conjoined_counted;
      again = λ c y h e. then (conjoined_with n q) _ (inr c) (spell_conjunction c ++ y) y (conjoined_read_back c y h e);
    }

    abbrev a_conjunction : Form rooms n Conjunction
    a_conjunction =
        form_of rooms n FitsConjunction spell_conjunction EndsConjunction (conjunction_with n q) (conjunction_with k q')
        conjunction_law

    abbrev conjunctions : Form rooms n (List Conjunction)
    conjunctions =
        star_form (mark_item (m.Reserved r.Or) or_leaves a_conjunction) (λ a y. (ends_at _ _ refl refl refl, refl))

    list_alternatives : Alternatives → List Conjunction
    list_alternatives no_alternatives = []
    list_alternatives (alternative c cs) = c ∷ list_alternatives cs

    alternatives_list : (cs : Alternatives) → alternatives_of (list_alternatives cs) ≡ cs
    unfolding list_alternatives
    alternatives_list no_alternatives = refl
    alternatives_list (alternative c cs) = ap (alternative c) (alternatives_list cs)

    alternatives_words : (cs : List Conjunction) → spell_alternatives (alternatives_of cs) ≡ conjunctions.sp cs
    alternatives_words [] = refl
    alternatives_words (c ∷ cs) =
        ap (λ (u : List Plain). mark (m.Reserved r.Or) ∷ (spell_conjunction c ++ u)) (alternatives_words cs)

    alternatives_fit : (cs : List Conjunction) → conjunctions.fits cs → depth_alternatives (alternatives_of cs) ≤ n
    alternatives_fit [] h = omega arith
    alternatives_fit (c ∷ cs) h = let i = h.0 in let j = alternatives_fit cs h.1 in omega (arith, i, j)

    fit_alternatives : (cs : Alternatives) → depth_alternatives cs ≤ n → conjunctions.fits (list_alternatives cs)
    unfolding list_alternatives
    fit_alternatives no_alternatives h = tt
    fit_alternatives (alternative c cs) h = (omega (arith, h), fit_alternatives cs (omega (arith, h)))

    abbrev FitsEither : Expr ⊎ Condition → Type 0
    FitsEither a = depth_either a ≤ n

    either_good : Good FitsEither SpellEither [] (either_with n q)
    unfolding either_with
    either_good = bind_good FitsConjoined FitsEither SpellConjoined SpellEither [] _ (elim [
      | inl e ↦ (λ h. pure_good FitsEither SpellEither _ (inl e) h refl)
      | inr c ↦ (λ h. bind_good conjunctions.fits FitsEither conjunctions.sp SpellEither _ _
          (λ cs f. pure_good FitsEither SpellEither _ (inr (condition c (alternatives_of cs)))
          (let i = alternatives_fit cs f in omega (arith, h, i))
          (ap (λ (u : List Plain). spell_conjunction c ++ u) (sym (alternatives_words cs)))) conjunctions.p
          conjunctions.good)
    ]) (conjoined_with n q) conjoined_good

    either_local : Local rooms (either_with n q) (either_with k q')
    unfolding either_with
    either_local =
        bind_local rooms _ _ (elim [
          | inl e ↦ pure_local rooms (inl e)
          | inr c ↦ bind_local rooms _ _
              (λ cs. pure_local rooms (inr (condition c (alternatives_of cs)))) conjunctions.p' conjunctions.p
              conjunctions.near
        ]) (conjoined_with k q') (conjoined_with n q) conjoined_local

    either_counted : Tally n (either_with n q)
    unfolding either_with
    either_counted =
        bind_tally n _ (elim [
          | inl e ↦ pure_tally n (inl e)
          | inr c ↦ bind_tally n _
              (λ cs. pure_tally n (inr (condition c (alternatives_of cs)))) conjunctions.p conjunctions.counted
        ])
        (conjoined_with n q) conjoined_counted

    -- no part of a condition goes on there
    abbrev pub EndsEither : List Plain → Type 0
    EndsEither y = EndsValue y × (is (m.Reserved r.And) (first y) ≡ false) × (is (m.Reserved r.Or) (first y) ≡ false)

    conjunctions_end : (cs : List Conjunction) (y : List Plain) → EndsConjunction y
        → EndsConjunction (conjunctions.sp cs ++ y)
    conjunctions_end [] y e = e
    conjunctions_end (c ∷ cs) y e = (ends_at _ _ refl refl refl, refl)

    either_read_back : (a : Expr ⊎ Condition) (y : List Plain) → FitsEither a → EndsEither y
        → either_with n q (SpellEither a ++ y) ≡ (Ok a, y)
    unfolding either_with conjoined_with pure
    either_read_back (inl e) y h d =
        let g = d.0 in
        then (conjoined_with n q) _ (inl e) (spell_expr e ++ y) y
        (then (value_with n q) _ (inl e) (spell_expr e ++ y) y (value_read_back e y h g.0 ∙ alone_read_back e y g))
    either_read_back (inr (condition c cs)) y h d =
        let g = d.0 in
        let ends : EndsConjunction y = (g.0, d.1) in
        let xs = list_alternatives cs in
        let z = conjunctions.sp xs ++ y in
        let words : spell_alternatives cs ≡ conjunctions.sp xs = ap spell_alternatives (sym (alternatives_list cs))
        ∙ alternatives_words xs in
        ap (either_with n q) (append_assoc (spell_conjunction c) (spell_alternatives cs) y)
        ∙ ap (λ (u : List Plain). either_with n q (spell_conjunction c ++ (u ++ y))) words
        ∙ then (conjoined_with n q) _ (inr c) (spell_conjunction c ++ z) z
        (conjoined_read_back c z (omega (arith, h)) (conjunctions_end xs y ends))
        ∙ then conjunctions.p _ xs z y (conjunctions.again xs y (fit_alternatives cs (omega (arith, h))) (ends, d.2))
        ∙ ap (λ (u : Alternatives). let o : Read (Expr ⊎ Condition) = (Ok (inr (condition c u)), y) in o)
        (alternatives_list cs)

    pub either_level : Law rooms n (λ a. depth_either a ≤ n) SpellEither EndsEither (either_with n q) (either_with k q')
    either_level =
        record { good = either_good; near = either_local; counted = either_counted; again = either_read_back }

-- ---- all levels

abbrev pub EndsCondition : List Plain → Type 0
EndsCondition y =
    (Ends y × (comparison_of (first y) ≡ None) × (is (m.Reserved r.Is) (first y) ≡ false))
    × (is (m.Reserved r.And) (first y) ≡ false) × (is (m.Reserved r.Or) (first y) ≡ false)

close_either : (y : List Plain) → EndsCondition (mark (m.Sign s.Close) ∷ y)
close_either y = ((ends_at _ y refl refl refl, refl, refl), refl, refl)

abbrev pub EitherLaw : Rooms → ℕ → Reading (Expr ⊎ Condition) → Reading (Expr ⊎ Condition) → Type 0
EitherLaw rooms n p p' = Law rooms n (λ a. depth_either a ≤ n) SpellEither EndsCondition p p'

deeper_either : (rooms : Rooms) (n k : ℕ) → Wider rooms (suc n) (suc k) → EitherLaw rooms n (either_at n) (either_at k)
    → EitherLaw rooms (suc n) (either_with (suc n) (either_at n)) (either_with (suc k) (either_at k))
deeper_either rooms n k w l =
    either_level rooms (suc n) (suc k) w (either_at n) (either_at k)
    (open_law rooms n k depth_either SpellEither EndsCondition (either_at n) (either_at k) l close_either)

pub same_either : (n : ℕ) → EitherLaw same n (either_at n) (either_at n)
unfolding either_at
same_either zero =
    either_level same 0 0 refl (refuse PastLimit) (refuse PastLimit)
    (shut_law depth_either SpellEither (refuse PastLimit))
same_either (suc n) = deeper_either same n n refl (same_either n)

pub either_law : (rooms : Rooms) (n k : ℕ) → Wider rooms n k → EitherLaw rooms n (either_at n) (either_at k)
unfolding either_at
either_law same zero zero w = same_either zero
either_law same zero (suc k) w = absurd (omega arith)
either_law same (suc n) zero w = absurd (omega arith)
either_law same (suc n) (suc k) w = deeper_either same n k w (either_law same n k (omega arith))
either_law more zero zero w = absurd (omega arith)
either_law more zero (suc k) w =
    either_level more 0 (suc k) w (refuse PastLimit) (either_at k)
    (shut_more_law depth_either SpellEither (refuse PastLimit) k (either_at k) ((same_either k).near))
either_law more (suc n) zero w = absurd (omega arith)
either_law more (suc n) (suc k) w = deeper_either more n k w (either_law more n k (omega arith))

abbrev first_value : Expr
first_value = expr None (term (digits 0) no_products) no_sums

-- a condition
pub condition_law : (rooms : Rooms) (n k : ℕ) → Wider rooms n k
    → Law rooms n (λ c. depth_condition c ≤ n) spell_condition EndsCondition (condition_at n) (condition_at k)
unfolding condition_at pure
condition_law rooms n k w =
    let l = either_law rooms n k w in
    record {
      good = bind_good (λ a. depth_either a ≤ n) (λ c. depth_condition c ≤ n) SpellEither spell_condition [] _ (elim [
        | inl e ↦ (λ h. refuse_good (λ c. depth_condition c ≤ n) spell_condition _ Unexpected
            (condition (conjunction (compared e Equal first_value) no_additions) no_alternatives) (omega (arith, h))
            (mark (m.Sign s.Equal) ∷ number 0 ∷ []) (append-nil (spell_relation (compared e Equal first_value) ++ [])
            ∙ append-nil (spell_relation (compared e Equal first_value))))
        | inr c ↦ (λ h. pure_good (λ c. depth_condition c ≤ n) spell_condition _ c h refl)
      ]) (either_at n) l.good;
      near =
          bind_local rooms _ _ (elim [ inl e ↦ refuse_local rooms | inr c ↦ pure_local rooms c ]) (either_at k)
          (either_at n) l.near;
      counted = bind_tally n _ (elim [ inl e ↦ refuse_tally n | inr c ↦ pure_tally n c ]) (either_at n) l.counted;
      again = λ c y h e. then (either_at n) _ (inr c) (spell_condition c ++ y) y (l.again (inr c) y h e);
    }
