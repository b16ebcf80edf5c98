-- The places of a section without a breach, their numbers looked up, are those of the text.
use Rattle.std.proofs.Common.{◌≡◌, ℕ, true, not, List, [], ◌∷◌, ◌++◌, length, refl, sym, ap, ◌∙◌, Option, Some, None}
use Rattle.std.specs.Prelude.{map, option_map, is_some}
use Rattle.std.specs.List.{flat_map}
use Rattle.std.proofs.lemmas.Bool.{false≢true, or_parts, not-false}
use Rattle.std.proofs.lemmas.Option.{none-some, same_Some}
use Rattle.ss_words.specs.Lists.{Name, all_of}
use Rattle.ss_routines.specs.declared.tree.simple.Article.{Article}
use Rattle.ss_routines.specs.declared.tree.simple.Article.TheVariants.{A, The}
use Rattle.ss_words.specs.declared.terms.Direction.{Direction}
use Rattle.ss_words.specs.declared.terms.QualifierWord.{QualifierWord}
use Rattle.ss_words.specs.declared.terms.Statistic.{Statistic}
use Rattle.ss_words.specs.declared.terms.Statistic.TheVariants as statistics
use Rattle.ss_routines.specs.Expr.{Expr, expr, Sums, no_sums, sum, Term, term, Products, no_products, product, Factor}
use Rattle.ss_routines.specs.Expr.{digits, named, applied, within, Exprs, no_exprs, exprs}
use Rattle.ss_routines.specs.Condition.{Reference, Condition, condition, Alternatives, no_alternatives, alternative}
use Rattle.ss_routines.specs.Condition.{Conjunction, conjunction, Additions, no_additions, addition, Relation, compared}
use Rattle.ss_routines.specs.Condition.{is_empty, is_in, nested}
use Rattle.ss_routines.specs.Simple.{Assign, Let, Add, Subtract, Making, Create, CreateEvery, Destroy, FilePlace}
use Rattle.ss_routines.specs.Simple.{ByDiscipline, AtEnd, Before, After, Filing, File, FileAt, RemoveEnd, Remove}
use Rattle.ss_routines.specs.Simple.{Listing, Unwritten, BehindGiven, InParentheses, Call, Return, Stop, ValuesFirst}
use Rattle.ss_routines.specs.Simple.{CalledFirst, When, At, Now, In, Timing, Schedule, Cancel, StartSimulation, Read}
use Rattle.ss_routines.specs.Simple.{Print, Skip, Simple, Assigns, Makes, Files, Transfers, Times, Exchanges}
use Rattle.ss_routines.specs.Simple as s
use Rattle.ss_routines.specs.Loops as l
use Rattle.ss_routines.specs.Tree.{listing_names}
use Rattle.ss_routines.specs.Places as w
use Rattle.ss_program.specs.declared.timing.Listing.TheVariants.{Given, InParentheses as Parenthesised}
use Rattle.ss_program.specs.Program.{ProgramTable, class_of}
use Rattle.ss_check.specs.ClassNeed.{ClassNeed}
use Rattle.ss_check.specs.ClassNeed.{Permanent, Ending, Event}
use Rattle.ss_check.specs.NameKind.{NameKind}
use Rattle.ss_check.specs.NameKind as k
use Rattle.ss_check.specs.Declarations.{Declared}
use Rattle.ss_check.specs.NameKinds.{names_set, serves}
use Rattle.ss_check.specs.Declarations.{kind_of}
use Rattle.ss_check.specs.Uses.{Use, LoopVariable, OfClass, uses_expr, uses_sums, uses_term, uses_products, uses_factor}
use Rattle.ss_check.specs.Uses.{uses_exprs, uses_option, uses_target, uses_set, uses_value, uses_called_target}
use Rattle.ss_check.specs.Uses.{uses_called_value, uses_condition, uses_alternatives, uses_conjunction, uses_additions}
use Rattle.ss_check.specs.Uses.{uses_relation, uses_assign, uses_making, uses_file_place, uses_filing, uses_called}
use Rattle.ss_check.specs.Uses.{uses_details, uses_when, uses_timing, uses_simple, uses_start, uses_range, uses_branch}
use Rattle.ss_check.specs.Uses.{uses_loop, uses}
use Rattle.ss_check.specs.ResolvedNames.{Names, number, owner_of, resolved_variable}
use Rattle.ss_check.specs.Resolved.{resolved_expr, resolved_sums, resolved_term, resolved_products, resolved_factor}
use Rattle.ss_check.specs.Resolved.{resolved_exprs, resolved_option, resolved_value, resolved_target, resolved_set}
use Rattle.ss_check.specs.Resolved.{called_target, called_value, resolved_condition, resolved_alternatives}
use Rattle.ss_check.specs.Resolved.{resolved_conjunction, resolved_additions, resolved_relation, resolved_assign}
use Rattle.ss_check.specs.Resolved.{resolved_making, resolved_position, resolved_filing, resolved_notice, resolved_when}
use Rattle.ss_check.specs.Resolved.{resolved_timing, resolved_simple, resolved_begin, resolved_range}
use Rattle.ss_check.specs.Resolved.{resolved_qualifier, resolved_branch, resolved_telling, resolved_loop}
use Rattle.ss_check.specs.Resolved.{resolved_place, resolved_listing}
use Rattle.ss_check.specs.NamedTree.{several, listing_of, reference_of, named_variable, named_expr, named_sums}
use Rattle.ss_check.specs.NamedTree.{named_term, named_products, named_factor, named_exprs, named_value, named_target}
use Rattle.ss_check.specs.NamedTree.{named_set, named_called_target, named_called_value, named_condition}
use Rattle.ss_check.specs.NamedTree.{named_alternatives, named_conjunction, named_additions, named_relation}
use Rattle.ss_check.specs.NamedTree.{named_assign, named_making, named_position, named_filing, named_article}
use Rattle.ss_check.specs.NamedTree.{named_notice, named_when, named_timing, named_begin, named_range, named_qualifier}
use Rattle.ss_check.specs.NamedTree.{named_branch, named_telling, named_loop, named_place}
use Rattle.ss_check.proofs.SoundUses.{IsGood, AreGood, good_parts}
use Rattle.ss_check.proofs.NamedUses.{two, three, IsListed, variable_is, owner_is, value_is, applied_is, target_is}
use Rattle.ss_check.proofs.NamedUses.{target_at_is}

-- ---- words that do not change

-- ---- kinds that serve

set_is_set : (j : Option NameKind) → names_set j ≡ true → j ≡ Some k.Set
set_is_set (Some k.Set) h = refl
set_is_set None h = absurd (false≢true h)
set_is_set (Some k.Variable) h = absurd (false≢true h)
set_is_set (Some k.ClassCount) h = absurd (false≢true h)
set_is_set (Some (k.Class g)) h = absurd (false≢true h)
set_is_set (Some (k.Attribute c)) h = absurd (false≢true h)
set_is_set (Some (k.OwnerKept q t)) h = absurd (false≢true h)
set_is_set (Some (k.MemberKept q t)) h = absurd (false≢true h)
set_is_set (Some (k.Function f)) h = absurd (false≢true h)
set_is_set (Some k.Clock) h = absurd (false≢true h)
set_is_set (Some k.Routine) h = absurd (false≢true h)

-- a kind that is a class's
record IsOfClass (j : Option NameKind) : Type 0 where
  heading : Option Rattle.ss_preamble.specs.declared.item.Heading.Heading
  is : j ≡ Some (k.Class heading)

class_of_need : (need : ClassNeed) (j : Option NameKind) → serves need j ≡ true → IsOfClass j
class_of_need need (Some (k.Class g)) h = record { heading = g; is = refl }
class_of_need Permanent None h = absurd (false≢true h)
class_of_need Permanent (Some k.Variable) h = absurd (false≢true h)
class_of_need Permanent (Some k.ClassCount) h = absurd (false≢true h)
class_of_need Permanent (Some (k.Attribute c)) h = absurd (false≢true h)
class_of_need Permanent (Some (k.OwnerKept q t)) h = absurd (false≢true h)
class_of_need Permanent (Some (k.MemberKept q t)) h = absurd (false≢true h)
class_of_need Permanent (Some (k.Function f)) h = absurd (false≢true h)
class_of_need Permanent (Some k.Clock) h = absurd (false≢true h)
class_of_need Permanent (Some k.Set) h = absurd (false≢true h)
class_of_need Permanent (Some k.Routine) h = absurd (false≢true h)
class_of_need Ending None h = absurd (false≢true h)
class_of_need Ending (Some k.Variable) h = absurd (false≢true h)
class_of_need Ending (Some k.ClassCount) h = absurd (false≢true h)
class_of_need Ending (Some (k.Attribute c)) h = absurd (false≢true h)
class_of_need Ending (Some (k.OwnerKept q t)) h = absurd (false≢true h)
class_of_need Ending (Some (k.MemberKept q t)) h = absurd (false≢true h)
class_of_need Ending (Some (k.Function f)) h = absurd (false≢true h)
class_of_need Ending (Some k.Clock) h = absurd (false≢true h)
class_of_need Ending (Some k.Set) h = absurd (false≢true h)
class_of_need Ending (Some k.Routine) h = absurd (false≢true h)
class_of_need Event None h = absurd (false≢true h)
class_of_need Event (Some k.Variable) h = absurd (false≢true h)
class_of_need Event (Some k.ClassCount) h = absurd (false≢true h)
class_of_need Event (Some (k.Attribute c)) h = absurd (false≢true h)
class_of_need Event (Some (k.OwnerKept q t)) h = absurd (false≢true h)
class_of_need Event (Some (k.MemberKept q t)) h = absurd (false≢true h)
class_of_need Event (Some (k.Function f)) h = absurd (false≢true h)
class_of_need Event (Some k.Clock) h = absurd (false≢true h)
class_of_need Event (Some k.Set) h = absurd (false≢true h)
class_of_need Event (Some k.Routine) h = absurd (false≢true h)

-- lists whose elements come back
maps_back : {X Y : Type 0} (f : X → Y) (g : Y → X) (h : X → List Use) (P : List Use → Type 0) (xs : List X) →
    ((x : X) → P (h x) → g (f x) ≡ x) →
    ((x : X) (ys : List X) → P (h x ++ flat_map h ys) → P (h x) × P (flat_map h ys)) →
    P (flat_map h xs) → map g (map f xs) ≡ xs
maps_back f g h P [] one parts all = refl
maps_back {X = X} f g h P (x ∷ xs) one parts all =
    let q = parts x xs all in two (λ (y : X) (ys : List X). y ∷ ys) (one x q.0) (maps_back f g h P xs one parts q.1)

module _ (d : Declared) (v : Names) (locals : List Name) (p : ProgramTable) (S : IsListed d v locals p) where
  parts : (xs ys : List Use) → AreGood d locals (xs ++ ys) → AreGood d locals xs × AreGood d locals ys
  parts = good_parts d locals

  -- ---- expressions

  mutual
    expr_is : (e : Expr) → AreGood d locals (uses_expr e) → named_expr p locals (resolved_expr d v locals e) ≡ e
    expr_is (expr i t ts) h =
        let q = parts (uses_term t) (uses_sums ts) h in three expr refl (term_is t q.0) (sums_is ts q.1)

    sums_is : (ss : Sums) → AreGood d locals (uses_sums ss) → named_sums p locals (resolved_sums d v locals ss) ≡ ss
    sums_is no_sums h = refl
    sums_is (sum i t ts) h =
        let q = parts (uses_term t) (uses_sums ts) h in three sum refl (term_is t q.0) (sums_is ts q.1)

    term_is : (t : Term) → AreGood d locals (uses_term t) → named_term p locals (resolved_term d v locals t) ≡ t
    term_is (term f fs) h =
        let q = parts (uses_factor f) (uses_products fs) h in two term (factor_is f q.0) (products_is fs q.1)

    products_is : (ps : Products) → AreGood d locals (uses_products ps) →
        named_products p locals (resolved_products d v locals ps) ≡ ps
    products_is no_products h = refl
    products_is (product f fs) h =
        let q = parts (uses_factor f) (uses_products fs) h in two product (factor_is f q.0) (products_is fs q.1)

    factor_is : (f : Factor) → AreGood d locals (uses_factor f) →
        named_factor p locals (resolved_factor d v locals f) ≡ f
    factor_is (digits n) h = refl
    factor_is (named n) h =
        let g = h.0 in let c = g.known in value_is d v locals p S n (kind_of d n) refl g.usage g.count c.0
    factor_is (applied n e es) h =
        let g = h.0 in
        let q = parts (uses_expr e) (uses_exprs es) h.1 in
        applied_is d v locals p S n (kind_of d n) e es refl g.usage g.count (expr_is e q.0) (arguments_are es q.1)
    factor_is (within e) h = ap within (expr_is e h)

    arguments_are : (es : Exprs) → AreGood d locals (uses_exprs es) →
        named_exprs p locals (resolved_exprs d v locals es) ≡ es
    arguments_are no_exprs h = refl
    arguments_are (exprs e es) h =
        let q = parts (uses_expr e) (uses_exprs es) h in two exprs (expr_is e q.0) (arguments_are es q.1)

  option_is : (e : Option Expr) → AreGood d locals (uses_option e) →
      option_map (named_expr p locals) (resolved_option d v locals e) ≡ e
  option_is None h = refl
  option_is (Some e) h = ap (λ (z : Expr). Some z) (expr_is e h)

  exprs_are : (es : List Expr) → AreGood d locals (flat_map uses_expr es) →
      map (named_expr p locals) (map (resolved_expr d v locals) es) ≡ es
  exprs_are es h =
      maps_back (resolved_expr d v locals) (named_expr p locals) uses_expr (AreGood d locals) es expr_is
      (λ x ys a. parts (uses_expr x) (flat_map uses_expr ys) a) h

  -- ---- references

  value_by : (n : Name) (e : Option Expr) → AreGood d locals (uses_value n e) →
      named_value p locals (resolved_value d v locals (record { name = n; subscript = e }))
      ≡ record { name = n; subscript = e }
  value_by n None h =
      let g = h.0 in
      let c = g.known in
      ap (λ (f : Factor). reference_of (expr None (term f no_products) no_sums))
      (value_is d v locals p S n (kind_of d n) refl g.usage g.count c.0)
  value_by n (Some e) h =
      let g = h.0 in
      ap (λ (f : Factor). reference_of (expr None (term f no_products) no_sums))
      (applied_is d v locals p S n (kind_of d n) e no_exprs refl g.usage g.count (expr_is e h.1) refl)

  target_by : (n : Name) (e : Option Expr) → AreGood d locals (uses_target (record { name = n; subscript = e })) →
      named_target p locals (resolved_target d v locals (record { name = n; subscript = e }))
      ≡ record { name = n; subscript = e }
  target_by n None h =
      let g = h.0 in let c = g.known in target_is d v locals p S n (kind_of d n) refl g.usage g.fixed c.0
  target_by n (Some e) h =
      let g = h.0 in target_at_is d v locals p S n (kind_of d n) e refl g.usage g.fixed (expr_is e h.1)

  ref_is : (r : Reference) → AreGood d locals (uses_target r) → named_target p locals (resolved_target d v locals r) ≡ r
  ref_is r h = target_by r.name r.subscript h

  targets_are : (rs : List Reference) → AreGood d locals (flat_map uses_target rs) →
      map (named_target p locals) (map (resolved_target d v locals) rs) ≡ rs
  targets_are rs h =
      maps_back (resolved_target d v locals) (named_target p locals) uses_target (AreGood d locals) rs ref_is
      (λ x ys a. parts (uses_target x) (flat_map uses_target ys) a) h

  subscripts : (i : Option Expr) → AreGood d locals (uses_option i) → (a : Expr) → i ≡ Some a →
      named_expr p locals (resolved_expr d v locals a) ≡ a
  subscripts None h a e = absurd (none-some a e)
  subscripts (Some b) h a e =
      let g : a ≡ b = sym (same_Some b a e) in
      ap (λ (z : Expr). named_expr p locals (resolved_expr d v locals z)) g ∙ expr_is b h ∙ sym g

  set_is : (r : Reference) → AreGood d locals (uses_set r) → named_set p locals (resolved_set d v locals r) ≡ r
  set_is r h =
      let g = h.0 in
      let q = or_parts (not (names_set (kind_of d r.name))) _ g.usage in
      two (λ (n : Name) (i : Option Expr). record { name = n; subscript = i })
      (S.set r.name (set_is_set (kind_of d r.name) (not-false (names_set (kind_of d r.name)) q.0)))
      (owner_is d v locals p S (owner_of d v locals r.name) r.subscript (subscripts r.subscript h.1))

  class_is : (need : ClassNeed) (n : Name) → IsGood d locals (OfClass need n) →
      (class_of p (number n v.classes)).name ≡ n
  class_is need n g =
      let q = class_of_need need (kind_of d n) (not-false (serves need (kind_of d n)) g.class) in
      S.class n q.heading q.is

  called_target_is : (n : Name) (r : Option Reference) → AreGood d locals (uses_called_target r) →
      named_called_target p locals (is_some r) (called_target d v locals n r) ≡ r
  called_target_is n None h = refl
  called_target_is n (Some r) h = ap (λ (z : Reference). Some z) (ref_is r h)

  called_value_is : (n : Name) (r : Option Reference) → AreGood d locals (uses_called_value r) →
      named_called_value p locals (is_some r) (called_value d v locals n r) ≡ r
  called_value_is n None h = refl
  called_value_is n (Some r) h = ap (λ (z : Reference). Some z) (value_by r.name r.subscript h)

  -- ---- conditions

  mutual
    condition_is : (c : Condition) → AreGood d locals (uses_condition c) →
        named_condition p locals (resolved_condition d v locals c) ≡ c
    condition_is (condition c cs) h =
        let q = parts (uses_conjunction c) (uses_alternatives cs) h in
        two condition (conjunction_is c q.0) (alternatives_are cs q.1)

    alternatives_are : (cs : Alternatives) → AreGood d locals (uses_alternatives cs) →
        named_alternatives p locals (resolved_alternatives d v locals cs) ≡ cs
    alternatives_are no_alternatives h = refl
    alternatives_are (alternative c cs) h =
        let q = parts (uses_conjunction c) (uses_alternatives cs) h in
        two alternative (conjunction_is c q.0) (alternatives_are cs q.1)

    conjunction_is : (c : Conjunction) → AreGood d locals (uses_conjunction c) →
        named_conjunction p locals (resolved_conjunction d v locals c) ≡ c
    conjunction_is (conjunction q qs) h =
        let g = parts (uses_relation q) (uses_additions qs) h in
        two conjunction (relation_is q g.0) (additions_are qs g.1)

    additions_are : (qs : Additions) → AreGood d locals (uses_additions qs) →
        named_additions p locals (resolved_additions d v locals qs) ≡ qs
    additions_are no_additions h = refl
    additions_are (addition q qs) h =
        let g = parts (uses_relation q) (uses_additions qs) h in two addition (relation_is q g.0) (additions_are qs g.1)

    relation_is : (q : Relation) → AreGood d locals (uses_relation q) →
        named_relation p locals (resolved_relation d v locals q) ≡ q
    relation_is (compared e how f) h =
        let g = parts (uses_expr e) (uses_expr f) h in
        three compared (expr_is e g.0) refl (expr_is f g.1)
    relation_is (is_empty r how) h = two is_empty (set_is r h) refl
    relation_is (is_in e how r) h =
        let g = parts (uses_expr e) (uses_set r) h in three is_in (expr_is e g.0) refl (set_is r g.1)
    relation_is (nested c) h = ap nested (condition_is c h)

  -- ---- statements that hold no other

  assign_is : (a : Assign) → AreGood d locals (uses_assign a) → named_assign p locals (resolved_assign d v locals a) ≡ a
  assign_is (Let b r e) h = let q = parts (uses_target r) (uses_expr e) h in two (Let b) (ref_is r q.0) (expr_is e q.1)
  assign_is (Add e r) h = let q = parts (uses_expr e) (uses_target r) h in two Add (expr_is e q.0) (ref_is r q.1)
  assign_is (Subtract e r) h =
      let q = parts (uses_expr e) (uses_target r) h in two Subtract (expr_is e q.0) (ref_is r q.1)

  making_is : (m : Making) → AreGood d locals (uses_making m) → named_making p locals (resolved_making d v locals m) ≡ m
  making_is (Create n r) h = two Create (class_is Ending n h.0) (called_target_is n r h.1)
  making_is (CreateEvery n e) h = two CreateEvery (class_is Permanent n h.0) (option_is e h.1)
  making_is (Destroy n r) h = two Destroy (class_is Ending n h.0) (called_value_is n r h.1)

  position_is : (f : FilePlace) → AreGood d locals (uses_file_place f) →
      named_position p locals (resolved_position d v locals f) ≡ f
  position_is ByDiscipline h = refl
  position_is (AtEnd z) h = refl
  position_is (Before e) h = ap Before (expr_is e h)
  position_is (After e) h = ap After (expr_is e h)

  filing_is : (f : Filing) → AreGood d locals (uses_filing f) → named_filing p locals (resolved_filing d v locals f) ≡ f
  filing_is (File e how r) h =
      let q = parts (uses_expr e ++ uses_file_place how) (uses_set r) h in
      let o = parts (uses_expr e) (uses_file_place how) q.0 in
      three File (expr_is e o.0) (position_is how o.1) (set_is r q.1)
  filing_is (FileAt z e r) h =
      let q = parts (uses_expr e) (uses_set r) h in three FileAt refl (expr_is e q.0) (set_is r q.1)
  filing_is (RemoveEnd z t r) h =
      let q = parts (uses_target t) (uses_set r) h in three RemoveEnd refl (ref_is t q.0) (set_is r q.1)
  filing_is (Remove e r) h = let q = parts (uses_expr e) (uses_set r) h in two Remove (expr_is e q.0) (set_is r q.1)

  given_is : (es : Listing Expr) → AreGood d locals (flat_map uses_expr (listing_names es)) →
      listing_of (resolved_listing es) (map (named_expr p locals) (map (resolved_expr d v locals) (listing_names es)))
      ≡ es
  given_is Unwritten h = refl
  given_is (BehindGiven es) h = ap (listing_of Given) (exprs_are (all_of es) h)
  given_is (InParentheses es) h = ap (listing_of Parenthesised) (exprs_are (all_of es) h)

  article_is : (a : Article) (n : Name) (r : Option Reference) →
      named_article p locals (resolved_notice d v locals a n r) ≡ a
  article_is A n r = refl
  article_is The n r = refl

  notice_is : (a : Article) (n : Name) (r : Option Reference) → AreGood d locals (uses_called a r) →
      named_notice p locals (resolved_notice d v locals a n r) ≡ r
  notice_is A n r h = called_target_is n r h
  notice_is The n r h = called_value_is n r h

  when_is : (t : When) → AreGood d locals (uses_when t) → named_when p locals (resolved_when d v locals t) ≡ t
  when_is (At e) h = ap At (expr_is e h)
  when_is Now h = refl
  when_is (In e) h = ap In (expr_is e h)

  scheduled : {a c : Article} {m n : Name} {x y : s.Details} {t u : When} → a ≡ c → m ≡ n → x ≡ y → t ≡ u →
      Schedule a m x t ≡ Schedule c n y u
  scheduled {c = c} {m = m} {n = n} {x = x} {y = y} {t = t} f g h i =
      ap (λ (z : Article). Schedule z m x t) f ∙ three (Schedule c) g h i

  timing_is : (t : Timing) → AreGood d locals (uses_timing t) → named_timing p locals (resolved_timing d v locals t) ≡ t
  timing_is (Schedule a n (ValuesFirst es r) t) h =
      let q = parts (uses_details a (ValuesFirst es r)) (uses_when t) h.1.1 in
      let o = parts (flat_map uses_expr (all_of es)) (uses_called a r) q.0 in
      scheduled (article_is a n r) (class_is Event n h.0)
      (two ValuesFirst (ap (several (expr None (term (digits 0) no_products) no_sums)) (exprs_are (all_of es) o.0))
      (notice_is a n r o.1))
      (when_is t q.1)
  timing_is (Schedule a n (CalledFirst r es) t) h =
      let q = parts (uses_details a (CalledFirst r es)) (uses_when t) h.1.1 in
      let o = parts (uses_called a r) (flat_map uses_expr es) q.0 in
      scheduled (article_is a n r) (class_is Event n h.0) (two CalledFirst (notice_is a n r o.0) (exprs_are es o.1))
      (when_is t q.1)
  timing_is (Cancel n r) h = two Cancel (class_is Event n h.0) (called_value_is n r h.1)
  timing_is StartSimulation h = refl

  routine_named : (n : Name) (values targets : ℕ) →
      IsGood d locals (Rattle.ss_check.specs.Uses.Routine n values targets) →
      (Rattle.ss_program.specs.Program.section_of p
      (Rattle.ss_check.specs.ResolvedNames.routine_number d v locals n)).name ≡ n
  routine_named n values targets g = S.routine n g.usage

  simple_is : (x : Simple) → AreGood d locals (uses_simple x) →
      named_place p locals (resolved_simple d v locals x) ≡ w.Simply x
  simple_is (Assigns a) h = ap (λ (z : Assign). w.Simply (Assigns z)) (assign_is a h)
  simple_is (Makes m) h = ap (λ (z : Making). w.Simply (Makes z)) (making_is m h)
  simple_is (Files f) h = ap (λ (z : Filing). w.Simply (Files z)) (filing_is f h)
  simple_is (Transfers (Call n es rs)) h =
      let q = parts (flat_map uses_expr (listing_names es)) (flat_map uses_target rs) h.1 in
      three (λ (m : Name) (z : Listing Expr) (ts : List Reference). w.Simply (Transfers (Call m z ts)))
      (routine_named n (length (listing_names es)) (length rs) h.0) (given_is es q.0) (targets_are rs q.1)
  simple_is (Transfers Return) h = refl
  simple_is (Transfers Stop) h = refl
  simple_is (Times t) h = ap (λ (z : Timing). w.Simply (Times z)) (timing_is t h)
  simple_is (Exchanges (Read rs)) h =
      ap (λ (zs : List Reference). w.Simply (Exchanges (Read (several (record { name = []; subscript = None }) zs))))
      (targets_are (all_of rs) h)
  simple_is (Exchanges (Print n es ls)) h =
      ap (λ (zs : List Expr). w.Simply (Exchanges (Print n zs ls))) (exprs_are es h)
  simple_is (Exchanges (Skip e)) h = ap (λ (z : Expr). w.Simply (Exchanges (Skip z))) (expr_is e h)

  -- ---- loops

  loop_variable_is : (n : Name) → IsGood d locals (LoopVariable n) →
      named_variable p locals (resolved_variable d v locals n) ≡ n
  loop_variable_is n g = let c = g.known in variable_is d v locals p S n (kind_of d n) refl g.fixed c.0

  begin_is : (b : l.WalkStart) → AreGood d locals (uses_start b) →
      named_begin p locals (resolved_begin d v locals b) ≡ b
  begin_is l.AtEnd h = refl
  begin_is (l.From e) h = ap l.From (expr_is e h)
  begin_is (l.After e) h = ap l.After (expr_is e h)

  range_is : (r : l.Range) → AreGood d locals (uses_range r) → named_range p locals (resolved_range d v locals r) ≡ r
  range_is (l.Counting way n a b step) h =
      let q = parts (uses_expr a ++ uses_expr b) (uses_option step) h.1 in
      let o = parts (uses_expr a) (uses_expr b) q.0 in
      counted refl (loop_variable_is n h.0) (expr_is a o.0) (expr_is b o.1) (option_is step q.1)
    where
      counted : {y z : Direction} {m n : Name} {a b c e : Expr} {i j : Option Expr} → y ≡ z → m ≡ n → a ≡ b → c ≡ e →
          i ≡ j →
          l.Counting y m a c i ≡ l.Counting z n b e j
      counted {z = z} {m = m} {n = n} {a = a} {c = c} {i = i} f g x t u =
          two (λ (y : Direction) (o : Name). l.Counting y o a c i) f g ∙ three (l.Counting z n) x t u
  range_is (l.Each n None) h = ap (λ (m : Name). l.Each m None) (class_is Permanent n h.0)
  range_is (l.Each n (Some called)) h =
      two (λ (m u : Name). l.Each m (Some u)) (class_is Permanent n h.0) (loop_variable_is called h.1.0)
  range_is (l.Walking way n r start) h =
      let q = parts (uses_set r) (uses_start start) h.1 in
      two (λ (y : Direction) (m : Name). l.Walking y m (named_set p locals (resolved_set d v locals r))
      (named_begin p locals (resolved_begin d v locals start)))
      refl (loop_variable_is n h.0)
      ∙ two (l.Walking way n) (set_is r q.0) (begin_is start q.1)

  qualifier_is : (q : l.Qualifier) → AreGood d locals (uses_condition q.condition) →
      named_qualifier p locals (resolved_qualifier d v locals q) ≡ q
  qualifier_is q h =
      two (λ (a : QualifierWord) (c : Condition). record { word = a; condition = c }) refl
      (condition_is q.condition h)

  qualifiers_are : (qs : List l.Qualifier) → AreGood d locals (flat_map (λ q. uses_condition q.condition) qs) →
      map (named_qualifier p locals) (map (resolved_qualifier d v locals) qs) ≡ qs
  qualifiers_are qs h =
      maps_back (resolved_qualifier d v locals) (named_qualifier p locals)
      (λ (q : l.Qualifier). uses_condition q.condition) (AreGood d locals) qs
      qualifier_is (λ x ys a. parts (uses_condition x.condition) (flat_map (λ q. uses_condition q.condition) ys) a) h

  telling_is : (t : l.Computed) → AreGood d locals (uses_target t.target) →
      named_telling p locals (resolved_telling d v locals t) ≡ t
  telling_is t h =
      two (λ (a : Reference) (b : Statistic). record { target = a; statistic = b }) (ref_is t.target h)
      refl

  tellings_are : (ts : List l.Computed) → AreGood d locals (flat_map (λ t. uses_target t.target) ts) →
      map (named_telling p locals) (map (resolved_telling d v locals) ts) ≡ ts
  tellings_are ts h =
      maps_back (resolved_telling d v locals) (named_telling p locals) (λ (t : l.Computed). uses_target t.target)
      (AreGood d locals) ts
      telling_is (λ x ys a. parts (uses_target x.target) (flat_map (λ t. uses_target t.target) ys) a) h

  loop_is : (x : w.Loop) → AreGood d locals (uses_loop x) → named_loop p locals (resolved_loop d v locals x) ≡ x
  loop_is (w.For f has_do) h =
      let q = parts (uses_range f.range) (flat_map (λ q. uses_condition q.condition) f.qualifiers) h in
      two (λ (a : l.Range) (b : List l.Qualifier). w.For (record { range = a; qualifiers = b }) has_do)
      (range_is f.range q.0) (qualifiers_are f.qualifiers q.1)
  loop_is w.Next h = refl
  loop_is w.Find h = refl
  loop_is (w.Gather e) h = ap w.Gather (expr_is e h)
  loop_is (w.Compute ts) h =
      ap (λ (zs : List l.Computed). w.Compute
      (several (record { target = record { name = []; subscript = None }; statistic = statistics.Number }) zs))
      (tellings_are (all_of ts) h)

  -- ---- places

  branch_is : (b : w.Branch) → AreGood d locals (uses_branch b) →
      named_branch p locals (resolved_branch d v locals b) ≡ b
  branch_is (w.If (l.Holds c)) h = ap (λ (z : Condition). w.If (l.Holds z)) (condition_is c h)
  branch_is (w.If l.Found) h = refl
  branch_is (w.If l.NoneFound) h = refl
  branch_is w.Else h = refl
  branch_is w.Always h = refl

  pub place_is : (x : w.Place) → AreGood d locals (uses x) →
      named_place p locals (resolved_place d v locals x) ≡ x
  place_is (w.Simply x) h = simple_is x h
  place_is (w.Branches b) h = ap w.Branches (branch_is b h)
  place_is (w.Loops x) h = ap w.Loops (loop_is x h)
  place_is w.EndOfSection h = refl
