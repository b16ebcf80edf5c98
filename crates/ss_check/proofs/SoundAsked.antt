-- An expression or a condition that has a meaning in a section names only rows that exist there.
use Rattle.std.proofs.Common.{◌≡◌, ℕ, zero, suc, Bool, true, false, not, ◌||◌, cond, List, [], ◌∷◌, ◌++◌, length, refl}
use Rattle.std.proofs.Common.{sym, ap, ◌∙◌, subst, Option, Some, None}
use Rattle.std.specs.Prelude.{map, slice_get, slice_index_or, Ok}
use Rattle.std.specs.List.{find, flat_map, list_any}
use mathlib.Core.Logic.{inl, inr}
use Rattle.ss_words.specs.Lists.{Name}
use Rattle.ss_preamble.specs.Tree.{Decls}
use Rattle.ss_routines.specs.Expr.{Expr}
use Rattle.ss_routines.specs.Condition.{Condition}
use Rattle.ss_routines.specs.Places.{Section}
use Rattle.ss_program.specs.Program as program
use Rattle.ss_program.specs.Program.{ProgramTable, SectionTable}
use Rattle.ss_program.specs.ProgramExpr.{Expr as ProgramExpr}
use Rattle.ss_program.specs.ProgramCondition.{Condition as ProgramCondition}
use Rattle.ss_program.specs.ProgramSound.{Scope, IsSoundExpr, IsSoundCondition, scope_in}
use Rattle.ss_check.specs.declared.fault.CheckRule.{CheckRule}
use Rattle.ss_check.specs.declared.fault.CheckRule.TheVariants.{WrongClass, WrongUse, WrongCount, FixedTarget}
use Rattle.ss_check.specs.Asked.{AskedFault, is_unknown, first_unknown, rule_fault, name_fault}
use Rattle.ss_check.specs.Asked.{fault_of_uses, unless, locals_at, judged_expression, judged_condition}
use Rattle.ss_check.specs.Asked.{AskedExpressionsAreSound, AskedConditionsAreSound}
use Rattle.ss_check.specs.Breach.{breach}
use Rattle.ss_check.specs.Declarations.{Declared, declared_by_program, headed_items, heads, is_declared}
use Rattle.ss_check.specs.Facts.{is_among}
use Rattle.ss_check.specs.PlaceRules.{is_wrong_class, is_misused, is_wrong_count, is_fixed, use_breaks}
use Rattle.ss_check.specs.Resolved.{rankings, resolved_expr, resolved_condition, resolved_section, program_resolved}
use Rattle.ss_check.specs.ResolvedNames.{names, number, variable_used, locals_of}
use Rattle.ss_check.specs.Statements.{rule_where, lowest}
use Rattle.ss_check.specs.Symbols.{Symbols, symbols_of}
use Rattle.ss_check.specs.Uses.{Use, uses_expr, uses_condition}
use Rattle.ss_check.proofs.SoundLists.{In, in_flat, among_in, number_there}
use Rattle.ss_check.proofs.SoundNames.{program_scope, scoped}
use Rattle.ss_check.proofs.SoundPlaces.{sound_expr, sound_condition}
use Rattle.ss_check.proofs.SoundPlaceUses.{undeclared_is, all_known}
use Rattle.ss_check.proofs.SoundStatements.{kept}
use Rattle.ss_check.proofs.SoundUses.{IsKnown, AreGood, good_from}

-- ---- uses without a fault

-- no rule on names is broken
pub record BreakNothing (d : Declared) (us : List Use) : Type 0 where
  pub class : list_any (is_wrong_class d) us ≡ false
  pub usage : list_any (is_misused d) us ≡ false
  pub count : list_any (is_wrong_count d) us ≡ false
  pub fixed : list_any (is_fixed d) us ≡ false

unbroken_by : (a b c e : Bool) →
    lowest (rule_where WrongClass a ++ rule_where WrongUse b ++ rule_where WrongCount c ++ rule_where FixedTarget e)
    ≡ None → (a ≡ false) × (b ≡ false) × (c ≡ false) × (e ≡ false)
unbroken_by true b c e h = cc
unbroken_by false true c e h = cc
unbroken_by false false true e h = cc
unbroken_by false false false true h = cc
unbroken_by false false false false h = (refl, refl, refl, refl)

break_nothing : (d : Declared) (us : List Use) → lowest (use_breaks d us) ≡ None → BreakNothing d us
break_nothing d us h =
    let p = unbroken_by (list_any (is_wrong_class d) us) (list_any (is_misused d) us)
    (list_any (is_wrong_count d) us) (list_any (is_fixed d) us) h in
    record { class = p.0; usage = p.1; count = p.2; fixed = p.3 }

no_rule : (rule : Option CheckRule) → rule_fault rule ≡ None → rule ≡ None
no_rule None h = refl
no_rule (Some rule) h = cc

neither : (name : Option Name) (rule : Option CheckRule) → name_fault name rule ≡ None → (name ≡ None) × (rule ≡ None)
neither None rule h = (refl, no_rule rule h)
neither (Some name) rule h = cc

-- no name passes a test by which none is found
found_in : {X : Type 0} (test : X → Bool) (xs : List X) → find test xs ≡ None → (x : X) → In x xs → test x ≡ false
found_in test [] h x i = absurd i
found_in {X = X} test (y ∷ ys) h x i = by (test y) refl h i (λ k j. found_in test ys k x j)
  where
    by : (b : Bool) → test y ≡ b → cond b (Some y) (find test ys) ≡ None → In x (y ∷ ys) →
        (find test ys ≡ None → In x ys → test x ≡ false) → test x ≡ false
    by true e k j rec = cc
    by false e k (inl s) rec = ap test s ∙ e
    by false e k (inr j) rec = rec k j

local_of : (a b : Bool) → not (a || b) ≡ false → a ≡ false → b ≡ true
local_of true b h e = cc
local_of false true h e = refl
local_of false false h e = cc

module _ (d : Declared) (locals : List Name) where
  known : (us : List Use) → first_unknown d locals us ≡ None → (u : Use) → In u us → (n : Name) →
      In n (variable_used u) → IsKnown d locals n
  known us h u i n j e =
      let there : In n (flat_map variable_used us) = in_flat variable_used u n us i j in
      let passes : is_unknown d locals n ≡ false =
      found_in (is_unknown d locals) (flat_map variable_used us) h n there in
      let undeclared : is_declared d n ≡ false = undeclared_is d n e (is_declared d n) refl in
      number_there n locals
      (among_in n locals (local_of (is_declared d n) (is_among n locals) passes undeclared))

  good_uses : (us : List Use) → fault_of_uses d locals us ≡ None → AreGood d locals us
  good_uses us h =
      let p = neither (first_unknown d locals us) (lowest (use_breaks d us)) h in
      let b = break_nothing d us p.1 in
      good_from d locals us b.class b.usage b.count b.fixed
      (λ u i. all_known d locals (variable_used u) (λ n j. known us p.0 u i n j))

-- ---- the judgement

no_fault : {A : Type 0} (fault : Option AskedFault) (x y : A) → unless fault x ≡ Ok y → (fault ≡ None) × (x ≡ y)
no_fault None x y h = (refl, cc)
no_fault (Some fault) x y h = cc

-- the local variables of a section in the symbol table and in the program
same_locals : (f : Section → List Name) (g : Section → SectionTable) → ((s : Section) → (g s).locals ≡ f s) →
    (ss : List Section) (q : ℕ) →
    program.locals_of (slice_get (map g ss) q) ≡ slice_index_or (map f ss) q []
same_locals f g e [] q = refl
same_locals f g e (s ∷ ss) zero = e s
same_locals f g e (s ∷ ss) (suc q) = same_locals f g e ss q

-- a text without a breach
module _ (decls : Decls) (ss : List Section) (b : breach decls ss ≡ None) (q : ℕ) where
  abbrev D : Declared
  D = declared_by_program decls.items ss

  abbrev V : Rattle.ss_check.specs.ResolvedNames.Names
  V = names D (heads ss)

  abbrev here : List Name
  here = locals_at (symbols_of decls ss) q

  abbrev there : Scope
  there = program_scope D V (rankings decls.items) here

  scope_is : there ≡ scope_in (program_resolved decls ss) q
  scope_is =
      let same = same_locals (locals_of D) (resolved_section D V) (λ s. refl) ss q in
      ap (λ (ns : List Name). record {
        globals = length V.globals;
        locals = length ns;
        permanent = there.permanent;
        sets = there.sets;
      }) (sym same)

  sound_asked : (e : Expr) → fault_of_uses D here (uses_expr e) ≡ None →
      IsSoundExpr (scope_in (program_resolved decls ss) q) (resolved_expr D V here e)
  sound_asked e h =
      let k = kept decls ss b in
      subst (λ (sc : Scope). IsSoundExpr sc (resolved_expr D V here e)) scope_is
      (sound_expr D V here there (scoped (headed_items decls.items) (heads ss) k.items (rankings decls.items) here) e
      (good_uses D here (uses_expr e) h))

  sound_condition_asked : (c : Condition) → fault_of_uses D here (uses_condition c) ≡ None →
      IsSoundCondition (scope_in (program_resolved decls ss) q) (resolved_condition D V here c)
  sound_condition_asked c h =
      let k = kept decls ss b in
      subst (λ (sc : Scope). IsSoundCondition sc (resolved_condition D V here c)) scope_is
      (sound_condition D V here there (scoped (headed_items decls.items) (heads ss) k.items (rankings decls.items) here)
      c (good_uses D here (uses_condition c) h))

-- ---- the laws

pub expressions_sound : AskedExpressionsAreSound
expressions_sound program symbols q e x is h =
    let decls = is.0 in
    let ss = is.1 in
    let mine : judged_expression (symbols_of decls ss) q e ≡ Ok x =
    subst (λ (t : Symbols). judged_expression t q e ≡ Ok x) is.4 h in
    let p = no_fault
    (fault_of_uses (symbols_of decls ss).declared (locals_at (symbols_of decls ss) q) (uses_expr e))
    (resolved_expr (symbols_of decls ss).declared (symbols_of decls ss).names (locals_at (symbols_of decls ss) q) e) x
    mine in
    subst (λ (t : ProgramTable). IsSoundExpr (scope_in t q) x) (sym is.3)
    (subst (λ (y : ProgramExpr). IsSoundExpr (scope_in (program_resolved decls ss) q) y) p.1
    (sound_asked decls ss is.2 q e p.0))

pub conditions_sound : AskedConditionsAreSound
conditions_sound program symbols q c x is h =
    let decls = is.0 in
    let ss = is.1 in
    let mine : judged_condition (symbols_of decls ss) q c ≡ Ok x =
    subst (λ (t : Symbols). judged_condition t q c ≡ Ok x) is.4 h in
    let p = no_fault
    (fault_of_uses (symbols_of decls ss).declared (locals_at (symbols_of decls ss) q) (uses_condition c))
    (resolved_condition (symbols_of decls ss).declared (symbols_of decls ss).names (locals_at (symbols_of decls ss) q)
    c) x
    mine in
    subst (λ (t : ProgramTable). IsSoundCondition (scope_in t q) x) (sym is.3)
    (subst (λ (y : ProgramCondition). IsSoundCondition (scope_in (program_resolved decls ss) q) y) p.1
    (sound_condition_asked decls ss is.2 q c p.0))
