-- The tables of a program without a breach give back the name that a use has.
use Rattle.std.proofs.Common.{◌≡◌, ◌<◌, ◌+◌, ◌==◌, true, false, not, ◌&&◌, Bool, List, [], length, refl, sym, ap, ◌∙◌}
use Rattle.std.proofs.Common.{arith, Option, Some, None}
use Rattle.std.specs.Prelude.{codes, unwrap_or}
use Rattle.std.proofs.lemmas.Bool.{true≢false, false≢true, not-false, eqb-true}
use Rattle.ss_words.specs.Lists.{Name}
use Rattle.ss_routines.specs.Expr.{Expr, Exprs, no_exprs, exprs, named, applied}
use Rattle.ss_routines.specs.Condition.{Reference}
use Rattle.ss_program.specs.Program.{ProgramTable, class_of, set_of, section_of}
use Rattle.ss_program.specs.ProgramExpr as x
use Rattle.ss_check.specs.LanguageFunction.{LanguageFunction}
use Rattle.ss_check.specs.LanguageFunction.{Absolute, Greatest, Least, Quotient, Remainder}
use Rattle.ss_words.specs.declared.terms.OwnerKept.{OwnerKept}
use Rattle.ss_words.specs.declared.terms.MemberKept.{MemberKept}
use Rattle.ss_check.specs.NameKind.{NameKind}
use Rattle.ss_check.specs.NameKind as k
use Rattle.ss_check.specs.Declarations.{Declared}
use Rattle.ss_check.specs.NameKinds.{is_global, names_function, names_variable, names_fixed}
use Rattle.ss_check.specs.Declarations.{kind_of, is_of_system}
use Rattle.ss_check.specs.PlaceRules.{is_routine}
use Rattle.ss_check.specs.PlaceRules.{is_valueless, takes, takes_no_parentheses, has_wrong_arguments}
use Rattle.ss_check.specs.Uses.{count}
use Rattle.ss_check.specs.ResolvedNames.{Names, number, attribute_names, variable_of, subscript_of_owner, owner_of}
use Rattle.ss_check.specs.ResolvedNames.{routine_number, factor_of, function_factor, applied_factor, target_of}
use Rattle.ss_check.specs.Resolved.{resolved_expr, resolved_exprs, resolved_option}
use Rattle.ss_check.specs.NamedTree.{owner_kept_name, member_kept_name, name_at, named_variable, named_attribute}
use Rattle.ss_check.specs.NamedTree.{named_expr, named_exprs, named_factor, named_applied, named_subscript}
use Rattle.ss_check.specs.NamedTree.{named_target}
use Rattle.ss_check.proofs.NamedKinds.{function_name, number_finds}

-- ---- equal parts make an equal whole

pub two : {A B C : Type 0} {a a' : A} {b b' : B} (f : A → B → C) → a ≡ a' → b ≡ b' → f a b ≡ f a' b'
two {a' = a'} {b = b} f g h = ap (λ z. f z b) g ∙ ap (f a') h

pub three : {A B C D : Type 0} {a a' : A} {b b' : B} {c c' : C} (f : A → B → C → D) → a ≡ a' → b ≡ b' → c ≡ c' →
    f a b c ≡ f a' b' c'
three {a' = a'} {b = b} {b' = b'} {c = c} f g h i = ap (λ z. f z b c) g ∙ ap (λ z. f a' z c) h ∙ ap (f a' b') i

-- ---- how many arguments

-- no argument but the first
single : (bs : Exprs) → not (1 + count bs == 1) ≡ false → bs ≡ no_exprs
single no_exprs h = refl
single (exprs b bs) h =
    let g = eqb-true (1 + (1 + count bs)) 1 (not-false (1 + (1 + count bs) == 1) h) in absurd (omega (arith, g))

second_of : (a b : Bool) → a ≡ true → (a && b) ≡ false → b ≡ false
second_of true b g h = h
second_of false b g h = absurd (false≢true g)

-- ---- the contents of the tables, as the places of a section name it

pub record IsListed (d : Declared) (v : Names) (locals : List Name) (p : ProgramTable) : Type 0 where
  pub global : (n : Name) (j : NameKind) → kind_of d n ≡ Some j → is_global j ≡ true →
      name_at p.globals (number n v.globals) ≡ n
  pub attribute : (n c : Name) → kind_of d n ≡ Some (k.Attribute c) →
      named_attribute p locals (number c v.classes) (number n (attribute_names v c)) ≡ n
  pub owner_kept : (n : Name) (a : OwnerKept) (s : Name) → kind_of d n ≡ Some (k.OwnerKept a s) →
      owner_kept_name a (set_of p (number s v.sets)).name ≡ n
  pub member_kept : (n : Name) (a : MemberKept) (s : Name) → kind_of d n ≡ Some (k.MemberKept a s) →
      member_kept_name a (set_of p (number s v.sets)).name ≡ n
  pub set : (n : Name) → kind_of d n ≡ Some k.Set → (set_of p (number n v.sets)).name ≡ n
  pub class : (n : Name) (g : Option Rattle.ss_preamble.specs.declared.item.Heading.Heading) →
      kind_of d n ≡ Some (k.Class g) →
      (class_of p (number n v.classes)).name ≡ n
  pub function : (n : Name) (f : LanguageFunction) → kind_of d n ≡ Some (k.Function f) → function_name f ≡ n
  pub clock : (n : Name) → kind_of d n ≡ Some k.Clock → codes "TIME.V" ≡ n
  pub routine : (n : Name) → not (is_routine d n) ≡ false → (section_of p (routine_number d v locals n)).name ≡ n

module _ (d : Declared) (v : Names) (locals : List Name) (p : ProgramTable) (S : IsListed d v locals p) where
  local_is : (n : Name) → number n locals < length locals → name_at locals (number n locals) ≡ n
  local_is n h = ap (λ (o : Option Name). unwrap_or o []) (number_finds n locals h)

  -- a variable
  pub variable_is : (n : Name) (j : Option NameKind) → kind_of d n ≡ j → not (names_variable j) ≡ false →
      (j ≡ None → number n locals < length locals) → named_variable p locals (variable_of d v locals j n) ≡ n
  variable_is n None e a h = local_is n (h refl)
  variable_is n (Some k.Variable) e a h = S.global n k.Variable e refl
  variable_is n (Some k.ClassCount) e a h = S.global n k.ClassCount e refl
  variable_is n (Some (k.Class g)) e a h = S.global n (k.Class g) e refl
  variable_is n (Some (k.Attribute c)) e a h = absurd (true≢false a)
  variable_is n (Some (k.OwnerKept q s)) e a h = absurd (true≢false a)
  variable_is n (Some (k.MemberKept q s)) e a h = absurd (true≢false a)
  variable_is n (Some (k.Function f)) e a h = absurd (true≢false a)
  variable_is n (Some k.Clock) e a h = absurd (true≢false a)
  variable_is n (Some k.Set) e a h = absurd (true≢false a)
  variable_is n (Some k.Routine) e a h = absurd (true≢false a)

  -- a subscript that is not written, and one that is
  owner_none : (o : Option Name) (m : Name) → named_applied p locals m (subscript_of_owner d v locals o None) ≡ named m
  owner_none None m = refl
  owner_none (Some c) m = refl

  owner_some : (o : Option Name) (m : Name) (a : x.Expr) →
      named_applied p locals m (subscript_of_owner d v locals o (Some a)) ≡ applied m (named_expr p locals a) no_exprs
  owner_some None m a = refl
  owner_some (Some c) m a = refl

  pub owner_is : (o : Option Name) (i : Option Expr) →
      ((a : Expr) → i ≡ Some a → named_expr p locals (resolved_expr d v locals a) ≡ a) →
      named_subscript p locals (subscript_of_owner d v locals o (resolved_option d v locals i)) ≡ i
  owner_is None None h = refl
  owner_is None (Some a) h = ap (λ (z : Expr). Some z) (h a refl)
  owner_is (Some c) None h = refl
  owner_is (Some c) (Some a) h = ap (λ (z : Expr). Some z) (h a refl)

  -- a name as a value without a subscript
  pub value_is : (n : Name) (j : Option NameKind) → kind_of d n ≡ j → is_valueless j ≡ false →
      names_function j ≡ false →
      (j ≡ None → number n locals < length locals) → named_factor p locals (factor_of d v locals j n None) ≡ named n
  value_is n None e a b h = ap named (local_is n (h refl))
  value_is n (Some k.Variable) e a b h = ap named (S.global n k.Variable e refl)
  value_is n (Some k.ClassCount) e a b h = ap named (S.global n k.ClassCount e refl)
  value_is n (Some (k.Class g)) e a b h = ap named (S.global n (k.Class g) e refl)
  value_is n (Some (k.Attribute c)) e a b h = ap named (S.attribute n c e)
  value_is n (Some (k.OwnerKept q s)) e a b h =
      owner_none (owner_of d v locals s) (owner_kept_name q (set_of p (number s v.sets)).name)
      ∙ ap named (S.owner_kept n q s e)
  value_is n (Some (k.MemberKept q s)) e a b h = ap named (S.member_kept n q s e)
  value_is n (Some (k.Function f)) e a b h = absurd (true≢false b)
  value_is n (Some k.Clock) e a b h = ap named (S.clock n e)
  value_is n (Some k.Set) e a b h = absurd (true≢false a)
  value_is n (Some k.Routine) e a b h = absurd (true≢false a)

  -- an expression and the expressions after it are those of the text
  abbrev pub IsTold : Expr → Type 0
  IsTold a = named_expr p locals (resolved_expr d v locals a) ≡ a

  abbrev pub AreTold : Exprs → Type 0
  AreTold bs = named_exprs p locals (resolved_exprs d v locals bs) ≡ bs

  function_is : (n : Name) (f : LanguageFunction) (a : Expr) (bs : Exprs) → function_name f ≡ n →
      not (takes f (1 + count bs)) ≡ false →
      IsTold a → AreTold bs →
      named_factor p locals (function_factor d v locals f (resolved_expr d v locals a) (resolved_exprs d v locals bs))
      ≡ applied n a bs
  function_is n Absolute a bs e h g i = three applied e g (sym (single bs h))
  function_is n Greatest a bs e h g i = three applied e g i
  function_is n Least a bs e h g i = three applied e g i
  function_is n Quotient a no_exprs e h g i = absurd (let z = eqb-true 1 2 (not-false (1 == 2) h) in omega (arith, z))
  function_is n Quotient a (exprs b no_exprs) e h g i = three applied e g i
  function_is n Quotient a (exprs b (exprs c cs)) e h g i =
      let m = 1 + (1 + (1 + count cs)) in absurd (let z = eqb-true m 2 (not-false (m == 2) h) in omega (arith, z))
  function_is n Remainder a no_exprs e h g i = absurd (let z = eqb-true 1 2 (not-false (1 == 2) h) in omega (arith, z))
  function_is n Remainder a (exprs b no_exprs) e h g i = three applied e g i
  function_is n Remainder a (exprs b (exprs c cs)) e h g i =
      let m = 1 + (1 + (1 + count cs)) in absurd (let z = eqb-true m 2 (not-false (m == 2) h) in omega (arith, z))

  -- a name as a value with arguments
  pub applied_is : (n : Name) (j : Option NameKind) (a : Expr) (bs : Exprs) → kind_of d n ≡ j → takes_no_parentheses d j
      ≡ false →
      has_wrong_arguments d j (1 + count bs) ≡ false → IsTold a → AreTold bs →
      named_factor p locals (applied_factor d v locals j n (resolved_expr d v locals a) (resolved_exprs d v locals bs))
      ≡ applied n a bs
  applied_is n None a bs e b h g i = absurd (true≢false b)
  applied_is n (Some k.Variable) a bs e b h g i = absurd (true≢false b)
  applied_is n (Some k.ClassCount) a bs e b h g i = absurd (true≢false b)
  applied_is n (Some (k.Class o)) a bs e b h g i = absurd (true≢false b)
  applied_is n (Some (k.Attribute c)) a bs e b h g i = three applied (S.attribute n c e) g (sym (single bs h))
  applied_is n (Some (k.OwnerKept q s)) a bs e b h g i =
      let t = not-false (not (is_of_system d s)) b in
      owner_some (owner_of d v locals s) (owner_kept_name q (set_of p (number s v.sets)).name)
      (resolved_expr d v locals a)
      ∙ three applied (S.owner_kept n q s e) g
      (sym (single bs (second_of (not (is_of_system d s)) (not (1 + count bs == 1)) t h)))
  applied_is n (Some (k.MemberKept q s)) a bs e b h g i = three applied (S.member_kept n q s e) g (sym (single bs h))
  applied_is n (Some (k.Function f)) a bs e b h g i = function_is n f a bs (S.function n f e) h g i
  applied_is n (Some k.Clock) a bs e b h g i = absurd (true≢false b)
  applied_is n (Some k.Set) a bs e b h g i = absurd (true≢false b)
  applied_is n (Some k.Routine) a bs e b h g i = absurd (true≢false b)

  -- a name as a target
  abbrev reference : Name → Option Expr → Reference
  reference n i = record { name = n; subscript = i }

  pub target_is : (n : Name) (j : Option NameKind) → kind_of d n ≡ j → is_valueless j ≡ false → names_fixed j ≡ false →
      (j ≡ None → number n locals < length locals) →
      named_target p locals (target_of d v locals j n None) ≡ reference n None
  target_is n None e a b h = ap (λ (m : Name). reference m None) (local_is n (h refl))
  target_is n (Some k.Variable) e a b h = ap (λ (m : Name). reference m None) (S.global n k.Variable e refl)
  target_is n (Some k.ClassCount) e a b h = ap (λ (m : Name). reference m None) (S.global n k.ClassCount e refl)
  target_is n (Some (k.Class g)) e a b h = ap (λ (m : Name). reference m None) (S.global n (k.Class g) e refl)
  target_is n (Some (k.Attribute c)) e a b h = ap (λ (m : Name). reference m None) (S.attribute n c e)
  target_is n (Some (k.OwnerKept q s)) e a b h = absurd (true≢false b)
  target_is n (Some (k.MemberKept q s)) e a b h = absurd (true≢false b)
  target_is n (Some (k.Function f)) e a b h = absurd (true≢false b)
  target_is n (Some k.Clock) e a b h = absurd (true≢false b)
  target_is n (Some k.Set) e a b h = absurd (true≢false a)
  target_is n (Some k.Routine) e a b h = absurd (true≢false a)

  pub target_at_is : (n : Name) (j : Option NameKind) (a : Expr) → kind_of d n ≡ j → takes_no_parentheses d j ≡ false →
      names_fixed j ≡ false →
      IsTold a → named_target p locals (target_of d v locals j n (Some (resolved_expr d v locals a)))
      ≡ reference n (Some a)
  target_at_is n None a e b f g = absurd (true≢false b)
  target_at_is n (Some k.Variable) a e b f g = absurd (true≢false b)
  target_at_is n (Some k.ClassCount) a e b f g = absurd (true≢false b)
  target_at_is n (Some (k.Class o)) a e b f g = absurd (true≢false b)
  target_at_is n (Some (k.Attribute c)) a e b f g =
      two (λ (m : Name) (z : Expr). reference m (Some z)) (S.attribute n c e) g
  target_at_is n (Some (k.OwnerKept q s)) a e b f g = absurd (true≢false f)
  target_at_is n (Some (k.MemberKept q s)) a e b f g = absurd (true≢false f)
  target_at_is n (Some (k.Function w)) a e b f g = absurd (true≢false f)
  target_at_is n (Some k.Clock) a e b f g = absurd (true≢false b)
  target_at_is n (Some k.Set) a e b f g = absurd (true≢false b)
  target_at_is n (Some k.Routine) a e b f g = absurd (true≢false b)
