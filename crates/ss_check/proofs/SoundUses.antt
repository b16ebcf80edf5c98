-- The known facts about the names of a program without a breach, and the things that they denote.
use Rattle.std.proofs.Common.{◌≡◌, ◌<◌, true, false, not, List, [], ◌∷◌, ◌++◌, length, refl, Option, Some, None}
use Rattle.std.specs.Prelude.{slice_get, codes}
use Rattle.std.specs.List.{list_any}
use Rattle.std.proofs.lemmas.Bool.{true≢false, false≢true, or_parts}
use Rattle.ss_words.specs.Lists.{Name}
use Rattle.ss_program.specs.ProgramExpr.{Expr, Exprs, no_exprs, exprs}
use Rattle.ss_program.specs.ProgramSound.{Scope, IsClass, IsSettable, IsSoundExpr, IsSoundFactor, IsSoundSubscript}
use Rattle.ss_program.specs.ProgramSound.{AreSoundArguments, IsSoundOption, IsTarget}
use Rattle.ss_check.specs.LanguageFunction.{LanguageFunction}
use Rattle.ss_check.specs.LanguageFunction.{Absolute, Greatest, Least, Quotient, Remainder}
use Rattle.ss_words.specs.declared.terms.OwnerKept.{OwnerKept}
use Rattle.ss_words.specs.declared.terms.MemberKept.{MemberKept}
use Rattle.ss_check.specs.NameKind.{NameKind}
use Rattle.ss_check.specs.NameKind as k
use Rattle.ss_check.specs.Declarations.{Declared}
use Rattle.ss_check.specs.NameKinds.{is_global, names_function, names_variable, names_fixed, names_permanent}
use Rattle.ss_check.specs.NameKinds.{names_ending}
use Rattle.ss_check.specs.Declarations.{kind_of}
use Rattle.ss_check.specs.PlaceRules.{is_valueless, is_wrong_class, takes_no_parentheses, is_misused, is_wrong_count}
use Rattle.ss_check.specs.PlaceRules.{is_fixed}
use Rattle.ss_check.specs.ResolvedNames.{Names, number, variable_used, variable_of, class_subscript, subscript_of_owner}
use Rattle.ss_check.specs.ResolvedNames.{owner_of, member_class, owner_subscript, factor_of, function_factor}
use Rattle.ss_check.specs.ResolvedNames.{applied_factor, target_of}
use Rattle.ss_check.specs.Uses.{Use}
use Rattle.ss_check.proofs.SoundLists.{In}
use mathlib.Core.Logic.{inl, inr}

-- ---- the contents of the tables, as the places of a section may name it

pub record Scoped (d : Declared) (v : Names) (locals : List Name) (sc : Scope) : Type 0 where
  pub global : (n : Name) (j : NameKind) → kind_of d n ≡ Some j → is_global j ≡ true → number n v.globals < sc.globals
  pub attribute : (n c : Name) → kind_of d n ≡ Some (k.Attribute c) → IsClass sc (number c v.classes)
  pub attribute_variable : (n c : Name) → kind_of d n ≡ Some (k.Attribute c) → number c v.globals < sc.globals
  pub owner_kept : (n : Name) (a : OwnerKept) (s : Name) → kind_of d n ≡ Some (k.OwnerKept a s) →
      number s v.sets < sc.sets
  pub owner : (s c : Name) → owner_of d v locals s ≡ Some c → number c v.globals < sc.globals
  pub member_kept : (n : Name) (a : MemberKept) (s : Name) → kind_of d n ≡ Some (k.MemberKept a s) →
      number s v.sets < sc.sets
  pub member : (n : Name) (a : MemberKept) (s : Name) → kind_of d n ≡ Some (k.MemberKept a s) →
      number (member_class d v locals s) v.globals < sc.globals
  pub set : (n : Name) → kind_of d n ≡ Some k.Set → number n v.sets < sc.sets
  pub locals_are : sc.locals ≡ length locals
  pub permanent : (n : Name) → names_permanent (kind_of d n) ≡ true →
      slice_get sc.permanent (number n v.classes) ≡ Some true
  pub counts : (n : Name) → names_permanent (kind_of d n) ≡ true → number (codes "N." ++ n) v.globals < sc.globals
  pub ending : (n : Name) → names_ending (kind_of d n) ≡ true → slice_get sc.permanent (number n v.classes) ≡ Some false

-- ---- uses that break no rule

module _ (d : Declared) (locals : List Name) where
  -- a name that is not declared is a local variable
  abbrev pub IsKnown : Name → Type 0
  IsKnown n = kind_of d n ≡ None → number n locals < length locals

  abbrev pub AreKnown : List Name → Type 0
  AreKnown [] = Unit {0}
  AreKnown (n ∷ ns) = IsKnown n × AreKnown ns

  pub record IsGood (u : Use) : Type 0 where
    pub class : is_wrong_class d u ≡ false
    pub usage : is_misused d u ≡ false
    pub count : is_wrong_count d u ≡ false
    pub fixed : is_fixed d u ≡ false
    pub known : AreKnown (variable_used u)

  abbrev pub AreGood : List Use → Type 0
  AreGood [] = Unit {0}
  AreGood (u ∷ us) = IsGood u × AreGood us

  pub good_parts : (xs ys : List Use) → AreGood (xs ++ ys) → AreGood xs × AreGood ys
  good_parts [] ys h = (tt, h)
  good_parts (x ∷ xs) ys h = let p = good_parts xs ys h.1 in ((h.0, p.0), p.1)

  pub good_from : (us : List Use) → list_any (is_wrong_class d) us ≡ false → list_any (is_misused d) us ≡ false →
      list_any (is_wrong_count d) us ≡ false → list_any (is_fixed d) us ≡ false →
      ((u : Use) → In u us → AreKnown (variable_used u)) → AreGood us
  good_from [] a b c e n = tt
  good_from (u ∷ us) a b c e n =
      let p = or_parts (is_wrong_class d u) (list_any (is_wrong_class d) us) a in
      let q = or_parts (is_misused d u) (list_any (is_misused d) us) b in
      let r = or_parts (is_wrong_count d u) (list_any (is_wrong_count d) us) c in
      let s = or_parts (is_fixed d u) (list_any (is_fixed d) us) e in (
        record { class = p.0; usage = q.0; count = r.0; fixed = s.0; known = n u (inl refl) },
        good_from us p.1 q.1 r.1 s.1 (λ v i. n v (inr i)),
      )

-- ---- the thing that a name denotes

module _ (d : Declared) (v : Names) (locals : List Name) (sc : Scope) (S : Scoped d v locals sc) where
  local_there : (n : Name) → number n locals < length locals → number n locals < sc.locals
  local_there n h = rw S.locals_are h

  -- the subscript of a class that has a variable
  class_sub : (c : Name) (e : Option Expr) → number c v.globals < sc.globals → IsSoundOption sc e →
      IsSoundSubscript sc (class_subscript d v locals c e)
  class_sub c None h x = h
  class_sub c (Some e) h x = x

  owner_sub : (s : Name) (o : Option Name) (e : Option Expr) → owner_of d v locals s ≡ o → IsSoundOption sc e →
      IsSoundSubscript sc (subscript_of_owner d v locals o e)
  owner_sub s None None h x = tt
  owner_sub s None (Some e) h x = x
  owner_sub s (Some c) e h x = class_sub c e (S.owner s c h) x

  pub sound_owner : (s : Name) (e : Option Expr) → IsSoundOption sc e →
      IsSoundSubscript sc (owner_subscript d v locals s e)
  sound_owner s e x = owner_sub s (owner_of d v locals s) e refl x

  -- a name as a value without a subscript
  pub sound_named : (n : Name) (j : Option NameKind) → kind_of d n ≡ j → is_valueless j ≡ false →
      names_function j ≡ false →
      (j ≡ None → number n locals < length locals) → IsSoundFactor sc (factor_of d v locals j n None)
  sound_named n None e a b h = local_there n (h refl)
  sound_named n (Some k.Variable) e a b h = S.global n k.Variable e refl
  sound_named n (Some k.ClassCount) e a b h = S.global n k.ClassCount e refl
  sound_named n (Some (k.Class g)) e a b h = S.global n (k.Class g) e refl
  sound_named n (Some (k.Attribute c)) e a b h = (S.attribute n c e, S.attribute_variable n c e)
  sound_named n (Some (k.OwnerKept q s)) e a b h = (S.owner_kept n q s e, sound_owner s None tt)
  sound_named n (Some (k.MemberKept q s)) e a b h = (S.member_kept n q s e, S.member n q s e)
  sound_named n (Some (k.Function f)) e a b h = absurd (true≢false b)
  sound_named n (Some k.Clock) e a b h = tt
  sound_named n (Some k.Set) e a b h = absurd (true≢false a)
  sound_named n (Some k.Routine) e a b h = absurd (true≢false a)

  sound_function : (f : LanguageFunction) (x : Expr) (xs : Exprs) → IsSoundExpr sc x → AreSoundArguments sc xs →
      IsSoundFactor sc (function_factor d v locals f x xs)
  sound_function Absolute x xs a b = a
  sound_function Greatest x xs a b = (a, b)
  sound_function Least x xs a b = (a, b)
  sound_function Quotient x no_exprs a b = a
  sound_function Quotient x (exprs y ys) a b = (a, b.0)
  sound_function Remainder x no_exprs a b = a
  sound_function Remainder x (exprs y ys) a b = (a, b.0)

  -- a name as a value with arguments
  pub sound_applied : (n : Name) (j : Option NameKind) (x : Expr) (xs : Exprs) → kind_of d n ≡ j →
      takes_no_parentheses d j ≡ false →
      IsSoundExpr sc x →
      AreSoundArguments sc xs → IsSoundFactor sc (applied_factor d v locals j n x xs)
  sound_applied n None x xs e a y ys = absurd (true≢false a)
  sound_applied n (Some k.Variable) x xs e a y ys = absurd (true≢false a)
  sound_applied n (Some k.ClassCount) x xs e a y ys = absurd (true≢false a)
  sound_applied n (Some (k.Class g)) x xs e a y ys = absurd (true≢false a)
  sound_applied n (Some (k.Attribute c)) x xs e a y ys = (S.attribute n c e, y)
  sound_applied n (Some (k.OwnerKept q s)) x xs e a y ys = (S.owner_kept n q s e, sound_owner s (Some x) y)
  sound_applied n (Some (k.MemberKept q s)) x xs e a y ys = (S.member_kept n q s e, y)
  sound_applied n (Some (k.Function f)) x xs e a y ys = sound_function f x xs y ys
  sound_applied n (Some k.Clock) x xs e a y ys = absurd (true≢false a)
  sound_applied n (Some k.Set) x xs e a y ys = absurd (true≢false a)
  sound_applied n (Some k.Routine) x xs e a y ys = absurd (true≢false a)

  -- a name as a target
  pub sound_bare_target : (n : Name) (j : Option NameKind) → kind_of d n ≡ j → is_valueless j ≡ false →
      names_fixed j ≡ false →
      (j ≡ None → number n locals < length locals) → IsTarget sc (target_of d v locals j n None)
  sound_bare_target n None e a b h = local_there n (h refl)
  sound_bare_target n (Some k.Variable) e a b h = S.global n k.Variable e refl
  sound_bare_target n (Some k.ClassCount) e a b h = S.global n k.ClassCount e refl
  sound_bare_target n (Some (k.Class g)) e a b h = S.global n (k.Class g) e refl
  sound_bare_target n (Some (k.Attribute c)) e a b h = (S.attribute n c e, S.attribute_variable n c e)
  sound_bare_target n (Some (k.OwnerKept q s)) e a b h = absurd (true≢false b)
  sound_bare_target n (Some (k.MemberKept q s)) e a b h = absurd (true≢false b)
  sound_bare_target n (Some (k.Function f)) e a b h = absurd (true≢false b)
  sound_bare_target n (Some k.Clock) e a b h = absurd (true≢false b)
  sound_bare_target n (Some k.Set) e a b h = absurd (true≢false a)
  sound_bare_target n (Some k.Routine) e a b h = absurd (true≢false a)

  pub sound_target_at : (n : Name) (j : Option NameKind) (x : Expr) → kind_of d n ≡ j → takes_no_parentheses d j
      ≡ false →
      names_fixed j ≡ false →
      IsSoundExpr sc x → IsTarget sc (target_of d v locals j n (Some x))
  sound_target_at n None x e a b y = absurd (true≢false a)
  sound_target_at n (Some k.Variable) x e a b y = absurd (true≢false a)
  sound_target_at n (Some k.ClassCount) x e a b y = absurd (true≢false a)
  sound_target_at n (Some (k.Class g)) x e a b y = absurd (true≢false a)
  sound_target_at n (Some (k.Attribute c)) x e a b y = (S.attribute n c e, y)
  sound_target_at n (Some (k.OwnerKept q s)) x e a b y = absurd (true≢false b)
  sound_target_at n (Some (k.MemberKept q s)) x e a b y = absurd (true≢false b)
  sound_target_at n (Some (k.Function f)) x e a b y = absurd (true≢false b)
  sound_target_at n (Some k.Clock) x e a b y = absurd (true≢false a)
  sound_target_at n (Some k.Set) x e a b y = absurd (true≢false a)
  sound_target_at n (Some k.Routine) x e a b y = absurd (true≢false a)

  -- a name as the variable of a loop
  pub sound_loop_variable : (n : Name) (j : Option NameKind) → kind_of d n ≡ j → not (names_variable j) ≡ false →
      (j ≡ None → number n locals < length locals) → IsSettable sc (variable_of d v locals j n)
  sound_loop_variable n None e a h = local_there n (h refl)
  sound_loop_variable n (Some k.Variable) e a h = S.global n k.Variable e refl
  sound_loop_variable n (Some k.ClassCount) e a h = S.global n k.ClassCount e refl
  sound_loop_variable n (Some (k.Class g)) e a h = S.global n (k.Class g) e refl
  sound_loop_variable n (Some (k.Attribute c)) e a h = absurd (true≢false a)
  sound_loop_variable n (Some (k.OwnerKept q s)) e a h = absurd (true≢false a)
  sound_loop_variable n (Some (k.MemberKept q s)) e a h = absurd (true≢false a)
  sound_loop_variable n (Some (k.Function f)) e a h = absurd (true≢false a)
  sound_loop_variable n (Some k.Clock) e a h = absurd (true≢false a)
  sound_loop_variable n (Some k.Set) e a h = absurd (true≢false a)
  sound_loop_variable n (Some k.Routine) e a h = absurd (true≢false a)

  -- the variable of a class's name
  class_is_global : (n : Name) (j : Option NameKind) → kind_of d n ≡ j → names_ending j ≡ true →
      number n v.globals < sc.globals
  class_is_global n None e a = absurd (false≢true a)
  class_is_global n (Some k.Variable) e a = absurd (false≢true a)
  class_is_global n (Some k.ClassCount) e a = absurd (false≢true a)
  class_is_global n (Some (k.Class g)) e a = S.global n (k.Class g) e refl
  class_is_global n (Some (k.Attribute c)) e a = absurd (false≢true a)
  class_is_global n (Some (k.OwnerKept q s)) e a = absurd (false≢true a)
  class_is_global n (Some (k.MemberKept q s)) e a = absurd (false≢true a)
  class_is_global n (Some (k.Function f)) e a = absurd (false≢true a)
  class_is_global n (Some k.Clock) e a = absurd (false≢true a)
  class_is_global n (Some k.Set) e a = absurd (false≢true a)
  class_is_global n (Some k.Routine) e a = absurd (false≢true a)

  pub sound_class_variable : (n : Name) → names_ending (kind_of d n) ≡ true → number n v.globals < sc.globals
  sound_class_variable n h = class_is_global n (kind_of d n) refl h

  permanent_is_global : (n : Name) (j : Option NameKind) → kind_of d n ≡ j → names_permanent j ≡ true →
      number n v.globals < sc.globals
  permanent_is_global n None e a = absurd (false≢true a)
  permanent_is_global n (Some k.Variable) e a = absurd (false≢true a)
  permanent_is_global n (Some k.ClassCount) e a = absurd (false≢true a)
  permanent_is_global n (Some (k.Class g)) e a = S.global n (k.Class g) e refl
  permanent_is_global n (Some (k.Attribute c)) e a = absurd (false≢true a)
  permanent_is_global n (Some (k.OwnerKept q s)) e a = absurd (false≢true a)
  permanent_is_global n (Some (k.MemberKept q s)) e a = absurd (false≢true a)
  permanent_is_global n (Some (k.Function f)) e a = absurd (false≢true a)
  permanent_is_global n (Some k.Clock) e a = absurd (false≢true a)
  permanent_is_global n (Some k.Set) e a = absurd (false≢true a)
  permanent_is_global n (Some k.Routine) e a = absurd (false≢true a)

  pub sound_permanent_variable : (n : Name) → names_permanent (kind_of d n) ≡ true → number n v.globals < sc.globals
  sound_permanent_variable n h = permanent_is_global n (kind_of d n) refl h
