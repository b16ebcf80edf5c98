-- A statement that breaks a rule on names is refused by a name that breaks it.
use Rattle.std.proofs.Common.{◌≡◌, Bool, true, false, cond, List, [], ◌∷◌, ◌++◌, refl, sym, ap, ◌∙◌, Option, Some, None}
use Rattle.std.specs.List.{find, list_any}
use Rattle.std.proofs.lemmas.Bool.{false≢true}
use Rattle.ss_words.specs.Lists.{Name, all_of}
use Rattle.ss_check.specs.declared.fault.CheckRule.{CheckRule}
use Rattle.ss_check.specs.declared.fault.CheckRule.TheVariants as rule
use Rattle.ss_check.specs.declared.wrong.Reason.TheVariants.{DeclaredTwice}
use Rattle.ss_check.specs.Declarations.{Declared, is_declared}
use Rattle.ss_check.specs.ItemRules.{local_rule}
use Rattle.ss_check.specs.PlaceRules.{breaks_rule, is_fixed, is_misused, is_wrong_class, is_wrong_count, name_used}
use Rattle.ss_check.specs.PlaceRules.{use_reason, use_wrong}
use Rattle.ss_check.specs.Statements.{about, lowest, rule_where}
use Rattle.ss_check.specs.Uses.{Use}
use Rattle.ss_check.specs.WrongNames.{IsFirst, LocalsNameTheDeclared, PlacesNameTheirUse}

-- one passes: the one that is found is the first
first : {X : Type 0} (p : X → Bool) (xs : List X) → list_any p xs ≡ true →
    (x : X) × IsFirst p xs x × (find p xs ≡ Some x)
first p [] h = absurd (false≢true h)
first {X = X} p (x ∷ xs) h = at (p x) refl h (first p xs)
  where
    at : (b : Bool) → p x ≡ b → list_any p (x ∷ xs) ≡ true →
        (list_any p xs ≡ true → (y : X) × IsFirst p xs y × (find p xs ≡ Some y)) →
        (y : X) × IsFirst p (x ∷ xs) y × (find p (x ∷ xs) ≡ Some y)
    at true e k later = (
      x,
      record { before = []; rest = xs; parts = refl; passes = e; none = refl },
      ap (λ (b : Bool). cond b (Some x) (find p xs)) e,
    )
    at false e k later =
        let found = later (rw e at k) in (
          found.0,
          record {
            before = x ∷ found.1.before;
            rest = found.1.rest;
            parts = ap (λ (ys : List X). x ∷ ys) found.1.parts;
            passes = found.1.passes;
            none = rw e found.1.none;
          },
          ap (λ (b : Bool). cond b (Some x) (find p xs)) e ∙ found.2,
        )

-- which of four is asked by a rule
abbrev asked : Bool → Bool → Bool → Bool → CheckRule → Bool
asked a b c e rule.WrongClass = a
asked a b c e rule.WrongUse = b
asked a b c e rule.WrongCount = c
asked a b c e rule.FixedTarget = e
asked a b c e r = false

abbrev asked_in : Bool → Bool → Bool → Bool → Option CheckRule → Bool
asked_in a b c e None = false
asked_in a b c e (Some r) = asked a b c e r

-- the lowest of four rules is broken
is_asked : (a b c e : Bool) (r : CheckRule) →
    lowest (rule_where rule.WrongClass a ++ rule_where rule.WrongUse b ++ rule_where rule.WrongCount c
    ++ rule_where rule.FixedTarget e) ≡ Some r →
    asked a b c e r ≡ true
is_asked true b c e r h = sym (ap (asked_in true b c e) h)
is_asked false true c e r h = sym (ap (asked_in false true c e) h)
is_asked false false true e r h = sym (ap (asked_in false false true e) h)
is_asked false false false true r h = sym (ap (asked_in false false false true) h)
is_asked false false false false r h = absurd cc

-- the first use that breaks a rule is what is wrong
by_use : (d : Declared) (us : List Use) (r : CheckRule) → list_any (breaks_rule d r) us ≡ true →
    (u : Use) × IsFirst (breaks_rule d r) us u
    × (use_wrong r (find (breaks_rule d r) us) ≡ about (use_reason r u) (Some (name_used u)))
by_use d us r h = let found = first (breaks_rule d r) us h in (found.0, found.1, ap (use_wrong r) found.2)

pub places_named : PlacesNameTheirUse
places_named d us r h =
    at r (is_asked (list_any (is_wrong_class d) us) (list_any (is_misused d) us) (list_any (is_wrong_count d) us)
    (list_any (is_fixed d) us) r h)
  where
    at : (s : CheckRule) → asked (list_any (is_wrong_class d) us) (list_any (is_misused d) us)
        (list_any (is_wrong_count d) us) (list_any (is_fixed d) us) s ≡ true →
        (u : Use) × IsFirst (breaks_rule d s) us u
        × (use_wrong s (find (breaks_rule d s) us) ≡ about (use_reason s u) (Some (name_used u)))
    at rule.WrongClass k = by_use d us rule.WrongClass k
    at rule.WrongUse k = by_use d us rule.WrongUse k
    at rule.WrongCount k = by_use d us rule.WrongCount k
    at rule.FixedTarget k = by_use d us rule.FixedTarget k
    at rule.DeclaredTwice k = absurd (false≢true k)
    at rule.WrongOwner k = absurd (false≢true k)
    at rule.WrongMember k = absurd (false≢true k)
    at rule.WrongKey k = absurd (false≢true k)
    at rule.WrongEvent k = absurd (false≢true k)
    at rule.WrongPicture k = absurd (false≢true k)
    at rule.WrongMain k = absurd (false≢true k)
    at rule.WrongPriority k = absurd (false≢true k)
    at rule.StartOutsideMain k = absurd (false≢true k)
    at rule.WithoutFind k = absurd (false≢true k)

pub locals_named : LocalsNameTheDeclared
unfolding local_rule
locals_named d locals r h = at (list_any (is_declared d) (all_of locals.names)) refl h
  where
    at : (b : Bool) → list_any (is_declared d) (all_of locals.names) ≡ b →
        lowest (rule_where rule.DeclaredTwice b) ≡ Some r →
        (n : Name) × IsFirst (is_declared d) (all_of locals.names) n
        × (about DeclaredTwice (find (is_declared d) (all_of locals.names)) ≡ about DeclaredTwice (Some n))
    at true e k =
        let found = first (is_declared d) (all_of locals.names) e in
        (found.0, found.1, ap (about DeclaredTwice) found.2)
    at false e k = absurd cc
