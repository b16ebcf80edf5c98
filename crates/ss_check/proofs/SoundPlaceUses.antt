-- The uses of a place without a breach are good: each name that it takes for a variable is
-- declared, or is one of its section's.
use Rattle.std.proofs.Common.{◌≡◌, Bool, true, false, List, [], ◌∷◌, ◌++◌, refl, sym, ◌∙◌, Some, None}
use Rattle.std.specs.Prelude.{if◌then◌else◌}
use Rattle.std.specs.List.{flat_map}
use mathlib.Core.Logic.{inl, inr}
use Rattle.ss_words.specs.Lists.{Name}
use Rattle.ss_routines.specs.Places.{Section}
use Rattle.ss_routines.specs.Places as w
use Rattle.ss_check.specs.Declarations.{Declared}
use Rattle.ss_check.specs.Declarations.{parameters, kind_of, is_declared}
use Rattle.ss_check.specs.Uses.{Use, uses}
use Rattle.ss_check.specs.ResolvedNames.{variable_used, variables_used, undeclared_name, locals_of}
use Rattle.ss_check.proofs.SoundLists.{In, in_right, in_flat, number_there, once_has, fact_there}
use Rattle.ss_check.proofs.SoundStatements.{IsPlaceKept}
use Rattle.ss_check.proofs.SoundUses.{IsKnown, AreKnown, AreGood, good_from}

module _ (D : Declared) where
  pub undeclared_is : (n : Name) → kind_of D n ≡ None → (b : Bool) → is_declared D n ≡ b → b ≡ false
  undeclared_is n e false f = refl
  undeclared_is n e true f = let t = fact_there D.kinds n f in let z : None ≡ Some t.0 = sym e ∙ t.1 in cc

  pub undeclared_in : (n : Name) (b : Bool) → b ≡ false → In n (if b then [] else (n ∷ []))
  undeclared_in n true e = cc
  undeclared_in n false e = inl refl

  known : (q : Section) (x : w.Spot) (u : Use) (n : Name) → In x q.places → In u (uses x.place) →
      In n (variable_used u) →
      IsKnown D (locals_of D q) n
  known q x u n i j m e =
      let used : In n (variables_used q) =
      in_flat (λ (y : w.Spot). flat_map variable_used (uses y.place)) x n q.places i
      (in_flat variable_used u n (uses x.place) j m) in
      let new : In n (undeclared_name D n) =
      undeclared_in n (is_declared D n) (undeclared_is n e (is_declared D n) refl) in
      let all = parameters q.head ++ flat_map (undeclared_name D) (variables_used q) in
      number_there n (locals_of D q)
      (once_has n all (in_right n (parameters q.head) (flat_map (undeclared_name D) (variables_used q))
      (in_flat (undeclared_name D) n n (variables_used q) used new)))

  pub all_known : (locals : List Name) (ns : List Name) → ((n : Name) → In n ns → IsKnown D locals n) → AreKnown D locals ns
  all_known locals [] f = tt
  all_known locals (n ∷ ns) f = (f n (inl refl), all_known locals ns (λ m i. f m (inr i)))

  pub good_place : (q : Section) (x : w.Spot) (in_main : Bool) → In x q.places → IsPlaceKept D in_main x.place →
      AreGood D (locals_of D q) (uses x.place)
  good_place q x in_main i kept =
      good_from D (locals_of D q) (uses x.place) kept.class kept.usage kept.count kept.fixed
      (λ u j. all_known (locals_of D q) (variable_used u) (λ n m. known q x u n i j m))
