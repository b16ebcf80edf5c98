-- The places of a section of a text without a breach have no fault there.
use Rattle.std.proofs.Common.{◌≡◌, ℕ, zero, suc, Bool, true, false, not, ◌||◌, List, [], ◌∷◌, ◌++◌, refl, sym, ap}
use Rattle.std.proofs.Common.{subst, Some, None}
use Rattle.std.specs.Prelude.{map, slice_get, slice_index_or}
use Rattle.std.specs.List.{All, find, flat_map, list_any}
use mathlib.Core.Logic.{inl, inr}
use Rattle.std.proofs.lemmas.List.Elements.{All-nil, All-cons}
use Rattle.ss_words.specs.Lists.{Name}
use Rattle.ss_routines.specs.Places.{Section, Spot}
use Rattle.ss_check.specs.Asked.{is_unknown, first_unknown, fault_of_uses, OwnPlacesHaveNoFault}
use Rattle.ss_check.specs.Declarations.{Declared, declared_by_program, headed_items, is_declared, is_main, parameters}
use Rattle.ss_check.specs.Facts.{is_among}
use Rattle.ss_check.specs.PlaceRules.{is_wrong_class, is_misused, is_wrong_count, is_fixed, use_breaks}
use Rattle.ss_check.specs.ResolvedNames.{variable_used, variables_used, undeclared_name, locals_of}
use Rattle.ss_check.specs.Statements.{lowest}
use Rattle.ss_check.specs.Uses.{Use, uses}
use Rattle.ss_check.proofs.SoundLists.{In, in_right, in_flat, in_among, once_has}
use Rattle.ss_check.proofs.SoundNumbers.{section_at, slice_in}
use Rattle.ss_check.proofs.SoundPlaceUses.{undeclared_in}
use Rattle.ss_check.proofs.SoundStatements.{kept, IsPlaceKept, ArePlacesKept}

-- no element passes a test, so none is found
none_found : {X : Type 0} (test : X → Bool) (xs : List X) → ((x : X) → In x xs → test x ≡ false) → find test xs ≡ None
none_found test [] h = refl
none_found test (x ∷ xs) h = rw (h x (inl refl)) (none_found test xs (λ y i. h y (inr i)))

no_rules : (d : Declared) (us : List Use) → list_any (is_wrong_class d) us ≡ false →
    list_any (is_misused d) us ≡ false → list_any (is_wrong_count d) us ≡ false →
    list_any (is_fixed d) us ≡ false → lowest (use_breaks d us) ≡ None
no_rules d us a b c e = rw (a, b, c, e) refl

same_at : {X Y : Type 0} (f : X → List Y) (xs : List X) (q : ℕ) (x : X) → slice_get xs q ≡ Some x →
    slice_index_or (map f xs) q [] ≡ f x
same_at f [] q x e = cc
same_at {X = X} f (y ∷ ys) zero x e = let s : y ≡ x = cc in ap f s
same_at f (y ∷ ys) (suc q) x e = same_at f ys q x e

module _ (D : Declared) (s : Section) where
  known : (x : Spot) (n : Name) → In x s.places → In n (flat_map variable_used (uses x.place)) →
      is_unknown D (locals_of D s) n ≡ false
  known x n i j = by (is_declared D n) refl
    where
      by : (b : Bool) → is_declared D n ≡ b → not (b || is_among n (locals_of D s)) ≡ false
      by true e = refl
      by false e =
          let used : In n (variables_used s) =
          in_flat (λ (y : Spot). flat_map variable_used (uses y.place)) x n s.places i j in
          let new : In n (undeclared_name D n) = undeclared_in D n (is_declared D n) e in
          let others = flat_map (undeclared_name D) (variables_used s) in
          ap not (in_among n (locals_of D s)
          (once_has n (parameters s.head ++ others)
          (in_right n (parameters s.head) others (in_flat (undeclared_name D) n n (variables_used s) used new))))

  no_fault : (x : Spot) (in_main : Bool) → In x s.places → IsPlaceKept D in_main x.place →
      fault_of_uses D (locals_of D s) (uses x.place) ≡ None
  no_fault x in_main i kept =
      let none : first_unknown D (locals_of D s) (uses x.place) ≡ None =
      none_found (is_unknown D (locals_of D s)) (flat_map variable_used (uses x.place)) (λ n j. known x n i j) in
      let rule = no_rules D (uses x.place) kept.class kept.usage kept.count kept.fixed in
      rw (none, rule) refl

  no_faults : (in_main : Bool) (ys : List Spot) → ((x : Spot) → In x ys → In x s.places) →
      ArePlacesKept D in_main ys → All (λ (x : Spot). fault_of_uses D (locals_of D s) (uses x.place) ≡ None) ys
  no_faults in_main [] i k = All-nil (λ (x : Spot). fault_of_uses D (locals_of D s) (uses x.place) ≡ None)
  no_faults in_main (y ∷ ys) i k =
      All-cons (λ (x : Spot). fault_of_uses D (locals_of D s) (uses x.place) ≡ None) y ys
      (no_fault y in_main (i y (inl refl)) k.0)
      (no_faults in_main ys (λ x j. i x (inr j)) k.1)

pub own_places : OwnPlacesHaveNoFault
own_places decls ss q s b e =
    let D = declared_by_program decls.items ss in
    let k = kept decls ss b in
    let here = section_at D (headed_items decls.items) [] ss s k.sections (slice_in ss q s e) in
    subst (λ (ns : List Name). All (λ (x : Spot). fault_of_uses D ns (uses x.place) ≡ None) s.places)
    (sym (same_at (locals_of D) ss q s e))
    (no_faults D s (is_main s.head) s.places (λ x i. i) here.2)
