-- The words for a name by the kind as which it is declared, and names found by their numbers.
use Rattle.std.proofs.Common.{◌≡◌, ◌⊎◌, ◌<◌, ℕ, suc, ◌+◌, Bool, true, false, not, cond, List, [], ◌∷◌, ◌++◌, length}
use Rattle.std.proofs.Common.{refl, sym, ap, ◌∙◌, subst, arith, Option, Some, None}
use Rattle.std.specs.Prelude.{map, codes, bytes_eq, slice_get}
use Rattle.std.specs.List.{flat_map, position_or_len}
use mathlib.Core.Logic.{inl, inr}
use Rattle.std.proofs.lemmas.Slice.Eq.{bytes_eq-Decides}
use Rattle.ss_words.specs.Lists.{Name, all_of}
use Rattle.ss_preamble.specs.declared.item.Heading.{Heading}
use Rattle.ss_preamble.specs.declared.item.Heading.TheVariants.{PermanentEntities, TemporaryEntities, EventNotices}
use Rattle.ss_preamble.specs.Tree.{Clause, Has, Owns, BelongsTo, Variables, Sets, Item, Normally, Headed, OfEvery}
use Rattle.ss_preamble.specs.Tree.{OfSystem, Defines, Orders}
use Rattle.ss_routines.specs.Tree.{Head, MainHead, RoutineHead, EventHead}
use Rattle.ss_check.specs.Facts.{Fact, fact}
use Rattle.ss_check.specs.LanguageFunction.{LanguageFunction}
use Rattle.ss_check.specs.LanguageFunction.{Absolute, Greatest, Least, Quotient, Remainder}
use Rattle.ss_words.specs.declared.terms.OwnerKept.TheVariants.{First, Last, Count}
use Rattle.ss_words.specs.declared.terms.MemberKept.TheVariants.{Predecessor, Successor, Membership}
use Rattle.ss_check.specs.NameKind.{NameKind}
use Rattle.ss_check.specs.NameKind as k
use Rattle.ss_check.specs.NameKinds.{language_facts, class_facts, set_facts}
use Rattle.ss_check.specs.Declarations.{HeadedItem, class_of_item, clauses_of, included_names, clause_facts, item_facts}
use Rattle.ss_check.specs.Declarations.{declarations, routine_facts}
use Rattle.ss_check.specs.NamedTree.{owner_kept_name, member_kept_name}
use Rattle.ss_check.specs.ResolvedNames.{number}
use Rattle.ss_check.proofs.SoundLists.{In, in_split, map_in, flat_in}
use Rattle.ss_check.proofs.SoundCompanions.{Facts, all_kinds}

-- ---- names that the language gives

abbrev pub function_name : LanguageFunction → Name
function_name Absolute = codes "ABS.F"
function_name Greatest = codes "MAX.F"
function_name Least = codes "MIN.F"
function_name Quotient = codes "DIV.F"
function_name Remainder = codes "MOD.F"

-- the name that the language gives to this kind, if it gives one
abbrev pub IsCalled : Name → NameKind → Type 0
IsCalled n (k.Function f) = n ≡ function_name f
IsCalled n k.Clock = n ≡ codes "TIME.V"
IsCalled n (k.OwnerKept a s) = n ≡ owner_kept_name a s
IsCalled n (k.MemberKept a s) = n ≡ member_kept_name a s
IsCalled n _ = Unit {0}

abbrev AreCalled : Facts → Type 0
AreCalled xs = (f : Fact NameKind) → In f xs → IsCalled f.name f.what

called_none : AreCalled []
called_none f h = absurd h

called_both : (xs ys : Facts) → AreCalled xs → AreCalled ys → AreCalled (xs ++ ys)
called_both xs ys a b f h = by (in_split f xs ys h)
  where
    by : In f xs ⊎ In f ys → IsCalled f.name f.what
    by (inl x) = a f x
    by (inr y) = b f y

called_flat : {X : Type 0} (g : X → Facts) (zs : List X) → ((z : X) → AreCalled (g z)) → AreCalled (flat_map g zs)
called_flat g zs h f x = let p = flat_in g f zs x in h p.one f p.has

called_map : (j : NameKind) (ns : List Name) → ((n : Name) → IsCalled n j) → AreCalled (map (λ n. fact n j) ns)
called_map j ns h f x =
    let p = map_in (λ n. fact n j) f ns x in
    subst (λ (g : Fact NameKind). IsCalled g.name g.what) (sym p.is) (h p.one)

is : (f : Fact NameKind) (n : Name) (j : NameKind) → f ≡ fact n j → IsCalled n j → IsCalled f.name f.what
is f n j e h = subst (λ (g : Fact NameKind). IsCalled g.name g.what) (sym e) h

called_class : (g : Option Heading) (c : Name) → AreCalled (class_facts g c)
called_class None c f (inl e) = is f c (k.Class None) e tt
called_class None c f (inr x) = absurd x
called_class (Some PermanentEntities) c f (inl e) = is f c (k.Class (Some PermanentEntities)) e tt
called_class (Some PermanentEntities) c f (inr (inl e)) = is f (codes "N." ++ c) k.ClassCount e tt
called_class (Some PermanentEntities) c f (inr (inr x)) = absurd x
called_class (Some TemporaryEntities) c f (inl e) = is f c (k.Class (Some TemporaryEntities)) e tt
called_class (Some TemporaryEntities) c f (inr x) = absurd x
called_class (Some EventNotices) c f (inl e) = is f c (k.Class (Some EventNotices)) e tt
called_class (Some EventNotices) c f (inr x) = absurd x

called_set : (s : Name) → AreCalled (set_facts s)
called_set s f (inl e) = is f s k.Set e tt
called_set s f (inr (inl e)) = is f (codes "F." ++ s) (k.OwnerKept First s) e refl
called_set s f (inr (inr (inl e))) = is f (codes "L." ++ s) (k.OwnerKept Last s) e refl
called_set s f (inr (inr (inr (inl e)))) = is f (codes "N." ++ s) (k.OwnerKept Count s) e refl
called_set s f (inr (inr (inr (inr (inl e))))) = is f (codes "P." ++ s) (k.MemberKept Predecessor s) e refl
called_set s f (inr (inr (inr (inr (inr (inl e)))))) = is f (codes "S." ++ s) (k.MemberKept Successor s) e refl
called_set s f (inr (inr (inr (inr (inr (inr (inl e))))))) = is f (codes "M." ++ s) (k.MemberKept Membership s) e refl
called_set s f (inr (inr (inr (inr (inr (inr (inr x))))))) = absurd x

called_clause : (o : Option Name) (c : Clause) → AreCalled (clause_facts o c)
called_clause (Some c) (Has ns) = called_map (k.Attribute c) (all_of ns) (λ n. tt)
called_clause None (Has ns) = called_map k.Variable (all_of ns) (λ n. tt)
called_clause o (Owns ns) = called_flat set_facts (all_of ns) called_set
called_clause o (BelongsTo ns) = called_flat set_facts (all_of ns) called_set

called_item : (h : Option Heading) (i : Item) →
    AreCalled (item_facts h i ++ flat_map (clause_facts (class_of_item i)) (clauses_of i))
called_item h Normally = λ f x. absurd x
called_item h (Headed g ns) =
    called_both (flat_map (class_facts (Some g)) (included_names ns)) []
    (called_flat (class_facts (Some g)) (included_names ns) (called_class (Some g))) called_none
called_item h (OfEvery c cs) =
    called_both (class_facts h c) (flat_map (clause_facts (Some c)) (all_of cs)) (called_class h c)
    (called_flat (clause_facts (Some c)) (all_of cs) (called_clause (Some c)))
called_item h (OfSystem cs) = called_flat (clause_facts None) (all_of cs) (called_clause None)
called_item h (Defines (Variables ns)) =
    called_both (map (λ n. fact n k.Variable) (all_of ns)) [] (called_map k.Variable (all_of ns) (λ n. tt)) called_none
called_item h (Defines (Sets ns kind)) =
    called_both (flat_map set_facts (all_of ns)) [] (called_flat set_facts (all_of ns) called_set) called_none
called_item h (Orders r) = λ f x. absurd x

called_entry : (x : HeadedItem) → AreCalled (declarations x)
called_entry x = called_item x.heading x.item

called_language : AreCalled language_facts
called_language f (inl e) = is f (codes "ABS.F") (k.Function Absolute) e refl
called_language f (inr (inl e)) = is f (codes "MAX.F") (k.Function Greatest) e refl
called_language f (inr (inr (inl e))) = is f (codes "MIN.F") (k.Function Least) e refl
called_language f (inr (inr (inr (inl e)))) = is f (codes "DIV.F") (k.Function Quotient) e refl
called_language f (inr (inr (inr (inr (inl e))))) = is f (codes "MOD.F") (k.Function Remainder) e refl
called_language f (inr (inr (inr (inr (inr (inl e)))))) = is f (codes "TIME.V") k.Clock e refl
called_language f (inr (inr (inr (inr (inr (inr x)))))) = absurd x

called_head : (h : Head) → AreCalled (routine_facts h)
called_head MainHead f x = absurd x
called_head (EventHead n given saving) f x = absurd x
called_head (RoutineHead n given yielded) f (inl e) = is f n k.Routine e tt
called_head (RoutineHead n given yielded) f (inr x) = absurd x

-- each declared name is called as the language has it
pub all_called : (xs : List HeadedItem) (hs : List Head) (f : Fact NameKind) → In f (all_kinds xs hs) →
    IsCalled f.name f.what
all_called xs hs =
    called_both (language_facts ++ flat_map declarations xs) (flat_map routine_facts hs)
    (called_both language_facts (flat_map declarations xs) called_language (called_flat declarations xs called_entry))
    (called_flat routine_facts hs called_head)

-- ---- names by their numbers

-- the name that a table has at a name's number
pub number_finds : (n : Name) (ns : List Name) → number n ns < length ns → slice_get ns (number n ns) ≡ Some n
number_finds n [] h = absurd (omega (arith, h))
number_finds n (m ∷ ms) h = by (bytes_eq n m) refl h (number_finds n ms)
  where
    behind : (i : ℕ) → slice_get (m ∷ ms) (1 + i) ≡ slice_get ms i
    behind i = let z : 1 + i ≡ suc i = omega arith in ap (slice_get (m ∷ ms)) z

    by : (b : Bool) → bytes_eq n m ≡ b → cond (not b) (1 + position_or_len (bytes_eq n) ms) 0 < length (m ∷ ms) →
        (number n ms < length ms → slice_get ms (number n ms) ≡ Some n) →
        slice_get (m ∷ ms) (cond (not b) (1 + position_or_len (bytes_eq n) ms) 0) ≡ Some n
    by true e l rec = ap (λ (o : Name). Some o) (sym ((bytes_eq-Decides n m).0 e))
    by false e l rec = behind (position_or_len (bytes_eq n) ms) ∙ rec (omega (arith, l))
