-- Conflicts among declarations.
use Rattle.std.proofs.Common.{◌≡◌, ◌||◌, Bool, true, false, cond, List, [], ◌∷◌, ◌++◌, refl, sym, ap, ◌∙◌}
use Rattle.std.proofs.Common.{append_assoc, Option, Some, None}
use Rattle.std.specs.Prelude.{is_some, option_map}
use Rattle.std.specs.Option.{option_or}
use Rattle.ss_words.specs.Lists.{Name}
use Rattle.ss_check.specs.Facts.{Fact, fact_of}
use Rattle.ss_check.specs.NameKind.{NameKind}
use Rattle.ss_check.specs.NameKinds.{conflicts, first_conflict, one_conflicts}
use Rattle.ss_check.proofs.FactTables.{append_none, else_or, some_view}

-- the first conflict of declarations with others after them: that before, else the first of the others
pub conflict_append : (before fs gs : List (Fact NameKind)) →
    first_conflict before (fs ++ gs) ≡ option_or (first_conflict before fs) (first_conflict (before ++ fs) gs)
conflict_append before [] gs = ap (λ (xs : List (Fact NameKind)). first_conflict xs gs) (sym (append_none before))
conflict_append before (f ∷ fs) gs =
    ap (λ (o : Option Name). cond (conflicts (fact_of before f.name) f.what) (Some f.name) o)
    (conflict_append (before ++ f ∷ []) fs gs ∙ rw (append_assoc before (f ∷ []) fs) refl)
    ∙ else_or (conflicts (fact_of before f.name) f.what) f.name (first_conflict (before ++ f ∷ []) fs)
    (first_conflict (before ++ f ∷ fs) gs)

-- the first conflict of declarations with one more after them: that before, else the new one's
pub conflict_push : (fs : List (Fact NameKind)) (f : Fact NameKind) → first_conflict [] (fs ++ f ∷ [])
    ≡ option_or (first_conflict [] fs) (cond (conflicts (fact_of fs f.name) f.what) (Some f.name) None)
conflict_push fs f = conflict_append [] fs (f ∷ [])

-- a declaration conflicts if there is a first one
pub conflict_is : (before fs : List (Fact NameKind)) → is_some (first_conflict before fs) ≡ one_conflicts before fs
conflict_is before [] = refl
conflict_is before (f ∷ fs) = either (conflicts (fact_of before f.name) f.what) (conflict_is (before ++ f ∷ []) fs)
  where
    either : (b : Bool) → is_some (first_conflict (before ++ f ∷ []) fs) ≡ one_conflicts (before ++ f ∷ []) fs →
        is_some (cond b (Some f.name) (first_conflict (before ++ f ∷ []) fs))
        ≡ (b || one_conflicts (before ++ f ∷ []) fs)
    either true h = refl
    either false h = h

-- a name that is kept is that of the first conflict
pub conflict_found : {X : Type 0} (f : X → Name) (o : Option X) (fs : List (Fact NameKind)) →
    option_map f o ≡ first_conflict [] fs → is_some o ≡ one_conflicts [] fs
conflict_found f o fs h = sym (some_view f o) ∙ ap is_some h ∙ conflict_is [] fs
