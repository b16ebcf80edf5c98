-- The tables of a program without a breach have the things that its names denote.
use Rattle.std.proofs.Common.{◌≡◌, ◌⊎◌, ◌<◌, Bool, true, false, not, List, [], ◌∷◌, ◌++◌, length, refl, sym, ap, ◌∙◌}
use Rattle.std.proofs.Common.{subst, Option, Some, None}
use Rattle.std.specs.Prelude.{map, codes, slice_get, unwrap_or}
use Rattle.std.specs.List.{flat_map, list_any}
use mathlib.Core.Logic.{inl, inr}
use Rattle.std.proofs.lemmas.Bool.{false≢true, not-false}
use Rattle.std.proofs.lemmas.List.{length-map}
use Rattle.std.proofs.lemmas.Option.{none-some, get_or_from_slice_get}
use Rattle.ss_words.specs.Lists.{Name}
use Rattle.ss_preamble.specs.declared.item.Heading.TheVariants.{PermanentEntities, TemporaryEntities, EventNotices}
use Rattle.ss_routines.specs.Tree.{Head, MainHead, RoutineHead, EventHead}
use Rattle.ss_program.specs.Program.{ClassTable, is_permanent, is_event}
use Rattle.ss_program.specs.ProgramSound.{Scope}
use Rattle.ss_check.specs.NameKind.{NameKind}
use Rattle.ss_check.specs.NameKind as k
use Rattle.ss_check.specs.Declarations.{Declared}
use Rattle.ss_check.specs.Facts.{fact, fact_of, is_among, names_of}
use Rattle.ss_check.specs.NameKinds.{language_facts, is_class, is_global, names_permanent}
use Rattle.ss_check.specs.NameKinds.{names_ending, names_event}
use Rattle.ss_check.specs.Declarations.{HeadedItem, routine_facts, declared_by, kind_of}
use Rattle.ss_check.specs.ResolvedNames.{Names, names, number, names_where, is_set, attributes_of, attribute_names}
use Rattle.ss_check.specs.PlaceRules.{is_routine}
use Rattle.ss_check.specs.ResolvedNames.{owner_of, member_class}
use Rattle.ss_check.specs.Resolved.{Rankings, class_kind, class_table, set_table}
use Rattle.ss_check.proofs.SoundLists.{In, in_split, in_any, number_there, image_at, once_has, once_from, fact_in}
use Rattle.ss_check.proofs.SoundLists.{among_in, fact_there, where_has, where_from}
use Rattle.ss_check.proofs.SoundCompanions.{Facts, HasClass, IsClosed, all_kinds, names_all, all_closed, declared}
use Rattle.ss_check.proofs.SoundCompanions.{declared_there, has_more, owner_declared, member_declared, routine_names}
use Rattle.ss_check.proofs.SoundCompanions.{routine_names_are}
use Rattle.ss_check.proofs.SoundStatements.{AreItemsKept}
use Rattle.ss_check.proofs.SoundItems.{names_a_set, not_of_language, sets_have_members}
use Rattle.ss_check.proofs.SoundUses.{Scoped}

pub map_twice : {A B C : Type 0} (f : B → C) (g : A → B) (xs : List A) → map f (map g xs) ≡ map (λ x. f (g x)) xs
map_twice f g [] = refl
map_twice f g (x ∷ xs) = ap (λ ys. f (g x) ∷ ys) (map_twice f g xs)

-- a list of names' images and their images
pub image_twice : {B C : Type 0} (f : B → C) (g : Name → B) (n : Name) (ns : List Name) → In n ns →
    slice_get (map f (map g ns)) (number n ns) ≡ Some (f (g n))
image_twice f g n ns h = rw (map_twice f g ns) (image_at (λ m. f (g m)) n ns h)

pub class_is_global : (j : NameKind) → is_class j ≡ true → is_global j ≡ true
class_is_global (k.Class g) h = refl
class_is_global k.Variable h = refl
class_is_global k.ClassCount h = refl
class_is_global (k.Attribute c) h = absurd (false≢true h)
class_is_global (k.OwnerKept q s) h = absurd (false≢true h)
class_is_global (k.MemberKept q s) h = absurd (false≢true h)
class_is_global (k.Function f) h = absurd (false≢true h)
class_is_global k.Clock h = absurd (false≢true h)
class_is_global k.Set h = absurd (false≢true h)
class_is_global k.Routine h = absurd (false≢true h)

no_sets : (hs : List Head) → list_any names_a_set (flat_map routine_facts hs) ≡ false
no_sets [] = refl
no_sets (MainHead ∷ hs) = no_sets hs
no_sets (EventHead n given saving ∷ hs) = no_sets hs
no_sets (RoutineHead n given yielded ∷ hs) = no_sets hs

-- the names that places may use, with these locals
abbrev pub program_scope : Declared → Names → Rankings → List Name → Scope
program_scope d v r locals = record {
  globals = length v.globals;
  locals = length locals;
  permanent = map (λ c. is_permanent c.kind) (map (class_table d v r) v.classes);
  sets = length (map (set_table d v r) v.sets);
}

-- xs: the items; hs: the heads of sections
module _ (xs : List HeadedItem) (hs : List Head) (h : AreItemsKept (declared_by xs hs) [] xs) where
  abbrev pub d : Declared
  d = declared_by xs hs

  abbrev pub v : Names
  v = names d hs

  abbrev pub L : Facts
  L = all_kinds xs hs

  -- ---- names that denote something

  pub kind_in : (n : Name) (j : NameKind) → kind_of d n ≡ Some j → In (fact n j) L
  kind_in n j e = fact_in d.kinds n j e

  pub closed_kind : (n : Name) (j : NameKind) → kind_of d n ≡ Some j → IsClosed L (names_all xs hs) n j
  closed_kind n j e = all_closed xs hs (fact n j) (kind_in n j e)

  pub global_in : (n : Name) (j : NameKind) → In (fact n j) L → is_global j ≡ true → In n v.globals
  global_in n j i t = once_has n (names_where is_global d.kinds) (where_has is_global n j d.kinds i t)

  pub class_in : (c : Name) → HasClass L c → In c v.classes
  class_in c i = once_has c (names_where is_class d.kinds) (where_has is_class c (k.Class i.0) d.kinds i.1 refl)

  pub class_global : (c : Name) → HasClass L c → In c v.globals
  class_global c i = global_in c (k.Class i.0) i.1 refl

  pub set_in : (s : Name) → In (fact s k.Set) L → In s v.sets
  set_in s i = once_has s (names_where is_set d.kinds) (where_has is_set s k.Set d.kinds i refl)

  pub set_declared : (s : Name) → In s v.sets → In (fact s k.Set) L
  set_declared s i =
      let q = where_from is_set s d.kinds (once_from s (names_where is_set d.kinds) i) in
      subst (λ (j : NameKind). In (fact s j) L) (is_the_set q.what q.passes) q.there
    where
      is_the_set : (j : NameKind) → is_set j ≡ true → j ≡ k.Set
      is_the_set k.Set t = refl
      is_the_set k.Variable t = absurd (false≢true t)
      is_the_set k.ClassCount t = absurd (false≢true t)
      is_the_set (k.Class g) t = absurd (false≢true t)
      is_the_set (k.Attribute c) t = absurd (false≢true t)
      is_the_set (k.OwnerKept q r) t = absurd (false≢true t)
      is_the_set (k.MemberKept q r) t = absurd (false≢true t)
      is_the_set (k.Function f) t = absurd (false≢true t)
      is_the_set k.Clock t = absurd (false≢true t)
      is_the_set k.Routine t = absurd (false≢true t)

  -- a set is declared by an item
  pub set_of_item : (s : Name) → In (fact s k.Set) L → In (fact s k.Set) (declared xs)
  set_of_item s i = last (in_split (fact s k.Set) (language_facts ++ declared xs) (flat_map routine_facts hs) i)
    where
      first : In (fact s k.Set) language_facts ⊎ In (fact s k.Set) (declared xs) → In (fact s k.Set) (declared xs)
      first (inl a) = absurd (not_of_language s a)
      first (inr b) = b

      never : In (fact s k.Set) (flat_map routine_facts hs) → ⊥
      never b =
          let t : list_any names_a_set (flat_map routine_facts hs) ≡ true =
          in_any names_a_set (fact s k.Set) (flat_map routine_facts hs) b refl in
          absurd (false≢true (sym (no_sets hs) ∙ t))

      last : In (fact s k.Set) (language_facts ++ declared xs) ⊎ In (fact s k.Set) (flat_map routine_facts hs) →
          In (fact s k.Set) (declared xs)
      last (inl a) = first (in_split (fact s k.Set) language_facts (declared xs) a)
      last (inr b) = absurd (never b)

  owner_by : (s c : Name) (o : Option (Option Name)) → fact_of d.owners s ≡ o → unwrap_or o None ≡ Some c → HasClass L c
  owner_by s c None e u = absurd (none-some c u)
  owner_by s c (Some w) e u =
      has_more (declared xs) L c (declared_there xs hs)
      (owner_declared xs s c (subst (λ (z : Option Name). In (fact s z) d.owners) u (fact_in d.owners s w e)))

  -- the owner of a set is a class
  pub owner_class : (locals : List Name) (s c : Name) → owner_of d v locals s ≡ Some c → HasClass L c
  owner_class locals s c e = owner_by s c (fact_of d.owners s) refl e

  -- the members of a set are of a class
  pub member_there : (s : Name) → In (fact s k.Set) L → (c : Name) × (fact_of d.members s ≡ Some c)
  member_there s i = fact_there d.members s (sets_have_members d xs h s (set_of_item s i))

  pub member_is_class : (locals : List Name) (s : Name) → In (fact s k.Set) L → HasClass L (member_class d v locals s)
  member_is_class locals s i =
      let p = member_there s i in
      let e : member_class d v locals s ≡ p.0 = ap (λ (o : Option Name). unwrap_or o []) p.1 in
      subst (HasClass L) (sym e)
      (has_more (declared xs) L p.0 (declared_there xs hs) (member_declared xs s p.0 (fact_in d.members s p.0 p.1)))

  -- a key that is not wrong is an attribute
  pub is_attribute : (c n : Name) → not (is_among n (attributes_of d c)) ≡ false → In n (attributes_of d c)
  is_attribute c n e = among_in n (attributes_of d c) (not-false (is_among n (attributes_of d c)) e)

  -- a name that is called is that of a section ROUTINE
  pub is_called : (n : Name) → not (is_routine d n) ≡ false → In n (flat_map routine_names hs)
  is_called n e = subst (In n) (routine_names_are hs) (among_in n (names_of d.routines) (not-false (is_routine d n) e))

  -- ---- kinds of classes

  module _ (r : Rankings) where
    pub permanent_class : (n : Name) (j : Option NameKind) → kind_of d n ≡ j → names_permanent j ≡ true →
        HasClass L n × In (fact (codes "N." ++ n) k.ClassCount) L × (is_permanent (class_kind d v r n j) ≡ true)
    permanent_class n None e t = absurd (false≢true t)
    permanent_class n (Some k.Variable) e t = absurd (false≢true t)
    permanent_class n (Some k.ClassCount) e t = absurd (false≢true t)
    permanent_class n (Some (k.Class None)) e t = absurd (false≢true t)
    permanent_class n (Some (k.Class (Some PermanentEntities))) e t = (
      (Some PermanentEntities, kind_in n (k.Class (Some PermanentEntities)) e),
      (closed_kind n (k.Class (Some PermanentEntities)) e).1,
      refl,
    )
    permanent_class n (Some (k.Class (Some TemporaryEntities))) e t = absurd (false≢true t)
    permanent_class n (Some (k.Class (Some EventNotices))) e t = absurd (false≢true t)
    permanent_class n (Some (k.Attribute c)) e t = absurd (false≢true t)
    permanent_class n (Some (k.OwnerKept q s)) e t = absurd (false≢true t)
    permanent_class n (Some (k.MemberKept q s)) e t = absurd (false≢true t)
    permanent_class n (Some (k.Function f)) e t = absurd (false≢true t)
    permanent_class n (Some k.Clock) e t = absurd (false≢true t)
    permanent_class n (Some k.Set) e t = absurd (false≢true t)
    permanent_class n (Some k.Routine) e t = absurd (false≢true t)

    pub ending_class : (n : Name) (j : Option NameKind) → kind_of d n ≡ j → names_ending j ≡ true →
        HasClass L n × (is_permanent (class_kind d v r n j) ≡ false)
    ending_class n None e t = absurd (false≢true t)
    ending_class n (Some k.Variable) e t = absurd (false≢true t)
    ending_class n (Some k.ClassCount) e t = absurd (false≢true t)
    ending_class n (Some (k.Class None)) e t = absurd (false≢true t)
    ending_class n (Some (k.Class (Some PermanentEntities))) e t = absurd (false≢true t)
    ending_class n (Some (k.Class (Some TemporaryEntities))) e t =
        ((Some TemporaryEntities, kind_in n (k.Class (Some TemporaryEntities)) e), refl)
    ending_class n (Some (k.Class (Some EventNotices))) e t =
        ((Some EventNotices, kind_in n (k.Class (Some EventNotices)) e), refl)
    ending_class n (Some (k.Attribute c)) e t = absurd (false≢true t)
    ending_class n (Some (k.OwnerKept q s)) e t = absurd (false≢true t)
    ending_class n (Some (k.MemberKept q s)) e t = absurd (false≢true t)
    ending_class n (Some (k.Function f)) e t = absurd (false≢true t)
    ending_class n (Some k.Clock) e t = absurd (false≢true t)
    ending_class n (Some k.Set) e t = absurd (false≢true t)
    ending_class n (Some k.Routine) e t = absurd (false≢true t)

    pub event_class : (n : Name) (j : Option NameKind) → kind_of d n ≡ j → names_event j ≡ true →
        HasClass L n × (is_event (class_kind d v r n j) ≡ true)
    event_class n None e t = absurd (false≢true t)
    event_class n (Some k.Variable) e t = absurd (false≢true t)
    event_class n (Some k.ClassCount) e t = absurd (false≢true t)
    event_class n (Some (k.Class None)) e t = absurd (false≢true t)
    event_class n (Some (k.Class (Some PermanentEntities))) e t = absurd (false≢true t)
    event_class n (Some (k.Class (Some TemporaryEntities))) e t = absurd (false≢true t)
    event_class n (Some (k.Class (Some EventNotices))) e t =
        ((Some EventNotices, kind_in n (k.Class (Some EventNotices)) e), refl)
    event_class n (Some (k.Attribute c)) e t = absurd (false≢true t)
    event_class n (Some (k.OwnerKept q s)) e t = absurd (false≢true t)
    event_class n (Some (k.MemberKept q s)) e t = absurd (false≢true t)
    event_class n (Some (k.Function f)) e t = absurd (false≢true t)
    event_class n (Some k.Clock) e t = absurd (false≢true t)
    event_class n (Some k.Set) e t = absurd (false≢true t)
    event_class n (Some k.Routine) e t = absurd (false≢true t)

    -- ---- scopes

    permanent_of : (n : Name) → HasClass L n → (b : Bool) → is_permanent (class_kind d v r n (kind_of d n)) ≡ b →
        slice_get (map (λ c. is_permanent c.kind) (map (class_table d v r) v.classes)) (number n v.classes) ≡ Some b
    permanent_of n i b e =
        image_twice (λ (c : ClassTable). is_permanent c.kind) (class_table d v r) n v.classes (class_in n i)
        ∙ ap (λ (c : Bool). Some c) e

    pub scoped : (locals : List Name) → Scoped d v locals (program_scope d v r locals)
    scoped locals = record {
      global = λ n j e t. number_there n v.globals (global_in n j (kind_in n j e) t);
      attribute = λ n c e. class_place c (closed_kind n (k.Attribute c) e);
      attribute_variable = λ n c e. number_there c v.globals (class_global c (closed_kind n (k.Attribute c) e));
      owner_kept = λ n a s e. set_place s (closed_kind n (k.OwnerKept a s) e);
      owner = λ s c e. number_there c v.globals (class_global c (owner_class locals s c e));
      member_kept = λ n a s e. set_place s (closed_kind n (k.MemberKept a s) e);
      member = λ n a s e. number_there (member_class d v locals s) v.globals
          (class_global (member_class d v locals s) (member_is_class locals s (closed_kind n (k.MemberKept a s) e)));
      set = λ n e. set_place n (kind_in n k.Set e);
      locals_are = refl;
      permanent = λ n t. let p = permanent_class n (kind_of d n) refl t in permanent_of n p.0 true p.2;
      counts = λ n t. let p = permanent_class n (kind_of d n) refl t in
          number_there (codes "N." ++ n) v.globals (global_in (codes "N." ++ n) k.ClassCount p.1 refl);
      ending = λ n t. let p = ending_class n (kind_of d n) refl t in permanent_of n p.0 false p.1;
    }
      where
        class_place : (c : Name) → HasClass L c →
            number c v.classes < length (map (λ c. is_permanent c.kind) (map (class_table d v r) v.classes))
        class_place c i =
            rw (
              length-map (map (class_table d v r) v.classes) (λ (c : ClassTable). is_permanent c.kind),
              length-map v.classes (class_table d v r),
            )
            (number_there c v.classes (class_in c i))

        set_place : (s : Name) → In (fact s k.Set) L → number s v.sets < length (map (set_table d v r) v.sets)
        set_place s i = rw (length-map v.sets (set_table d v r)) (number_there s v.sets (set_in s i))

    -- ---- attributes of classes

    pub attributes_are : (n : Name) → In n v.classes → attribute_names v n ≡ attributes_of d n
    attributes_are n i =
        get_or_from_slice_get v.attributes (number n v.classes) (attributes_of d n) []
        (image_at (attributes_of d) n v.classes i)
