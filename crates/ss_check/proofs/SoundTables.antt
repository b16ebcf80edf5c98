-- The tables of names, classes and sets of a program without a breach are sound.
use Rattle.std.proofs.Common.{◌≡◌, ◌≤◌, ◌<◌, ℕ, ◌==◌, Bool, true, false, not, List, [], ◌∷◌, ◌++◌, length, refl, sym}
use Rattle.std.proofs.Common.{ap, ◌∙◌, subst, arith, Option, Some, None}
use Rattle.std.specs.Prelude.{map, codes, bytes_eq, slice_get, unwrap_or, option_map}
use Rattle.std.specs.List.{All, IsDistinct, AllByRecursion, flat_map, list_any, list_all}
use mathlib.Core.Logic.{inl, inr}
use Rattle.std.proofs.lemmas.Bool.{not-false, ne_eqb, and_from}
use Rattle.std.proofs.lemmas.List.{length-map}
use Rattle.std.proofs.lemmas.List.Elements.{All-nil, All-map}
use Rattle.std.proofs.lemmas.Option.{slice_get-map, slice_get_within}
use Rattle.ss_words.specs.Lists.{Name, Several, all_of}
use Rattle.ss_preamble.specs.declared.item.Heading.TheVariants.{PermanentEntities, TemporaryEntities, EventNotices}
use Rattle.ss_preamble.specs.Tree.{Key as WrittenKey, SetDiscipline, Fifo, Lifo, Ranked, Variables, Sets, PriorityOrder}
use Rattle.ss_preamble.specs.Tree.{BreakTies, ExternalEvents, Item, Normally, Headed, OfEvery, OfSystem, Defines}
use Rattle.ss_preamble.specs.Tree.{Orders, ItemAt}
use Rattle.ss_preamble.specs.Limits.{key_count, class_names, IsWithin}
use Rattle.ss_routines.specs.Tree.{Head}
use Rattle.ss_routines.specs.Places.{Section}
use Rattle.ss_program.specs.declared.keys.Key.{Key}
use Rattle.ss_program.specs.Program.{ClassTable, SetTable, SectionTable, ProgramTable, class_of, section_of, is_event}
use Rattle.ss_program.specs.Program.{is_event_section}
use Rattle.ss_program.specs.ProgramSound.{HaveDistinctAttributes, HasSoundNames, AreSoundKeys, IsSoundEvent}
use Rattle.ss_program.specs.ProgramSound.{IsSoundKind, IsSoundClass, IsSoundOwner, IsSoundDiscipline, IsSoundSet}
use Rattle.ss_program.specs.ProgramSound.{IsSoundPriority, HasSoundTables}
use Rattle.ss_check.specs.Facts.{Fact, fact, fact_of}
use Rattle.ss_check.specs.NameKind.{NameKind}
use Rattle.ss_check.specs.NameKind as k
use Rattle.ss_check.specs.Declarations.{Declared}
use Rattle.ss_check.specs.NameKinds.{is_class, is_global, names_event}
use Rattle.ss_check.specs.Declarations.{HeadedItem, headed_items, heads, classes_in, disciplines_in, ties_in, events_in}
use Rattle.ss_check.specs.Declarations.{given_of, kind_of, declared_by_program, attribute_count, is_event_class}
use Rattle.ss_check.specs.ItemRules.{is_wrong_key, has_wrong_key, has_wrong_keys, has_fewer}
use Rattle.ss_check.specs.ResolvedNames.{Names, names, number, names_where, is_set, attribute_names, attributes_of}
use Rattle.ss_check.specs.ResolvedNames.{member_class, owner_of}
use Rattle.ss_check.specs.Resolved.{Rankings, rankings, resolved_key, resolved_discipline, resolved_owner, event_table}
use Rattle.ss_check.specs.Resolved.{class_kind, class_table, set_table, resolved_section, resolved_with}
use Rattle.ss_check.proofs.SoundLists.{In, all_from, same_again, none_in, in_among, among_in, number_there, image_at}
use Rattle.ss_check.proofs.SoundLists.{once_from, once_apart, fact_in, flat_in, in_flat, where_from, AreApart}
use Rattle.ss_check.proofs.SoundLists.{apart_from}
use Rattle.ss_check.proofs.SoundCompanions.{HasClass}
use Rattle.ss_check.proofs.SoundStatements.{AreItemsKept, AreSectionsKept}
use Rattle.ss_check.proofs.SoundItems.{item_at, right_ranks, right_ties, events_have_sections, priority_kept}
use Rattle.ss_check.proofs.SoundItems.{attributes_apart}
use Rattle.ss_check.proofs.SoundNames.{L, class_is_global, kind_in, closed_kind, global_in, class_in, set_declared}
use Rattle.ss_check.proofs.SoundNames.{is_attribute, owner_class, member_there, member_is_class, event_class}
use Rattle.ss_check.proofs.SoundNames.{attributes_are}
use Rattle.ss_check.proofs.SoundLimits.{attributes_counted, few_attributes, entry_of, few_keys, class_named}
use Rattle.ss_check.proofs.SoundLimits.{few_classes, few_sets}
use Rattle.ss_check.proofs.SoundNumbers.{event_found, section_at, slice_in}

-- ---- lists

-- a name is at its number
name_at : (n : Name) (ns : List Name) → In n ns → slice_get ns (number n ns) ≡ Some n
name_at n ns h = ap (λ (ms : List Name). slice_get ms (number n ns)) (sym (map_same ns)) ∙ image_at (λ m. m) n ns h
  where
    map_same : (ms : List Name) → map (λ (m : Name). m) ms ≡ ms
    map_same [] = refl
    map_same (m ∷ ms) = ap (λ (ks : List Name). m ∷ ks) (map_same ms)

-- names of a table have numbers of their own
other_number : (m n : Name) (ns : List Name) → In m ns → In n ns → bytes_eq m n ≡ false →
    (number m ns == number n ns) ≡ false
other_number m n ns i j e =
    ne_eqb (number m ns) (number n ns) (λ s.
    let same : Some m ≡ Some n = sym (name_at m ns i) ∙ ap (slice_get ns) s ∙ name_at n ns j in
    let alike : m ≡ n = cc in
    let t = (Rattle.std.proofs.lemmas.Slice.Eq.bytes_eq-Decides m n).1 alike in cc)

numbers_by : (m : Name) (ms ns : List Name) → In m ns → ((n : Name) → In n ms → In n ns) →
    AllByRecursion (λ n. bytes_eq m n ≡ false) ms →
    AllByRecursion (λ k. (number m ns == k) ≡ false) (map (λ n. number n ns) ms)
numbers_by m [] ns i h a = tt
numbers_by m (n ∷ ms) ns i h a =
    (other_number m n ns i (h n (inl refl)) a.0, numbers_by m ms ns i (λ k x. h k (inr x)) a.1)

numbers_apart : (ms ns : List Name) → ((n : Name) → In n ms → In n ns) → AreApart ms →
    IsDistinct ◌==◌ (map (λ n. number n ns) ms)
unfolding IsDistinct
numbers_apart [] ns h a = tt
numbers_apart (m ∷ ms) ns h a =
    (numbers_by m ms ns (h m (inl refl)) (λ k x. h k (inr x)) a.0, numbers_apart ms ns (λ k x. h k (inr x)) a.1)

-- ---- the program

module _ (is : List ItemAt) (qs : List Section) (h : AreItemsKept (declared_by_program is qs) [] (headed_items is))
    (w : IsWithin (map (λ i. i.item) is))
    (s : AreSectionsKept (declared_by_program is qs) (headed_items is) [] qs) where
  abbrev xs : List HeadedItem
  xs = headed_items is

  abbrev hs : List Head
  hs = heads qs

  abbrev D : Declared
  D = declared_by_program is qs

  abbrev V : Names
  V = names D hs

  abbrev R : Rankings
  R = rankings is

  abbrev p : ProgramTable
  p = resolved_with D V R qs

  classes_global : (n : Name) → In n V.classes → In n V.globals
  classes_global n i =
      let q = where_from is_class n D.kinds (once_from n (names_where is_class D.kinds) i) in
      global_in xs hs h n q.what q.there (class_is_global q.what q.passes)

  all_global : (ns : List Name) → ((n : Name) → In n ns → In n V.globals) →
      list_all (λ (c : ClassTable). list_any (bytes_eq c.name) V.globals) (map (class_table D V R) ns) ≡ true
  all_global [] f = refl
  all_global (n ∷ ns) f =
      and_from (list_any (bytes_eq n) V.globals)
      (list_all (λ (c : ClassTable). list_any (bytes_eq c.name) V.globals) (map (class_table D V R) ns))
      (in_among n V.globals (f n (inl refl))) (all_global ns (λ m x. f m (inr x)))

  own_attributes : (ns : List Name) → HaveDistinctAttributes (map (class_table D V R) ns)
  own_attributes [] = tt
  own_attributes (n ∷ ns) = (attributes_apart n D xs hs h, own_attributes ns)

  pub sound_names : HasSoundNames p
  sound_names = record {
    globals = once_apart (names_where is_global D.kinds);
    classes =
        let same = same_again (class_table D V R) (λ (c : ClassTable). c.name) V.classes (λ n i. refl) in
        subst AreApart (sym same) (once_apart (names_where is_class D.kinds));
    attributes = own_attributes V.classes;
    sets =
        let same = same_again (set_table D V R) (λ (t : SetTable). t.name) V.sets (λ n i. refl) in
        subst AreApart (sym same) (once_apart (names_where is_set D.kinds));
    class_variables = all_global V.classes classes_global;
  }

  -- ---- keys

  keys_there : (b : Declared) (c : Name) (keys : List WrittenKey) → In c V.classes →
      list_any (is_wrong_key D c) keys ≡ false →
      All (λ (q : Key). q.attribute < length (attributes_of D c)) (map (resolved_key (attribute_names V c)) keys)
  keys_there b c keys i t =
      All-map (λ (q : Key). q.attribute < length (attributes_of D c)) (resolved_key (attribute_names V c)) keys
      (all_from (λ (q : WrittenKey). number q.name (attribute_names V c) < length (attributes_of D c)) keys (λ q x.
      let right = none_in (is_wrong_key D c) q keys t x in
      rw (attributes_are xs hs h R c i)
      (number_there q.name (attributes_of D c) (is_attribute xs hs h c q.name right))))

  sound_keys : (b : Declared) (c : Name) (keys : List WrittenKey) → In c V.classes →
      list_any (is_wrong_key D c) keys ≡ false → length keys ≤ 8 →
      AreSoundKeys (length (attributes_of D c)) (map (resolved_key (attribute_names V c)) keys)
  sound_keys b c keys i t l = record {
    attributes = keys_there b c keys i t;
    few = let e = length-map keys (resolved_key (attribute_names V c)) in omega (arith, e, l);
  }

  what_same : {A : Type 0} (f g : Fact A) → f ≡ g → f.what ≡ g.what
  what_same {A = A} f g e = ap (λ (x : Fact A). x.what) e

  ties_counted : (i : Item) (c : Name) (keys : List WrittenKey) → In (fact c keys) (ties_in i) →
      length keys ≡ key_count i
  ties_counted Normally c keys x = absurd x
  ties_counted (Headed g ns) c keys x = absurd x
  ties_counted (OfEvery b zs) c keys x = absurd x
  ties_counted (OfSystem zs) c keys x = absurd x
  ties_counted (Defines z) c keys x = absurd x
  ties_counted (Orders (PriorityOrder ns)) c keys x = absurd x
  ties_counted (Orders (BreakTies b ks)) c keys (inl e) =
      ap (λ (z : List WrittenKey). length z) (what_same (fact c keys) (fact b (all_of ks)) e)
  ties_counted (Orders (BreakTies b ks)) c keys (inr x) = absurd x
  ties_counted (Orders (ExternalEvents ns)) c keys x = absurd x

  -- the keys that break an event class's ties
  tie_keys : (c : Name) (o : Option (List WrittenKey)) → fact_of R.ties c ≡ o → In c V.classes →
      AreSoundKeys (length (attributes_of D c)) (map (resolved_key (attribute_names V c)) (unwrap_or o []))
  tie_keys c None e i =
      record { attributes = All-nil (λ (q : Key). q.attribute < length (attributes_of D c)); few = omega arith }
  tie_keys c (Some keys) e i =
      let f = flat_in (λ (z : ItemAt). ties_in z.item) (fact c keys) is (fact_in R.ties c keys e) in
      let z = f.one in
      let x = entry_of None is z f.there in
      let kept = item_at D [] xs x.0 h x.1 in
      let b = kept.0 in
      let y = kept.1 in
      let wrong : has_wrong_keys D z.item ≡ false = subst (λ (j : Item). has_wrong_keys D j ≡ false) x.2 y.keys in
      let count = ties_counted z.item c keys f.has in
      let few = few_keys is z w f.there in
      sound_keys b c keys i (right_ties D b z.item c keys wrong f.has) (omega (arith, count, few))

  discipline_counted : (i : Item) (n : Name) (ks : Several WrittenKey) → In (fact n (Ranked ks)) (disciplines_in i) →
      length (all_of ks) ≡ key_count i
  discipline_counted Normally n ks x = absurd x
  discipline_counted (Headed g ns) n ks x = absurd x
  discipline_counted (OfEvery b zs) n ks x = absurd x
  discipline_counted (OfSystem zs) n ks x = absurd x
  discipline_counted (Orders r) n ks x = absurd x
  discipline_counted (Defines (Variables ns)) n ks x = absurd x
  discipline_counted (Defines (Sets ns kind)) n ks x =
      let q = Rattle.ss_check.proofs.SoundLists.map_in (λ m. fact m kind) (fact n (Ranked ks)) (all_of ns) x in
      let e : Ranked ks ≡ kind = what_same (fact n (Ranked ks)) (fact q.one kind) q.is in
      ap (λ (z : SetDiscipline). key_count (Defines (Sets ns z))) e

  -- the keys that rank a set
  sound_discipline : (n : Name) (c : Name) (o : Option SetDiscipline) → fact_of R.disciplines n ≡ o →
      fact_of D.members n ≡ Some c → In c V.classes →
      IsSoundDiscipline (length (attributes_of D c)) (resolved_discipline (attribute_names V c) o)
  sound_discipline n c None e m i = tt
  sound_discipline n c (Some Fifo) e m i = tt
  sound_discipline n c (Some Lifo) e m i = tt
  sound_discipline n c (Some (Ranked ks)) e m i =
      let f = flat_in (λ (z : ItemAt). disciplines_in z.item) (fact n (Ranked ks)) is
      (fact_in R.disciplines n (Ranked ks) e) in
      let z = f.one in
      let x = entry_of None is z f.there in
      let kept = item_at D [] xs x.0 h x.1 in
      let b = kept.0 in
      let y = kept.1 in
      let wrong : has_wrong_keys D z.item ≡ false = subst (λ (j : Item). has_wrong_keys D j ≡ false) x.2 y.keys in
      let rank : has_wrong_key D (fact_of D.members n) (all_of ks) ≡ false =
      right_ranks D b z.item n (Ranked ks) wrong f.has in
      let keys : has_wrong_key D (Some c) (all_of ks) ≡ false =
      subst (λ (q : Option Name). has_wrong_key D q (all_of ks) ≡ false) m rank in
      let count = discipline_counted z.item n ks f.has in
      let few = few_keys is z w f.there in
      sound_keys b c (all_of ks) i keys (omega (arith, count, few))

  -- ---- classes

  -- class number c of the program
  pub class_is : (n : Name) → In n V.classes → class_of p (number n V.classes) ≡ class_table D V R n
  class_is n i = rw (image_at (class_table D V R) n V.classes i) refl

  pub class_place : (n : Name) → In n V.classes → number n V.classes < length p.classes
  class_place n i = rw (length-map V.classes (class_table D V R)) (number_there n V.classes i)

  named_somewhere : (n : Name) → HasClass (L xs hs h) n → In n (flat_map (λ x. classes_in x.item) xs)
  named_somewhere n i =
      let q = flat_in class_names n (map (λ (z : ItemAt). z.item) is) (class_named is hs h w n i.0 i.1) in
      let r = Rattle.ss_check.proofs.SoundLists.map_in (λ (z : ItemAt). z.item) q.one is q.there in
      let x = entry_of None is r.one r.there in
      in_flat (λ (y : HeadedItem). classes_in y.item) x.0 n xs x.1
      (subst (λ (j : Item). In n (classes_in j)) (r.is ∙ sym x.2) (class_item q.one q.has))
    where
      class_item : (j : Item) → In n (class_names j) → In n (classes_in j)
      class_item Normally x = absurd x
      class_item (Headed g None) x = absurd x
      class_item (Headed g (Some ns)) x = x
      class_item (OfEvery b zs) x = x
      class_item (OfSystem zs) x = absurd x
      class_item (Defines z) x = absurd x
      class_item (Orders r) x = absurd x

  section_is : (i : ℕ) (t : SectionTable) → slice_get p.sections i ≡ Some t → section_of p i ≡ t
  section_is i t e = rw e refl

  sound_event : (n : Name) → HasClass (L xs hs h) n → is_event_class D n ≡ true →
      IsSoundEvent p (length (attributes_of D n)) (event_table D V R n)
  sound_event n i e =
      let has = events_have_sections D xs h n (named_somewhere n i) e in
      let f = event_found qs 0 n (among_in n D.events has) in
      let q = f.section in
      let holds = f.holds in
      let number_is : (event_table D V R n).section ≡ f.place =
      ap (λ (o : Option ℕ). unwrap_or o 0) f.number ∙ omega arith in
      let there : slice_get p.sections (event_table D V R n).section ≡ Some (resolved_section D V q) =
      ap (slice_get p.sections) number_is ∙ slice_get-map (resolved_section D V) qs f.place
      ∙ ap (option_map (resolved_section D V)) f.there in
      let same = section_is (event_table D V R n).section (resolved_section D V q) there in
      let kept = section_at D xs [] qs q s (slice_in qs f.place q f.there) in
      let head = kept.1 in
      let less : has_fewer D (given_of q.head) n ≡ false =
      none_in (has_fewer D (given_of q.head)) n (events_in q.head) head.given holds.names in
      record {
        section = slice_get_within p.sections (event_table D V R n).section (resolved_section D V q) there;
        kind = ap is_event_section same ∙ holds.kind;
        given = subst (λ (t : SectionTable). t.given ≤ length (attributes_of D n)) (sym same)
            (not_fewer (is_event_class D n) (attribute_count D n) (length (given_of q.head))
            (length (attributes_of D n)) e (attributes_counted n xs hs) less);
        yielded = ap (λ (t : SectionTable). t.yielded) same ∙ holds.yielded;
        ties = tie_keys n (fact_of R.ties n) refl (class_in xs hs h n i);
      }
    where
      not_fewer : (b : Bool) (k l m : ℕ) → b ≡ true → k ≡ m →
          Rattle.std.specs.Prelude.◌&&◌ b (Rattle.std.specs.Prelude.nat_lt k l) ≡ false → l ≤ m
      not_fewer false k l m e f g = absurd (Rattle.std.proofs.lemmas.Bool.false≢true e)
      not_fewer true k l m e f g = let o = Rattle.std.proofs.lemmas.Bool.ltb-false k l g in omega (arith, f, o)

  sound_kind : (n : Name) (o : Option NameKind) → kind_of D n ≡ o →
      IsSoundKind p (length (attributes_of D n)) (class_kind D V R n o)
  sound_kind n None e = tt
  sound_kind n (Some k.Variable) e = tt
  sound_kind n (Some k.ClassCount) e = tt
  sound_kind n (Some (k.Class None)) e = tt
  sound_kind n (Some (k.Class (Some PermanentEntities))) e =
      number_there (codes "N." ++ n) V.globals
      (global_in xs hs h (codes "N." ++ n) k.ClassCount
      (closed_kind xs hs h n (k.Class (Some PermanentEntities)) e).1 refl)
  sound_kind n (Some (k.Class (Some TemporaryEntities))) e = tt
  sound_kind n (Some (k.Class (Some EventNotices))) e =
      sound_event n (Some EventNotices, kind_in xs hs h n (k.Class (Some EventNotices)) e) (ap names_event e)
  sound_kind n (Some (k.Attribute c)) e = tt
  sound_kind n (Some (k.OwnerKept q t)) e = tt
  sound_kind n (Some (k.MemberKept q t)) e = tt
  sound_kind n (Some (k.Function f)) e = tt
  sound_kind n (Some k.Clock) e = tt
  sound_kind n (Some k.Set) e = tt
  sound_kind n (Some k.Routine) e = tt

  sound_class : (n : Name) → In n V.classes → IsSoundClass p (class_table D V R n)
  sound_class n i = record {
    variable = name_at n V.globals (classes_global n i);
    kind = sound_kind n (kind_of D n) refl;
    few = few_attributes n is hs w;
  }

  -- ---- sets

  sound_owner : (n : Name) (o : Option Name) → owner_of D V [] n ≡ o →
      IsSoundOwner (length p.classes) (resolved_owner V.classes o)
  sound_owner n None e = tt
  sound_owner n (Some c) e = class_place c (class_in xs hs h c (owner_class xs hs h [] n c e))

  sound_set : (n : Name) → In n V.sets → IsSoundSet p (set_table D V R n)
  sound_set n i =
      let there = set_declared xs hs h n i in
      let m = member_there xs hs h n there in
      let c = member_class D V [] n in
      let e : c ≡ m.0 = ap (λ (o : Option Name). unwrap_or o []) m.1 in
      let member : In c V.classes = class_in xs hs h c (member_is_class xs hs h [] n there) in
      let attributes : length (class_of p (number c V.classes)).attributes ≡ length (attributes_of D c) =
      ap (λ (t : ClassTable). length t.attributes) (class_is c member) in
      record {
        owner = sound_owner n (owner_of D V [] n) refl;
        member = class_place c member;
        discipline = rw attributes
            (sound_discipline n c (fact_of R.disciplines n) refl (m.1 ∙ ap (λ (q : Name). Some q) (sym e)) member);
      }

  -- ---- priority

  sound_priority : (n : Name) → is_event_class D n ≡ true → IsSoundPriority p (number n V.classes)
  sound_priority n e =
      let q = event_class xs hs h R n (kind_of D n) refl e in
      let i = class_in xs hs h n q.0 in
      record { class = class_place n i; event = ap (λ (c : ClassTable). is_event c.kind) (class_is n i) ∙ q.1 }

  pub sound_tables : HasSoundTables p
  sound_tables =
      let order = priority_kept D xs h in
      let events : (n : Name) → In n D.priority → is_event_class D n ≡ true =
      λ n i. not-false (is_event_class D n) (none_in (λ c. not (is_event_class D c)) n D.priority order.events i) in
      record {
        classes = All-map (IsSoundClass p) (class_table D V R) V.classes
            (all_from (λ n. IsSoundClass p (class_table D V R n)) V.classes sound_class);
        sets = All-map (IsSoundSet p) (set_table D V R) V.sets
            (all_from (λ n. IsSoundSet p (set_table D V R n)) V.sets sound_set);
        priority = All-map (IsSoundPriority p) (λ n. number n V.classes) D.priority
            (all_from (λ n. IsSoundPriority p (number n V.classes)) D.priority (λ n i. sound_priority n (events n i)));
        once = numbers_apart D.priority V.classes
            (λ n i. class_in xs hs h n (event_class xs hs h R n (kind_of D n) refl (events n i)).0)
            (apart_from D.priority order.once);
        few_classes =
            let e = length-map V.classes (class_table D V R) in let l = few_classes is hs h w in omega (arith, e, l);
        few_sets = let e = length-map V.sets (set_table D V R) in let l = few_sets is hs h w in omega (arith, e, l);
      }
