-- The tables of a program without a breach, each number looked up, give the contents of the items.
use Rattle.std.proofs.Common.{◌≡◌, ◌⊎◌, ℕ, Bool, true, false, not, List, [], ◌∷◌, ◌++◌, refl, sym, ap, ◌∙◌, subst}
use Rattle.std.proofs.Common.{arith, Option, Some, None}
use Rattle.std.specs.Prelude.{map, codes, slice_get, option_map, unwrap_or}
use Rattle.std.specs.List.{flat_map, list_any}
use mathlib.Core.Logic.{inl, inr}
use Rattle.std.proofs.lemmas.Bool.{false≢true, not-false}
use Rattle.std.proofs.lemmas.List.Elements.{All-map}
use Rattle.std.proofs.lemmas.Option.{slice_get-map}
use Rattle.ss_words.specs.Lists.{Name, all_of}
use Rattle.ss_preamble.specs.declared.item.Heading.{Heading}
use Rattle.ss_preamble.specs.declared.item.Heading.TheVariants.{PermanentEntities, TemporaryEntities, EventNotices}
use Rattle.ss_words.specs.declared.terms.Rank.{Rank}
use Rattle.ss_words.specs.declared.terms.Rank.TheVariants.{High}
use Rattle.ss_preamble.specs.Tree.{Key as WrittenKey, SetDiscipline, Fifo, Lifo, Ranked, PriorityOrder, BreakTies}
use Rattle.ss_preamble.specs.Tree.{ExternalEvents, Item, Normally, Headed, OfEvery, OfSystem, Defines, Orders, ItemAt}
use Rattle.ss_preamble.specs.Limits.{class_names}
use Rattle.ss_routines.specs.Tree.{Head, MainHead, RoutineHead, EventHead}
use Rattle.ss_routines.specs.Places.{Section}
use Rattle.ss_program.specs.declared.kinds.ClassKind.{ClassKind}
use Rattle.ss_program.specs.EventTable.{EventTable}
use Rattle.ss_program.specs.Program.{ClassTable, SetTable, SectionTable, ProgramTable, class_of, section_of}
use Rattle.ss_program.specs.Program.{event_of_kind, is_event_section}
use Rattle.ss_check.specs.Facts.{Fact, is_among, each_once, fact, fact_of}
use Rattle.ss_check.specs.NameKind.{NameKind}
use Rattle.ss_check.specs.NameKind as k
use Rattle.ss_check.specs.Declarations.{Declared}
use Rattle.ss_check.specs.NameKinds.{is_class, names_event}
use Rattle.ss_check.specs.Declarations.{HeadedItem, headed_items, heads, declared_by_program, classes_in, events_in}
use Rattle.ss_check.specs.Declarations.{disciplines_in, ties_in, external_in, declared_by, kind_of, is_event_class}
use Rattle.ss_check.specs.ItemRules.{names_wrong_class, is_wrong_key, has_wrong_key}
use Rattle.ss_check.specs.ResolvedNames.{Names, names, number, names_where, attributes_of, attribute_names, owner_of}
use Rattle.ss_check.specs.ResolvedNames.{member_class}
use Rattle.ss_check.specs.Resolved.{Rankings, rankings, resolved_key, resolved_discipline, resolved_owner, event_table}
use Rattle.ss_check.specs.Resolved.{class_kind, class_table, set_table, section_name, resolved_section, resolved_with}
use Rattle.ss_check.specs.NamedTree.{several, name_at}
use Rattle.ss_check.specs.NamedItems.{named_heading, named_key, named_discipline, named_owner, said_of, headings_in}
use Rattle.ss_check.specs.NamedItems.{Written, items_written, IsSaid, IsKindOf, IsClassOf, IsSetOf, IsOfItems}
use Rattle.ss_check.specs.NamedItems.{TablesGiveTheItems}
use Rattle.ss_check.proofs.SoundLists.{In, all_from, same_again, none_in, among_in, number_there, image_at, once_from}
use Rattle.ss_check.proofs.SoundLists.{fact_in, fact_there, flat_in, in_flat, where_from}
use Rattle.ss_check.proofs.SoundCompanions.{HasClass}
use Rattle.ss_check.proofs.SoundItems.{item_at, sets_have_owners, right_ranks, right_ties, events_have_sections}
use Rattle.ss_check.proofs.SoundItems.{priority_kept}
use Rattle.ss_check.proofs.SoundNumbers.{event_found}
use Rattle.ss_check.proofs.SoundNames.{L, closed_kind, global_in, class_in, class_global, set_of_item, set_declared}
use Rattle.ss_check.proofs.SoundNames.{is_attribute, owner_class, member_there, member_is_class, event_class}
use Rattle.ss_check.proofs.SoundNames.{attributes_are}
use Rattle.ss_check.proofs.SoundStatements.{AreItemsKept, kept}
use Rattle.ss_check.proofs.NamedKinds.{number_finds}
use Rattle.ss_check.proofs.NamedUses.{two}
use Rattle.ss_check.proofs.NamedItemsNames.{entries_say, class_names_are, set_names_are, globals_are}
use Rattle.ss_check.proofs.NamedItemsNames.{attributes_are_written}
use Rattle.ss_check.proofs.NamedItemsFacts.{some_list, said_in, one_owner, one_member, one_discipline, one_break}
use Rattle.ss_check.proofs.NamedItemsHeadings.{class_kept, heading_declared, heading_there}

-- ---- names and keys

name_again : (n : Name) (ns : List Name) → In n ns → name_at ns (number n ns) ≡ n
name_again n ns i = ap (λ (o : Option Name). unwrap_or o []) (number_finds n ns (number_there n ns i))

key_again : (ns : List Name) (q : WrittenKey) → In q.name ns → named_key ns (resolved_key ns q) ≡ q
key_again ns q i =
    two (λ (r : Rank) (n : Name). record { rank = r; name = n }) refl (name_again q.name ns i)

keys_again : (ns : List Name) (qs : List WrittenKey) → ((q : WrittenKey) → In q qs → In q.name ns) →
    map (named_key ns) (map (resolved_key ns) qs) ≡ qs
keys_again ns qs h = same_again (resolved_key ns) (named_key ns) qs (λ q i. key_again ns q (h q i))

-- ---- kinds of classes

abbrev event : NameKind
event = k.Class (Some EventNotices)

-- the parts of a class of no events apart from its name and attributes
abbrev no_event : EventTable
no_event = record { section = 0; ties = []; external = false }

-- an event class, or none and nothing besides
abbrev IsEventOr : Option NameKind → EventTable → Type 0
IsEventOr o t = (o ≡ Some event) ⊎ ((names_event o ≡ false) × (t ≡ no_event))

event_or : (d : Declared) (v : Names) (r : Rankings) (n : Name) (o : Option NameKind) →
    IsEventOr o (event_of_kind (class_kind d v r n o))
event_or d v r n None = inr (refl, refl)
event_or d v r n (Some k.Variable) = inr (refl, refl)
event_or d v r n (Some k.ClassCount) = inr (refl, refl)
event_or d v r n (Some (k.Class None)) = inr (refl, refl)
event_or d v r n (Some (k.Class (Some PermanentEntities))) = inr (refl, refl)
event_or d v r n (Some (k.Class (Some TemporaryEntities))) = inr (refl, refl)
event_or d v r n (Some (k.Class (Some EventNotices))) = inl refl
event_or d v r n (Some (k.Attribute c)) = inr (refl, refl)
event_or d v r n (Some (k.OwnerKept q s)) = inr (refl, refl)
event_or d v r n (Some (k.MemberKept q s)) = inr (refl, refl)
event_or d v r n (Some (k.Function f)) = inr (refl, refl)
event_or d v r n (Some k.Clock) = inr (refl, refl)
event_or d v r n (Some k.Set) = inr (refl, refl)
event_or d v r n (Some k.Routine) = inr (refl, refl)

heading_again : (d : Declared) (v : Names) (r : Rankings) (n : Name) (g : Heading) →
    named_heading (class_kind d v r n (Some (k.Class (Some g)))) ≡ g
heading_again d v r n PermanentEntities = refl
heading_again d v r n TemporaryEntities = refl
heading_again d v r n EventNotices = refl

class_item : (i : Item) (n : Name) → In n (class_names i) → In n (classes_in i)
class_item Normally n x = absurd x
class_item (Headed g None) n x = absurd x
class_item (Headed g (Some ns)) n x = x
class_item (OfEvery c cs) n x = x
class_item (OfSystem cs) n x = absurd x
class_item (Defines z) n x = absurd x
class_item (Orders r) n x = absurd x

-- the name in BREAK and in EXTERNAL is an event class
tied_event : (d b : Declared) (h : Option Heading) (i : Item) (n : Name) (keys : List WrittenKey) →
    names_wrong_class d h i ≡ false → In (fact n keys) (ties_in i) → is_event_class d n ≡ true
tied_event d b h Normally n keys e x = absurd x
tied_event d b h (Headed g ns) n keys e x = absurd x
tied_event d b h (OfEvery c cs) n keys e x = absurd x
tied_event d b h (OfSystem cs) n keys e x = absurd x
tied_event d b h (Defines z) n keys e x = absurd x
tied_event d b h (Orders (PriorityOrder ns)) n keys e x = absurd x
tied_event d b h (Orders (BreakTies c ks)) n keys e (inl y) =
    ap (λ (f : Fact (List WrittenKey)). is_event_class d f.name) y ∙ not-false (is_event_class d c) e
tied_event d b h (Orders (BreakTies c ks)) n keys e (inr y) = absurd y
tied_event d b h (Orders (ExternalEvents ns)) n keys e x = absurd x

external_event : (d b : Declared) (h : Option Heading) (i : Item) (n : Name) → names_wrong_class d h i ≡ false →
    In n (external_in i) → is_event_class d n ≡ true
external_event d b h Normally n e x = absurd x
external_event d b h (Headed g ns) n e x = absurd x
external_event d b h (OfEvery c cs) n e x = absurd x
external_event d b h (OfSystem cs) n e x = absurd x
external_event d b h (Defines z) n e x = absurd x
external_event d b h (Orders (PriorityOrder ns)) n e x = absurd x
external_event d b h (Orders (BreakTies c ks)) n e x = absurd x
external_event d b h (Orders (ExternalEvents ns)) n e x =
    not-false (is_event_class d n) (none_in (λ c. not (is_event_class d c)) n (all_of ns) e x)

event_name : (n : Name) (h : Head) → In n (events_in h) → section_name h ≡ n
event_name n MainHead i = absurd i
event_name n (RoutineHead m ps ys) i = absurd i
event_name n (EventHead m ps saving) (inl e) = sym e
event_name n (EventHead m ps saving) (inr x) = absurd x

-- ---- the program; xs: its items under their headings

module _ (xs : List HeadedItem) (qs : List Section) where
  abbrev hs : List Head
  hs = heads qs

  abbrev D : Declared
  D = declared_by xs hs

  abbrev V : Names
  V = names D hs

  -- the contents of the items
  abbrev W : Written
  W = items_written xs

  abbrev R : Rankings
  R = record { disciplines = W.disciplines; ties = W.ties }

  abbrev p : ProgramTable
  p = resolved_with D V R qs

  -- the kind of a class, its further parts as an event class, and its attributes
  abbrev kind : Name → ClassKind
  kind n = class_kind D V R n (kind_of D n)

  abbrev besides : Name → EventTable
  besides n = event_of_kind (kind n)

  abbrev attributes : Name → List Name
  attributes n = attributes_of D n

  -- keys as numbers, and their names again
  abbrev looked_up : Name → List WrittenKey → List WrittenKey
  looked_up n keys = map (named_key (attributes n)) (map (resolved_key (attribute_names V n)) keys)

  module _ (h : AreItemsKept D [] xs) where
    class_at : (n : Name) → In n V.classes → class_of p (number n V.classes) ≡ class_table D V R n
    class_at n i = rw (image_at (class_table D V R) n V.classes i) refl

    class_name : (n : Name) → In n V.classes → (class_of p (number n V.classes)).name ≡ n
    class_name n i = ap (λ (t : ClassTable). t.name) (class_at n i)

    declared_class : (n : Name) → In n V.classes → HasClass (L xs hs h) n
    declared_class n i =
        let q = where_from is_class n D.kinds (once_from n (names_where is_class D.kinds) i) in
        as_class q.what q.there q.passes
      where
        as_class : (j : NameKind) → In (fact n j) D.kinds → is_class j ≡ true → HasClass (L xs hs h) n
        as_class (k.Class g) x t = (g, x)
        as_class k.Variable x t = absurd (false≢true t)
        as_class k.ClassCount x t = absurd (false≢true t)
        as_class (k.Attribute b) x t = absurd (false≢true t)
        as_class (k.OwnerKept q s) x t = absurd (false≢true t)
        as_class (k.MemberKept q s) x t = absurd (false≢true t)
        as_class (k.Function f) x t = absurd (false≢true t)
        as_class k.Clock x t = absurd (false≢true t)
        as_class k.Set x t = absurd (false≢true t)
        as_class k.Routine x t = absurd (false≢true t)

    named_somewhere : (n : Name) → In n V.classes → In n (flat_map (λ (x : HeadedItem). classes_in x.item) xs)
    named_somewhere n i =
        let named = once_from n (names_where is_class D.kinds) i in
        let f = flat_in (λ (x : HeadedItem). class_names x.item) n xs
        (subst (λ (ns : List Name). In n ns) (class_names_are xs hs) named) in
        let x = f.one in
        in_flat (λ (y : HeadedItem). classes_in y.item) x n xs f.there (class_item x.item n f.has)

    -- ---- kinds

    -- the section of an event
    record IsEventSection (n : Name) (t : SectionTable) : Type 0 where
      name : t.name ≡ n
      kind : is_event_section t ≡ true

    section_again : (n : Name) → In n V.classes → is_event_class D n ≡ true →
        IsEventSection n (section_of p (event_table D V R n).section)
    section_again n i e =
        let has = events_have_sections D xs h n (named_somewhere n i) e in
        let f = event_found qs 0 n (among_in n D.events has) in
        let q = f.section in
        let holds = f.holds in
        let place = (event_table D V R n).section in
        let place_is : place ≡ f.place = ap (λ (o : Option ℕ). unwrap_or o 0) f.number ∙ omega arith in
        let there : slice_get p.sections place ≡ Some (resolved_section D V q) =
        ap (slice_get p.sections) place_is ∙ slice_get-map (resolved_section D V) qs f.place
        ∙ ap (option_map (resolved_section D V)) f.there in
        subst (IsEventSection n) (sym (section_is place (resolved_section D V q) there))
        (record { name = event_name n q.head holds.names; kind = holds.kind })
      where
        section_is : (j : ℕ) (t : SectionTable) → slice_get p.sections j ≡ Some t → section_of p j ≡ t
        section_is j t e = rw e refl

    count_again : (n : Name) → kind_of D n ≡ Some (k.Class (Some PermanentEntities)) →
        name_at V.globals (number (codes "N." ++ n) V.globals) ≡ codes "N." ++ n
    count_again n e =
        let c = closed_kind xs hs h n (k.Class (Some PermanentEntities)) e in
        name_again (codes "N." ++ n) V.globals (global_in xs hs h (codes "N." ++ n) k.ClassCount c.1 refl)

    kind_again : (n : Name) (o : Option NameKind) → In n V.classes → kind_of D n ≡ o →
        IsKindOf p n (class_kind D V R n o)
    kind_again n None i e = tt
    kind_again n (Some k.Variable) i e = tt
    kind_again n (Some k.ClassCount) i e = tt
    kind_again n (Some (k.Class None)) i e = tt
    kind_again n (Some (k.Class (Some PermanentEntities))) i e = count_again n e
    kind_again n (Some (k.Class (Some TemporaryEntities))) i e = tt
    kind_again n (Some (k.Class (Some EventNotices))) i e =
        let s = section_again n i (ap names_event e) in (s.name, s.kind)
    kind_again n (Some (k.Attribute b)) i e = tt
    kind_again n (Some (k.OwnerKept q s)) i e = tt
    kind_again n (Some (k.MemberKept q s)) i e = tt
    kind_again n (Some (k.Function f)) i e = tt
    kind_again n (Some k.Clock) i e = tt
    kind_again n (Some k.Set) i e = tt
    kind_again n (Some k.Routine) i e = tt

    heading_is : (n : Name) (w : Option Heading) → In w (said_of W.headings n) → w ≡ Some (named_heading (kind n))
    heading_is n w i =
        let f = flat_in (λ (x : HeadedItem). headings_in x.heading x.item) (fact n w) xs (said_in W.headings n w i) in
        let x = f.one in
        let kept = item_at D [] xs x h f.there in
        let item = kept.1 in
        let g = heading_there D kept.0 x.heading x.item n w item.class f.has in
        let declared = class_kept xs hs h x f.there n w (heading_declared x.heading x.item n w f.has) in
        let class = declared ∙ ap (λ (z : Option Heading). Some (k.Class z)) g.1 in
        g.1 ∙ ap (λ (z : Heading). Some z) (sym (heading_again D V R n g.0))
        ∙ ap (λ (o : Option NameKind). Some (named_heading (class_kind D V R n o))) (sym class)

    -- ---- keys

    keys_are : (t : Declared) (b : Name) (keys : List WrittenKey) → In b V.classes →
        list_any (is_wrong_key D b) keys ≡ false → looked_up b keys ≡ keys
    keys_are t b keys i e =
        ap (λ (ns : List Name). map (named_key (attributes b)) (map (resolved_key ns) keys))
        (attributes_are xs hs h R b i)
        ∙ keys_again (attributes b) keys
        (λ q x. is_attribute xs hs h b q.name (none_in (is_wrong_key D b) q keys e x))

    -- the rules kept by the item that breaks ties
    record IsBreak (n : Name) (keys : List WrittenKey) : Type 0 where
      before : Declared
      right : list_any (is_wrong_key D n) keys ≡ false
      event : is_event_class D n ≡ true

    break_is : (n : Name) (keys : List WrittenKey) → fact_of W.ties n ≡ Some keys → IsBreak n keys
    break_is n keys e =
        let f = flat_in (λ (x : HeadedItem). ties_in x.item) (fact n keys) xs (fact_in W.ties n keys e) in
        let x = f.one in
        let kept = item_at D [] xs x h f.there in
        let b = kept.0 in
        let item = kept.1 in
        record {
          before = b;
          right = right_ties D b x.item n keys item.keys f.has;
          event = tied_event D b x.heading x.item n keys item.class f.has;
        }

    event_ties : (n : Name) (o : Option (List WrittenKey)) → In n V.classes → fact_of W.ties n ≡ o →
        IsSaid [] (some_list o) (looked_up n (unwrap_or o []))
    event_ties n None i e = refl
    event_ties n (Some keys) i e = let b = break_is n keys e in keys_are b.before n keys i b.right

    no_ties : (n : Name) (o : Option (List WrittenKey)) → names_event (kind_of D n) ≡ false →
        fact_of W.ties n ≡ o → IsSaid [] (some_list o) []
    no_ties n None e t = refl
    no_ties n (Some keys) e t = let b = break_is n keys t in absurd (false≢true (sym e ∙ b.event))

    -- the ties of a class that has this besides
    abbrev AreTies : Name → EventTable → Type 0
    AreTies n t = IsSaid [] (some_list (fact_of W.ties n)) (map (named_key (attributes n)) t.ties)

    ties_again : (n : Name) → In n V.classes →
        IsSaid [] (said_of W.ties n) (map (named_key (attributes n)) (besides n).ties)
    ties_again n i = rw (one_break D xs h n) (by (event_or D V R n (kind_of D n)))
      where
        by : IsEventOr (kind_of D n) (besides n) → AreTies n (besides n)
        by (inl e) =
            subst (λ (o : Option NameKind). AreTies n (event_of_kind (class_kind D V R n o))) (sym e)
            (event_ties n (fact_of W.ties n) i refl)
        by (inr e) = subst (AreTies n) (sym e.1) (no_ties n (fact_of W.ties n) e.0 refl)

    no_external : (n : Name) (b : Bool) → names_event (kind_of D n) ≡ false → is_among n D.external ≡ b → false ≡ b
    no_external n false e t = refl
    no_external n true e t =
        let f = flat_in (λ (x : HeadedItem). external_in x.item) n xs (among_in n D.external t) in
        let x = f.one in
        let kept = item_at D [] xs x h f.there in
        let item = kept.1 in
        absurd (false≢true (sym e ∙ external_event D kept.0 x.heading x.item n item.class f.has))

    external_again : (n : Name) → (besides n).external ≡ is_among n D.external
    external_again n = by (event_or D V R n (kind_of D n))
      where
        by : IsEventOr (kind_of D n) (besides n) → (besides n).external ≡ is_among n D.external
        by (inl e) = ap (λ (o : Option NameKind). (event_of_kind (class_kind D V R n o)).external) e
        by (inr e) = ap (λ (t : EventTable). t.external) e.1 ∙ no_external n (is_among n D.external) e.0 refl

    class_again : (n : Name) → In n V.classes → IsClassOf p W (class_table D V R n)
    class_again n i = record {
      variable = name_again n V.globals (class_global xs hs h n (declared_class n i));
      kind = kind_again n (kind_of D n) i refl;
      heading =
          let is_it = λ (w : Option Heading). w ≡ Some (named_heading (kind n)) in
          all_from is_it (said_of W.headings n) (heading_is n);
      attributes = attributes_are_written n xs hs;
      ties = ties_again n i;
      external = external_again n;
    }

    -- ---- sets

    discipline_is : (n b : Name) (o : Option SetDiscipline) → fact_of W.disciplines n ≡ o →
        fact_of D.members n ≡ Some b → In b V.classes →
        IsSaid Fifo (some_list o) (named_discipline (attributes b) (resolved_discipline (attribute_names V b) o))
    discipline_is n b None e m i = refl
    discipline_is n b (Some Fifo) e m i = refl
    discipline_is n b (Some Lifo) e m i = refl
    discipline_is n b (Some (Ranked ks)) e m i =
        let items_written = fact n (Ranked ks) in
        let f = flat_in (λ (x : HeadedItem). disciplines_in x.item) items_written xs
        (fact_in W.disciplines n (Ranked ks) e) in
        let x = f.one in
        let kept = item_at D [] xs x h f.there in
        let t = kept.0 in
        let item = kept.1 in
        let right = right_ranks D t x.item n (Ranked ks) item.keys f.has in
        let keys = subst (λ (c : Option Name). has_wrong_key D c (all_of ks) ≡ false) m right in
        ap (λ (zs : List WrittenKey). Ranked (several (record { rank = High; name = [] }) zs))
        (keys_are t b (all_of ks) i keys)

    owner_is : (n : Name) (w : Option Name) → fact_of D.owners n ≡ Some w →
        w ≡ named_owner p (resolved_owner V.classes w)
    owner_is n None e = refl
    owner_is n (Some b) e =
        let owner = owner_class xs hs h [] n b (ap (λ (o : Option (Option Name)). unwrap_or o None) e) in
        ap (λ (m : Name). Some m) (sym (class_name b (class_in xs hs h b owner)))

    owner_again : (n : Name) → In (fact n k.Set) (L xs hs h) →
        said_of D.owners n ≡ named_owner p (resolved_owner V.classes (owner_of D V [] n)) ∷ []
    owner_again n there =
        let w = fact_there D.owners n (sets_have_owners D xs h n (set_of_item xs hs h n there)) in
        let owner : w.0 ≡ owner_of D V [] n = ap (λ (o : Option (Option Name)). unwrap_or o None) (sym w.1) in
        one_owner D xs h n ∙ ap some_list w.1
        ∙ ap (λ (o : Option Name). o ∷ [])
        (owner_is n w.0 w.1 ∙ ap (λ (o : Option Name). named_owner p (resolved_owner V.classes o)) owner)

    set_again : (n : Name) → In n V.sets → IsSetOf p W (set_table D V R n)
    set_again n i =
        let there = set_declared xs hs h n i in
        let m = member_there xs hs h n there in
        let b = member_class D V [] n in
        let e : m.0 ≡ b = ap (λ (o : Option Name). unwrap_or o []) (sym m.1) in
        let j : In b V.classes = class_in xs hs h b (member_is_class xs hs h [] n there) in
        let members = ap (λ (t : ClassTable). t.attributes) (class_at b j) in
        record {
          owner = owner_again n there;
          member =
              one_member D xs h n ∙ ap some_list m.1 ∙ ap (λ (z : Name). z ∷ []) (e ∙ sym (class_name b j));
          discipline = rw (one_discipline D xs h n, members)
              (discipline_is n b (fact_of W.disciplines n) refl (m.1 ∙ ap (λ (z : Name). Some z) e) j);
        }

    -- ---- priority

    prior_class : (n : Name) → In n D.priority → In n V.classes
    prior_class n i =
        let order = priority_kept D xs h in
        let e = not-false (is_event_class D n) (none_in (λ b. not (is_event_class D b)) n D.priority order.events i) in
        class_in xs hs h n (event_class xs hs h R n (kind_of D n) refl e).0

    -- ---- all tables

    items_again : IsOfItems p W
    items_again =
        let classes = same_again (class_table D V R) (λ (t : ClassTable). t.name) V.classes (λ n i. refl) in
        let sets = same_again (set_table D V R) (λ (t : SetTable). t.name) V.sets (λ n i. refl) in
        record {
          variables = ap each_once (globals_are xs hs);
          class_order = classes ∙ ap each_once (class_names_are xs hs);
          classes = All-map (IsClassOf p W) (class_table D V R) V.classes
              (all_from (λ n. IsClassOf p W (class_table D V R n)) V.classes class_again);
          set_order = sets ∙ ap each_once (set_names_are xs hs);
          sets = All-map (IsSetOf p W) (set_table D V R) V.sets
              (all_from (λ n. IsSetOf p W (set_table D V R n)) V.sets set_again);
          priority = same_again (λ n. number n V.classes) (λ c. (class_of p c).name) D.priority
              (λ n i. class_name n (prior_class n i));
        }

-- the rankings of items, with their headings or without
rankings_are : (is : List ItemAt) →
    rankings is ≡ record {
      disciplines = (items_written (headed_items is)).disciplines;
      ties = (items_written (headed_items is)).ties;
    }
rankings_are is =
    two (λ (a : List (Fact SetDiscipline)) (b : List (Fact (List WrittenKey))). record { disciplines = a; ties = b })
    (sym (entries_say disciplines_in None is)) (sym (entries_say ties_in None is))

-- the tables give the items
pub tables_again : TablesGiveTheItems
tables_again decls qs b =
    let xs = headed_items decls.items in
    let d = declared_by_program decls.items qs in
    let k = kept decls qs b in
    subst (λ (r : Rankings). IsOfItems (resolved_with d (names d (heads qs)) r qs) (items_written xs))
    (sym (rankings_are decls.items)) (items_again xs qs k.items)
