-- A program without a breach, each number looked up in its table, is its text again.
use Rattle.std.proofs.Common.{◌≡◌, Bool, true, false, cond, List, [], ◌∷◌, ◌++◌, length, refl, sym, ap, ◌∙◌, arith}
use Rattle.std.proofs.Common.{Option, Some, not, append_assoc}
use Rattle.std.specs.Prelude.{ℕ, map, take, drop, slice_get, option_map, unwrap_or}
use Rattle.std.specs.List.{flat_map, fold}
use mathlib.Core.Logic.{inl, inr}
use Rattle.std.proofs.Math.Seq.{take-append_seam, drop-append_seam}
use Rattle.std.proofs.lemmas.Bool.{or_parts}
use Rattle.std.proofs.lemmas.Option.{slice_get-map}
use Rattle.ss_words.specs.Lists.{Name}
use Rattle.ss_preamble.specs.Tree.{ItemAt}
use Rattle.ss_routines.specs.Simple.{Listing, Unwritten, BehindGiven, InParentheses}
use Rattle.ss_routines.specs.Tree.{Head, MainHead, RoutineHead, EventHead, listing_names}
use Rattle.ss_routines.specs.Places.{Section}
use Rattle.ss_routines.specs.Places as w
use Rattle.ss_program.specs.declared.kinds.ClassKind.TheVariants.{Temporary}
use Rattle.ss_program.specs.declared.kinds.Discipline.TheVariants.{Fifo}
use Rattle.ss_program.specs.declared.kinds.Owner.TheVariants.{System}
use Rattle.ss_program.specs.Program.{ClassTable, SetTable, SectionTable, ProgramTable, class_of, set_of, section_of}
use Rattle.ss_check.specs.NameKind as k
use Rattle.ss_check.specs.Declarations.{Declared}
use Rattle.ss_check.specs.Facts.{is_among, repeats, each_once, fact}
use Rattle.ss_check.specs.NameKinds.{is_attribute_of}
use Rattle.ss_check.specs.Declarations as declared
use Rattle.ss_check.specs.Declarations.{HeadedItem, headed_items, heads, declared_by_program, given_of, yielded_of}
use Rattle.ss_check.specs.Declarations.{parameters, kind_of}
use Rattle.ss_check.specs.ResolvedNames.{Names, names, number, attribute_names, attributes_of, variables_used}
use Rattle.ss_check.specs.PlaceRules.{is_routine}
use Rattle.ss_check.specs.ResolvedNames.{undeclared_name, locals_of, routine_number}
use Rattle.ss_check.specs.Resolved.{Rankings, rankings, class_table, set_table, section_name, section_kind, says_saving}
use Rattle.ss_check.specs.Resolved.{resolved_spot, resolved_section, resolved_with, resolved_listing, head_listing}
use Rattle.ss_check.specs.Resolved.{define_table}
use Rattle.ss_check.specs.NamedTree.{listing_of, owner_kept_name, member_kept_name, name_at, named_define}
use Rattle.ss_check.specs.NamedTree.{named_attribute, named_spot, named_head, named_section, named_sections}
use Rattle.ss_check.specs.NamedTree.{TablesGiveTheText}
use Rattle.ss_check.proofs.SoundLists.{In, same_name, number_there, image_at, where_has}
use Rattle.ss_check.proofs.SoundCompanions.{HasClass, routine_names}
use Rattle.ss_check.proofs.SoundPlaceUses.{good_place}
use Rattle.ss_check.proofs.SoundNumbers.{routine_found, section_at}
use Rattle.ss_check.proofs.SoundNames.{kind_in, closed_kind, global_in, class_in, set_in, attributes_are, is_called}
use Rattle.ss_check.proofs.SoundStatements.{AreItemsKept, AreSectionsKept, ArePlacesKept, kept}
use Rattle.ss_check.proofs.NamedKinds.{all_called, number_finds}
use Rattle.ss_check.proofs.NamedPlaces.{place_is}
use Rattle.ss_check.proofs.NamedUses.{two, three, IsListed}

-- ---- the parameters are the first local variables

abbrev onto : List Name → List Name → List Name
onto table names = fold (λ ns n. cond (is_among n ns) ns (ns ++ n ∷ [])) table names

append_none : (xs : List Name) → xs ++ [] ≡ xs
append_none [] = refl
append_none (x ∷ xs) = ap (λ (ys : List Name). x ∷ ys) (append_none xs)

-- names without a repeat come after the table
onto_apart : (xs table ys : List Name) → repeats table xs ≡ false → onto table (xs ++ ys) ≡ onto (table ++ xs) ys
onto_apart [] table ys h = ap (λ (t : List Name). onto t ys) (sym (append_none table))
onto_apart (x ∷ xs) table ys h =
    let p = or_parts (is_among x table) (repeats (table ++ x ∷ []) xs) h in
    ap (λ (b : Bool). onto (cond b table (table ++ x ∷ [])) (xs ++ ys)) p.0
    ∙ onto_apart xs (table ++ x ∷ []) ys p.1
    ∙ ap (λ (t : List Name). onto t ys) (append_assoc table (x ∷ []) xs)

record IsLonger (xs ys : List Name) : Type 0 where
  more : List Name
  is : ys ≡ xs ++ more

onto_longer : (ys table : List Name) → IsLonger table (onto table ys)
onto_longer [] table = record { more = []; is = sym (append_none table) }
onto_longer (y ∷ ys) table = by (is_among y table) (onto_longer ys table) (onto_longer ys (table ++ y ∷ []))
  where
    by : (b : Bool) → IsLonger table (onto table ys) → IsLonger (table ++ y ∷ []) (onto (table ++ y ∷ []) ys) →
        IsLonger table (onto (cond b table (table ++ y ∷ [])) ys)
    by true q r = q
    by false q r = record { more = y ∷ r.more; is = r.is ∙ append_assoc table (y ∷ []) r.more }

first_names : (xs ys : List Name) → repeats [] xs ≡ false → IsLonger xs (each_once (xs ++ ys))
first_names xs ys h = let q = onto_longer ys xs in record { more = q.more; is = onto_apart xs [] ys h ∙ q.is }

module _ (xs ys names : List Name) (h : IsLonger (xs ++ ys) names) where
  split : names ≡ xs ++ (ys ++ h.more)
  split = h.is ∙ append_assoc xs ys h.more

  first_part : take (length xs) names ≡ xs
  first_part = ap (take (length xs)) split ∙ take-append_seam xs (ys ++ h.more)

  second_part : take (length ys) (drop (length xs) names) ≡ ys
  second_part =
      ap (λ (zs : List Name). take (length ys) (drop (length xs) zs)) split
      ∙ ap (take (length ys)) (drop-append_seam xs (ys ++ h.more)) ∙ take-append_seam ys h.more

given_listed : (ps : Listing Name) → listing_of (resolved_listing ps) (listing_names ps) ≡ ps
given_listed Unwritten = refl
given_listed (BehindGiven ns) = refl
given_listed (InParentheses ns) = refl

head_by : (hd : Head) (names : List Name) → IsLonger (given_of hd ++ yielded_of hd) names →
    named_head (section_kind hd) (section_name hd) (listing_of (head_listing hd) (take (length (given_of hd)) names))
    (take (length (yielded_of hd)) (drop (length (given_of hd)) names)) (says_saving hd) ≡ hd
head_by MainHead names h = refl
head_by (RoutineHead n ps ys) names h =
    two (RoutineHead n)
    (ap (listing_of (resolved_listing ps)) (first_part (listing_names ps) ys names h) ∙ given_listed ps)
    (second_part (listing_names ps) ys names h)
head_by (EventHead n ps saving) names h =
    ap (λ (zs : Listing Name). EventHead n zs saving)
    (ap (listing_of (resolved_listing ps)) (first_part (listing_names ps) [] names h) ∙ given_listed ps)

-- local DEFINEs
defines_are : (xs : List w.LocalNames) → map named_define (map define_table xs) ≡ xs
defines_are [] = refl
defines_are (x ∷ xs) = ap (λ (zs : List w.LocalNames). x ∷ zs) (defines_are xs)

-- the name of a routine
routine_is : (n : Name) (hd : Head) → In n (routine_names hd) → section_name hd ≡ n
routine_is n MainHead i = absurd i
routine_is n (EventHead m ps saving) i = absurd i
routine_is n (RoutineHead m ps ys) (inl e) = sym e
routine_is n (RoutineHead m ps ys) (inr x) = absurd x

-- ---- the program

module _ (is : List ItemAt) (qs : List Section) (h : AreItemsKept (declared_by_program is qs) [] (headed_items is))
    (s : AreSectionsKept (declared_by_program is qs) (headed_items is) [] qs) where
  abbrev xs : List HeadedItem
  xs = headed_items is

  abbrev hs : List Head
  hs = heads qs

  abbrev D : Declared
  D = declared_by_program is qs

  abbrev V : Names
  V = names D hs

  abbrev R : Rankings
  R = rankings is

  abbrev p : ProgramTable
  p = resolved_with D V R qs

  class_at : (c : Name) → HasClass D.kinds c → class_of p (number c V.classes) ≡ class_table D V R c
  class_at c i =
      ap (λ (o : Option ClassTable). unwrap_or o
      (record { name = []; kind = Temporary; variable = 0; attributes = [] }))
      (image_at (class_table D V R) c V.classes (class_in xs hs h c i))

  set_at : (t : Name) → In (fact t k.Set) D.kinds → set_of p (number t V.sets) ≡ set_table D V R t
  set_at t i =
      ap (λ (o : Option SetTable). unwrap_or o (record { name = []; discipline = Fifo; owner = System; member = 0 }))
      (image_at (set_table D V R) t V.sets (set_in xs hs h t i))

  attribute_at : (locals : List Name) (n c : Name) → kind_of D n ≡ Some (k.Attribute c) →
      named_attribute p locals (number c V.classes) (number n (attribute_names V c)) ≡ n
  attribute_at locals n c e =
      let i = closed_kind xs hs h n (k.Attribute c) e in
      let there = where_has (is_attribute_of c) n (k.Attribute c) D.kinds (kind_in xs hs h n (k.Attribute c) e)
      (same_name c) in
      ap (λ (t : ClassTable). name_at t.attributes (number n (attribute_names V c))) (class_at c i)
      ∙ ap (λ (ns : List Name). name_at (attributes_of D c) (number n ns))
      (attributes_are xs hs h R c (class_in xs hs h c i))
      ∙ ap (λ (o : Option Name). unwrap_or o [])
      (number_finds n (attributes_of D c) (number_there n (attributes_of D c) there))

  routine_at : (locals : List Name) (n : Name) → not (is_routine D n) ≡ false →
      (section_of p (routine_number D V locals n)).name ≡ n
  routine_at locals n e =
      let f = routine_found qs 0 n (is_called xs hs h n e) in
      let y = f.section in
      let holds = f.holds in
      let number_is : routine_number D V locals n ≡ f.place =
      ap (λ (o : Option ℕ). unwrap_or o 0) f.number ∙ omega arith in
      let there : slice_get p.sections (routine_number D V locals n) ≡ Some (resolved_section D V y) =
      ap (slice_get p.sections) number_is ∙ slice_get-map (resolved_section D V) qs f.place
      ∙ ap (option_map (resolved_section D V)) f.there in
      ap (λ (o : Option SectionTable). (unwrap_or o
      (section_of (record { globals = []; classes = []; sets = []; priority = []; sections = [] }) 0)).name) there
      ∙ routine_is n y.head holds.names

  listed_names : (locals : List Name) → IsListed D V locals p
  listed_names locals = record {
    global = λ n j e t. ap (λ (o : Option Name). unwrap_or o [])
        (number_finds n V.globals (number_there n V.globals (global_in xs hs h n j (kind_in xs hs h n j e) t)));
    attribute = λ n c e. attribute_at locals n c e;
    owner_kept = λ n a t e.
        ap (λ (z : SetTable). owner_kept_name a z.name)
        (set_at t (closed_kind xs hs h n (k.OwnerKept a t) e))
        ∙ sym (all_called xs hs (fact n (k.OwnerKept a t)) (kind_in xs hs h n (k.OwnerKept a t) e));
    member_kept = λ n a t e.
        ap (λ (z : SetTable). member_kept_name a z.name)
        (set_at t (closed_kind xs hs h n (k.MemberKept a t) e))
        ∙ sym (all_called xs hs (fact n (k.MemberKept a t)) (kind_in xs hs h n (k.MemberKept a t) e));
    set = λ n e. ap (λ (z : SetTable). z.name) (set_at n (kind_in xs hs h n k.Set e));
    class = λ n g e. ap (λ (z : ClassTable). z.name) (class_at n (g, kind_in xs hs h n (k.Class g) e));
    function = λ n f e. sym (all_called xs hs (fact n (k.Function f)) (kind_in xs hs h n (k.Function f) e));
    clock = λ n e. sym (all_called xs hs (fact n k.Clock) (kind_in xs hs h n k.Clock e));
    routine = λ n e. routine_at locals n e;
  }

  -- ---- sections

  module _ (q : Section) where
    abbrev locals : List Name
    locals = locals_of D q

    spots_are : (ys : List w.Spot) → ((x : w.Spot) → In x ys → In x q.places) →
        ArePlacesKept D (declared.is_main q.head) ys →
        map (named_spot p locals) (map (resolved_spot D V locals) ys) ≡ ys
    spots_are [] i k = refl
    spots_are (x ∷ ys) i k =
        let good = good_place D q x (declared.is_main q.head) (i x (inl refl)) k.0 in
        two (λ (z : w.Place) (zs : List w.Spot). (record { line = x.line; place = z }) ∷ zs)
        (place_is D V locals p (listed_names locals) x.place good) (spots_are ys (λ y m. i y (inr m)) k.1)

    section_is : In q qs → named_section p (resolved_section D V q) ≡ q
    section_is i =
        let kept = section_at D xs [] qs q s i in
        let head = kept.1 in
        three
        (λ (z : Head) (ds : List w.LocalNames) (zs : List w.Spot).
        record { line = q.line; head = z; locals = ds; places = zs })
        (head_by q.head locals
        (first_names (parameters q.head) (flat_map (undeclared_name D) (variables_used q)) head.apart))
        (defines_are q.locals) (spots_are q.places (λ x m. m) kept.2)

  sections_are : (ss : List Section) → ((q : Section) → In q ss → In q qs) →
      map (named_section p) (map (resolved_section D V) ss) ≡ ss
  sections_are [] i = refl
  sections_are (q ∷ ss) i =
      two (λ (z : w.Section) (zs : List w.Section). z ∷ zs) (section_is q (i q (inl refl)))
      (sections_are ss (λ y m. i y (inr m)))

  pub program_is : named_sections p ≡ qs
  program_is = sections_are qs (λ q i. i)

-- the tables give the text
pub text_again : TablesGiveTheText
text_again decls qs b = let k = kept decls qs b in program_is decls.items qs k.items k.sections
