-- The sections of a program without a breach are sound, and their places go on at a place of the
-- program.
use Rattle.std.proofs.Common.{◌≡◌, ◌≤◌, ◌<◌, ℕ, ◌+◌, ◌^◌, ◌==◌, Bool, true, false, not, ◌||◌, ◌&&◌, cond, List, [], ◌∷◌}
use Rattle.std.proofs.Common.{◌++◌, length, refl, sym, ap, ◌∙◌, subst, arith, Option, Some, length-append}
use Rattle.std.specs.Prelude.{map, count_by, unwrap_or, option_map, slice_get, nat_lt}
use Rattle.std.specs.List.{All, flat_map, list_any}
use mathlib.Core.Logic.{inl, inr}
use Rattle.std.proofs.lemmas.Bool.{true≢false, false≢true, or_parts, not-false, ltb-false, eqb-true}
use Rattle.std.proofs.lemmas.List.{length-map}
use Rattle.std.proofs.lemmas.List.Elements.{All-head, All-tail}
use Rattle.std.proofs.lemmas.List.Sums.{sum_by-cons}
use Rattle.std.proofs.lemmas.Option.{slice_get-map}
use Rattle.ss_words.specs.Lists.{Name, all_of}
use Rattle.ss_preamble.specs.Tree.{ItemAt}
use Rattle.ss_preamble.specs.Limits.{IsWithin}
use Rattle.ss_routines.specs.declared.tree.simple.Article.{Article}
use Rattle.ss_routines.specs.Condition.{Reference}
use Rattle.ss_routines.specs.Simple.{Details, ValuesFirst, CalledFirst, Call, Return, Stop, Schedule, Cancel}
use Rattle.ss_routines.specs.Simple.{StartSimulation, Read, Print, Skip, Simple, Assigns, Makes, Files, Transfers}
use Rattle.ss_routines.specs.Simple.{Times, Exchanges}
use Rattle.ss_routines.specs.Simple as written
use Rattle.ss_routines.specs.Tree.{Head, MainHead, RoutineHead, EventHead, listing_names, parameters_head}
use Rattle.ss_routines.specs.Places.{Section}
use Rattle.ss_routines.specs.Places as w
use Rattle.ss_program.specs.declared.branch.Branch.TheVariants.{If}
use Rattle.ss_program.specs.declared.looping.Looping.TheVariants.{For, Find}
use Rattle.ss_program.specs.declared.call.Call.{Call as ACall}
use Rattle.ss_program.specs.declared.place.Place.{Place}
use Rattle.ss_program.specs.declared.place.Place.TheVariants as place
use Rattle.ss_program.specs.declared.place.Spot.{Spot}
use Rattle.ss_program.specs.declared.ways.Ways.{Ways}
use Rattle.ss_program.specs.Match.{ways_of}
use Rattle.ss_program.specs.Nesting.{AreNestedPlaces}
use Rattle.ss_program.specs.Program.{ClassTable, SectionTable, ProgramTable, is_main, is_event}
use Rattle.ss_program.specs.ProgramSound.{AreSoundPlaces, IsCalledBy, LeadsOn, AreLinkedPlaces, AreLinkedSections}
use Rattle.ss_program.specs.ProgramSound.{IsEventClass, IsTimed, AreTimed, scope_of, IsSoundSection, AreSoundSections}
use Rattle.ss_check.specs.ClassNeed.{Event}
use Rattle.ss_check.specs.Declarations.{Counts}
use Rattle.ss_check.specs.Declarations.{Declared}
use Rattle.ss_check.specs.Facts.{fact_of}
use Rattle.ss_check.specs.NameKinds.{names_event}
use Rattle.ss_check.specs.Declarations as declared
use Rattle.ss_check.specs.Declarations.{HeadedItem, headed_items, heads, given_of, yielded_of, parameters, kind_of}
use Rattle.ss_check.specs.Declarations.{declared_by_program, attribute_count}
use Rattle.ss_check.specs.PlaceRules.{is_routine}
use Rattle.ss_check.specs.PlaceRules.{is_wrong_class, is_wrong_count, has_other_counts, is_wrong_call}
use Rattle.ss_check.specs.Uses.{Use, Notice, OfClass, values_of, uses_details, uses_when, uses_called_value}
use Rattle.ss_check.specs.ResolvedNames.{Names, names, number, variables_used, undeclared_name}
use Rattle.ss_check.specs.ResolvedNames.{locals_of}
use Rattle.ss_check.specs.Resolved.{Rankings, rankings, resolved_expr, resolved_target, resolved_place, resolved_spot}
use Rattle.ss_check.specs.Resolved.{resolved_section, resolved_with, resolved_listing}
use Rattle.ss_check.proofs.SoundLists.{In, in_left, once_has, once_apart, as_many_at_least, apart_from}
use Rattle.ss_check.proofs.SoundStatements.{AreItemsKept, AreSectionsKept, IsPlaceKept, ArePlacesKept}
use Rattle.ss_check.proofs.SoundPlaceUses.{good_place}
use Rattle.ss_check.proofs.SoundPlaces.{sound_place}
use Rattle.ss_check.proofs.SoundNames.{class_in, event_class, is_called, scoped}
use Rattle.ss_check.proofs.SoundLimits.{attributes_counted}
use Rattle.ss_check.proofs.SoundNumbers.{routine_found, section_at}
use Rattle.ss_check.proofs.SoundTables.{class_is, class_place}
use Rattle.ss_check.proofs.SoundSteps.{AreSteps, Exits}
use Rattle.ss_check.proofs.SoundTrees.{IsOfTree, tree_steps, tree_ended}

-- ---- the next places of places

-- a CALL is one of a routine
abbrev IsCalled : List SectionTable → Place → Type 0
IsCalled ss (place.Call c) = IsCalledBy c (slice_get ss c.section)
IsCalled ss _ = Unit {0}

abbrev AreCalled : List SectionTable → List Spot → Type 0
AreCalled ss [] = Unit {0}
AreCalled ss (x ∷ xs) = IsCalled ss x.place × AreCalled ss xs

leads : (ss : List SectionTable) (count : ℕ) (a : Ways) (x : Place) → Exits count a x → IsCalled ss x →
    LeadsOn ss count a x
leads ss count a (place.Branch (If q)) e c = e
leads ss count a (place.Looping (For f)) e c = e
leads ss count a (place.Looping Find) e c = e
leads ss count a (place.Call x) e c = c
leads ss count a x e c = tt

linked : (ss : List SectionTable) (ps : List Spot) (i : ℕ) (xs : List Spot) → AreSteps ps i xs → AreCalled ss xs →
    AreLinkedPlaces ss ps i xs
linked ss ps i [] s c = tt
linked ss ps i (x ∷ xs) s c =
    let one = s.0 in (
      record { next = one.next; leads = leads ss (length ps) (ways_of ps i x.place) x.place one.exits c.0 },
      linked ss ps (i + 1) xs s.1 c.1,
    )

nested : (ps : List Spot) (i : ℕ) (xs : List Spot) → AreSteps ps i xs → AreNestedPlaces ps i xs
nested ps i [] s = tt
nested ps i (x ∷ xs) s = let one = s.0 in (one.nested, nested ps (i + 1) xs s.1)

-- ---- heads

given_and_yielded : (h : Head) → length (given_of h) + length (yielded_of h) ≡ parameters_head h
given_and_yielded MainHead = refl
given_and_yielded (RoutineHead n given yielded) = refl
given_and_yielded (EventHead n given saving) = omega arith

main_is : (d : Declared) (v : Names) (q : Section) → is_main (resolved_section d v q) ≡ declared.is_main q.head
main_is d v q = by q.head
  where
    by : (h : Head) →
        Rattle.ss_program.specs.Program.is_main_kind (Rattle.ss_check.specs.Resolved.section_kind h)
        ≡ declared.is_main h
    by MainHead = refl
    by (RoutineHead n given yielded) = refl
    by (EventHead n given saving) = refl

-- ---- one MAIN

one_more : (h m : Bool) (k : ℕ) → (m && h) ≡ false → k + cond (h || (m || false)) 1 0 ≡ 1 →
    (cond m 1 0 + k) + cond h 1 0 ≡ 1
one_more true true k b e = absurd (true≢false b)
one_more true false k b e = omega (arith, e)
one_more false true k b e = omega (arith, e)
one_more false false k b e = omega (arith, e)

or_same : (a b c : Bool) → (a || (b || c)) ≡ true → ((a || (b || false)) || c) ≡ true
or_same true b c h = refl
or_same false true c h = refl
or_same false false true h = refl
or_same false false false h = absurd (false≢true h)

mains : (d : Declared) (v : Names) (xs : List HeadedItem) (before : List Head) (ss : List Section) →
    AreSectionsKept d xs before ss →
    (list_any declared.is_main before || list_any (λ s. declared.is_main s.head) ss) ≡ true →
    count_by is_main (map (resolved_section d v) ss) + cond (list_any declared.is_main before) 1 0 ≡ 1
mains d v xs before [] k h = by (list_any declared.is_main before) h
  where
    by : (b : Bool) → (b || false) ≡ true → count_by is_main (map (resolved_section d v) []) + cond b 1 0 ≡ 1
    by true h = omega arith
    by false h = absurd (false≢true h)
mains d v xs before (s ∷ ss) k h =
    let head = k.0 in
    let more : list_any declared.is_main (before ++ s.head ∷ [])
    ≡ (list_any declared.is_main before || (declared.is_main s.head || false)) =
    Rattle.std.proofs.lemmas.List.Folds.list_any-append declared.is_main before (s.head ∷ []) in
    let rest = mains d v xs (before ++ s.head ∷ []) ss k.2
    (ap (λ (b : Bool). b || list_any (λ (z : Section). declared.is_main z.head) ss) more
    ∙ or_same (list_any declared.is_main before) (declared.is_main s.head)
    (list_any (λ (z : Section). declared.is_main z.head) ss) h) in
    let rest' : count_by is_main (map (resolved_section d v) ss) + cond
    (list_any declared.is_main before || (declared.is_main s.head || false)) 1 0 ≡ 1 =
    subst (λ (b : Bool). count_by is_main (map (resolved_section d v) ss) + cond b 1 0 ≡ 1) more rest in
    rw (
      sum_by-cons (λ (t : SectionTable). cond (is_main t) 1 0) (resolved_section d v s)
          (map (resolved_section d v) ss),
      main_is d v s,
    )
    (one_more (list_any declared.is_main before) (declared.is_main s.head)
    (count_by is_main (map (resolved_section d v) ss)) head.main rest')

pub one_main : (d : Declared) (v : Names) (xs : List HeadedItem) (ss : List Section) → AreSectionsKept d xs [] ss →
    not (list_any (λ s. declared.is_main s.head) ss) ≡ false → count_by is_main (map (resolved_section d v) ss) ≡ 1
one_main d v xs ss k h =
    let e = mains d v xs [] ss k (not-false (list_any (λ s. declared.is_main s.head) ss) h) in omega (arith, e)

-- ---- the program

module _ (is : List ItemAt) (qs : List Section) (h : AreItemsKept (declared_by_program is qs) [] (headed_items is))
    (within : IsWithin (map (λ i. i.item) is))
    (s : AreSectionsKept (declared_by_program is qs) (headed_items is) [] qs) where
  abbrev xs : List HeadedItem
  xs = headed_items is

  abbrev hs : List Head
  hs = heads qs

  abbrev D : Declared
  D = declared_by_program is qs

  abbrev V : Names
  V = names D hs

  abbrev R : Rankings
  R = rankings is

  abbrev p : ProgramTable
  p = resolved_with D V R qs

  -- ---- places

  -- a law of each place of a section
  module _ (q : Section) where
    abbrev T : SectionTable
    T = resolved_section D V q

    abbrev locals : List Name
    locals = locals_of D q

    sound_spots : (ys : List w.Spot) → ((x : w.Spot) → In x ys → In x q.places) →
        ArePlacesKept D (declared.is_main q.head) ys →
        AreSoundPlaces (scope_of p T) (map (resolved_spot D V locals) ys)
    sound_spots [] i k = tt
    sound_spots (x ∷ ys) i k =
        let kept = k.0 in
        let good = good_place D q x (declared.is_main q.head) (i x (inl refl)) kept in (
          sound_place D V locals (scope_of p T) (scoped xs hs h R locals) x.place good kept.picture,
          sound_spots ys (λ y m. i y (inr m)) k.1,
        )

    -- an event class that a notice is of
    event_named : (n : Name) → names_event (kind_of D n) ≡ true → (m : ℕ) →
        m ≤ length (Rattle.ss_check.specs.ResolvedNames.attributes_of D n) →
        IsEventClass p (number n V.classes) m
    event_named n e m l =
        let c = event_class xs hs h R n (kind_of D n) refl e in
        let i = class_in xs hs h n c.0 in
        let same = class_is is qs h within s n i in
        record {
          class = class_place is qs h within s n i;
          event = ap (λ (z : ClassTable). is_event z.kind) same ∙ c.1;
          attributes = rw same l;
        }

    is_of_event : (n : Name) (us : List Use) → list_any (is_wrong_class D) (OfClass Event n ∷ us) ≡ false →
        names_event (kind_of D n) ≡ true
    is_of_event n us e =
        not-false (names_event (kind_of D n))
        (or_parts (not (names_event (kind_of D n))) (list_any (is_wrong_class D) us) e).0

    few_values : (n : Name) (m : ℕ) (us : List Use) →
        list_any (is_wrong_count D) (OfClass Event n ∷ Notice n m ∷ us) ≡ false →
        m ≤ length (Rattle.ss_check.specs.ResolvedNames.attributes_of D n)
    few_values n m us e =
        let a = (or_parts (nat_lt (attribute_count D n) m) (list_any (is_wrong_count D) us) e).0 in
        let b = ltb-false (attribute_count D n) m a in
        let c = attributes_counted n xs hs in omega (arith, b, c)

    timed_schedule : (a : Article) (n : Name) (x : Details) (t : written.When) →
        IsPlaceKept D (declared.is_main q.head) (w.Simply (Times (Schedule a n x t))) →
        IsTimed p T (resolved_place D V locals (w.Simply (Times (Schedule a n x t))))
    timed_schedule a n (ValuesFirst es r) t k =
        let m = length-map (all_of es) (resolved_expr D V locals) in
        let us = uses_details a (ValuesFirst es r) ++ uses_when t in
        let f = few_values n (length (all_of es)) us k.count in
        event_named n (is_of_event n (Notice n (length (values_of (ValuesFirst es r))) ∷ us) k.class)
        (length (map (resolved_expr D V locals) (all_of es))) (omega (arith, m, f))
    timed_schedule a n (CalledFirst r es) t k =
        let m = length-map es (resolved_expr D V locals) in
        let us = uses_details a (CalledFirst r es) ++ uses_when t in
        let f = few_values n (length es) us k.count in
        event_named n (is_of_event n (Notice n (length (values_of (CalledFirst r es))) ∷ us) k.class)
        (length (map (resolved_expr D V locals) es)) (omega (arith, m, f))

    timed_simple : (x : Simple) → IsPlaceKept D (declared.is_main q.head) (w.Simply x) →
        IsTimed p T (resolved_place D V locals (w.Simply x))
    timed_simple (Assigns a) k = tt
    timed_simple (Makes a) k = tt
    timed_simple (Files a) k = tt
    timed_simple (Transfers (Call n es rs)) k = tt
    timed_simple (Transfers Return) k = tt
    timed_simple (Transfers Stop) k = tt
    timed_simple (Times (Schedule a n x t)) k = timed_schedule a n x t k
    timed_simple (Times (Cancel n r)) k = event_named n (is_of_event n (uses_called_value r) k.class) 0 (omega arith)
    timed_simple (Times StartSimulation) k = main_is D V q ∙ not-false (declared.is_main q.head) k.start
    timed_simple (Exchanges (Read rs)) k = tt
    timed_simple (Exchanges (Print n es ls)) k = tt
    timed_simple (Exchanges (Skip e)) k = tt

    timed_place : (x : w.Place) → IsPlaceKept D (declared.is_main q.head) x → IsTimed p T (resolved_place D V locals x)
    timed_place (w.Simply x) k = timed_simple x k
    timed_place (w.Branches b) k = tt
    timed_place (w.Loops b) k = tt
    timed_place w.EndOfSection k = tt

    timed_places : (ys : List w.Spot) → ArePlacesKept D (declared.is_main q.head) ys →
        AreTimed p T (map (resolved_spot D V locals) ys)
    timed_places [] k = tt
    timed_places (x ∷ ys) k = (timed_place x.place k.0, timed_places ys k.1)

    -- ---- CALL

    right_counts : (a b : ℕ) (c : Counts) → has_other_counts a b c ≡ false → (a ≡ c.given) × (b ≡ c.yielded)
    right_counts a b c e = by (c.given == a) (c.yielded == b) (eqb-true c.given a) (eqb-true c.yielded b) e
      where
        by : (x y : Bool) → (x ≡ true → c.given ≡ a) → (y ≡ true → c.yielded ≡ b) → not (x && y) ≡ false →
            (a ≡ c.given) × (b ≡ c.yielded)
        by true true f g e = (sym (f refl), sym (g refl))
        by true false f g e = absurd (true≢false e)
        by false y f g e = absurd (true≢false e)

    called_by : (c : ACall) (t : SectionTable) (o : Option SectionTable) → o ≡ Some t →
        (Rattle.ss_program.specs.Program.is_routine t ≡ true) × (length c.given ≡ t.given)
        × (length c.targets ≡ t.yielded) → IsCalledBy c o
    called_by c t o e x = rw e x

    called_routine : (n : Name) (es : written.Listing Rattle.ss_routines.specs.Expr.Expr) (rs : List Reference) →
        IsPlaceKept D (declared.is_main q.head) (w.Simply (Transfers (Call n es rs))) →
        IsCalled p.sections (resolved_place D V locals (w.Simply (Transfers (Call n es rs))))
    called_routine n es rs kept =
        let named = is_called xs hs h n (or_parts (not (is_routine D n)) _ kept.usage).0 in
        let f = routine_found qs 0 n named in
        let y = f.section in
        let holds = f.holds in
        let counts =
        (or_parts (is_wrong_call (length (listing_names es)) (length rs) (fact_of D.routines n)) _ kept.count).0 in
        let same : has_other_counts (length (listing_names es)) (length rs) (declared.counts_of y.head) ≡ false =
        ap (is_wrong_call (length (listing_names es)) (length rs)) (sym holds.says) ∙ counts in
        let right = right_counts (length (listing_names es)) (length rs) (declared.counts_of y.head) same in
        let number_is : Rattle.ss_check.specs.ResolvedNames.routine_number D V locals n ≡ f.place =
        ap (λ (o : Option ℕ). unwrap_or o 0) f.number ∙ omega arith in
        let there : slice_get p.sections (Rattle.ss_check.specs.ResolvedNames.routine_number D V locals n)
        ≡ Some (resolved_section D V y) =
        ap (slice_get p.sections) number_is ∙ slice_get-map (resolved_section D V) qs f.place
        ∙ ap (option_map (resolved_section D V)) f.there in
        called_by
        (record {
          section = Rattle.ss_check.specs.ResolvedNames.routine_number D V locals n;
          given = map (resolved_expr D V locals) (listing_names es);
          targets = map (resolved_target D V locals) rs;
          listing = resolved_listing es;
        })
        (resolved_section D V y)
        (slice_get p.sections (Rattle.ss_check.specs.ResolvedNames.routine_number D V locals n)) there (
          holds.kind,
          length-map (listing_names es) (resolved_expr D V locals)
              ∙ right.0,
          length-map rs (resolved_target D V locals) ∙ right.1,
        )

    called_simple : (x : Simple) → IsPlaceKept D (declared.is_main q.head) (w.Simply x) →
        IsCalled p.sections (resolved_place D V locals (w.Simply x))
    called_simple (Assigns a) k = tt
    called_simple (Makes a) k = tt
    called_simple (Files a) k = tt
    called_simple (Transfers (Call n es rs)) k = called_routine n es rs k
    called_simple (Transfers Return) k = tt
    called_simple (Transfers Stop) k = tt
    called_simple (Times t) k = tt
    called_simple (Exchanges (Read rs)) k = tt
    called_simple (Exchanges (Print n es ls)) k = tt
    called_simple (Exchanges (Skip e)) k = tt

    called_place : (x : w.Place) → IsPlaceKept D (declared.is_main q.head) x →
        IsCalled p.sections (resolved_place D V locals x)
    called_place (w.Simply x) k = called_simple x k
    called_place (w.Branches b) k = tt
    called_place (w.Loops b) k = tt
    called_place w.EndOfSection k = tt

    called_places : (ys : List w.Spot) → ArePlacesKept D (declared.is_main q.head) ys →
        AreCalled p.sections (map (resolved_spot D V locals) ys)
    called_places [] k = tt
    called_places (x ∷ ys) k = (called_place x.place k.0, called_places ys k.1)

    -- ---- a section

    pub sound_section : In q qs → IsOfTree q → length q.places < 2 ^ 63 → IsSoundSection p T
    sound_section i tree few =
        let kept = section_at D xs [] qs q s i in
        let head = kept.1 in
        let params = given_and_yielded q.head in
        let both = length-append (given_of q.head) (yielded_of q.head) in
        let limit = tree.few_parameters in
        let enough = as_many_at_least (parameters q.head) locals (apart_from (parameters q.head) head.apart)
        (λ n j. once_has n (parameters q.head ++ flat_map (undeclared_name D) (variables_used q))
        (in_left n (parameters q.head) (flat_map (undeclared_name D) (variables_used q)) j)) in
        record {
          distinct = once_apart (parameters q.head ++ flat_map (undeclared_name D) (variables_used q));
          parameters = omega (arith, both, enough);
          few_parameters = omega (arith, params, limit);
          places = sound_spots q.places (λ x m. m) kept.2;
          ended = tree_ended D V locals q tree;
          nested = nested T.places 0 T.places (tree_steps D V locals q tree);
          timed = timed_places q.places kept.2;
          few = rw (length-map q.places (resolved_spot D V locals)) few;
        }

    pub linked_section : In q qs → IsOfTree q → AreLinkedPlaces p.sections T.places 0 T.places
    linked_section i tree =
        let kept = section_at D xs [] qs q s i in
        linked p.sections T.places 0 T.places (tree_steps D V locals q tree) (called_places q.places kept.2)

  -- ---- all sections

  pub sound_sections : (ss : List Section) → ((q : Section) → In q ss → In q qs) →
      ((q : Section) → In q ss → IsOfTree q) →
      All (λ q. length q.places < 2 ^ 63) ss → AreSoundSections p (map (resolved_section D V) ss)
  sound_sections [] i t f = tt
  sound_sections (q ∷ ss) i t f = (
    sound_section q (i q (inl refl)) (t q (inl refl)) (All-head (λ (z : Section). length z.places < 2 ^ 63) q ss f),
    sound_sections ss (λ y m. i y (inr m)) (λ y m. t y (inr m))
        (All-tail (λ (z : Section). length z.places < 2 ^ 63) q ss f),
  )

  pub linked_sections : (ss : List Section) → ((q : Section) → In q ss → In q qs) →
      ((q : Section) → In q ss → IsOfTree q) →
      AreLinkedSections p.sections (map (resolved_section D V) ss)
  linked_sections [] i t = tt
  linked_sections (q ∷ ss) i t =
      (linked_section q (i q (inl refl)) (t q (inl refl)), linked_sections ss (λ y m. i y (inr m)) (λ y m. t y (inr m)))
