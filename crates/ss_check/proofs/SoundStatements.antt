-- The rules that each statement of a program without a breach keeps.
use Rattle.std.proofs.Common.{◌≡◌, ℕ, Bool, true, false, not, ◌||◌, ◌&&◌, List, [], ◌∷◌, ◌++◌, refl, sym, ◌∙◌, Option}
use Rattle.std.proofs.Common.{Some, None}
use Rattle.std.specs.Prelude.{map, option_map}
use Rattle.std.specs.List.{list_any}
use Rattle.std.specs.Option.{option_or}
use Rattle.std.proofs.lemmas.Bool.{or_parts}
use Rattle.std.proofs.lemmas.List.Folds.{list_any-append}
use Rattle.ss_preamble.specs.Tree.{Decls}
use Rattle.ss_routines.specs.Tree.{Head}
use Rattle.ss_routines.specs.Places as w
use Rattle.ss_check.specs.declared.fault.CheckRule.{CheckRule}
use Rattle.ss_check.specs.declared.fault.CheckRule.TheVariants.{DeclaredTwice, WrongClass, WrongUse, WrongOwner}
use Rattle.ss_check.specs.declared.fault.CheckRule.TheVariants.{WrongMember, WrongKey, WrongCount, WrongEvent}
use Rattle.ss_check.specs.declared.fault.CheckRule.TheVariants.{FixedTarget, WrongPicture, WrongMain, WrongPriority}
use Rattle.ss_check.specs.declared.fault.CheckRule.TheVariants.{StartOutsideMain, WithoutFind}
use Rattle.ss_check.specs.Declarations.{Declared}
use Rattle.ss_check.specs.Facts.{repeats, names_of, is_one_outside}
use Rattle.ss_check.specs.NameKinds.{one_conflicts}
use Rattle.ss_check.specs.Declarations.{HeadedItem, headed_items, declarations, owners_in, members_in, sets_joined}
use Rattle.ss_check.specs.Declarations.{class_of_item, external_in, priority_in, tied_events, disciplined_sets, is_main}
use Rattle.ss_check.specs.Declarations.{declared_by, declared_by_program, parameters, routine_facts, events_in}
use Rattle.ss_check.specs.Declarations.{is_declared}
use Rattle.ss_check.specs.Statements.{Statement, rule_where, lowest, breach_of, first_breach}
use Rattle.ss_check.specs.ItemRules.{joins_system, declares_twice, names_wrong_class, new_sets, has_wrong_owner}
use Rattle.ss_check.specs.ItemRules.{has_wrong_member, has_wrong_keys, lacks_section, has_wrong_priority}
use Rattle.ss_check.specs.ItemRules.{item_statement, head_declares_twice, has_too_many, lacks_class, is_second_main}
use Rattle.ss_check.specs.ItemRules.{head_statement, local_statement}
use Rattle.ss_check.specs.PlaceRules.{is_wrong_class, is_misused, is_wrong_count, is_fixed, has_wrong_picture, is_start}
use Rattle.ss_check.specs.PlaceRules.{asks_find, is_find, uses_from, use_breaks, place_statement, place_statements}
use Rattle.ss_check.specs.Breach.{item_statements, section_statements, sections_statements, end_statement, statements}
use Rattle.ss_check.specs.Breach.{breach}
use Rattle.ss_check.specs.Uses.{Use, uses}

-- ---- statements that break nothing

abbrev pub AreUnbroken : List Statement → Type 0
AreUnbroken [] = Unit {0}
AreUnbroken (s ∷ ss) = (s.breaks ≡ []) × AreUnbroken ss

none_broken : (l : ℕ) (rs : List CheckRule) → option_map {U = CheckRule × ℕ} (λ r. (r, l)) (lowest rs) ≡ None → rs ≡ []
none_broken l [] h = refl
none_broken l (r ∷ rs) h = cc

both_none : (o p : Option (CheckRule × ℕ)) → option_or o p ≡ None → (o ≡ None) × (p ≡ None)
both_none None p h = (refl, h)
both_none (Some x) p h = cc

pub unbroken : (ss : List Statement) → first_breach ss ≡ None → AreUnbroken ss
unbroken [] h = tt
unbroken (s ∷ ss) h =
    let p = both_none (breach_of s) (first_breach ss) h in (none_broken s.line s.breaks p.0, unbroken ss p.1)

pub unbroken_parts : (xs ys : List Statement) → AreUnbroken (xs ++ ys) → AreUnbroken xs × AreUnbroken ys
unbroken_parts [] ys h = (tt, h)
unbroken_parts (x ∷ xs) ys h = let p = unbroken_parts xs ys h.1 in ((h.0, p.0), p.1)

no_rules : (xs ys : List CheckRule) → xs ++ ys ≡ [] → (xs ≡ []) × (ys ≡ [])
no_rules [] ys h = (refl, h)
no_rules (x ∷ xs) ys h = cc

not_broken : (r : CheckRule) (b : Bool) → rule_where r b ≡ [] → b ≡ false
not_broken r true h = cc
not_broken r false h = refl

-- ---- items

pub record IsItemKept (d b : Declared) (x : HeadedItem) : Type 0 where
  pub once : one_conflicts b.kinds (declarations x) ≡ false
  pub disciplines : repeats b.disciplines (disciplined_sets x.item) ≡ false
  pub ties : repeats b.ties (tied_events x.item) ≡ false
  pub class : names_wrong_class d x.heading x.item ≡ false
  pub owner : is_one_outside (names_of d.owners) (new_sets d b x.item) ≡ false
  pub owners : repeats (names_of b.owners) (names_of (owners_in x.item)) ≡ false
  pub member : is_one_outside (names_of d.members) (new_sets d b x.item) ≡ false
  pub members : repeats (names_of b.members) (names_of (members_in x.item)) ≡ false
  pub keys : has_wrong_keys d x.item ≡ false
  pub event : lacks_section d b x.item ≡ false
  pub priority : has_wrong_priority d b.priority (priority_in x.item) ≡ false

item_kept : (d b : Declared) (x : HeadedItem) → (item_statement d b x).breaks ≡ [] → IsItemKept d b x
item_kept d b x h =
    let r1 = rule_where DeclaredTwice (declares_twice d b x) in
    let r2 = rule_where WrongClass (names_wrong_class d x.heading x.item) in
    let r3 = rule_where WrongOwner (has_wrong_owner d b x) in
    let r4 = rule_where WrongMember (has_wrong_member d b x) in
    let r5 = rule_where WrongKey (has_wrong_keys d x.item) in
    let r6 = rule_where WrongEvent (lacks_section d b x.item) in
    let r7 = rule_where WrongPriority (has_wrong_priority d b.priority (priority_in x.item)) in
    let p7 = no_rules (r1 ++ r2 ++ r3 ++ r4 ++ r5 ++ r6) r7 h in
    let p6 = no_rules (r1 ++ r2 ++ r3 ++ r4 ++ r5) r6 p7.0 in
    let p5 = no_rules (r1 ++ r2 ++ r3 ++ r4) r5 p6.0 in
    let p4 = no_rules (r1 ++ r2 ++ r3) r4 p5.0 in
    let p3 = no_rules (r1 ++ r2) r3 p4.0 in
    let p2 = no_rules r1 r2 p3.0 in
    let once = first_of_four (one_conflicts b.kinds (declarations x)) (repeats b.disciplines (disciplined_sets x.item))
    (repeats b.ties (tied_events x.item)) (repeats b.external (external_in x.item))
    (not_broken DeclaredTwice (declares_twice d b x) p2.0) in
    let owner = or_parts (is_one_outside (names_of d.owners) (new_sets d b x.item))
    (repeats (names_of b.owners) (names_of (owners_in x.item))) (not_broken WrongOwner (has_wrong_owner d b x) p3.1) in
    let member = first_of_three (is_one_outside (names_of d.members) (new_sets d b x.item))
    (repeats (names_of b.members) (names_of (members_in x.item)))
    (joins_system (class_of_item x.item) (sets_joined x.item))
    (not_broken WrongMember (has_wrong_member d b x) p4.1) in
    record {
      once = once.0;
      disciplines = once.1;
      ties = once.2;
      class = not_broken WrongClass (names_wrong_class d x.heading x.item) p2.1;
      owner = owner.0;
      owners = owner.1;
      member = member.0;
      members = member.1;
      keys = not_broken WrongKey (has_wrong_keys d x.item) p5.1;
      event = not_broken WrongEvent (lacks_section d b x.item) p6.1;
      priority = not_broken WrongPriority (has_wrong_priority d b.priority (priority_in x.item)) p7.1;
    }
  where
    first_of_four : (a b c e : Bool) → (a || b || c || e) ≡ false → (a ≡ false) × (b ≡ false) × (c ≡ false)
    first_of_four true b c e h = cc
    first_of_four false true c e h = cc
    first_of_four false false true e h = cc
    first_of_four false false false e h = (refl, refl, refl)

    first_of_three : (a b c : Bool) → (a || b || c) ≡ false → (a ≡ false) × (b ≡ false)
    first_of_three true b c h = cc
    first_of_three false true c h = cc
    first_of_three false false c h = (refl, refl)

-- items after others
abbrev pub AreItemsKept : Declared → List HeadedItem → List HeadedItem → Type 0
AreItemsKept d before [] = Unit {0}
AreItemsKept d before (x ∷ xs) = IsItemKept d (declared_by before []) x × AreItemsKept d (before ++ x ∷ []) xs

items_kept : (d : Declared) (before xs : List HeadedItem) → AreUnbroken (item_statements d before xs) →
    AreItemsKept d before xs
items_kept d before [] h = tt
items_kept d before (x ∷ xs) h = (item_kept d (declared_by before []) x h.0, items_kept d (before ++ x ∷ []) xs h.1)

-- ---- places

pub record IsPlaceKept (d : Declared) (in_main : Bool) (p : w.Place) : Type 0 where
  pub class : list_any (is_wrong_class d) (uses p) ≡ false
  pub usage : list_any (is_misused d) (uses p) ≡ false
  pub count : list_any (is_wrong_count d) (uses p) ≡ false
  pub fixed : list_any (is_fixed d) (uses p) ≡ false
  pub picture : has_wrong_picture p ≡ false
  pub start : (is_start p && not in_main) ≡ false

-- a place's own uses are among those of its statement
own_uses : (test : Use → Bool) (p : w.Place) (ps : List w.Spot) → list_any test (uses_from p ps) ≡ false →
    list_any test (uses p) ≡ false
own_uses test (w.Loops (w.Gather e)) (q ∷ qs) h =
    (or_parts (list_any test (uses (w.Loops (w.Gather e)))) (list_any test (uses q.place))
    (sym (list_any-append test (uses (w.Loops (w.Gather e))) (uses q.place)) ∙ h)).0
own_uses test (w.Loops (w.Gather e)) [] h = h
own_uses test (w.Loops (w.For f has_do)) ps h = h
own_uses test (w.Loops w.Next) ps h = h
own_uses test (w.Loops w.Find) ps h = h
own_uses test (w.Loops (w.Compute ts)) ps h = h
own_uses test (w.Simply s) ps h = h
own_uses test (w.Branches b) ps h = h
own_uses test w.EndOfSection ps h = h

place_kept : (d : Declared) (in_main behind_find : Bool) (p : w.Spot) (ps : List w.Spot) →
    (place_statement d in_main behind_find (uses_from p.place ps) p).breaks ≡ [] → IsPlaceKept d in_main p.place
place_kept d in_main behind_find p ps h =
    let us = uses_from p.place ps in
    let r1 = rule_where WrongClass (list_any (is_wrong_class d) us) in
    let r2 = rule_where WrongUse (list_any (is_misused d) us) in
    let r3 = rule_where WrongCount (list_any (is_wrong_count d) us) in
    let r4 = rule_where FixedTarget (list_any (is_fixed d) us) in
    let r5 = rule_where WrongPicture (has_wrong_picture p.place) in
    let r6 = rule_where StartOutsideMain (is_start p.place && not in_main) in
    let r7 = rule_where WithoutFind (asks_find p.place && not behind_find) in
    let pa = no_rules (use_breaks d us ++ r5) (r6 ++ r7) h in
    let pb = no_rules (use_breaks d us) r5 pa.0 in
    let pc = no_rules (r1 ++ r2 ++ r3) r4 pb.0 in
    let pd = no_rules (r1 ++ r2) r3 pc.0 in
    let pe = no_rules r1 r2 pd.0 in
    let pf = no_rules r6 r7 pa.1 in
    record {
      class = own_uses (is_wrong_class d) p.place ps (not_broken WrongClass (list_any (is_wrong_class d) us) pe.0);
      usage = own_uses (is_misused d) p.place ps (not_broken WrongUse (list_any (is_misused d) us) pe.1);
      count = own_uses (is_wrong_count d) p.place ps (not_broken WrongCount (list_any (is_wrong_count d) us) pd.1);
      fixed = own_uses (is_fixed d) p.place ps (not_broken FixedTarget (list_any (is_fixed d) us) pc.1);
      picture = not_broken WrongPicture (has_wrong_picture p.place) pb.1;
      start = not_broken StartOutsideMain (is_start p.place && not in_main) pf.0;
    }

abbrev pub ArePlacesKept : Declared → Bool → List w.Spot → Type 0
ArePlacesKept d in_main [] = Unit {0}
ArePlacesKept d in_main (p ∷ ps) = IsPlaceKept d in_main p.place × ArePlacesKept d in_main ps

places_kept : (d : Declared) (in_main behind_find : Bool) (ps : List w.Spot) →
    AreUnbroken (place_statements d in_main behind_find ps) →
    ArePlacesKept d in_main ps
places_kept d in_main behind_find [] h = tt
places_kept d in_main behind_find (p ∷ ps) h =
    (place_kept d in_main behind_find p ps h.0, places_kept d in_main (is_find p.place) ps h.1)

-- ---- sections

pub record IsHeadKept (d b : Declared) (h : Head) : Type 0 where
  pub apart : repeats [] (parameters h) ≡ false
  pub undeclared : list_any (is_declared d) (parameters h) ≡ false
  pub given : has_too_many d h ≡ false
  pub class : lacks_class d h ≡ false
  pub main : is_second_main d b h ≡ false

head_kept : (d b : Declared) (s : w.Section) → (head_statement d b s).breaks ≡ [] → IsHeadKept d b s.head
head_kept d b s h =
    let r1 = rule_where DeclaredTwice (head_declares_twice d b s.head) in
    let r2 = rule_where WrongCount (has_too_many d s.head) in
    let r3 = rule_where WrongEvent (lacks_class d s.head) in
    let r4 = rule_where WrongMain (is_second_main d b s.head) in
    let p4 = no_rules (r1 ++ r2 ++ r3) r4 h in
    let p3 = no_rules (r1 ++ r2) r3 p4.0 in
    let p2 = no_rules r1 r2 p3.0 in
    let twice = not_broken DeclaredTwice (head_declares_twice d b s.head) p2.0 in
    let last = last_of_four (one_conflicts b.kinds (routine_facts s.head)) (repeats b.events (events_in s.head))
    (repeats [] (parameters s.head)) (list_any (is_declared d) (parameters s.head)) twice in
    record {
      apart = last.0;
      undeclared = last.1;
      given = not_broken WrongCount (has_too_many d s.head) p2.1;
      class = not_broken WrongEvent (lacks_class d s.head) p3.1;
      main = not_broken WrongMain (is_second_main d b s.head) p4.1;
    }
  where
    last_of_four : (a b c e : Bool) → (a || b || c || e) ≡ false → (c ≡ false) × (e ≡ false)
    last_of_four true b c e h = cc
    last_of_four false true c e h = cc
    last_of_four false false true e h = cc
    last_of_four false false false true h = cc
    last_of_four false false false false h = (refl, refl)

-- sections after items and other heads
abbrev pub AreSectionsKept : Declared → List HeadedItem → List Head → List w.Section → Type 0
AreSectionsKept d xs before [] = Unit {0}
AreSectionsKept d xs before (s ∷ ss) =
    IsHeadKept d (declared_by xs before) s.head × ArePlacesKept d (is_main s.head) s.places
    × AreSectionsKept d xs (before ++ s.head ∷ []) ss

sections_kept : (d : Declared) (xs : List HeadedItem) (before : List Head) (ss : List w.Section) →
    AreUnbroken (sections_statements d xs before ss) →
    AreSectionsKept d xs before ss
sections_kept d xs before [] h = tt
sections_kept d xs before (s ∷ ss) h =
    let p = unbroken_parts (section_statements d (declared_by xs before) s)
    (sections_statements d xs (before ++ s.head ∷ []) ss) h in
    let q = unbroken_parts (map (local_statement d) s.locals)
    (place_statements d (is_main s.head) false s.places) p.0.1 in (
      head_kept d (declared_by xs before) s p.0.0,
      places_kept d (is_main s.head) false s.places q.1,
      sections_kept d xs (before ++ s.head ∷ []) ss p.1,
    )

-- ---- the program

pub record IsKept (decls : Decls) (ss : List w.Section) : Type 0 where
  pub items : AreItemsKept (declared_by_program decls.items ss) [] (headed_items decls.items)
  pub sections : AreSectionsKept (declared_by_program decls.items ss) (headed_items decls.items) [] ss
  pub main : not (list_any (λ s. is_main s.head) ss) ≡ false

pub kept : (decls : Decls) (ss : List w.Section) → breach decls ss ≡ None → IsKept decls ss
kept decls ss h =
    let d = declared_by_program decls.items ss in
    let xs = headed_items decls.items in
    let all = unbroken (statements decls ss) h in
    let p = unbroken_parts (item_statements d [] xs ++ sections_statements d xs [] ss)
    (end_statement decls.end ss ∷ []) all in
    let q = unbroken_parts (item_statements d [] xs) (sections_statements d xs [] ss) p.0 in
    record {
      items = items_kept d [] xs q.0;
      sections = sections_kept d xs [] ss q.1;
      main = not_broken WrongMain (not (list_any (λ s. is_main s.head) ss)) p.1.0;
    }
