-- No place of a program without a breach prints by a wrong picture.
use Rattle.std.proofs.Common.{◌≡◌, ℕ, Bool, true, false, ◌||◌, List, [], ◌∷◌, ◌++◌, refl, sym, ap, ◌∙◌, Option, Some}
use Rattle.std.proofs.Common.{None}
use Rattle.std.specs.Prelude.{map, option_map}
use Rattle.std.specs.List.{list_any}
use Rattle.std.specs.Option.{option_or}
use Rattle.ss_preamble.specs.Tree.{Decls}
use Rattle.ss_routines.specs.Tree.{Head}
use Rattle.ss_routines.specs.Places.{Section, Spot}
use Rattle.ss_check.specs.declared.fault.CheckRule.{CheckRule}
use Rattle.ss_check.specs.declared.fault.CheckRule.TheVariants.{WrongPicture}
use Rattle.ss_check.specs.Declarations.{Declared}
use Rattle.ss_check.specs.Breach.{breach, end_statement, item_statements, section_statements, sections_statements}
use Rattle.ss_check.specs.Declarations.{HeadedItem, headed_items, is_main, declared_by_program, declared_by}
use Rattle.ss_check.specs.ItemRules.{head_statement, local_statement}
use Rattle.ss_check.specs.PlaceRules.{has_wrong_picture, is_find, place_statement, place_statements, standing_breaks}
use Rattle.ss_check.specs.PlaceRules.{use_breaks, uses_from}
use Rattle.ss_check.specs.Statements.{Statement, breach_of, rule_where, first_breach, lowest}
use Rattle.ss_check.proofs.Statements.{first_breach-append}

-- ---- parts without a breach

-- neither of two has one
none_first : {T : Type 0} (a b : Option T) → option_or a b ≡ None → a ≡ None
none_first None b h = refl
none_first (Some x) b h = cc

none_rest : {T : Type 0} (a b : Option T) → option_or a b ≡ None → b ≡ None
none_rest None b h = h
none_rest (Some x) b h = cc

first_none : (xs ys : List Statement) → first_breach (xs ++ ys) ≡ None → first_breach xs ≡ None
first_none xs ys h = none_first (first_breach xs) (first_breach ys) (sym (first_breach-append xs ys) ∙ h)

rest_none : (xs ys : List Statement) → first_breach (xs ++ ys) ≡ None → first_breach ys ≡ None
rest_none xs ys h = none_rest (first_breach xs) (first_breach ys) (sym (first_breach-append xs ys) ∙ h)

-- a statement without a breach breaks no rule
none_broken : (rs : List CheckRule) (l : ℕ) → option_map {U = CheckRule × ℕ} (λ r. (r, l)) (lowest rs) ≡ None → rs ≡ []
none_broken [] l h = refl
none_broken (r ∷ rs) l h = cc

nil_first : {A : Type 0} (xs ys : List A) → xs ++ ys ≡ [] → xs ≡ []
nil_first [] ys h = refl
nil_first (x ∷ xs) ys h = cc

nil_rest : {A : Type 0} (xs ys : List A) → xs ++ ys ≡ [] → ys ≡ []
nil_rest [] ys h = h
nil_rest (x ∷ xs) ys h = cc

not_broken : (r : CheckRule) (b : Bool) → rule_where r b ≡ [] → b ≡ false
not_broken r true h = cc
not_broken r false h = refl

-- ---- places, sections, programs

place_picture : (d : Declared) (m f : Bool) (p : Spot) (ps : List Spot) →
    breach_of (place_statement d m f (uses_from p.place ps) p) ≡ None → has_wrong_picture p.place ≡ false
place_picture d m f p ps h =
    let us = use_breaks d (uses_from p.place ps) in
    let b = has_wrong_picture p.place in
    let all : (us ++ rule_where WrongPicture b) ++ standing_breaks m f p.place ≡ [] =
    none_broken ((us ++ rule_where WrongPicture b) ++ standing_breaks m f p.place) p.line h in
    not_broken WrongPicture b
    (nil_rest us (rule_where WrongPicture b)
    (nil_first (us ++ rule_where WrongPicture b) (standing_breaks m f p.place) all))

both_false : (a b : Bool) → a ≡ false → b ≡ false → (a || b) ≡ false
both_false false b h k = k
both_false true b h k = cc

pub places_pictures : (d : Declared) (m f : Bool) (ps : List Spot) →
    first_breach (place_statements d m f ps) ≡ None → list_any (λ s. has_wrong_picture s.place) ps ≡ false
places_pictures d m f [] h = refl
places_pictures d m f (p ∷ ps) h =
    let here = breach_of (place_statement d m f (uses_from p.place ps) p) in
    let behind = first_breach (place_statements d m (is_find p.place) ps) in
    both_false (has_wrong_picture p.place) (list_any (λ s. has_wrong_picture s.place) ps)
    (place_picture d m f p ps (none_first here behind h))
    (places_pictures d m (is_find p.place) ps (none_rest here behind h))

section_pictures : (d b : Declared) (q : Section) → first_breach (section_statements d b q) ≡ None →
    list_any (λ s. has_wrong_picture s.place) q.places ≡ false
section_pictures d b q h =
    let ls = map (local_statement d) q.locals in
    let ps = place_statements d (is_main q.head) false q.places in
    places_pictures d (is_main q.head) false q.places
    (rest_none ls ps (none_rest (breach_of (head_statement d b q)) (first_breach (ls ++ ps)) h))

sections_pictures : (d : Declared) (xs : List HeadedItem) (before : List Head) (qs : List Section) →
    first_breach (sections_statements d xs before qs) ≡ None →
    list_any (λ q. list_any (λ s. has_wrong_picture s.place) q.places) qs ≡ false
sections_pictures d xs before [] h = refl
sections_pictures d xs before (q ∷ qs) h =
    let here = section_statements d (declared_by xs before) q in
    let behind = sections_statements d xs (before ++ q.head ∷ []) qs in
    both_false (list_any (λ s. has_wrong_picture s.place) q.places)
    (list_any (λ r. list_any (λ s. has_wrong_picture s.place) r.places) qs)
    (section_pictures d (declared_by xs before) q (first_none here behind h))
    (sections_pictures d xs (before ++ q.head ∷ []) qs (rest_none here behind h))

-- so in a program without a breach
pub pictures_right : (p : Decls) (qs : List Section) → breach p qs ≡ None →
    list_any (λ q. list_any (λ s. has_wrong_picture s.place) q.places) qs ≡ false
pictures_right p qs h =
    let d = declared_by_program p.items qs in
    let xs = headed_items p.items in
    let is = item_statements d [] xs in
    let ks = sections_statements d xs [] qs in
    sections_pictures d xs [] qs
    (rest_none is ks (first_none (is ++ ks) (end_statement p.end qs ∷ []) h))

-- ---- a turn over sections

first_false : (a b : Bool) → (a || b) ≡ false → a ≡ false
first_false false b h = refl
first_false true b h = h

second_false : (a b : Bool) → (a || b) ≡ false → b ≡ false
second_false false b h = h
second_false true b h = cc

-- if no element that is left passes a test, neither does the next, nor one after it
pub none_here : {X A : Type 0} (t : A → Bool) (f : X → A) (xs : List X) (x : X) (ys : List X) → xs ≡ x ∷ ys →
    list_any t (map f xs) ≡ false → t (f x) ≡ false
none_here t f xs x ys e h =
    first_false (t (f x)) (list_any t (map f ys)) (sym (ap (λ zs. list_any t (map f zs)) e) ∙ h)

pub none_behind : {X A : Type 0} (t : A → Bool) (f : X → A) (xs : List X) (x : X) (ys : List X) → xs ≡ x ∷ ys →
    list_any t (map f xs) ≡ false → list_any t (map f ys) ≡ false
none_behind t f xs x ys e h =
    second_false (t (f x)) (list_any t (map f ys)) (sym (ap (λ zs. list_any t (map f zs)) e) ∙ h)
