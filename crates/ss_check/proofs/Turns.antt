-- The turns of the loops over items, sections, local DEFINEs and places.
use Rattle.std.proofs.Common.{◌≡◌, ℕ, ◌+◌, ◌-◌, ◌<◌, ◌≤◌, Bool, List, [], ◌∷◌, length, get_or, drop, refl, sym, ap}
use Rattle.std.proofs.Common.{subst, ◌∙◌, Option, Some, None, arith, sub-one}
use Rattle.std.specs.Prelude.{is_some, map, option_map}
use Rattle.std.specs.Option.{option_or}
use Rattle.std.specs.List.{find, slice_get}
use Rattle.std.proofs.lemmas.Option.{get_or_from_slice_get, slice_get-get_or}
use Rattle.std.proofs.lemmas.List.{drop_all, drop_more, nil_from_length}
use Rattle.ss_preamble.specs.declared.item.Heading.{Heading}
use Rattle.ss_preamble.specs.declared.item.ItemAt.{ItemAt as CodeItemAt}
use Rattle.ss_preamble.specs.View.{item_at_view, item_view, items_view}
use Rattle.ss_routines.specs.declared.tree.section.LocalNames.{LocalNames as CodeLocalNames}
use Rattle.ss_routines.specs.declared.tree.section.Section.{Section as CodeSection}
use Rattle.ss_routines.specs.declared.tree.place.Spot.{Spot as CodeSpot}
use Rattle.ss_words.specs.Lists.{Name, all_of}
use Rattle.ss_routines.specs.Places.{LocalNames, Spot}
use Rattle.ss_routines.specs.View.{local_view, place_view, section_view, spot_view, spots}
use Rattle.ss_check.specs.declared.fault.CheckRule.{CheckRule}
use Rattle.ss_check.specs.declared.fault.CheckRule.TheVariants.{DeclaredTwice}
use Rattle.ss_check.specs.declared.wrong.Reason.TheVariants as why
use Rattle.ss_check.specs.declared.fault.CheckFault.{CheckFault}
use Rattle.ss_check.specs.Declarations.{Declared}
use Rattle.ss_check.specs.Increments.{headed_item, items_refusal, locals_refusal, places_refusal}
use Rattle.ss_check.specs.Increments.{section_refusal, sections_refusal, with_items, with_item, with_head, with_sections}
use Rattle.ss_check.specs.Breach.{last_line}
use Rattle.ss_check.specs.Declarations.{headed_items_under, heading_at, is_declared}
use Rattle.ss_check.specs.ItemRules.{item_rule, item_wrong, local_rule, local_wrong}
use Rattle.ss_check.specs.PlaceRules.{is_find, place_rule, place_wrong, uses_from}
use Rattle.ss_check.specs.Statements.{IsRefusal, Refusal, about, lowest, refused, rule_where}
use Rattle.ss_check.proofs.Statements.{fault_first}
use Rattle.ss_check.proofs.Tests.{find_any}

-- the part of a list that is left at an element
pub left_at : {X : Type 0} (xs : List X) (i : ℕ) (x : X) → i < length xs → x ≡ get_or xs i x →
    drop i xs ≡ x ∷ drop (i + 1) xs
left_at xs i x l e = drop_more xs i x l ∙ ap (λ y. y ∷ drop (i + 1) xs) (sym e)

-- a rule is broken, which gives this breach, and the part after it counts no more
pub told : (o : Option CheckRule) (m : CheckRule → Refusal) (rest whole : Option Refusal) (r : CheckRule) →
    option_or (option_map m o) rest ≡ whole → o ≡ Some r → whole ≡ Some (m r)
told None m rest whole r h e = cc
told (Some k) m rest whole r h e = sym h ∙ ap (option_map m) e

-- none is broken, and the part after it counts
pub passed : (o : Option CheckRule) (m : CheckRule → Refusal) (rest whole : Option Refusal) →
    option_or (option_map m o) rest ≡ whole → o ≡ None → rest ≡ whole
passed None m rest whole h e = h
passed (Some k) m rest whole h e = cc

-- ---- items

-- the tables with the next item
pub filled_turn : (t : Declared) (h : Option Heading) (xs : List CodeItemAt) (i : ℕ) (x : CodeItemAt)
    (whole : Declared) →
    i < length xs → x ≡ get_or xs i x → with_items t (headed_items_under h (items_view (drop i xs))) ≡ whole →
    with_items (with_item t (headed_item (heading_at h (item_view x.item)) (item_at_view x)))
    (headed_items_under (heading_at h (item_view x.item)) (items_view (drop (i + 1) xs))) ≡ whole
unfolding with_items
filled_turn t h xs i x whole l e k =
    ap (λ (ys : List CodeItemAt). with_items t (headed_items_under h (items_view ys))) (sym (left_at xs i x l e)) ∙ k

-- its lowest rule, else the breach of the part after it
pub item_turn : (d t : Declared) (h : Option Heading) (xs : List CodeItemAt) (i : ℕ) (x : CodeItemAt)
    (whole : Option Refusal) →
    i < length xs → x ≡ get_or xs i x → items_refusal d t (headed_items_under h (items_view (drop i xs))) ≡ whole →
    option_or (option_map (refused x.line (item_wrong d t (headed_item (heading_at h (item_view x.item)) (item_at_view x))))
    (item_rule d t (headed_item (heading_at h (item_view x.item)) (item_at_view x))))
    (items_refusal d (with_item t (headed_item (heading_at h (item_view x.item)) (item_at_view x)))
    (headed_items_under (heading_at h (item_view x.item)) (items_view (drop (i + 1) xs)))) ≡ whole
unfolding items_refusal item_rule
item_turn d t h xs i x whole l e k =
    ap (λ (ys : List CodeItemAt). items_refusal d t (headed_items_under h (items_view ys))) (sym (left_at xs i x l e))
    ∙ k

-- it breaks a rule; h: the heading over it
pub item_told : (d t : Declared) (g h : Option Heading) (xs : List CodeItemAt) (i : ℕ) (x : CodeItemAt)
    (whole : Option Refusal) (r : CheckRule) →
    i < length xs → x ≡ get_or xs i x → items_refusal d t (headed_items_under g (items_view (drop i xs))) ≡ whole →
    h ≡ heading_at g (item_view x.item) → item_rule d t (headed_item h (item_at_view x)) ≡ Some r →
    whole ≡ Some (refused x.line (item_wrong d t (headed_item h (item_at_view x))) r)
item_told d t g h xs i x whole r l e k q n =
    let v = heading_at g (item_view x.item) in
    rw q (told (item_rule d t (headed_item v (item_at_view x)))
    (refused x.line (item_wrong d t (headed_item v (item_at_view x))))
    (items_refusal d (with_item t (headed_item v (item_at_view x)))
    (headed_items_under v (items_view (drop (i + 1) xs))))
    whole r (item_turn d t g xs i x whole l e k)
    (ap (λ (w : Option Heading). item_rule d t (headed_item w (item_at_view x))) (sym q) ∙ n))

-- it breaks none
pub item_passed : (d t : Declared) (g h : Option Heading) (xs : List CodeItemAt) (i : ℕ) (x : CodeItemAt)
    (whole : Option Refusal) →
    i < length xs → x ≡ get_or xs i x → items_refusal d t (headed_items_under g (items_view (drop i xs))) ≡ whole →
    h ≡ heading_at g (item_view x.item) → item_rule d t (headed_item h (item_at_view x)) ≡ None →
    items_refusal d (with_item t (headed_item h (item_at_view x))) (headed_items_under h (items_view (drop (i + 1) xs)))
    ≡ whole
item_passed d t g h xs i x whole l e k q n =
    let v = heading_at g (item_view x.item) in
    rw q
    (passed (item_rule d t (headed_item v (item_at_view x)))
    (refused x.line (item_wrong d t (headed_item v (item_at_view x))))
    (items_refusal d (with_item t (headed_item v (item_at_view x)))
    (headed_items_under v (items_view (drop (i + 1) xs))))
    whole (item_turn d t g xs i x whole l e k)
    (ap (λ (w : Option Heading). item_rule d t (headed_item w (item_at_view x))) (sym q) ∙ n))

-- at the end the tables are filled
pub filled_end : (t : Declared) (h : Option Heading) (xs : List CodeItemAt) (i : ℕ) (whole : Declared) →
    length xs ≤ i → with_items t (headed_items_under h (items_view (drop i xs))) ≡ whole → t ≡ whole
unfolding with_items
filled_end t h xs i whole l k =
    ap (λ (ys : List CodeItemAt). with_items t (headed_items_under h (items_view ys))) (sym (drop_all i xs l)) ∙ k

-- and no item is left that could break a rule
pub items_end : (d t : Declared) (h : Option Heading) (xs : List CodeItemAt) (i : ℕ) (whole : Option Refusal) →
    length xs ≤ i → items_refusal d t (headed_items_under h (items_view (drop i xs))) ≡ whole → whole ≡ None
unfolding items_refusal
items_end d t h xs i whole l k =
    sym k ∙ ap (λ (ys : List CodeItemAt). items_refusal d t (headed_items_under h (items_view ys))) (drop_all i xs l)

-- ---- sections

-- at the end the tables are filled
pub headed_end : (t : Declared) (xs : List CodeSection) (i : ℕ) (whole : Declared) →
    length xs ≤ i → with_sections t (map section_view (drop i xs)) ≡ whole → t ≡ whole
unfolding with_sections
headed_end t xs i whole l k = ap (λ (ys : List CodeSection). with_sections t (map section_view ys))
    (sym (drop_all i xs l)) ∙ k

-- and no section is left
pub sections_end : (d t : Declared) (xs : List CodeSection) (i : ℕ) (whole : Option Refusal) →
    length xs ≤ i → sections_refusal d t (map section_view (drop i xs)) ≡ whole → whole ≡ None
unfolding sections_refusal
sections_end d t xs i whole l k =
    sym k ∙ ap (λ (ys : List CodeSection). sections_refusal d t (map section_view ys)) (drop_all i xs l)

-- the tables with the next head
pub headed_turn : (t : Declared) (xs : List CodeSection) (i : ℕ) (x : CodeSection) (whole : Declared) →
    i < length xs → x ≡ get_or xs i x → with_sections t (map section_view (drop i xs)) ≡ whole →
    with_sections (with_head t (section_view x).head) (map section_view (drop (i + 1) xs)) ≡ whole
unfolding with_sections
headed_turn t xs i x whole l e k =
    ap (λ (ys : List CodeSection). with_sections t (map section_view ys)) (sym (left_at xs i x l e)) ∙ k

-- the breach of the next section, else of those after it
pub section_turn : (d t : Declared) (xs : List CodeSection) (i : ℕ) (x : CodeSection) (whole : Option Refusal) →
    i < length xs → x ≡ get_or xs i x → sections_refusal d t (map section_view (drop i xs)) ≡ whole →
    option_or (section_refusal d t (section_view x))
    (sections_refusal d (with_head t (section_view x).head) (map section_view (drop (i + 1) xs))) ≡ whole
unfolding sections_refusal
section_turn d t xs i x whole l e k =
    ap (λ (ys : List CodeSection). sections_refusal d t (map section_view ys)) (sym (left_at xs i x l e)) ∙ k

-- a fault of it is one of all
pub section_told : (f : CheckFault) (d t : Declared) (xs : List CodeSection) (i : ℕ) (x : CodeSection)
    (whole : Option Refusal) →
    i < length xs → x ≡ get_or xs i x → sections_refusal d t (map section_view (drop i xs)) ≡ whole →
    IsRefusal f (section_refusal d t (section_view x)) →
    IsRefusal f whole
section_told f d t xs i x whole l e k h =
    subst (IsRefusal f) (section_turn d t xs i x whole l e k)
    (fault_first f (section_refusal d t (section_view x))
    (sections_refusal d (with_head t (section_view x).head) (map section_view (drop (i + 1) xs))) h)

-- it has no breach
pub section_passed : (d t : Declared) (xs : List CodeSection) (i : ℕ) (x : CodeSection)
    (whole : Option Refusal) →
    i < length xs → x ≡ get_or xs i x → sections_refusal d t (map section_view (drop i xs)) ≡ whole →
    section_refusal d t (section_view x) ≡ None →
    sections_refusal d (with_head t (section_view x).head) (map section_view (drop (i + 1) xs)) ≡ whole
section_passed d t xs i x whole l e k h =
    ap (λ (o : Option Refusal). option_or o
    (sections_refusal d (with_head t (section_view x).head) (map section_view (drop (i + 1) xs)))) (sym h)
    ∙ section_turn d t xs i x whole l e k

-- ---- local DEFINEs

-- the rule of the next one, else the breach of those after it
pub local_turn : (d : Declared) (xs : List CodeLocalNames) (i : ℕ) (x : CodeLocalNames)
    (whole : Option Refusal) →
    i < length xs → x ≡ get_or xs i x → locals_refusal d (map local_view (drop i xs)) ≡ whole →
    option_or (option_map (refused x.line (λ broken. local_wrong d (local_view x))) (local_rule d (local_view x)))
    (locals_refusal d (map local_view (drop (i + 1) xs))) ≡ whole
unfolding locals_refusal local_rule
local_turn d xs i x whole l e k =
    ap (λ (ys : List CodeLocalNames). locals_refusal d (map local_view ys)) (sym (left_at xs i x l e)) ∙ k

-- the rule of one, by its first declared name
local_rule_is : (d : Declared) (x : LocalNames) (o : Option Name) → find (is_declared d) (all_of x.names) ≡ o →
    local_rule d x ≡ lowest (rule_where DeclaredTwice (is_some o))
unfolding local_rule
local_rule_is d x o h = ap (λ (b : Bool). lowest (rule_where DeclaredTwice b))
    (sym (find_any (is_declared d) (all_of x.names)) ∙ ap is_some h)

-- it names a declared name
pub local_told : (d : Declared) (xs : List CodeLocalNames) (i : ℕ) (x : CodeLocalNames)
    (whole : Option Refusal) (n : Name) →
    i < length xs → x ≡ get_or xs i x → locals_refusal d (map local_view (drop i xs)) ≡ whole →
    find (is_declared d) (all_of (local_view x).names) ≡ Some n →
    whole ≡ Some (record { rule = DeclaredTwice; line = x.line; wrong = about why.DeclaredTwice (Some n) })
local_told d xs i x whole n l e k h =
    told (local_rule d (local_view x)) (refused x.line (λ broken. local_wrong d (local_view x)))
    (locals_refusal d (map local_view (drop (i + 1) xs))) whole DeclaredTwice
    (local_turn d xs i x whole l e k) (local_rule_is d (local_view x) (Some n) h)
    ∙ ap (λ (o : Option Name). Some (record { rule = DeclaredTwice; line = x.line; wrong = about why.DeclaredTwice o }))
    h

-- it names none
pub local_passed : (d : Declared) (xs : List CodeLocalNames) (i : ℕ) (x : CodeLocalNames)
    (whole : Option Refusal) →
    i < length xs → x ≡ get_or xs i x → locals_refusal d (map local_view (drop i xs)) ≡ whole →
    find (is_declared d) (all_of (local_view x).names) ≡ None →
    locals_refusal d (map local_view (drop (i + 1) xs)) ≡ whole
local_passed d xs i x whole l e k h =
    passed (local_rule d (local_view x)) (refused x.line (λ broken. local_wrong d (local_view x)))
    (locals_refusal d (map local_view (drop (i + 1) xs))) whole
    (local_turn d xs i x whole l e k) (local_rule_is d (local_view x) None h)

-- at the end none is left
pub locals_end : (d : Declared) (xs : List CodeLocalNames) (i : ℕ) (whole : Option Refusal) →
    length xs ≤ i → locals_refusal d (map local_view (drop i xs)) ≡ whole → whole ≡ None
unfolding locals_refusal
locals_end d xs i whole l k = sym k ∙ ap (λ (ys : List CodeLocalNames). locals_refusal d (map local_view ys))
    (drop_all i xs l)

-- ---- places

-- the lowest rule of the first place, else the breach of those after it
pub place_turn : (d : Declared) (m f : Bool) (p : Spot) (ps : List Spot) →
    places_refusal d m f (p ∷ ps)
    ≡ option_or (option_map (refused p.line (place_wrong d (uses_from p.place ps))) (place_rule d m f p ps))
    (places_refusal d m (is_find p.place) ps)
unfolding places_refusal place_rule
place_turn d m f p ps = refl

-- it breaks a rule
pub place_told : (d : Declared) (m f : Bool) (rest : List CodeSpot) (x : CodeSpot) (xs : List CodeSpot)
    (whole : Option Refusal) (r : CheckRule) →
    rest ≡ x ∷ xs → places_refusal d m f (spots rest) ≡ whole → place_rule d m f (spot_view x) (spots xs) ≡ Some r →
    whole ≡ Some (refused x.line (place_wrong d (uses_from (place_view x.place) (spots xs))) r)
place_told d m f rest x xs whole r e k n =
    told (place_rule d m f (spot_view x) (spots xs))
    (refused x.line (place_wrong d (uses_from (place_view x.place) (spots xs))))
    (places_refusal d m (is_find (place_view x.place)) (spots xs)) whole r
    (sym (place_turn d m f (spot_view x) (spots xs))
    ∙ (ap (λ (ys : List CodeSpot). places_refusal d m f (spots ys)) (sym e) ∙ k)) n

-- it breaks none
pub place_passed : (d : Declared) (m f : Bool) (rest : List CodeSpot) (x : CodeSpot) (xs : List CodeSpot)
    (whole : Option Refusal) →
    rest ≡ x ∷ xs → places_refusal d m f (spots rest) ≡ whole → place_rule d m f (spot_view x) (spots xs) ≡ None →
    places_refusal d m (is_find (place_view x.place)) (spots xs) ≡ whole
place_passed d m f rest x xs whole e k n =
    passed (place_rule d m f (spot_view x) (spots xs))
    (refused x.line (place_wrong d (uses_from (place_view x.place) (spots xs))))
    (places_refusal d m (is_find (place_view x.place)) (spots xs)) whole
    (sym (place_turn d m f (spot_view x) (spots xs))
    ∙ (ap (λ (ys : List CodeSpot). places_refusal d m f (spots ys)) (sym e) ∙ k)) n

-- at the end none is left
pub places_end : (d : Declared) (m f : Bool) (rest : List CodeSpot) (whole : Option Refusal) →
    length rest ≡ 0 → places_refusal d m f (spots rest) ≡ whole → whole ≡ None
unfolding places_refusal
places_end d m f rest whole e k = sym k
    ∙ ap (λ (ys : List CodeSpot). places_refusal d m f (spots ys)) (nil_from_length rest e)

-- ---- lines

last_at : (x : CodeSpot) (xs : List CodeSpot) (n : ℕ) (d : CodeSpot) →
    last_line n (spots (x ∷ xs)) ≡ (get_or (x ∷ xs) (length xs) d).line
last_at x [] n d = refl
last_at x (y ∷ ys) n d = last_at y ys x.line d

-- the line of the last place
pub last_line_last : (n : ℕ) (xs : List CodeSpot) (x : CodeSpot) → Some x ≡ slice_get xs (length xs - 1) →
    x.line ≡ last_line n (spots xs)
last_line_last n [] x h = cc
last_line_last n (y ∷ ys) x h =
    let e : Some x ≡ slice_get (y ∷ ys) (length ys) = rw sub-one at h in
    ap (λ (z : CodeSpot). z.line) (sym (get_or_from_slice_get (y ∷ ys) (length ys) x x (sym e)))
    ∙ sym (last_at y ys n x)

-- if there is none the line is the one before
pub last_line_none : (n : ℕ) (xs : List CodeSpot) → None ≡ slice_get xs (length xs - 1) → n ≡ last_line n (spots xs)
last_line_none n [] h = refl
last_line_none n (y ∷ ys) h =
    let e : None ≡ slice_get (y ∷ ys) (length ys) = rw sub-one at h in
    let f : None ≡ Some (get_or (y ∷ ys) (length ys) y) = e ∙ slice_get-get_or (y ∷ ys) (length ys) y (omega arith) in
    cc
