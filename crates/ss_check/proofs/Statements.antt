-- The first breach of statements one after the other.
use Rattle.std.proofs.Common.{◌≡◌, ℕ, Bool, true, false, not, List, [], ◌∷◌, ◌++◌, refl, sym, ap, subst, ◌∙◌, Option}
use Rattle.std.proofs.Common.{Some, None}
use Rattle.std.specs.Prelude.{map, option_map, unwrap_or, Result, Ok, Err, IfOk, IfErr, OnOk}
use Rattle.std.specs.List.{list_any}
use Rattle.std.specs.Option.{option_or}
use Rattle.ss_preamble.specs.Tree.{Decls}
use Rattle.ss_routines.specs.Tree.{Head}
use Rattle.ss_routines.specs.Places.{Section}
use Rattle.ss_check.specs.declared.fault.CheckRule.{CheckRule}
use Rattle.ss_check.specs.declared.fault.CheckRule.TheVariants.{WrongMain}
use Rattle.ss_check.specs.declared.fault.CheckFault.{CheckFault}
use Rattle.ss_check.specs.declared.fault.CheckFault.TheVariants.{Broken, Memory}
use Rattle.ss_check.specs.Declarations.{Declared}
use Rattle.ss_check.specs.Increments.{items_refusal, locals_refusal, places_refusal, section_refusal}
use Rattle.ss_check.specs.Increments.{sections_refusal}
use Rattle.ss_check.specs.Increments.{with_items, with_head}
use Rattle.ss_check.specs.Breach.{breach, refusal, end_statement, item_statements, last_end, section_statements}
use Rattle.ss_check.specs.Breach.{sections_statements, statements}
use Rattle.ss_check.specs.Declarations.{HeadedItem, headed_items, is_main, declared_by_program, declared_by}
use Rattle.ss_check.specs.declared.wrong.Reason.TheVariants.{NoMain}
use Rattle.ss_check.specs.declared.wrong.Wrong.{Wrong}
use Rattle.ss_check.specs.ItemRules.{head_rule, head_statement, head_wrong, item_statement, local_statement}
use Rattle.ss_check.specs.PlaceRules.{place_statements}
use Rattle.ss_check.specs.Statements.{IsBreach, IsRefusal, Refusal, Statement, about, breach_of, refusal_of, refused}
use Rattle.ss_check.specs.Statements.{rule_where, first_breach, first_refusal, lowest}
use Rattle.ss_check.proofs.DeclaredPrefixes.{entries_more, entry_more, head_more}
use Rattle.ss_check.proofs.Tests.{any_map}

option_or-assoc : {T : Type 0} (a b c : Option T) → option_or (option_or a b) c ≡ option_or a (option_or b c)
option_or-assoc None b c = refl
option_or-assoc (Some x) b c = refl

-- the first breach of two lists: the first one's, else the second one's
pub first_breach-append : (xs ys : List Statement) →
    first_breach (xs ++ ys) ≡ option_or (first_breach xs) (first_breach ys)
first_breach-append [] ys = refl
first_breach-append (x ∷ xs) ys =
    ap (option_or (breach_of x)) (first_breach-append xs ys)
    ∙ sym (option_or-assoc (breach_of x) (first_breach xs) (first_breach ys))

-- the first breach with what is wrong, of two lists
refusal_append : (xs ys : List Statement) →
    first_refusal (xs ++ ys) ≡ option_or (first_refusal xs) (first_refusal ys)
refusal_append [] ys = refl
refusal_append (x ∷ xs) ys =
    ap (option_or (refusal_of x)) (refusal_append xs ys)
    ∙ sym (option_or-assoc (refusal_of x) (first_refusal xs) (first_refusal ys))

-- items after others
items_bridge : (d : Declared) (before xs : List HeadedItem) →
    items_refusal d (declared_by before []) xs ≡ first_refusal (item_statements d before xs)
unfolding items_refusal
items_bridge d before [] = refl
items_bridge d before (x ∷ xs) =
    ap (option_or (refusal_of (item_statement d (declared_by before []) x)))
    (ap (λ (t : Declared). items_refusal d t xs) (sym (entry_more before x)) ∙ items_bridge d (before ++ x ∷ []) xs)

-- a section after items and other heads
section_bridge : (d b : Declared) (s : Section) → section_refusal d b s ≡ first_refusal (section_statements d b s)
unfolding section_refusal locals_refusal places_refusal
section_bridge d b s =
    ap (option_or (refusal_of (head_statement d b s)))
    (sym (refusal_append (map (local_statement d) s.locals) (place_statements d (is_main s.head) false s.places)))

-- sections after items and other heads
sections_bridge : (d : Declared) (xs : List HeadedItem) (before : List Head) (ss : List Section) →
    sections_refusal d (declared_by xs before) ss ≡ first_refusal (sections_statements d xs before ss)
unfolding sections_refusal
sections_bridge d xs before [] = refl
sections_bridge d xs before (s ∷ ss) =
    ap (λ (b : Option Refusal). option_or b (sections_refusal d (with_head (declared_by xs before) s.head) ss))
    (section_bridge d (declared_by xs before) s)
    ∙ ap (option_or (first_refusal (section_statements d (declared_by xs before) s)))
    (ap (λ (t : Declared). sections_refusal d t ss) (sym (head_more xs before s.head))
    ∙ sections_bridge d xs (before ++ s.head ∷ []) ss)
    ∙ sym
    (refusal_append (section_statements d (declared_by xs before) s)
    (sections_statements d xs (before ++ s.head ∷ []) ss))

-- the first breach of a program: of its items, else of its sections, else of its last END
pub refusal_is : (p : Decls) (ss : List Section) →
    option_or (items_refusal (declared_by_program p.items ss) (declared_by [] []) (headed_items p.items))
    (option_or (sections_refusal (declared_by_program p.items ss) (declared_by (headed_items p.items) []) ss)
    (first_refusal (end_statement p.end ss ∷ [])))
    ≡ refusal p ss
refusal_is p ss =
    let d = declared_by_program p.items ss in
    let xs = headed_items p.items in
    let is = item_statements d [] xs in
    let ks = sections_statements d xs [] ss in
    rw (items_bridge d [] xs, sections_bridge d xs [] ss)
    (sym (option_or-assoc (first_refusal is) (first_refusal ks) (first_refusal (end_statement p.end ss ∷ [])))
    ∙ ap (λ (o : Option Refusal). option_or o (first_refusal (end_statement p.end ss ∷ [])))
    (sym (refusal_append is ks))
    ∙ sym (refusal_append (is ++ ks) (end_statement p.end ss ∷ [])))

-- ---- the breach without what is wrong

-- the rule and the line of a breach
abbrev place_of : Refusal → CheckRule × ℕ
place_of x = (x.rule, x.line)

or_map : (o p : Option Refusal) → option_or (option_map place_of o) (option_map place_of p)
    ≡ option_map place_of (option_or o p)
or_map None p = refl
or_map (Some x) p = refl

one_place : (l : ℕ) (w : CheckRule → Wrong) (o : Option CheckRule) →
    option_map {U = CheckRule × ℕ} (λ r. (r, l)) o ≡ option_map place_of (option_map (refused l w) o)
one_place l w None = refl
one_place l w (Some r) = refl

places : (ss : List Statement) → first_breach ss ≡ option_map place_of (first_refusal ss)
places [] = refl
places (s ∷ ss) =
    ap (λ (o : Option (CheckRule × ℕ)). option_or o (first_breach ss)) (one_place s.line s.wrong (lowest s.breaks))
    ∙ ap (option_or (option_map place_of (refusal_of s))) (places ss)
    ∙ or_map (refusal_of s) (first_refusal ss)

-- a program without a refusal has no breach
pub breach_none : (p : Decls) (ss : List Section) → refusal p ss ≡ None → breach p ss ≡ None
breach_none p ss h =
    places (statements p ss) ∙ ap (option_map place_of) h

-- a fault that gives the first breach and what is wrong gives the first breach
pub breach_told : (f : CheckFault) (p : Decls) (ss : List Section) → IsRefusal f (refusal p ss) →
    IsBreach f (breach p ss)
breach_told (Broken r l w) p ss h = places (statements p ss) ∙ ap (option_map place_of) h
breach_told Memory p ss h = tt

-- ---- faults

-- a fault of the first part is one of the whole
pub fault_first : (f : CheckFault) (a b : Option Refusal) → IsRefusal f a → IsRefusal f (option_or a b)
fault_first (Broken r l w) None b h = cc
fault_first (Broken r l w) (Some x) b h = h
fault_first Memory a b h = tt

-- after a part without breach a fault of the rest is one of the whole
pub fault_rest : (f : CheckFault) (a b : Option Refusal) → a ≡ None → IsRefusal f b → IsRefusal f (option_or a b)
fault_rest f None b e h = h
fault_rest f (Some x) b e h = cc

-- two parts without breach have none
pub none_both : (a b : Option Refusal) → a ≡ None → b ≡ None → option_or a b ≡ None
none_both None b e h = h
none_both (Some x) b e h = cc

-- ---- a section

-- its head breaks a rule
pub section_head : (d b : Declared) (s : Section) (r : CheckRule) → head_rule d b s ≡ Some r →
    section_refusal d b s ≡ Some (refused s.line (head_wrong d b s.head) r)
unfolding section_refusal head_rule
section_head d b s r h =
    ap (λ (o : Option CheckRule). option_or (option_map (refused s.line (head_wrong d b s.head)) o)
    (option_or (locals_refusal d s.locals) (places_refusal d (is_main s.head) false s.places))) h

-- its head breaks none
pub section_behind : (d b : Declared) (s : Section) → head_rule d b s ≡ None →
    section_refusal d b s ≡ option_or (locals_refusal d s.locals) (places_refusal d (is_main s.head) false s.places)
unfolding section_refusal head_rule
section_behind d b s h =
    ap (λ (o : Option CheckRule). option_or (option_map (refused s.line (head_wrong d b s.head)) o)
    (option_or (locals_refusal d s.locals) (places_refusal d (is_main s.head) false s.places))) h

-- a fault of its local DEFINEs
pub section_locals : (f : CheckFault) (d b : Declared) (s : Section) → head_rule d b s ≡ None →
    IsRefusal f (locals_refusal d s.locals) →
    IsRefusal f (section_refusal d b s)
section_locals f d b s h k =
    subst (IsRefusal f) (sym (section_behind d b s h))
    (fault_first f (locals_refusal d s.locals) (places_refusal d (is_main s.head) false s.places) k)

-- a fault of its places
pub section_err : (f : CheckFault) (d b : Declared) (s : Section) → head_rule d b s ≡ None →
    locals_refusal d s.locals ≡ None →
    IsRefusal f (places_refusal d (is_main s.head) false s.places) → IsRefusal f (section_refusal d b s)
section_err f d b s h e k =
    subst (IsRefusal f) (sym (section_behind d b s h))
    (fault_rest f (locals_refusal d s.locals) (places_refusal d (is_main s.head) false s.places) e k)

-- no breach
pub section_sound : (d b : Declared) (s : Section) → head_rule d b s ≡ None → locals_refusal d s.locals ≡ None →
    places_refusal d (is_main s.head) false s.places ≡ None → section_refusal d b s ≡ None
section_sound d b s h e k =
    section_behind d b s h ∙ none_both (locals_refusal d s.locals) (places_refusal d (is_main s.head) false s.places) e k

-- ---- a program

-- the tables that a program's parts are looked at with
pub record AreTables (p : Decls) (ss : List Section) (whole start middle : Declared) : Type 0 where
  -- the declarations of the whole program
  pub all : whole ≡ declared_by_program p.items ss
  -- the declarations before all items
  pub none : start ≡ declared_by [] []
  -- the declarations of the items
  pub items : middle ≡ with_items start (headed_items p.items)

parts : (p : Decls) (ss : List Section) (whole start middle : Declared) → AreTables p ss whole start middle →
    option_or (items_refusal whole start (headed_items p.items))
    (option_or (sections_refusal whole middle ss) (first_refusal (end_statement p.end ss ∷ [])))
    ≡ refusal p ss
parts p ss whole start middle t =
    rw (t.items, t.none, t.all, entries_more [] (headed_items p.items)) (refusal_is p ss)

-- a fault of the items
pub fault_items : (f : CheckFault) (p : Decls) (ss : List Section) (whole start middle : Declared) →
    AreTables p ss whole start middle →
    IsRefusal f (items_refusal whole start (headed_items p.items)) → IsRefusal f (refusal p ss)
fault_items f p ss whole start middle t h =
    subst (IsRefusal f) (parts p ss whole start middle t) (fault_first f _ _ h)

-- a fault of the sections, if the items have none
pub fault_sections : (f : CheckFault) (p : Decls) (ss : List Section) (whole start middle : Declared) →
    AreTables p ss whole start middle →
    items_refusal whole start (headed_items p.items) ≡ None → IsRefusal f (sections_refusal whole middle ss) →
    IsRefusal f (refusal p ss)
fault_sections f p ss whole start middle t e h =
    subst (IsRefusal f) (parts p ss whole start middle t) (fault_rest f _ _ e (fault_first f _ _ h))

-- the breach that is left at the last END, if neither has one
at_end : (p : Decls) (ss : List Section) (whole start middle : Declared) → AreTables p ss whole start middle →
    items_refusal whole start (headed_items p.items) ≡ None → sections_refusal whole middle ss ≡ None →
    refusal p ss ≡ first_refusal
    (record { line = last_end (unwrap_or p.end 1) ss; breaks = rule_where WrongMain (not whole.has_main); wrong = λ r. about NoMain None } ∷ [])
at_end p ss whole start middle t e h =
    let m : whole.has_main ≡ list_any (λ s. is_main s.head) ss = ap (λ (d : Declared). d.has_main) t.all
    ∙ any_map is_main (λ s. s.head) ss in
    sym (parts p ss whole start middle t) ∙ rw (e, h, m) refl

-- no MAIN
pub fault_end : (p : Decls) (ss : List Section) (whole start middle : Declared) → AreTables p ss whole start middle →
    items_refusal whole start (headed_items p.items) ≡ None → sections_refusal whole middle ss ≡ None →
    whole.has_main ≡ false →
    IsRefusal (Broken WrongMain (last_end (unwrap_or p.end 1) ss) (about NoMain None)) (refusal p ss)
fault_end p ss whole start middle t e h m =
    at_end p ss whole start middle t e h
    ∙ ap (λ (b : Bool). first_refusal
    (record { line = last_end (unwrap_or p.end 1) ss; breaks = rule_where WrongMain (not b); wrong = λ r. about NoMain None } ∷ [])) m

-- no breach
pub sound_all : (p : Decls) (ss : List Section) (whole start middle : Declared) → AreTables p ss whole start middle →
    items_refusal whole start (headed_items p.items) ≡ None → sections_refusal whole middle ss ≡ None →
    whole.has_main ≡ true → refusal p ss ≡ None
sound_all p ss whole start middle t e h m =
    at_end p ss whole start middle t e h
    ∙ ap (λ (b : Bool). first_refusal
    (record { line = last_end (unwrap_or p.end 1) ss; breaks = rule_where WrongMain (not b); wrong = λ r. about NoMain None } ∷ [])) m

-- ---- results

-- a law that follows from a law of a value
pub ok_more : {T E : Type 0} (r : Result T E) (P Q : Type 0) → (P → Q) → IfOk r (λ x. P) → IfOk r (λ x. Q)
ok_more (Ok x) P Q f h = f h
ok_more (Err e) P Q f h = tt

-- a law that follows from a law of an error
pub err_more : {T E : Type 0} (r : Result T E) (P Q : E → Type 0) → ((e : E) → P e → Q e) → IfErr r P → IfErr r Q
err_more (Ok x) P Q f h = tt
err_more (Err e) P Q f h = f e h

-- a law that holds in any case
pub ok_anyway : {T E : Type 0} (r : Result T E) (P : Type 0) → P → OnOk r P
ok_anyway (Ok x) P h = h
ok_anyway (Err e) P h = tt
