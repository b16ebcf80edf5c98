-- The text on a missing name is the answer of SHOW in every state.
use Rattle.std.proofs.Common.{◌≡◌, ℕ, ℤ, ◌<◌, ◌==◌, Bool, true, false, ◌||◌, ◌&&◌, List, [], length, take, drop}
use Rattle.std.proofs.Common.{Option, Some, None, Result, Ok, Err, refl, ap, arith, nat_lt, get_or}
use Rattle.std.specs.Prelude.{codes, slice_get, position, if◌then◌else◌}
use Rattle.std.specs.List.{list_any, position_or_len}
use Rattle.std.specs.Str.{bytes_eq}
use Rattle.std.proofs.lemmas.Bool.Decides.{nat_tests}
use Rattle.std.proofs.lemmas.List.Folds.{list_any_at}
use Rattle.std.proofs.lemmas.List.Sums.{position_or_len_is}
use Rattle.std.proofs.lemmas.Option.{slice_get_within, get_or_from_slice_get}
use Rattle.ss_program.specs.Program.{ProgramTable, SectionTable, SetTable, class_of, set_of, locals_of, is_same_owner}
use Rattle.ss_program.specs.declared.kinds.Owner.{Owner}
use Rattle.ss_program.specs.declared.kinds.Owner.TheVariants.{System, OwnedBy}
use Rattle.ss_store.specs.Store.{Store, number_of}
use Rattle.ss_state.specs.Run.{Input, run}
use Rattle.ss_debug.specs.Answer.{variable_named, var_text}
use Rattle.ss_debug.specs.Entities.{set_named, entity_text, set_text, list_text, named_list_text}
use Rattle.ss_trace.specs.declared.attribute.Kept.{Kept}
use Rattle.ss_trace.specs.declared.attribute.Kept.TheVariants as kepts
use Rattle.ss_trace.specs.Question.{kept_of, has_kept, kept_named, attribute_named, attribute_text, count_text}
use Rattle.ss_trace.specs.Question.{named_count_text, list_count_text}
use Rattle.ss_prompt.specs.declared.missing.Missing.{Missing}
use Rattle.ss_prompt.specs.declared.missing.Missing.TheVariants as missing
use Rattle.ss_prompt.specs.Missing.{is_variable, has_attribute, is_kept_in}
use Rattle.ss_prompt.specs.Missing.{listed_by, listed_in, missing_text}
use Rattle.ss_prompt.specs.Laws.{MissingVariablesAreAnsweredSo, MissingListsAreAnsweredSo}
use Rattle.ss_prompt.specs.Laws.{MissingClassesAreAnsweredSo, MissingAttributesAreAnsweredSo}

-- ---- names

or_false : (a b : Bool) → (a || b) ≡ false → (a ≡ false) × (b ≡ false)
or_false true b h = absurd (cc)
or_false false b h = (refl, h)

none_at : (p : List ℕ → Bool) (xs : List (List ℕ)) (k : ℕ) (b : Bool) → k < length xs → list_any p xs ≡ false →
    p (get_or xs k []) ≡ b → p (get_or xs k []) ≡ false
none_at p xs k true h e t = let some : list_any p xs ≡ true = list_any_at p xs k [] h t in absurd (cc)
none_at p xs k false h e t = t

no_place : (p : List ℕ → Bool) (xs : List (List ℕ)) → list_any p xs ≡ false → position_or_len p xs ≡ length xs
no_place p xs e =
    position_or_len_is p xs (length xs) [] (omega arith) (λ k h. none_at p xs k (p (get_or xs k [])) h e refl)
    (λ h. absurd (omega arith))

-- a name that is not among some has no place
no_position : (p : List ℕ → Bool) (xs : List (List ℕ)) → list_any p xs ≡ false → position p xs ≡ None
no_position p xs e =
    let past : nat_lt (length xs) (length xs) ≡ false = grind (arith, nat_tests) in rw (no_place p xs e, past) refl

-- one that is in no section is not in this one
section_none : (q : List ℕ → Bool) (ss : List SectionTable) (i : ℕ) (s : SectionTable) (b : Bool) →
    slice_get ss i ≡ Some s → list_any (λ v. list_any q v.locals) ss ≡ false → list_any q s.locals ≡ b →
    list_any q s.locals ≡ false
section_none q ss i s true e h t =
    let at : get_or ss i s ≡ s = get_or_from_slice_get ss i s s e in
    let there : list_any q (get_or ss i s).locals ≡ true = rw at t in
    let some : list_any (λ (v : SectionTable). list_any q v.locals) ss ≡ true =
    list_any_at (λ (v : SectionTable). list_any q v.locals) ss i s (slice_get_within ss i s e) there in
    absurd (cc)
section_none q ss i s false e h t = t

locals_none : (q : List ℕ → Bool) (ss : List SectionTable) (i : ℕ) (o : Option SectionTable) → slice_get ss i ≡ o →
    list_any (λ v. list_any q v.locals) ss ≡ false → list_any q (locals_of (slice_get ss i)) ≡ false
locals_none q ss i None e h = rw e refl
locals_none q ss i (Some s) e h = rw e (section_none q ss i s (list_any q s.locals) e h refl)

no_variable : (input : Input) (name : List ℕ) (p : ℕ) → is_variable input.program name ≡ false →
    variable_named input p name ≡ None
no_variable input name p h =
    let clock = bytes_eq name (codes "TIME.V") in
    let global = list_any (bytes_eq name) input.program.globals in
    let local = list_any (λ (s : SectionTable). list_any (bytes_eq name) s.locals) input.program.sections in
    let first = or_false clock (global || local) h in
    let rest = or_false global local first.1 in
    let section = (run input p).frame.section in
    let here = locals_none (bytes_eq name) input.program.sections section (slice_get input.program.sections section)
    refl rest.1 in
    rw (
      first.0,
      no_position (bytes_eq name) input.program.globals rest.0,
      no_position (bytes_eq name) (locals_of (slice_get input.program.sections section)) here,
    ) refl

pub variables : MissingVariablesAreAnsweredSo
unfolding var_text missing_text
variables input name p h = rw (no_variable input name p h) refl

-- ---- lists

-- which it is
abbrev which : Result (List ℕ) Missing → Missing
which (Ok name) = missing.Set name
which (Err m) = m

list_by : (input : Input) (name : List ℕ) (m : Missing) (p s : ℕ) (set_owner : Owner) (owner : Option ℤ) →
    listed_by name set_owner owner ≡ Err m →
    (list_text name owner input.program (run input p) s set_owner ≡ missing_text m)
    × (list_count_text name owner input.program (run input p) s set_owner ≡ missing_text m)
unfolding missing_text
list_by input name m p s System (Some x) h = let e : missing.Owner x ≡ m = ap which h in (ap missing_text e, ap missing_text e)
list_by input name m p s System None h = absurd (cc)
list_by input name m p s (OwnedBy c) owner h = absurd (cc)

list_in : (input : Input) (name : List ℕ) (owner : Option ℤ) (m : Missing) (p : ℕ) (s : Option ℕ) →
    listed_in input.program name s owner ≡ Err m →
    (named_list_text name owner input.program (run input p) s ≡ missing_text m)
    × (named_count_text name owner input.program (run input p) s ≡ missing_text m)
unfolding missing_text
list_in input name owner m p None h = let e : missing.Set name ≡ m = ap which h in (ap missing_text e, ap missing_text e)
list_in input name owner m p (Some s) h = list_by input name m p s (set_of input.program s).owner owner h

pub lists : MissingListsAreAnsweredSo
unfolding set_text count_text
lists input name owner m p h = list_in input name owner m p (set_named input.program name) h

-- ---- classes

pub classes : MissingClassesAreAnsweredSo
unfolding entity_text attribute_text missing_text
classes input class x name p h = (rw h refl, rw h refl)

-- ---- attributes

-- whether the entities of class c have it in a set
abbrev has_maybe : SetTable → ℕ → Option Kept → Bool
has_maybe set c None = false
has_maybe set c (Some kept) = has_kept set c kept

-- by whether it begins with F., L., N., P., S. and M.
kept_by : (set : SetTable) (c : ℕ) (f l n p s m : Bool) →
    (((f || (l || n)) && is_same_owner (OwnedBy c) set.owner) || ((p || (s || m)) && (set.member == c))) ≡ false →
    has_maybe set c (if f then Some kepts.First else if l then Some kepts.Last else if n then Some kepts.Number else
    if p then Some kepts.Predecessor else if s then Some kepts.Successor else if m then Some kepts.Membership else None)
    ≡ false
kept_by set c true l n p s m h =
    (or_false (is_same_owner (OwnedBy c) set.owner) ((p || (s || m)) && (set.member == c)) h).0
kept_by set c false true n p s m h =
    (or_false (is_same_owner (OwnedBy c) set.owner) ((p || (s || m)) && (set.member == c)) h).0
kept_by set c false false true p s m h =
    (or_false (is_same_owner (OwnedBy c) set.owner) ((p || (s || m)) && (set.member == c)) h).0
kept_by set c false false false true s m h = h
kept_by set c false false false false true m h = h
kept_by set c false false false false false true h = h
kept_by set c false false false false false false h = refl

kept_has : (program : ProgramTable) (c : ℕ) (head : List ℕ) (s : ℕ) → is_kept_in program c head (Some s) ≡ false →
    has_maybe (set_of program s) c (kept_of head) ≡ false
kept_has program c head s h =
    kept_by (set_of program s) c (bytes_eq head (codes "F.")) (bytes_eq head (codes "L.")) (bytes_eq head (codes "N."))
    (bytes_eq head (codes "P.")) (bytes_eq head (codes "S.")) (bytes_eq head (codes "M.")) h

kept_in : (program : ProgramTable) (store : Store) (c k : ℕ) (set : List ℕ) (s : ℕ) (kept : Option Kept) →
    set_named program set ≡ Some s → has_maybe (set_of program s) c kept ≡ false →
    kept_named program store c k set kept ≡ None
kept_in program store c k set s None e h = refl
kept_in program store c k set s (Some kept) e h = rw (e, h) refl

no_kept_in : (program : ProgramTable) (store : Store) (c k : ℕ) (set : List ℕ) (kept : Option Kept) →
    set_named program set ≡ None → kept_named program store c k set kept ≡ None
no_kept_in program store c k set None e = refl
no_kept_in program store c k set (Some kept) e = rw e refl

no_kept : (program : ProgramTable) (store : Store) (c k : ℕ) (head set : List ℕ) (s : Option ℕ) →
    set_named program set ≡ s → is_kept_in program c head s ≡ false →
    kept_named program store c k set (kept_of head) ≡ None
no_kept program store c k head set None e h = no_kept_in program store c k set (kept_of head) e
no_kept program store c k head set (Some s) e h =
    kept_in program store c k set s (kept_of head) e (kept_has program c head s h)

no_attribute : (program : ProgramTable) (store : Store) (c k : ℕ) (name : List ℕ) →
    has_attribute program c name ≡ false → attribute_named program store c k name ≡ None
no_attribute program store c k name h =
    let both = or_false (list_any (bytes_eq name) (class_of program c).attributes)
    (is_kept_in program c (take 2 name) (set_named program (drop 2 name))) h in
    rw (no_position (bytes_eq name) (class_of program c).attributes both.0)
    (no_kept program store c k (take 2 name) (drop 2 name) (set_named program (drop 2 name)) refl both.1)

pub attributes : MissingAttributesAreAnsweredSo
unfolding attribute_text missing_text
attributes input class x name c p e h there =
    rw (e, there, no_attribute input.program (run input p).store c (number_of x) name h) refl
