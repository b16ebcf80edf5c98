-- If both sides of a step look the same, and it touches no other part, the answer is the same.
use Rattle.std.proofs.Common.{◌≡◌, ℕ, zero, suc, ◌+◌, ◌<◌, ℤ, pos, List}
use Rattle.std.proofs.Common.{[], ◌∷◌, ◌++◌, Bool, true, false, Option, Some, None}
use Rattle.std.proofs.Common.{refl, sym, ap, ◌∙◌, arith, length, map, slice_get, unwrap_or}
use Rattle.std.specs.Prelude.{option_map, is_some, take, drop, codes, slice_index_or, ◌==◌, ◌&&◌, position, bytes_eq}
use Rattle.std.specs.Prelude.{if◌then◌else◌}
use Rattle.std.specs.List.{range_with_len}
use Rattle.std.specs.Option.{option_or}
use Rattle.std.specs.Result.{result_unwrap_or}
use Rattle.std.specs.Ordering.{int_eq}
use Rattle.std.specs.Fmt.{signed_decimal}
use Rattle.std.proofs.lemmas.Bool.{eqb-true}
use Rattle.std.proofs.lemmas.Bool.Decides.{Decides-int_eq}
use Rattle.ss_program.specs.declared.kinds.Owner.{Owner}
use Rattle.ss_program.specs.declared.kinds.Owner.TheVariants.{System, OwnedBy}
use Rattle.ss_program.specs.declared.variable.Variable.{Variable}
use Rattle.ss_program.specs.declared.variable.Variable.TheVariants as variables
use Rattle.ss_program.specs.Program.{ProgramTable, class_of, set_of, locals_of}
use Rattle.ss_store.proofs.Core.{some_eq}
use Rattle.ss_store.specs.Tables.{set_shape, no_set}
use Rattle.ss_store.specs.Store.{Entity, Store, entity, exists, attribute_of, list_by, list_number, members_of}
use Rattle.ss_store.specs.Store.{number_of}
use Rattle.ss_state.specs.declared.entry.Entry.{Entry}
use Rattle.ss_state.specs.declared.entry.Entry.TheVariants as entries
use Rattle.ss_state.specs.Readings.{variable_in}
use Rattle.ss_state.specs.State.{State}
use Rattle.ss_state.specs.Run.{Input, run}
use Rattle.ss_debug.specs.declared.commands.Question.TheVariants as shown
use Rattle.ss_debug.specs.Answer.{clock_text, var_text, value_line, variable_named, taken_text, entry_text}
use Rattle.ss_debug.specs.Entities.{set_text, named_list_text, list_text, owned_list_text, no_entity_text, shape_of}
use Rattle.ss_debug.specs.Entities.{class_named, set_named}
use Rattle.ss_debug.proofs.Tables.{set_within}
use Rattle.ss_trace.specs.declared.question.Question.{Question}
use Rattle.ss_trace.specs.declared.question.Question.TheVariants.{Shown, Attribute, Count}
use Rattle.ss_trace.specs.declared.attribute.Kept.{Kept}
use Rattle.ss_trace.specs.declared.sight.Sight.TheVariants as sights
use Rattle.ss_trace.specs.declared.glance.Glance.{Glance}
use Rattle.ss_trace.specs.declared.glance.Glance.TheVariants.{Number, Amount, Entry as EntryThere, Members}
use Rattle.ss_trace.specs.declared.touches.Part.TheVariants.{Lists}
use Rattle.ss_trace.specs.Question.{answer_at, attribute_text, class_attribute_text, attribute_line, attribute_or_kept}
use Rattle.ss_trace.specs.Question.{kept_named, kept_in_set, kept_of, has_kept}
use Rattle.ss_trace.specs.Question.{kept_value, count_text, named_count_text, list_count_text}
use Rattle.ss_trace.specs.Question.{owned_count_text}
use Rattle.ss_trace.specs.Sight.{glance_of, glance_at, global_or_local, sight_of_class}
use Rattle.ss_trace.specs.Sight.{sight_of_attribute, sight_of_kept, sight_of_set}
use Rattle.ss_trace.specs.Sight.{sight_of_list, members_seen, members_counted}
use Rattle.ss_trace.specs.Sight.{is_same_number, is_same_count, is_same_entry, is_same_glance}
use Rattle.ss_trace.specs.declared.touches.Touch.TheVariants.{Nothing}
use Rattle.ss_trace.specs.Touches.{touched_at, part_of}
use Rattle.ss_trace.proofs.Counting.{HasCounted}
use Rattle.ss_trace.proofs.SameNumbers.{entity_next}
use Rattle.ss_trace.proofs.Skips.{lists_counted, events_left, report_left}

-- ---- the values of a glance

abbrev number_in : Glance → Option ℤ
number_in (Number x) = x
number_in _ = None

abbrev amount_in : Glance → ℕ
amount_in (Amount n) = n
amount_in _ = 0

abbrev entry_in : Glance → Entry
entry_in (EntryThere e) = e
entry_in _ = entries.Absent

abbrev owner_in : Glance → ℤ
owner_in (Members x n) = x
owner_in _ = pos 0

abbrev count_in : Glance → Option ℕ
count_in (Members x n) = n
count_in _ = None

-- ---- two glances that are the same are equal

both : (b c : Bool) → (b && c) ≡ true → (b ≡ true) × (c ≡ true)
both true c e = (refl, e)
both false c e = absurd (cc)

same_number : (x y : Option ℤ) → is_same_number x y ≡ true → x ≡ y
same_number None None e = refl
same_number (Some x) (Some y) e = ap Some ((Decides-int_eq x y).0 e)
same_number None (Some y) e = absurd (cc)
same_number (Some x) None e = absurd (cc)

same_count : (n m : Option ℕ) → is_same_count n m ≡ true → n ≡ m
same_count None None e = refl
same_count (Some n) (Some m) e = ap Some (eqb-true n m e)
same_count None (Some m) e = absurd (cc)
same_count (Some n) None e = absurd (cc)

same_entry : (e f : Entry) → is_same_entry e f ≡ true → e ≡ f
same_entry entries.Absent entries.Absent h = refl
same_entry entries.Absent (entries.Waiting d j) h = absurd (cc)
same_entry entries.Absent (entries.Running d j) h = absurd (cc)
same_entry (entries.Waiting c k) entries.Absent h = absurd (cc)
same_entry (entries.Waiting c k) (entries.Running d j) h = absurd (cc)
same_entry (entries.Running c k) entries.Absent h = absurd (cc)
same_entry (entries.Running c k) (entries.Waiting d j) h = absurd (cc)
same_entry (entries.Waiting c k) (entries.Waiting d j) h =
    let b = both (c == d) (k == j) h in rw (eqb-true c d b.0, eqb-true k j b.1) refl
same_entry (entries.Running c k) (entries.Running d j) h =
    let b = both (c == d) (k == j) h in rw (eqb-true c d b.0, eqb-true k j b.1) refl

pub same_is : (a b : Glance) → is_same_glance a b ≡ true → a ≡ b
same_is (Number x) (Number y) h = ap Number (same_number x y h)
same_is (Amount n) (Amount m) h = ap Amount (eqb-true n m h)
same_is (EntryThere e) (EntryThere f) h = ap EntryThere (same_entry e f h)
same_is (Members x n) (Members y m) h =
    let b = both (int_eq x y) (is_same_count n m) h in
    rw ((Decides-int_eq x y).0 b.0, same_count n m b.1) refl
same_is (Number x) (Amount m) h = absurd (cc)
same_is (Number x) (EntryThere f) h = absurd (cc)
same_is (Number x) (Members y m) h = absurd (cc)
same_is (Amount n) (Number y) h = absurd (cc)
same_is (Amount n) (EntryThere f) h = absurd (cc)
same_is (Amount n) (Members y m) h = absurd (cc)
same_is (EntryThere e) (Number y) h = absurd (cc)
same_is (EntryThere e) (Amount m) h = absurd (cc)
same_is (EntryThere e) (Members y m) h = absurd (cc)
same_is (Members x n) (Number y) h = absurd (cc)
same_is (Members x n) (Amount m) h = absurd (cc)
same_is (Members x n) (EntryThere f) h = absurd (cc)

-- ---- a variable

abbrev told : List ℕ → Option ℤ → List ℕ
told name (Some z) = name ++ codes " = " ++ signed_decimal z ++ 10 ∷ []
told name None = codes "NO VARIABLE " ++ name ++ 10 ∷ []

line_is : (t : Input) (p : ℕ) (name : List ℕ) (v : Option Variable) →
    value_line t p name v ≡ told name (option_map (variable_in (run t p)) v)
line_is t p name None = refl
line_is t p name (Some v) = refl

local_is : (s : State) (l : Option ℕ) →
    option_map (λ i. slice_index_or s.frame.locals i (pos 0)) l
    ≡ option_map (variable_in s) (option_map variables.Local l)
local_is s None = refl
local_is s (Some i) = refl

value_seen_by : (t : Input) (p : ℕ) (name : List ℕ) (b : Bool) (o : Option ℕ) →
    glance_of t.program (run t p) (Shown (shown.Variable name)) (if b then sights.Clock else global_or_local o)
    ≡ Number (option_map (variable_in (run t p)) (if b then Some variables.Clock
    else option_or (option_map variables.Global o) (option_map variables.Local (position (bytes_eq name)
    (locals_of (slice_get t.program.sections (run t p).frame.section))))))
value_seen_by t p name true o = refl
value_seen_by t p name false (Some i) = refl
value_seen_by t p name false None = ap Number (local_is (run t p) _)

value_seen : (t : Input) (p : ℕ) (name : List ℕ) →
    glance_at t (Shown (shown.Variable name)) p ≡ Number (option_map (variable_in (run t p)) (variable_named t p name))
value_seen t p name =
    value_seen_by t p name (bytes_eq name (codes "TIME.V")) (position (bytes_eq name) t.program.globals)

variable_left : (t : Input) (name : List ℕ) (p q : ℕ) →
    glance_at t (Shown (shown.Variable name)) q ≡ glance_at t (Shown (shown.Variable name)) p →
    var_text name t q ≡ var_text name t p
unfolding var_text
variable_left t name p q g =
    let same = ap number_in (sym (value_seen t q name) ∙ g ∙ value_seen t p name) in
    line_is t q name (variable_named t q name) ∙ ap (told name) same ∙ sym (line_is t p name (variable_named t p name))

-- ---- an attribute

lined : (class : List ℕ) (x : ℤ) (name : List ℕ) (b c : Bool) (y z : ℤ) →
    (if b then Some y else None) ≡ (if c then Some z else None) →
    (if b then attribute_line name (Some y) else no_entity_text class x)
    ≡ (if c then attribute_line name (Some z) else no_entity_text class x)
lined class x name true true y z e = ap (λ (v : ℤ). attribute_line name (Some v)) (some_eq e)
lined class x name false false y z e = refl
lined class x name true false y z e = absurd (cc)
lined class x name false true y z e = absurd (cc)

unlined : (class : List ℕ) (x : ℤ) (name : List ℕ) (b c : Bool) →
    (if b then Some (pos 0) else None) ≡ (if c then Some (pos 0) else None) →
    (if b then attribute_line name None else no_entity_text class x)
    ≡ (if c then attribute_line name None else no_entity_text class x)
unlined class x name true true e = refl
unlined class x name false false e = refl
unlined class x name true false e = absurd (cc)
unlined class x name false true e = absurd (cc)

abbrev kept_by : ProgramTable → Store → ℕ → ℕ → Option Kept → Option ℕ → Option ℤ
kept_by p st c k None o = None
kept_by p st c k (Some kept) o = kept_in_set p st c k kept o

kept_is : (p : ProgramTable) (st : Store) (c k : ℕ) (set : List ℕ) (o : Option Kept) →
    kept_named p st c k set o ≡ kept_by p st c k o (set_named p set)
kept_is p st c k set None = refl
kept_is p st c k set (Some kept) = refl

-- the line of a value, or that there is no such entity
abbrev lined_if : List ℕ → ℤ → List ℕ → Bool → Option ℤ → List ℕ
lined_if class x name b v = if b then attribute_line name v else no_entity_text class x

set_kept_left : (p : ProgramTable) (s u : State) (class : List ℕ) (x : ℤ) (name : List ℕ) (c n : ℕ) (q : Question)
    (k : Kept) (b : Bool) →
    glance_of p u q (if b then sights.Kept c n k x else sights.Living c x)
    ≡ glance_of p s q (if b then sights.Kept c n k x else sights.Living c x) →
    lined_if class x name (exists u.store c (number_of x))
    (if b then Some (pos (kept_value (shape_of p n) u.store (number_of x) k)) else None)
    ≡ lined_if class x name (exists s.store c (number_of x))
    (if b then Some (pos (kept_value (shape_of p n) s.store (number_of x) k)) else None)
set_kept_left p s u class x name c n q k true g =
    lined class x name (exists u.store c (number_of x)) (exists s.store c (number_of x))
    (pos (kept_value (shape_of p n) u.store (number_of x) k)) (pos (kept_value (shape_of p n) s.store (number_of x) k))
    (ap number_in g)
set_kept_left p s u class x name c n q k false g =
    unlined class x name (exists u.store c (number_of x)) (exists s.store c (number_of x)) (ap number_in g)

kept_left : (p : ProgramTable) (s u : State) (class : List ℕ) (x : ℤ) (name : List ℕ) (c : ℕ) (q : Question)
    (k : Option Kept) (o : Option ℕ) → glance_of p u q (sight_of_kept p c x k o) ≡ glance_of p s q (sight_of_kept p c x k o) →
    lined_if class x name (exists u.store c (number_of x)) (kept_by p u.store c (number_of x) k o)
    ≡ lined_if class x name (exists s.store c (number_of x)) (kept_by p s.store c (number_of x) k o)
kept_left p s u class x name c q None o g =
    unlined class x name (exists u.store c (number_of x)) (exists s.store c (number_of x)) (ap number_in g)
kept_left p s u class x name c q (Some k) None g =
    unlined class x name (exists u.store c (number_of x)) (exists s.store c (number_of x)) (ap number_in g)
kept_left p s u class x name c q (Some k) (Some n) g =
    set_kept_left p s u class x name c n q k (has_kept (set_of p n) c k) g

attribute_left : (p : ProgramTable) (s u : State) (class : List ℕ) (x : ℤ) (name : List ℕ) (c : ℕ) (q : Question)
    (a : Option ℕ) → glance_of p u q (sight_of_attribute p c x name a) ≡ glance_of p s q (sight_of_attribute p c x name a) →
    lined_if class x name (exists u.store c (number_of x)) (attribute_or_kept p u.store c (number_of x) name a)
    ≡ lined_if class x name (exists s.store c (number_of x)) (attribute_or_kept p s.store c (number_of x) name a)
attribute_left p s u class x name c q (Some a) g =
    lined class x name (exists u.store c (number_of x)) (exists s.store c (number_of x))
    (result_unwrap_or (attribute_of u.store c a (number_of x)) (pos 0))
    (result_unwrap_or (attribute_of s.store c a (number_of x)) (pos 0)) (ap number_in g)
attribute_left p s u class x name c q None g =
    let new = kept_is p u.store c (number_of x) (drop 2 name) (kept_of (take 2 name)) in
    let old = kept_is p s.store c (number_of x) (drop 2 name) (kept_of (take 2 name)) in
    ap (λ (o : Option ℤ). lined_if class x name (exists u.store c (number_of x)) o) new
    ∙ kept_left p s u class x name c q (kept_of (take 2 name)) (set_named p (drop 2 name)) g
    ∙ sym (ap (λ (o : Option ℤ). lined_if class x name (exists s.store c (number_of x)) o) old)

class_left : (p : ProgramTable) (s u : State) (class : List ℕ) (x : ℤ) (name : List ℕ) (q : Question) (o : Option ℕ) →
    glance_of p u q (sight_of_class p x name o) ≡ glance_of p s q (sight_of_class p x name o) →
    class_attribute_text class x name p u.store o ≡ class_attribute_text class x name p s.store o
class_left p s u class x name q None g = refl
class_left p s u class x name q (Some c) g =
    attribute_left p s u class x name c q (position (bytes_eq name) (class_of p c).attributes) g

attribute_text_left : (t : Input) (class : List ℕ) (x : ℤ) (name : List ℕ) (p q : ℕ) →
    glance_at t (Attribute class x name) q ≡ glance_at t (Attribute class x name) p →
    attribute_text class x name t q ≡ attribute_text class x name t p
unfolding attribute_text
attribute_text_left t class x name p q g =
    class_left t.program (run t p) (run t q) class x name (Attribute class x name) (class_named t.program class) g

-- ---- a list

get_range : {X : Type 0} (f : ℕ → X) (a n i : ℕ) → i < n → slice_get (map f (range_with_len a n)) i ≡ Some (f (a + i))
get_range f a zero i h = absurd (omega (arith, h))
get_range f a (suc n) zero h = let same : a ≡ a + 0 = omega arith in ap (λ k. Some (f k)) same
get_range f a (suc n) (suc i) h =
    let same : a + 1 + i ≡ a + suc i = omega arith in
    get_range f (a + 1) n i (omega (arith, h)) ∙ ap (λ k. Some (f k)) same

-- a set as the store has it
pub shape_is : (p : ProgramTable) (s : ℕ) → s < length p.sets → shape_of p s ≡ set_shape p s
shape_is p s h =
    let same : 0 + s ≡ s = omega arith in
    ap (λ o. unwrap_or o no_set)
    (get_range (set_shape p) 0 (length p.sets) s h ∙ ap (λ k. Some (set_shape p k)) same)

owner_is : (p : ProgramTable) (n : ℕ) (w : Owner) → n < length p.sets → (set_of p n).owner ≡ w →
    (shape_of p n).owner ≡ w
owner_is p n w h e = rw (shape_is p n h) e

there : (n : ℕ) (o : Option Entity) →
    is_some o ≡ is_some (option_map length (option_map (λ (e : Entity). list_number e.owned n) o))
there n None = refl
there n (Some e) = refl

pub exists_is : (w : Owner) (c n k : ℕ) (st : Store) → w ≡ OwnedBy c →
    exists st c k ≡ is_some (option_map length (list_by w n st k))
exists_is w c n k st e = rw e (there n (entity st c k))

-- the owner exists in both, or in none
owner_left : (p : ProgramTable) (st new : Store) (n c k : ℕ) → n < length p.sets → (set_of p n).owner ≡ OwnedBy c →
    members_counted (shape_of p n) new k ≡ members_counted (shape_of p n) st k → exists new c k ≡ exists st c k
owner_left p st new n c k h e g =
    let w = owner_is p n (OwnedBy c) h e in
    exists_is (shape_of p n).owner c (shape_of p n).list k new w ∙ ap is_some g
    ∙ sym (exists_is (shape_of p n).owner c (shape_of p n).list k st w)

unwrapped : (o : Option (List ℕ)) → length (unwrap_or o []) ≡ unwrap_or (option_map length o) 0
unwrapped None = refl
unwrapped (Some ks) = refl

length_left : (p : ProgramTable) (st new : Store) (n k : ℕ) →
    members_counted (shape_of p n) new k ≡ members_counted (shape_of p n) st k →
    length (members_of (shape_of p n) new k) ≡ length (members_of (shape_of p n) st k)
length_left p st new n k g =
    unwrapped (list_by (shape_of p n).owner (shape_of p n).list new k) ∙ ap (λ (o : Option ℕ). unwrap_or o 0) g
    ∙ sym (unwrapped (list_by (shape_of p n).owner (shape_of p n).list st k))

members_left : (p : ProgramTable) (st new : Store) (n k : ℕ) → HasCounted st new →
    members_counted (shape_of p n) new k ≡ members_counted (shape_of p n) st k →
    members_of (shape_of p n) new k ≡ members_of (shape_of p n) st k
members_left p st new n k h g =
    ap (λ (o : Option (List ℕ)). unwrap_or o []) (h.each (shape_of p n).owner (shape_of p n).list k g)

-- ---- COUNT

owned_count_left : (name : List ℕ) (p : ProgramTable) (st new : Store) (n c : ℕ) (x y : ℤ) → n < length p.sets →
    (set_of p n).owner ≡ OwnedBy c → members_seen p new n y ≡ members_seen p st n x →
    owned_count_text name p new n c y ≡ owned_count_text name p st n c x
owned_count_left name p st new n c x y h e g =
    let same : y ≡ x = ap owner_in g in
    let count = rw same at (ap count_in g) in
    let alive = owner_left p st new n c (number_of x) h e count in
    let long = length_left p st new n (number_of x) count in
    rw (same, alive, long) refl

list_count_left : (name : List ℕ) (owner : Option ℤ) (p : ProgramTable) (s u : State) (n : ℕ) (w : Owner)
    (q : Question) →
    n < length p.sets → (set_of p n).owner ≡ w →
    glance_of p u q (sight_of_list p n owner w) ≡ glance_of p s q (sight_of_list p n owner w) →
    list_count_text name owner p u n w ≡ list_count_text name owner p s n w
list_count_left name None p s u n System q h e g =
    let long = length_left p s.store u.store n 0 (ap count_in g) in rw long refl
list_count_left name (Some x) p s u n System q h e g = refl
list_count_left name None p s u n (OwnedBy c) q h e g =
    owned_count_left name p s.store u.store n c _ _ h e g
list_count_left name (Some x) p s u n (OwnedBy c) q h e g =
    owned_count_left name p s.store u.store n c x x h e g

named_count_left : (name : List ℕ) (owner : Option ℤ) (p : ProgramTable) (s u : State) (q : Question) (o : Option ℕ) →
    ((n : ℕ) → o ≡ Some n → n < length p.sets) →
    glance_of p u q (sight_of_set p owner o) ≡ glance_of p s q (sight_of_set p owner o) →
    named_count_text name owner p u o ≡ named_count_text name owner p s o
named_count_left name owner p s u q None h g = refl
named_count_left name owner p s u q (Some n) h g =
    list_count_left name owner p s u n (set_of p n).owner q (h n refl) refl g

count_left : (t : Input) (name : List ℕ) (owner : Option ℤ) (p q : ℕ) →
    glance_at t (Count name owner) q ≡ glance_at t (Count name owner) p →
    count_text name owner t q ≡ count_text name owner t p
unfolding count_text
count_left t name owner p q g =
    named_count_left name owner t.program (run t p) (run t q) (Count name owner) (set_named t.program name)
    (set_within t.program name) g

-- ---- SET

owned_list_left : (name : List ℕ) (p : ProgramTable) (st new : Store) (n c : ℕ) (x y : ℤ) → n < length p.sets →
    (set_of p n).owner ≡ OwnedBy c → HasCounted st new → members_seen p new n y ≡ members_seen p st n x →
    owned_list_text name p new n c y ≡ owned_list_text name p st n c x
owned_list_left name p st new n c x y h e k g =
    let same : y ≡ x = ap owner_in g in
    let count = rw same at (ap count_in g) in
    let alive = owner_left p st new n c (number_of x) h e count in
    let members = members_left p st new n (number_of x) k count in
    rw (same, alive, members) refl

list_left : (name : List ℕ) (owner : Option ℤ) (p : ProgramTable) (s u : State) (n : ℕ) (w : Owner) (q : Question) →
    n < length p.sets → (set_of p n).owner ≡ w → HasCounted s.store u.store →
    glance_of p u q (sight_of_list p n owner w) ≡ glance_of p s q (sight_of_list p n owner w) →
    list_text name owner p u n w ≡ list_text name owner p s n w
list_left name None p s u n System q h e k g =
    let members = members_left p s.store u.store n 0 k (ap count_in g) in rw members refl
list_left name (Some x) p s u n System q h e k g = refl
list_left name None p s u n (OwnedBy c) q h e k g = owned_list_left name p s.store u.store n c _ _ h e k g
list_left name (Some x) p s u n (OwnedBy c) q h e k g = owned_list_left name p s.store u.store n c x x h e k g

named_left : (name : List ℕ) (owner : Option ℤ) (p : ProgramTable) (s u : State) (q : Question) (o : Option ℕ) →
    ((n : ℕ) → o ≡ Some n → n < length p.sets) → HasCounted s.store u.store →
    glance_of p u q (sight_of_set p owner o) ≡ glance_of p s q (sight_of_set p owner o) →
    named_list_text name owner p u o ≡ named_list_text name owner p s o
named_left name owner p s u q None h k g = refl
named_left name owner p s u q (Some n) h k g = list_left name owner p s u n (set_of p n).owner q (h n refl) refl k g

set_left : (t : Input) (name : List ℕ) (owner : Option ℤ) (p : ℕ) → touched_at t Lists p ≡ Nothing →
    glance_at t (Shown (shown.Set name owner)) (suc p) ≡ glance_at t (Shown (shown.Set name owner)) p →
    set_text name owner t (suc p) ≡ set_text name owner t p
unfolding set_text
set_left t name owner p e g =
    named_left name owner t.program (run t p) (run t (suc p)) (Shown (shown.Set name owner)) (set_named t.program name)
    (set_within t.program name) (lists_counted t p e) g

-- ---- each question

clock_left : (t : Input) (p q : ℕ) → (run t q).clock ≡ (run t p).clock → clock_text t q ≡ clock_text t p
unfolding clock_text
clock_left t p q e = rw e refl

taken_left : (t : Input) (p q : ℕ) → (run t q).feed.taken ≡ (run t p).feed.taken → taken_text t q ≡ taken_text t p
unfolding taken_text
taken_left t p q e = rw e refl

entry_left : (t : Input) (p q : ℕ) → (run t q).entry ≡ (run t p).entry → entry_text t q ≡ entry_text t p
unfolding entry_text
entry_left t p q e = rw e refl

left : (t : Input) (x : Question) (p : ℕ) → touched_at t (part_of x) p ≡ Nothing → glance_at t x (suc p) ≡ glance_at t x p →
    answer_at t x (suc p) ≡ answer_at t x p
left t (Shown shown.Clock) p e g = clock_left t p (suc p) (some_eq (ap number_in g))
left t (Shown shown.Where) p e g = absurd (cc)
left t (Shown (shown.Variable name)) p e g = variable_left t name p (suc p) g
left t (Shown (shown.Entity name x)) p e g = entity_next t name x p e
left t (Shown (shown.Set name owner)) p e g = set_left t name owner p e g
left t (Shown shown.Events) p e g = events_left t p e
left t (Shown shown.Taken) p e g = taken_left t p (suc p) (ap amount_in g)
left t (Shown shown.Entry) p e g = entry_left t p (suc p) (ap entry_in g)
left t (Shown shown.Report) p e g = report_left t p (ap amount_in g)
left t (Attribute class x name) p e g = attribute_text_left t class x name p (suc p) g
left t (Count name owner) p e g = count_left t name owner p (suc p) g

-- the answer is the same one position further, if the glance is the same
pub unseen : (t : Input) (x : Question) (p q : ℕ) → q ≡ p + 1 → touched_at t (part_of x) p ≡ Nothing →
    glance_at t x q ≡ glance_at t x p → answer_at t x q ≡ answer_at t x p
unseen t x p q h e g =
    let next : q ≡ suc p = omega (arith, h) in
    rw next (left t x p e (rw next at g))
