-- If all that a step may have changed of an entity agrees with its numbers, all its numbers are the
-- same.
use Rattle.std.proofs.Common.{◌≡◌, ℕ, ℤ, zero, suc, ◌+◌, ◌<◌, pos, List, [], ◌∷◌, Bool, true, false}
use Rattle.std.proofs.Common.{refl, sym, ap, ◌∙◌, arith, length}
use Rattle.std.proofs.Common.{nat_lt}
use Rattle.std.specs.Prelude.{not, ◌==◌, ◌&&◌, if◌then◌else◌, Option, None, Some, option_map, unwrap_or, slice_index_or}
use Rattle.std.specs.Result.{result_unwrap_or}
use Rattle.std.proofs.lemmas.Bool.{eqb-true}
use borrow.Author.Tests.{ltb-true}
use Rattle.ss_program.specs.Program.{ProgramTable, class_of}
use Rattle.ss_store.specs.Store.{Entity, Store, entity, exists, attribute_in, attributes_of}
use Rattle.ss_store.specs.Store.{number_of}
use Rattle.ss_state.specs.Run.{Input, run}
use Rattle.ss_state.specs.State.{State}
use Rattle.ss_debug.specs.Entities.{shape_of}
use Rattle.ss_debug.specs.declared.commands.Question.TheVariants as shown
use Rattle.ss_trace.specs.declared.question.Question.{Question}
use Rattle.ss_trace.specs.declared.question.Question.TheVariants.{Shown, Attribute as AttributeOf, Count}
use Rattle.ss_trace.specs.declared.sight.Sight.{Sight}
use Rattle.ss_trace.specs.declared.sight.Sight.TheVariants as sights
use Rattle.ss_trace.specs.declared.touches.Part.TheVariants as parts
use Rattle.ss_trace.specs.declared.touches.Touch.{Touch}
use Rattle.ss_trace.specs.declared.touches.Touch.TheVariants.{Nothing, Attribute, Attributes, Set, Entities, Anything}
use Rattle.ss_trace.specs.Sight.{sight_of}
use Rattle.ss_trace.specs.Touches.{touched_at, part_of}
use Rattle.ss_trace.specs.EntityNumbers.{attribute_number, attribute_numbers, set_numbers}
use Rattle.ss_trace.specs.EntityNumbers.{entity_numbers, living_numbers, numbers_there, numbers_at}
use Rattle.ss_trace.specs.Told.{tells, tells_attribute, tells_attributes, set_place, tells_set}
use Rattle.ss_trace.specs.Told.{tells_sets, tells_touched, tells_entity, is_told, is_told_at}
use Rattle.ss_trace.proofs.Leaving.{touches_there, touches_value, touches_list, Leaves, LeavesIf, turned_if, run_leaves}
use Rattle.ss_trace.proofs.NumberPlaces.{both, clash, at_by, below_same, attribute_at, is_number}
use Rattle.ss_trace.proofs.OneSet.{one_set}
use Rattle.ss_trace.proofs.SetTellings.{set_left, set_told}

-- ---- attributes

each_told : (st : Store) (c k : ℕ) (xs : List ℤ) (n a : ℕ) → tells_attributes st c k xs n ≡ true → a < n →
    tells_attribute st c k xs a ≡ true
each_told st c k xs zero a e h = absurd (omega (arith, h))
each_told st c k xs (suc n) a e h =
    let b = both (tells_attributes st c k xs n) (tells_attribute st c k xs n) e in
    at_by (nat_lt a n) a n refl (λ l. each_told st c k xs n a b.0 l) (λ l. rw l b.1) h

-- one attribute more that agrees, and one that does not
each_more : (st : Store) (c k : ℕ) (xs : List ℤ) (n m : ℕ) → m ≡ n + 1 → tells_attributes st c k xs n ≡ true →
    tells_attribute st c k xs n ≡ true → tells_attributes st c k xs m ≡ true
each_more st c k xs n m i e f = let next : m ≡ suc n = omega (arith, i) in rw (next, e, f) refl

-- those facts, with all attributes read at once
number_at : (o : Option Entity) (a : ℕ) →
    result_unwrap_or (attribute_in a o) (pos 0)
    ≡ slice_index_or (unwrap_or (option_map (λ (e : Entity). e.attributes) o) []) a (pos 0)
number_at None zero = refl
number_at None (suc a) = refl
number_at (Some e) a = refl

pub value_more : (st : Store) (c k : ℕ) (xs vs : List ℤ) (n m : ℕ) → vs ≡ unwrap_or (attributes_of st c k) [] →
    m ≡ n + 1 → tells_attributes st c k xs n ≡ true → tells xs n (slice_index_or vs n (pos 0)) ≡ true →
    tells_attributes st c k xs m ≡ true
value_more st c k xs vs n m i j e f =
    each_more st c k xs n m j e (ap (tells xs n) (number_at (entity st c k) n
    ∙ ap (λ (z : List ℤ). slice_index_or z n (pos 0)) (sym i)) ∙ f)

not_so : (b : Bool) → (b ≡ true → ⊥) → b ≡ false
not_so true h = absurd (h refl)
not_so false h = refl

each_less : (st : Store) (c k : ℕ) (xs : List ℤ) (n m : ℕ) → n < m → tells_attribute st c k xs n ≡ false →
    tells_attributes st c k xs m ≡ false
each_less st c k xs n m l f =
    not_so (tells_attributes st c k xs m) (λ e. clash (sym (each_told st c k xs m n e l) ∙ f))

pub value_less : (st : Store) (c k : ℕ) (xs vs : List ℤ) (n m : ℕ) → vs ≡ unwrap_or (attributes_of st c k) [] →
    n < m → tells xs n (slice_index_or vs n (pos 0)) ≡ false → tells_attributes st c k xs m ≡ false
value_less st c k xs vs n m i l f =
    each_less st c k xs n m l (ap (tells xs n) (number_at (entity st c k) n
    ∙ ap (λ (z : List ℤ). slice_index_or z n (pos 0)) (sym i)) ∙ f)

-- an attribute that may have changed agrees
attribute_told : (p : ProgramTable) (st : Store) (c k : ℕ) (xs : List ℤ) (u : Touch) (a : ℕ) →
    a < length (class_of p c).attributes → tells_touched p st c k xs u ≡ true → touches_value u c a ≡ true →
    tells_attribute st c k xs a ≡ true
attribute_told p st c k xs Nothing a h e f = absurd (cc)
attribute_told p st c k xs (Attribute d b) a h e f =
    let t = both (d == c) (b == a) f in
    let one : (nat_lt b (length (class_of p c).attributes) && tells_attribute st c k xs b) ≡ true = rw t.0 at e in
    let same : b ≡ a = eqb-true b a t.1 in
    rw same at (both (nat_lt b (length (class_of p c).attributes)) (tells_attribute st c k xs b) one).1
attribute_told p st c k xs Attributes a h e f = each_told st c k xs (length (class_of p c).attributes) a e h
attribute_told p st c k xs (Set s) a h e f = absurd (cc)
attribute_told p st c k xs Entities a h e f =
    let b = both (exists st c k) _ e in
    let r = both (tells_attributes st c k xs (length (class_of p c).attributes)) _ b.1 in
    each_told st c k xs (length (class_of p c).attributes) a r.0 h
attribute_told p st c k xs Anything a h e f = absurd (cc)

attribute_same : (p : ProgramTable) (u : Touch) (st new : Store) (c k a : ℕ) → Leaves p u st new →
    tells_touched p st c k (entity_numbers p new c k) u ≡ true → a < length (class_of p c).attributes →
    attribute_number new c k a ≡ attribute_number st c k a
attribute_same p u st new c k a h e l = chosen (touches_value u c a) refl
  where
    chosen : (b : Bool) → touches_value u c a ≡ b → attribute_number new c k a ≡ attribute_number st c k a
    chosen true f =
        is_number (entity_numbers p new c k) a _ _ (attribute_at p new c k a l)
        (attribute_told p st c k (entity_numbers p new c k) u a l e f)
    chosen false f = h.values c k a f

each_set_told : (p : ProgramTable) (st : Store) (c k : ℕ) (xs : List ℤ) (n s : ℕ) →
    tells_sets p st c k xs n ≡ true → s < n → tells_set p st c k xs s (set_place p c s) ≡ true
each_set_told p st c k xs zero s e h = absurd (omega (arith, h))
each_set_told p st c k xs (suc n) s e h =
    let b = both (tells_sets p st c k xs n) (tells_set p st c k xs n (set_place p c n)) e in
    at_by (nat_lt s n) s n refl (λ l. each_set_told p st c k xs n s b.0 l) (λ l. rw l b.1) h

pub sets_more : (p : ProgramTable) (st : Store) (c k : ℕ) (xs : List ℤ) (n m : ℕ) → m ≡ n + 1 →
    tells_sets p st c k xs n ≡ true → tells_set p st c k xs n (set_place p c n) ≡ true → tells_sets p st c k xs m ≡ true
sets_more p st c k xs n m i e f = let next : m ≡ suc n = omega (arith, i) in rw (next, e, f) refl

pub sets_less : (p : ProgramTable) (st : Store) (c k : ℕ) (xs : List ℤ) (n m : ℕ) → n < m →
    tells_set p st c k xs n (set_place p c n) ≡ false → tells_sets p st c k xs m ≡ false
sets_less p st c k xs n m l f =
    not_so (tells_sets p st c k xs m) (λ e. clash (sym (each_set_told p st c k xs m n e l) ∙ f))

-- a set whose lists may have changed agrees
set_told_at : (p : ProgramTable) (st : Store) (c k : ℕ) (xs : List ℤ) (u : Touch) (s : ℕ) → s < length p.sets →
    tells_touched p st c k xs u ≡ true → touches_list p u (shape_of p s).owner (shape_of p s).list ≡ true →
    tells_set p st c k xs s (set_place p c s) ≡ true
set_told_at p st c k xs Nothing s l e f = absurd (cc)
set_told_at p st c k xs (Attribute d b) s l e f = absurd (cc)
set_told_at p st c k xs Attributes s l e f = absurd (cc)
set_told_at p st c k xs (Set n) s l e f =
    let b = both (nat_lt n (length p.sets)) (tells_set p st c k xs n (set_place p c n)) e in
    let same : n ≡ s = one_set p n s (omega (arith, ltb-true _ _ b.0)) l f in
    rw same at b.1
set_told_at p st c k xs Entities s l e f =
    let b = both (exists st c k) _ e in
    let r = both (tells_attributes st c k xs (length (class_of p c).attributes)) _ b.1 in
    each_set_told p st c k xs (length p.sets) s r.1 l
set_told_at p st c k xs Anything s l e f = absurd (cc)

set_same : (p : ProgramTable) (u : Touch) (st new : Store) (c k s : ℕ) → Leaves p u st new →
    exists new c k ≡ exists st c k → tells_touched p st c k (entity_numbers p new c k) u ≡ true → s < length p.sets →
    set_numbers p new c k s ≡ set_numbers p st c k s
set_same p u st new c k s h t e l = chosen (touches_list p u (shape_of p s).owner (shape_of p s).list) refl
  where
    chosen : (b : Bool) → touches_list p u (shape_of p s).owner (shape_of p s).list ≡ b →
        set_numbers p new c k s ≡ set_numbers p st c k s
    chosen true f =
        set_told p u st new c k s h t l (set_told_at p st c k (entity_numbers p new c k) u s l e f)
    chosen false f = set_left p u st new c k s h f

-- ---- an entity

entity_same : (p : ProgramTable) (u : Touch) (st new : Store) (c k : ℕ) → Leaves p u st new →
    exists new c k ≡ exists st c k → tells_touched p st c k (entity_numbers p new c k) u ≡ true →
    entity_numbers p new c k ≡ entity_numbers p st c k
entity_same p u st new c k h t e =
    let attributes =
    below_same (attribute_numbers new c k) (attribute_numbers st c k) (length (class_of p c).attributes) (λ a l.
    ap (λ (x : ℤ). x ∷ []) (attribute_same p u st new c k a h e l)) in
    let sets =
    below_same (set_numbers p new c k) (set_numbers p st c k) (length p.sets) (λ s l.
    set_same p u st new c k s h t e l) in
    rw (attributes, sets) refl

not_true : (b : Bool) → not b ≡ true → b ≡ false
not_true true e = absurd (cc)
not_true false e = refl

-- it is there if its numbers say so
is_told_there : (p : ProgramTable) (st : Store) (c k : ℕ) (xs : List ℤ) (u : Touch) →
    touches_there u ≡ true → tells_touched p st c k xs u ≡ true → exists st c k ≡ true
is_told_there p st c k xs Nothing f e = absurd (cc)
is_told_there p st c k xs (Attribute d a) f e = absurd (cc)
is_told_there p st c k xs Attributes f e = absurd (cc)
is_told_there p st c k xs (Set s) f e = absurd (cc)
is_told_there p st c k xs Entities f e = (both (exists st c k) _ e).0
is_told_there p st c k xs Anything f e = absurd (cc)

is_told_absent : (p : ProgramTable) (st : Store) (c k : ℕ) (u : Touch) → touches_there u ≡ true →
    tells_entity p st c k [] u ≡ true → exists st c k ≡ false
is_told_absent p st c k Nothing f e = absurd (cc)
is_told_absent p st c k (Attribute d a) f e = absurd (cc)
is_told_absent p st c k Attributes f e = absurd (cc)
is_told_absent p st c k (Set s) f e = absurd (cc)
is_told_absent p st c k Entities f e = not_true (exists st c k) e
is_told_absent p st c k Anything f e = absurd (cc)

there_by : (p : ProgramTable) (u : Touch) (st new : Store) (c k : ℕ) (t b : Bool) → Leaves p u st new →
    touches_there u ≡ t → exists new c k ≡ b →
    tells_entity p st c k (if b then pos 1 ∷ entity_numbers p new c k else []) u ≡ true → exists st c k ≡ b
there_by p u st new c k false b h f g e = sym (h.there c k f) ∙ g
there_by p u st new c k true true h f g e = is_told_there p st c k (entity_numbers p new c k) u f e
there_by p u st new c k true false h f g e = is_told_absent p st c k u f e

numbers_by : (p : ProgramTable) (u : Touch) (st new : Store) (c k : ℕ) (b d : Bool) → Leaves p u st new →
    exists new c k ≡ b → exists st c k ≡ d → d ≡ b →
    tells_entity p st c k (if b then pos 1 ∷ entity_numbers p new c k else []) u ≡ true →
    (if b then pos 1 ∷ entity_numbers p new c k else []) ≡ (if d then pos 1 ∷ entity_numbers p st c k else [])
numbers_by p u st new c k true true h f g i e =
    ap (λ (xs : List ℤ). pos 1 ∷ xs) (entity_same p u st new c k h (f ∙ sym g) e)
numbers_by p u st new c k false false h f g i e = refl
numbers_by p u st new c k true false h f g i e = absurd (clash (sym i))
numbers_by p u st new c k false true h f g i e = absurd (clash i)

living_same : (p : ProgramTable) (u : Touch) (st new : Store) (c k : ℕ) → Leaves p u st new →
    tells_entity p st c k (living_numbers p new c k) u ≡ true → living_numbers p new c k ≡ living_numbers p st c k
living_same p u st new c k h e =
    numbers_by p u st new c k (exists new c k) (exists st c k) h refl refl
    (there_by p u st new c k (touches_there u) (exists new c k) h refl refl e) e

never_told : (p : ProgramTable) (st : Store) (c k : ℕ) (xs : List ℤ) → tells_entity p st c k xs Anything ≡ false
never_told p st c k [] = refl
never_told p st c k (x ∷ xs) = refl

-- the numbers of one store, compared with the other
told : (p : ProgramTable) (u : Touch) (st new : Store) (c k : ℕ) → LeavesIf p u st new →
    tells_entity p st c k (living_numbers p new c k) u ≡ true → living_numbers p new c k ≡ living_numbers p st c k
told p Nothing st new c k h e = living_same p Nothing st new c k h e
told p (Attribute d a) st new c k h e = living_same p (Attribute d a) st new c k h e
told p Attributes st new c k h e = living_same p Attributes st new c k h e
told p (Set s) st new c k h e = living_same p (Set s) st new c k h e
told p Entities st new c k h e = living_same p Entities st new c k h e
told p Anything st new c k h e =
    absurd (clash (sym e ∙ never_told p st c k (living_numbers p new c k)))

there_told : (p : ProgramTable) (u : Touch) (s r : State) (sight : Sight) → LeavesIf p u s.store r.store →
    is_told parts.Entities sight p s.store (numbers_there p r sight) u ≡ true →
    numbers_there p r sight ≡ numbers_there p s sight
there_told p u s r (sights.Entity c x) h e = told p u s.store r.store c (number_of x) h e
there_told p u s r sights.Nothing h e = refl
there_told p u s r sights.Clock h e = refl
there_told p u s r (sights.Global i) h e = refl
there_told p u s r sights.Local h e = refl
there_told p u s r sights.Taken h e = refl
there_told p u s r sights.Entry h e = refl
there_told p u s r sights.Report h e = refl
there_told p u s r (sights.Living c x) h e = refl
there_told p u s r (sights.Attribute c a x) h e = refl
there_told p u s r (sights.Kept c n k x) h e = refl
there_told p u s r (sights.Members n x) h e = refl
there_told p u s r (sights.MembersNamed n i) h e = refl

-- ---- both ways

numbers_back : (t : Input) (x : Question) (p : ℕ) →
    is_told_at t x (numbers_at t x (suc p)) (touched_at t (part_of x) p) p ≡ true →
    numbers_at t x (suc p) ≡ numbers_at t x p
numbers_back t (Shown shown.Clock) p h = refl
numbers_back t (Shown shown.Where) p h = refl
numbers_back t (Shown (shown.Variable name)) p h = refl
numbers_back t (Shown (shown.Entity name x)) p h =
    there_told t.program (touched_at t parts.Entities p) (run t p) (run t (suc p))
    (sight_of t.program (Shown (shown.Entity name x))) (run_leaves t p) h
numbers_back t (Shown (shown.Set name owner)) p h = refl
numbers_back t (Shown shown.Events) p h = refl
numbers_back t (Shown shown.Taken) p h = refl
numbers_back t (Shown shown.Entry) p h = refl
numbers_back t (Shown shown.Report) p h = refl
numbers_back t (AttributeOf class x name) p h = refl
numbers_back t (Count name owner) p h = refl

numbers_on : (t : Input) (x : Question) (p : ℕ) →
    is_told_at t x (numbers_at t x p) (touched_at t (part_of x) p) (suc p) ≡ true →
    numbers_at t x p ≡ numbers_at t x (suc p)
numbers_on t (Shown shown.Clock) p h = refl
numbers_on t (Shown shown.Where) p h = refl
numbers_on t (Shown (shown.Variable name)) p h = refl
numbers_on t (Shown (shown.Entity name x)) p h =
    there_told t.program (touched_at t parts.Entities p) (run t (suc p)) (run t p)
    (sight_of t.program (Shown (shown.Entity name x)))
    (turned_if t.program (touched_at t parts.Entities p) (run t p).store (run t (suc p)).store (run_leaves t p)) h
numbers_on t (Shown (shown.Set name owner)) p h = refl
numbers_on t (Shown shown.Events) p h = refl
numbers_on t (Shown shown.Taken) p h = refl
numbers_on t (Shown shown.Entry) p h = refl
numbers_on t (Shown shown.Report) p h = refl
numbers_on t (AttributeOf class x name) p h = refl
numbers_on t (Count name owner) p h = refl

-- going back over the step from state p
pub told_back : (t : Input) (x : Question) (p q : ℕ) → q ≡ p + 1 →
    is_told_at t x (numbers_at t x q) (touched_at t (part_of x) p) p ≡ true → numbers_at t x q ≡ numbers_at t x p
told_back t x p q i h = let next : q ≡ suc p = omega (arith, i) in rw next (numbers_back t x p (rw next at h))

-- and forward
pub told_on : (t : Input) (x : Question) (p q : ℕ) → q ≡ p + 1 →
    is_told_at t x (numbers_at t x p) (touched_at t (part_of x) p) q ≡ true → numbers_at t x p ≡ numbers_at t x q
told_on t x p q i h = let next : q ≡ suc p = omega (arith, i) in rw next (numbers_on t x p (rw next at h))
