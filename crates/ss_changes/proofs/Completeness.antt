-- All changes of a step are shown.
use Rattle.std.proofs.Common.{◌≡◌, ◌≢◌, ℕ, zero, suc, ◌<◌, ◌≤◌, ◌==◌, ◌&&◌, ◌||◌, ◌⊎◌, inl, inr, Bool, true, false, cond, not, nat_lt}
use Rattle.std.proofs.Common.{List, [], ◌∷◌, ◌++◌, length, map, refl, sym, ap, ◌∙◌, arith, slice_index_or, Option, Some, None}
use Rattle.std.specs.Prelude.{is_some, option_map}
use Rattle.std.specs.List.{Any, filter}
use Rattle.std.proofs.lemmas.List.{get_or-map, length-map}
use Rattle.std.proofs.lemmas.Bool.Decides.{Decides-eqb, nat_tests}
use borrow.Author.Tests.{ltb-true, ltb-false}
use Rattle.ss_links.specs.Seats.{has}
use Rattle.ss_program.specs.declared.kinds.Owner.{Owner}
use Rattle.ss_program.specs.declared.kinds.Owner.TheVariants.{System, OwnedBy}
use Rattle.ss_program.specs.Program.{ProgramTable, class_of, set_of}
use Rattle.ss_store.specs.Tables.{set_shape}
use Rattle.ss_store.specs.Store.{Entity, entity, exists, attribute_in, list_by, list_number}
use Rattle.ss_events.specs.Rules.{Rule, rules_of}
use Rattle.ss_events.specs.Agenda.{Pending, pending_at, is_before, least_of, without_notice, first_notices, in_order}
use Rattle.ss_state.specs.State.{State}
use Rattle.ss_inspect.specs.Living.{living_numbers}
use Rattle.ss_inspect.proofs.LivingNumbers.{living_exist}
use Rattle.ss_inspect.proofs.Shapes.{shape_is}
use Rattle.ss_changes.specs.declared.part.Part.{Part}
use Rattle.ss_changes.specs.declared.part.Part.TheVariants as parts
use Rattle.ss_changes.specs.declared.value.PartValue.{PartValue}
use Rattle.ss_changes.specs.declared.value.PartValue.TheVariants.{Absent}
use Rattle.ss_changes.specs.Values.{is_same, is_told, is_there, needs_both, value_in, number_read, life_of, time_of, members_if}
use Rattle.ss_changes.specs.Parts.{below_of, each_of, global_part, local_part, frames_below, local_names, local_parts}
use Rattle.ss_changes.specs.Parts.{attribute_part, attributes_of, attribute_parts, entity_part, entities_in, absent_in}
use Rattle.ss_changes.specs.Parts.{entity_parts, list_part, owners_in, list_parts, notices_of, notices_in, notice_parts}
use Rattle.ss_changes.specs.Parts.{parts_of}
use Rattle.ss_changes.specs.Changes.{is_changed, told_of, changes_between}
use Rattle.ss_changes.specs.Laws.{BelongsToOne, AreOfClass, IsNumberOf, IsPartOf, ChangesAreAll}
use Rattle.ss_changes.proofs.Exactness.{both, in_filter, not_true, not_told, equal_or_lacking}

-- ---- among parts

abbrev IsAmong : Part → List Part → Type 0
IsAmong x [] = ⊥
IsAmong x (y ∷ ys) = (y ≡ x) ⊎ IsAmong x ys

among_left : (x : Part) (xs ys : List Part) → IsAmong x xs → IsAmong x (xs ++ ys)
among_left x [] ys h = absurd h
among_left x (y ∷ xs) ys (inl e) = inl e
among_left x (y ∷ xs) ys (inr h) = inr (among_left x xs ys h)

among_right : (x : Part) (xs ys : List Part) → IsAmong x ys → IsAmong x (xs ++ ys)
among_right x [] ys h = h
among_right x (y ∷ xs) ys h = inr (among_right x xs ys h)

among_at : (x : Part) (f : ℕ → List Part) (n i : ℕ) (b : Bool) → nat_lt i n ≡ b → i < suc n → IsAmong x (f i) →
    (i < n → IsAmong x (below_of f n)) → IsAmong x (below_of f n ++ f n)
among_at x f n i true e within h more = among_left x (below_of f n) (f n) (more (ltb-true i n e))
among_at x f n i false e within h more =
    let last : i ≡ n = omega (arith, ltb-false i n e, within) in
    among_right x (below_of f n) (f n) (rw last at h)

among_below : (x : Part) (f : ℕ → List Part) (n i : ℕ) → i < n → IsAmong x (f i) → IsAmong x (below_of f n)
among_below x f zero i within h = absurd (omega (arith, within))
among_below x f (suc n) i within h =
    among_at x f n i _ refl within h (λ less. among_below x f n i less h)

among_here : (x : Part) (f : ℕ → List Part) (j k : ℕ) (ks : List ℕ) (b : Bool) → (j == k) ≡ b → (b || has ks k) ≡ true →
    IsAmong x (f k) → (has ks k ≡ true → IsAmong x (each_of f ks)) → IsAmong x (f j ++ each_of f ks)
among_here x f j k ks true e h this more =
    let same : j ≡ k = (Decides-eqb j k).0 e in
    among_left x (f j) (each_of f ks) (rw same this)
among_here x f j k ks false e h this more = among_right x (f j) (each_of f ks) (more h)

among_each : (x : Part) (f : ℕ → List Part) (k : ℕ) (ks : List ℕ) → has ks k ≡ true → IsAmong x (f k) →
    IsAmong x (each_of f ks)
among_each x f k [] h this = absurd (cc)
among_each x f k (j ∷ ks) h this =
    among_here x f j k ks _ refl h this (λ more. among_each x f k ks more this)

kept_by : (x y : Part) (test : Part → Bool) (zs : List Part) (b : Bool) → test y ≡ b → test x ≡ true → y ≡ x →
    IsAmong x (cond b (y ∷ zs) zs)
kept_by x y test zs true e t same = inl same
kept_by x y test zs false e t same = let f : test y ≡ test x = ap test same in absurd (cc)

kept_past : (x y : Part) (zs : List Part) (b : Bool) → IsAmong x zs → IsAmong x (cond b (y ∷ zs) zs)
kept_past x y zs true h = inr h
kept_past x y zs false h = h

among_kept : (x : Part) (test : Part → Bool) (xs : List Part) → test x ≡ true → IsAmong x xs → IsAmong x (filter test xs)
among_kept x test [] t h = absurd h
among_kept x test (y ∷ ys) t (inl same) = kept_by x y test (filter test ys) _ refl t same
among_kept x test (y ∷ ys) t (inr h) = kept_past x y (filter test ys) (test y) (among_kept x test ys t h)

among_absent : (p : ProgramTable) (s : State) (x : Part) (xs : List Part) → is_there (value_in p s x) ≡ false →
    IsAmong x xs → IsAmong x (absent_in p s xs)
among_absent p s x xs e h =
    among_kept x (λ y. not (is_there (value_in p s y))) xs (rw e refl) h

-- its place
place_of : (x d : Part) (xs : List Part) → IsAmong x xs →
    (k : ℕ) × (k < length xs) × (slice_index_or xs k d ≡ x)
place_of x d [] h = absurd h
place_of x d (y ∷ ys) (inl e) = (0, omega arith, e)
place_of x d (y ∷ ys) (inr h) = let f = place_of x d ys h in (suc f.0, omega (arith, f.1), f.2)

-- the change of that part is among those that are shown
told_among : (p : ProgramTable) (s u : State) (x : Part) (xs : List Part) → IsAmong x xs → is_changed p s u x ≡ true →
    Any (λ c. c ≡ told_of p s u x) (map (told_of p s u) (filter (is_changed p s u) xs))
told_among p s u x xs h e =
    let k = place_of x x xs h in
    let f = in_filter (is_changed p s u) xs k.0 x k.1 (ap (is_changed p s u) k.2 ∙ e) in
    let c = told_of p s u x in
    let ys = filter (is_changed p s u) xs in
    let n = length-map ys (told_of p s u) in
    (f.0, c, omega (arith, f.1, n), get_or-map (told_of p s u) ys f.0 x c f.1 ∙ ap (told_of p s u) (f.2 ∙ k.2), refl)

-- ---- a part that is shown is there

need_by : (w needs before after : Bool) → (w && (not needs || (before && after))) ≡ true → needs ≡ true → after ≡ true
need_by w needs before true e n = refl
need_by true true true false e n = absurd (cc)
need_by true true false false e n = absurd (cc)
need_by true false before false e n = absurd (cc)
need_by false needs before false e n = absurd (cc)

needing : (p : ProgramTable) (s u : State) (x : Part) → needs_both x ≡ true → is_changed p s u x ≡ true →
    is_there (value_in p u x) ≡ true
needing p s u x n e =
    need_by (not (is_same (value_in p s x) (value_in p u x))) (needs_both x) (is_there (value_in p s x))
    (is_there (value_in p u x)) e n

with_attribute : (a : ℕ) (o : Option Entity) → is_there (number_read (attribute_in a o)) ≡ true → is_some o ≡ true
with_attribute a None h = absurd (cc)
with_attribute a (Some e) h = refl

with_list : (n : ℕ) (o : Option Entity) → is_there (members_if (option_map (λ e. list_number e.owned n) o)) ≡ true →
    is_some o ≡ true
with_list n None h = absurd (cc)
with_list n (Some e) h = refl

owner_there : (u : State) (owner : Owner) (n k : ℕ) → IsNumberOf owner k →
    is_there (members_if (list_by owner n u.store k)) ≡ true → has (owners_in u owner) k ≡ true
owner_there u System n k e h = rw e refl
owner_there u (OwnedBy c) n k e h = living_exist u.store c k ∙ with_list n (entity u.store c k) h

-- ---- notices

with_number : (k : ℕ) (m : Pending) (ms : List Pending) (b : Bool) → (m.notice == k) ≡ b →
    cond b (Some m) (pending_at ms k) ≡ pending_at (m ∷ ms) k
with_number k m ms b e = rw e refl

-- some notice among others
abbrev HasNumber : ℕ → ℕ → List Pending → Type 0
HasNumber c k [] = ⊥
HasNumber c k (m ∷ ms) = ((m.notice ≡ k) × (m.class ≡ c)) ⊎ HasNumber c k ms

among_notices : (c k : ℕ) (ms : List Pending) → HasNumber c k ms → IsAmong (parts.Notice c k) (notices_of ms)
among_notices c k [] h = absurd h
among_notices c k (m ∷ ms) (inl e) = inl (rw (e.0, e.1) refl)
among_notices c k (m ∷ ms) (inr h) = inr (among_notices c k ms h)

-- the least is one of them
abbrev pub IsOneOf : Pending → List Pending → Type 0
IsOneOf l [] = ⊥
IsOneOf l (m ∷ ms) = (l ≡ m) ⊎ IsOneOf l ms

least_by : (rules : List Rule) (n m : Pending) (ms : List Pending) (b : Bool) (l : Pending) →
    IsOneOf l (cond b m n ∷ ms) → IsOneOf l (n ∷ m ∷ ms)
least_by rules n m ms true l (inl e) = inr (inl e)
least_by rules n m ms false l (inl e) = inl e
least_by rules n m ms true l (inr h) = inr (inr h)
least_by rules n m ms false l (inr h) = inr (inr h)

pub least_is_one : (rules : List Rule) (n : Pending) (ms : List Pending) → IsOneOf (least_of rules n ms) (n ∷ ms)
least_is_one rules n [] = inl refl
least_is_one rules n (m ∷ ms) =
    least_by rules n m ms (is_before rules m n) _ (least_is_one rules (cond (is_before rules m n) m n) ms)

class_of_one : (c k : ℕ) (l : Pending) (ms : List Pending) → AreOfClass c k ms → IsOneOf l ms → l.notice ≡ k →
    l.class ≡ c
class_of_one c k l [] a h e = absurd h
class_of_one c k l (m ∷ ms) a (inl same) e =
    let f : m.notice ≡ k = rw (← same) e in rw same (a.0 f)
class_of_one c k l (m ∷ ms) a (inr h) e = class_of_one c k l ms a.1 h e

without_class : (c k j : ℕ) (m : Pending) (ms : List Pending) (b : Bool) → (m.notice ≡ k → m.class ≡ c) →
    AreOfClass c k ms → AreOfClass c k (cond b ms (m ∷ ms))
without_class c k j m ms true e a = a
without_class c k j m ms false e a = (e, a)

still_of_class : (c k j : ℕ) (ms : List Pending) → AreOfClass c k ms → AreOfClass c k (without_notice j ms)
still_of_class c k j [] a = tt
still_of_class c k j (m ∷ ms) a =
    without_class c k j m (without_notice j ms) (m.notice == j) a.0 (still_of_class c k j ms a.1)

shorter_by : (j : ℕ) (m : Pending) (ms : List Pending) (b : Bool) → length (without_notice j ms) ≤ length ms →
    length (cond b (without_notice j ms) (m ∷ without_notice j ms)) ≤ suc (length ms)
shorter_by j m ms true h = omega (arith, h)
shorter_by j m ms false h = omega (arith, h)

no_longer : (j : ℕ) (ms : List Pending) → length (without_notice j ms) ≤ length ms
no_longer j [] = omega arith
no_longer j (m ∷ ms) = shorter_by j m ms (m.notice == j) (no_longer j ms)

less_by : (j : ℕ) (l m : Pending) (ms : List Pending) (b : Bool) → (m.notice == j) ≡ b → l.notice ≡ j →
    IsOneOf l (m ∷ ms) → (IsOneOf l ms → length (without_notice j ms) < length ms) →
    length (cond b (without_notice j ms) (m ∷ without_notice j ms)) < suc (length ms)
less_by j l m ms true e f h more = omega (arith, no_longer j ms)
less_by j l m ms false e f (inl same) more =
    let g : m.notice ≡ j = rw (← same) f in
    let t : (m.notice == j) ≡ true = (Decides-eqb m.notice j).1 g in absurd (cc)
less_by j l m ms false e f (inr h) more = omega (arith, more h)

pub one_less : (j : ℕ) (l : Pending) (ms : List Pending) → l.notice ≡ j → IsOneOf l ms →
    length (without_notice j ms) < length ms
one_less j l [] f h = absurd h
one_less j l (m ∷ ms) f h = less_by j l m ms _ refl f h (λ more. one_less j l ms f more)

-- another notice stays
stays_by : (j k : ℕ) (m : Pending) (ms : List Pending) (b d : Bool) → (m.notice == j) ≡ b → (m.notice == k) ≡ d →
    (j == k) ≡ false → pending_at (without_notice j ms) k ≡ pending_at ms k →
    pending_at (cond b (without_notice j ms) (m ∷ without_notice j ms)) k ≡ cond d (Some m) (pending_at ms k)
stays_by j k m ms true true e f g h =
    let same : m.notice ≡ j = (Decides-eqb m.notice j).0 e in
    let other : (j == k) ≡ true = rw (← same) f in absurd (cc)
stays_by j k m ms true false e f g h = h
stays_by j k m ms false true e f g h = rw f refl
stays_by j k m ms false false e f g h = rw f h

pub stays : (j k : ℕ) (ms : List Pending) → (j == k) ≡ false → pending_at (without_notice j ms) k ≡ pending_at ms k
stays j k [] g = refl
stays j k (m ∷ ms) g = stays_by j k m ms _ _ refl refl g (stays j k ms g)

listed_by : (rules : List Rule) (c k j : ℕ) (n : Pending) (ms : List Pending) (b : Bool) →
    ((least_of rules n ms).notice == k) ≡ b → AreOfClass c k (n ∷ ms) → is_some (pending_at (n ∷ ms) k) ≡ true →
    (is_some (pending_at (without_notice (least_of rules n ms).notice (n ∷ ms)) k) ≡ true →
    HasNumber c k (first_notices rules j (without_notice (least_of rules n ms).notice (n ∷ ms)))) →
    HasNumber c k (least_of rules n ms ∷ first_notices rules j (without_notice (least_of rules n ms).notice (n ∷ ms)))
listed_by rules c k j n ms true e a h more =
    let this : (least_of rules n ms).notice ≡ k = (Decides-eqb (least_of rules n ms).notice k).0 e in
    inl (this, class_of_one c k (least_of rules n ms) (n ∷ ms) a (least_is_one rules n ms) this)
listed_by rules c k j n ms false e a h more =
    inr (more (ap is_some (stays (least_of rules n ms).notice k (n ∷ ms) e) ∙ h))

listed : (rules : List Rule) (c k j : ℕ) (ms : List Pending) → length ms ≤ j → AreOfClass c k ms →
    is_some (pending_at ms k) ≡ true → HasNumber c k (first_notices rules j ms)
listed rules c k zero [] few a h = absurd (cc)
listed rules c k zero (m ∷ ms) few a h = absurd (omega (arith, few))
listed rules c k (suc j) [] few a h = absurd (cc)
listed rules c k (suc j) (n ∷ ms) few a h =
    let l = least_of rules n ms in
    let less = one_less l.notice l (n ∷ ms) refl (least_is_one rules n ms) in
    listed_by rules c k j n ms _ refl a h
    (λ more. listed rules c k j (without_notice l.notice (n ∷ ms)) (omega (arith, less, few))
    (still_of_class c k l.notice (n ∷ ms) a) more)

with_notice : (o : Option Pending) → is_there (time_of o) ≡ true → is_some o ≡ true
with_notice None h = absurd (cc)
with_notice (Some n) h = refl

noticed : (p : ProgramTable) (s : State) (c k : ℕ) → AreOfClass c k s.agenda.pending →
    is_there (time_of (pending_at s.agenda.pending k)) ≡ true → IsAmong (parts.Notice c k) (notices_in p s)
noticed p s c k a h =
    among_notices c k (in_order (rules_of p) s.agenda)
    (listed (rules_of p) c k (length s.agenda.pending) s.agenda.pending (omega arith) a (with_notice _ h))

-- ---- each kind

both_absent : (a b : PartValue) → is_there a ≡ false → is_there b ≡ false → is_same a b ≡ true
both_absent Absent Absent e f = refl
both_absent _ _ e f = absurd (cc)

after_by : (x : Part) (v w : PartValue) (b : Bool) → is_there w ≡ b → is_there v ≡ false → is_told x v w ≡ true →
    is_there w ≡ true
after_by x v w true e f t = e
after_by x v w false e f t =
    let same = both_absent v w f e in
    let other = not_true (is_same v w) (both _ _ t).0 in
    absurd (cc)

after_there : (x : Part) (v w : PartValue) → is_there v ≡ false → is_told x v w ≡ true → is_there w ≡ true
after_there x v w f t = after_by x v w (is_there w) refl f t

local_at : (p : ProgramTable) (u : State) (n m i : ℕ) → m ≡ n → i < length (local_names p u n) →
    IsAmong (parts.Local n i) (below_of (local_part m) (length (local_names p u m)))
local_at p u n m i e h =
    rw e (among_below (parts.Local n i) (local_part n) (length (local_names p u n)) i h (inl refl))

attribute_at : (p : ProgramTable) (u : State) (c k a : ℕ) → c < length p.classes →
    a < length (class_of p c).attributes → is_there (value_in p u (parts.Attribute c k a)) ≡ true →
    IsAmong (parts.Attribute c k a) (below_of (attribute_parts p u) (length p.classes))
attribute_at p u c k a known few there =
    among_below (parts.Attribute c k a) (attribute_parts p u) (length p.classes) c known
    (among_each (parts.Attribute c k a) (attributes_of p c) k (living_numbers u.store c)
    (living_exist u.store c k ∙ with_attribute a (entity u.store c k) there)
    (among_below (parts.Attribute c k a) (attribute_part c k) (length (class_of p c).attributes) a few (inl refl)))

entity_in : (s : State) (c k : ℕ) → exists s.store c k ≡ true → IsAmong (parts.Entity c k) (entities_in s c)
entity_in s c k e =
    among_each (parts.Entity c k) (entity_part c) k (living_numbers s.store c) (living_exist s.store c k ∙ e) (inl refl)

entity_by : (p : ProgramTable) (s u : State) (c k : ℕ) (a b : Bool) → exists s.store c k ≡ a → exists u.store c k ≡ b →
    is_told (parts.Entity c k) (life_of a) (life_of b) ≡ true → IsAmong (parts.Entity c k) (entity_parts p s u c)
entity_by p s u c k true true e f t = absurd (cc)
entity_by p s u c k false false e f t = absurd (cc)
entity_by p s u c k true false e f t =
    among_left (parts.Entity c k) (absent_in p u (entities_in s c)) _
    (among_absent p u (parts.Entity c k) (entities_in s c) (rw f refl) (entity_in s c k e))
entity_by p s u c k false true e f t =
    among_right (parts.Entity c k) (absent_in p u (entities_in s c)) _
    (among_absent p s (parts.Entity c k) (entities_in u c) (rw e refl) (entity_in u c k f))

entity_at : (p : ProgramTable) (s u : State) (c k : ℕ) → c < length p.classes →
    is_changed p s u (parts.Entity c k) ≡ true →
    IsAmong (parts.Entity c k) (below_of (entity_parts p s u) (length p.classes))
entity_at p s u c k known t =
    among_below (parts.Entity c k) (entity_parts p s u) (length p.classes) c known
    (entity_by p s u c k _ _ refl refl t)

list_there : (p : ProgramTable) (u : State) (n k : ℕ) → n < length p.sets →
    is_there (value_in p u (parts.List n k)) ≡ true →
    is_there (members_if (list_by (set_of p n).owner (set_shape p n).list u.store k)) ≡ true
list_there p u n k known h =
    let here : nat_lt n (length p.sets) ≡ true = grind (arith, nat_tests) in
    rw (here, shape_is p n known) at h

list_at : (p : ProgramTable) (u : State) (n k : ℕ) → n < length p.sets → IsNumberOf (set_of p n).owner k →
    is_there (value_in p u (parts.List n k)) ≡ true →
    IsAmong (parts.List n k) (below_of (list_parts p u) (length p.sets))
list_at p u n k known number there =
    among_below (parts.List n k) (list_parts p u) (length p.sets) n known
    (among_each (parts.List n k) (list_part n) k (owners_in u (set_of p n).owner)
    (owner_there u (set_of p n).owner (set_shape p n).list k number (list_there p u n k known there)) (inl refl))

notice_by : (p : ProgramTable) (s u : State) (c k : ℕ) (b : Bool) → is_there (value_in p s (parts.Notice c k)) ≡ b →
    IsPartOf p s u (parts.Notice c k) → is_changed p s u (parts.Notice c k) ≡ true →
    IsAmong (parts.Notice c k) (notice_parts p s u)
notice_by p s u c k true e h t =
    among_left (parts.Notice c k) (notices_in p s) _ (noticed p s c k h.0 e)
notice_by p s u c k false e h t =
    among_right (parts.Notice c k) (notices_in p s) _
    (among_absent p s (parts.Notice c k) (notices_in p u) e
    (noticed p u c k h.1 (after_there (parts.Notice c k) (value_in p s (parts.Notice c k))
    (value_in p u (parts.Notice c k)) e t)))

-- ---- all

-- parts up to a kind
abbrev to_globals : ProgramTable → List Part
to_globals p = below_of global_part (length p.globals)

abbrev to_locals : ProgramTable → State → State → List Part
to_locals p s u = to_globals p ++ local_parts p s u

abbrev to_attributes : ProgramTable → State → State → List Part
to_attributes p s u = to_locals p s u ++ below_of (attribute_parts p u) (length p.classes)

abbrev to_entities : ProgramTable → State → State → List Part
to_entities p s u = to_attributes p s u ++ below_of (entity_parts p s u) (length p.classes)

abbrev to_lists : ProgramTable → State → State → List Part
to_lists p s u = to_entities p s u ++ below_of (list_parts p u) (length p.sets)

abbrev to_notices : ProgramTable → State → State → List Part
to_notices p s u = to_lists p s u ++ notice_parts p s u

abbrev once : List Part
once = parts.Taken ∷ parts.Entry ∷ parts.Clock ∷ parts.Report ∷ []

in_notices : (p : ProgramTable) (s u : State) (x : Part) → IsAmong x (to_notices p s u) → IsAmong x (parts_of p s u)
in_notices p s u x h = among_left x (to_notices p s u) once h

in_lists : (p : ProgramTable) (s u : State) (x : Part) → IsAmong x (to_lists p s u) → IsAmong x (parts_of p s u)
in_lists p s u x h = in_notices p s u x (among_left x (to_lists p s u) (notice_parts p s u) h)

in_entities : (p : ProgramTable) (s u : State) (x : Part) → IsAmong x (to_entities p s u) → IsAmong x (parts_of p s u)
in_entities p s u x h =
    in_lists p s u x (among_left x (to_entities p s u) (below_of (list_parts p u) (length p.sets)) h)

in_attributes : (p : ProgramTable) (s u : State) (x : Part) → IsAmong x (to_attributes p s u) →
    IsAmong x (parts_of p s u)
in_attributes p s u x h =
    in_entities p s u x (among_left x (to_attributes p s u) (below_of (entity_parts p s u) (length p.classes)) h)

in_locals : (p : ProgramTable) (s u : State) (x : Part) → IsAmong x (to_locals p s u) → IsAmong x (parts_of p s u)
in_locals p s u x h =
    in_attributes p s u x (among_left x (to_locals p s u) (below_of (attribute_parts p u) (length p.classes)) h)

in_parts : (p : ProgramTable) (s u : State) (x : Part) → IsPartOf p s u x → is_changed p s u x ≡ true →
    IsAmong x (parts_of p s u)
in_parts p s u (parts.Global i) h e =
    in_locals p s u (parts.Global i) (among_left (parts.Global i) (to_globals p) (local_parts p s u)
    (among_below (parts.Global i) global_part (length p.globals) i h (inl refl)))
in_parts p s u (parts.Local n i) h e =
    in_locals p s u (parts.Local n i) (among_right (parts.Local n i) (to_globals p) (local_parts p s u)
    (local_at p u n (frames_below s u) i (sym h.0) h.1))
in_parts p s u (parts.Attribute c k a) h e =
    in_attributes p s u (parts.Attribute c k a) (among_right (parts.Attribute c k a) (to_locals p s u)
    (below_of (attribute_parts p u) (length p.classes))
    (attribute_at p u c k a h.0 h.1 (needing p s u (parts.Attribute c k a) refl e)))
in_parts p s u (parts.Entity c k) h e =
    in_entities p s u (parts.Entity c k) (among_right (parts.Entity c k) (to_attributes p s u)
    (below_of (entity_parts p s u) (length p.classes)) (entity_at p s u c k h e))
in_parts p s u (parts.List n k) h e =
    in_lists p s u (parts.List n k) (among_right (parts.List n k) (to_entities p s u)
    (below_of (list_parts p u) (length p.sets))
    (list_at p u n k h.0 h.1 (needing p s u (parts.List n k) refl e)))
in_parts p s u (parts.Notice c k) h e =
    in_notices p s u (parts.Notice c k) (among_right (parts.Notice c k) (to_lists p s u) (notice_parts p s u)
    (notice_by p s u c k _ refl h e))
in_parts p s u parts.Taken h e = among_right parts.Taken (to_notices p s u) once (inl refl)
in_parts p s u parts.Entry h e = among_right parts.Entry (to_notices p s u) once (inr (inl refl))
in_parts p s u parts.Clock h e = among_right parts.Clock (to_notices p s u) once (inr (inr (inl refl)))
in_parts p s u parts.Report h e = among_right parts.Report (to_notices p s u) once (inr (inr (inr (inl refl))))

told_or_belongs : (p : ProgramTable) (s u : State) (x : Part) (b : Bool) → is_changed p s u x ≡ b →
    IsPartOf p s u x → value_in p s x ≢ value_in p u x →
    Any (λ c. c ≡ told_of p s u x) (changes_between p s u) ⊎ BelongsToOne p s u x
told_or_belongs p s u x true e h differs = inl (told_among p s u x (parts_of p s u) (in_parts p s u x h e) e)
told_or_belongs p s u x false e h differs = elim (equal_or_lacking p s u x (not_told _ _ _ _ e))
    [ inl same ↦ absurd (differs same) | inr belongs ↦ inr belongs ]

pub changes_are_all : ChangesAreAll
changes_are_all p s u x h differs = told_or_belongs p s u x _ refl h differs
