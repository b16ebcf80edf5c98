-- What is noted of a state, compared with another state, shows each change across the two, in order.
use Rattle.std.proofs.Common.{◌≡◌, ℕ, zero, suc, ◌+◌, ◌-◌, ◌<◌, ◌≤◌, Bool, true, false, cond, not, ◌&&◌, ◌||◌, List, [], ◌∷◌, ◌++◌}
use Rattle.std.proofs.Common.{length, map, refl, sym, ap, ◌∙◌, arith, slice_index_or, nat_lt, min}
use Rattle.std.proofs.Common.{Option, Some, None, append_assoc}
use Rattle.std.specs.Prelude.{is_some, option_map}
use Rattle.std.proofs.lemmas.List.{append-nil, map-append, length-append}
use Rattle.std.proofs.lemmas.Bool.Decides.{Decides-eqb, nat_tests}
use borrow.Author.Tests.{ltb-true, ltb-false}
use Rattle.ss_links.specs.Seats.{has}
use Rattle.ss_program.specs.declared.kinds.Owner.{Owner}
use Rattle.ss_program.specs.declared.kinds.Owner.TheVariants.{System, OwnedBy}
use Rattle.ss_program.specs.Program.{ProgramTable, class_of, set_of}
use Rattle.ss_program.specs.ProgramSound.{IsSound}
use Rattle.ss_store.specs.Tables.{set_shape}
use Rattle.ss_store.specs.Store.{Store, Entity, entity, exists, attribute_in, list_by, list_number, greatest_number}
use Rattle.ss_state.specs.State.{State}
use Rattle.ss_state.specs.Run.{run}
use Rattle.ss_machine.specs.Moment.{Moment, position}
use Rattle.ss_state.specs.Frames.{frame_place}
use Rattle.ss_inspect.specs.Living.{living_at, living_numbers}
use Rattle.ss_inspect.specs.Texts.{texts_below}
use Rattle.ss_inspect.proofs.LivingNumbers.{living_exist}
use Rattle.ss_inspect.proofs.Numbers.{all_living}
use Rattle.ss_inspect.proofs.Shapes.{shape_is}
use Rattle.ss_changes.specs.declared.part.Part.{Part}
use Rattle.ss_changes.specs.declared.part.Part.TheVariants as parts
use Rattle.ss_changes.specs.declared.change.Change.{Change}
use Rattle.ss_changes.specs.declared.value.PartValue.{PartValue}
use Rattle.ss_changes.specs.declared.value.PartValue.TheVariants.{Absent}
use Rattle.ss_changes.specs.Values.{value_in, is_told, is_same, is_there, number_read, members_if, life_of}
use Rattle.ss_changes.specs.Parts.{below_of, each_of, global_part, local_part, local_names, names_in, frames_below}
use Rattle.ss_changes.specs.Parts.{local_parts, attribute_part, attributes_of, attribute_parts, entity_part}
use Rattle.ss_changes.specs.Parts.{entity_parts, list_part, owners_in, list_parts, notices_in, absent_in}
use Rattle.ss_changes.specs.Parts.{section_below, is_same_section, shared_locals}
use Rattle.ss_changes.specs.Changes.{is_changed, told_of, changes_among, changes_across}
use Rattle.ss_changes.specs.View.{living_in, owners_among, attributes_among, entities_among, lists_among}
use Rattle.ss_changes.specs.View.{single_parts, told_against}
use Rattle.ss_changes.specs.Snapshots.{noted, frame_noted, frames_noted, no_frame, shared_frame, frame_against, frames_against}
use Rattle.ss_changes.specs.Snapshots.{FrameView, NotedView, SnapshotView, IsTakenIn, snapshot_of, noted_against, value_before}
use Rattle.ss_changes.specs.Snapshots.{numbers_of, new_among}
use Rattle.ss_changes.proofs.Orders.{among, among_append, both_same, below_same, below_length, below_at, told_between}
use Rattle.ss_changes.proofs.Comparing.{living_at as living_of, living_length, owners_same, sound_owner}
use Rattle.ss_changes.proofs.Comparing.{all_entities_same}
use Rattle.ss_changes.proofs.Pending.{new_notices, new_absent}

-- ---- of the entities that live in one state or the other

each_append : {A : Type 0} (f : ℕ → List A) (ks js : List ℕ) → each_of f (ks ++ js) ≡ each_of f ks ++ each_of f js
each_append f [] js = refl
each_append f (k ∷ ks) js =
    ap (λ (l : List _). f k ++ l) (each_append f ks js) ∙ sym (append_assoc (f k) (each_of f ks) (each_of f js))

-- what is shown of one that only one state has is nothing
at_one : {A B : Type 0} (told : A → B) (test : A → Bool) (f : ℕ → List A) (k : ℕ) (a b : Bool) →
    (a ≡ false → among told test (f k) ≡ []) → (b ≡ false → among told test (f k) ≡ []) →
    among told test (each_of f (cond a (k ∷ []) [])) ≡ among told test (each_of f (cond b (k ∷ []) []))
at_one told test f k true true h g = refl
at_one told test f k true false h g = ap (among told test) (append-nil (f k)) ∙ g refl
at_one told test f k false true h g = sym (ap (among told test) (append-nil (f k)) ∙ h refl)
at_one told test f k false false h g = refl

shared_below : {B : Type 0} (told : Part → B) (test : Part → Bool) (s u : State) (c : ℕ) (f : ℕ → List Part) →
    ((k : ℕ) → exists s.store c k ≡ false → among told test (f k) ≡ []) →
    ((k : ℕ) → exists u.store c k ≡ false → among told test (f k) ≡ []) → (n : ℕ) →
    among told test (each_of f (texts_below (living_at s.store c) n))
    ≡ among told test (each_of f (texts_below (living_at u.store c) n))
shared_below told test s u c f h g zero = refl
shared_below told test s u c f h g (suc n) =
    ap (among told test) (each_append f (texts_below (living_at s.store c) n) (living_at s.store c n))
    ∙ both_same told test (each_of f (texts_below (living_at s.store c) n)) (each_of f (living_at s.store c n))
    (each_of f (texts_below (living_at u.store c) n)) (each_of f (living_at u.store c n))
    (shared_below told test s u c f h g n)
    (at_one told test f (suc n) (exists s.store c (suc n)) (exists u.store c (suc n)) (h (suc n)) (g (suc n)))
    ∙ sym (ap (among told test) (each_append f (texts_below (living_at u.store c) n) (living_at u.store c n)))

-- so it is the same by the entities of the one or of the other
shared_living : {B : Type 0} (told : Part → B) (test : Part → Bool) (s u : State) (c : ℕ) (f : ℕ → List Part) →
    ((k : ℕ) → exists s.store c k ≡ false → among told test (f k) ≡ []) →
    ((k : ℕ) → exists u.store c k ≡ false → among told test (f k) ≡ []) →
    among told test (each_of f (living_numbers s.store c)) ≡ among told test (each_of f (living_numbers u.store c))
shared_living told test s u c f h g =
    let n = greatest_number s.store c + greatest_number u.store c in
    ap (λ ks. among told test (each_of f ks)) (sym (all_living s.store c n (omega arith)))
    ∙ shared_below told test s u c f h g n
    ∙ ap (λ ks. among told test (each_of f ks)) (all_living u.store c n (omega arith))

-- ---- a part that a state lacks

never : (b : Bool) → (b && false) ≡ false
never true = refl
never false = refl

no_entity : (o : Option Entity) → is_some o ≡ false → o ≡ None
no_entity None h = refl
no_entity (Some e) h = absurd (cc)

untold_before : (p : ProgramTable) (s u : State) (c k a : ℕ) → exists s.store c k ≡ false →
    is_changed p s u (parts.Attribute c k a) ≡ false
untold_before p s u c k a h =
    let none = no_entity (entity s.store c k) h in
    rw none (never (not (is_same Absent (value_in p u (parts.Attribute c k a)))))

no_after : (b c : Bool) → (b && (c && false)) ≡ false
no_after true true = refl
no_after true false = refl
no_after false c = refl

untold_after : (p : ProgramTable) (s u : State) (c k a : ℕ) → exists u.store c k ≡ false →
    is_changed p s u (parts.Attribute c k a) ≡ false
untold_after p s u c k a h =
    let none = no_entity (entity u.store c k) h in
    rw none
    (no_after (not (is_same (value_in p s (parts.Attribute c k a)) Absent))
    (is_there (value_in p s (parts.Attribute c k a))))

none_below : {A B : Type 0} (told : A → B) (test : A → Bool) (f : ℕ → A) (n : ℕ) → ((i : ℕ) → test (f i) ≡ false) →
    among told test (below_of (λ i. f i ∷ []) n) ≡ []
none_below told test f zero h = refl
none_below told test f (suc n) h =
    among_append told test (below_of (λ i. f i ∷ []) n) (f n ∷ []) ∙ rw (none_below told test f n h, h n) refl

-- ---- attributes

attributes_of_class : (p : ProgramTable) (s u : State) (c : ℕ) →
    changes_among p s u (attribute_parts p s c) ≡ changes_among p s u (attribute_parts p u c)
attributes_of_class p s u c =
    shared_living (told_of p s u) (is_changed p s u) s u c (attributes_of p c)
    (λ k h. none_below (told_of p s u) (is_changed p s u) (parts.Attribute c k) (length (class_of p c).attributes)
    (λ a. untold_before p s u c k a h))
    (λ k h. none_below (told_of p s u) (is_changed p s u) (parts.Attribute c k) (length (class_of p c).attributes)
    (λ a. untold_after p s u c k a h))

attributes_noted : (p : ProgramTable) (s u : State) →
    changes_among p s u (attributes_among p (living_in p s))
    ≡ changes_among p s u (below_of (attribute_parts p u) (length p.classes))
attributes_noted p s u =
    let f : ℕ → List Part = λ c. each_of (attributes_of p c) (slice_index_or (living_in p s) c []) in
    ap (λ n. changes_among p s u (below_of f n)) (living_length p s)
    ∙ below_same (told_of p s u) (is_changed p s u) f (attribute_parts p u) (length p.classes)
    (λ c h. ap (λ ks. changes_among p s u (each_of (attributes_of p c) ks)) (living_of p s c h)
    ∙ attributes_of_class p s u c)

-- ---- lists

listed_without : (n : ℕ) (o : Option Entity) → is_some o ≡ false →
    members_if (option_map (λ e. list_number e.owned n) o) ≡ Absent
listed_without n None h = refl
listed_without n (Some e) h = absurd (cc)

by_owner : (owner : Owner) (n : ℕ) (st : Store) (c k : ℕ) → owner ≡ OwnedBy c → exists st c k ≡ false →
    members_if (list_by owner n st k) ≡ Absent
by_owner owner n st c k e h = rw e (listed_without n (entity st c k) h)

list_absent : (p : ProgramTable) (s : State) (n c k : ℕ) → n < length p.sets → (set_of p n).owner ≡ OwnedBy c →
    exists s.store c k ≡ false → value_in p s (parts.List n k) ≡ Absent
list_absent p s n c k known owner h =
    let here : nat_lt n (length p.sets) ≡ true = grind (arith, nat_tests) in
    rw (here, shape_is p n known) (by_owner (set_of p n).owner (set_shape p n).list s.store c k owner h)

list_untold_before : (p : ProgramTable) (s u : State) (n k : ℕ) → value_in p s (parts.List n k) ≡ Absent →
    is_changed p s u (parts.List n k) ≡ false
list_untold_before p s u n k e = rw e (never (not (is_same Absent (value_in p u (parts.List n k)))))

list_untold_after : (p : ProgramTable) (s u : State) (n k : ℕ) → value_in p u (parts.List n k) ≡ Absent →
    is_changed p s u (parts.List n k) ≡ false
list_untold_after p s u n k e =
    rw e
    (no_after (not (is_same (value_in p s (parts.List n k)) Absent)) (is_there (value_in p s (parts.List n k))))

one_untold : (p : ProgramTable) (s u : State) (x : Part) → is_changed p s u x ≡ false →
    changes_among p s u (x ∷ []) ≡ []
one_untold p s u x e = rw e refl

lists_of_owner : (p : ProgramTable) (s u : State) (n : ℕ) (owner : Owner) → n < length p.sets →
    (set_of p n).owner ≡ owner →
    changes_among p s u (each_of (list_part n) (owners_in s owner))
    ≡ changes_among p s u (each_of (list_part n) (owners_in u owner))
lists_of_owner p s u n System known e = refl
lists_of_owner p s u n (OwnedBy c) known e =
    shared_living (told_of p s u) (is_changed p s u) s u c (list_part n)
    (λ k h. one_untold p s u (parts.List n k) (list_untold_before p s u n k (list_absent p s n c k known e h)))
    (λ k h. one_untold p s u (parts.List n k) (list_untold_after p s u n k (list_absent p u n c k known e h)))

lists_noted : (p : ProgramTable) (s u : State) → IsSound p →
    changes_among p s u (lists_among p (living_in p s)) ≡ changes_among p s u (below_of (list_parts p u) (length p.sets))
lists_noted p s u sound =
    below_same (told_of p s u) (is_changed p s u)
    (λ n. each_of (list_part n) (owners_among (living_in p s) (set_of p n).owner)) (list_parts p u) (length p.sets)
    (λ n h. ap (λ ks. changes_among p s u (each_of (list_part n) ks))
    (owners_same p s (set_of p n).owner (sound_owner p n sound h))
    ∙ lists_of_owner p s u n (set_of p n).owner h refl)

-- ---- entities

map_below : {A B : Type 0} (f g : A → B) (h : ℕ → List A) (n : ℕ) →
    ((i : ℕ) → i < n → map f (h i) ≡ map g (h i)) → map f (below_of h n) ≡ map g (below_of h n)
map_below f g h zero e = refl
map_below f g h (suc n) e =
    rw (
      map-append f (below_of h n) (h n),
      map-append g (below_of h n) (h n),
      map_below f g h n (λ i k. e i (omega (arith, k))),
      e n (omega arith),
    ) refl

map_each : {A B : Type 0} (f g : A → B) (x : ℕ → A) (ks : List ℕ) → ((k : ℕ) → f (x k) ≡ g (x k)) →
    map f (each_of (λ k. x k ∷ []) ks) ≡ map g (each_of (λ k. x k ∷ []) ks)
map_each f g x [] e = refl
map_each f g x (k ∷ ks) e = rw (e k, map_each f g x ks e) refl

lived : (p : ProgramTable) (s : State) (c k : ℕ) → c < length p.classes →
    value_before (living_in p s) (parts.Entity c k) ≡ value_in p s (parts.Entity c k)
lived p s c k h = ap life_of (ap (λ ks. has ks k) (living_of p s c h) ∙ living_exist s.store c k)

-- the values that the entities of two states had in one
pub entities_before : (p : ProgramTable) (s u : State) →
    map (value_before (living_in p s)) (entities_among (living_in p s) (living_in p u))
    ≡ map (value_in p s) (entities_among (living_in p s) (living_in p u))
entities_before p s u =
    map_below (value_before (living_in p s)) (value_in p s)
    (λ c. each_of (entity_part c) (slice_index_or (living_in p s) c [])
    ++ each_of (entity_part c) (slice_index_or (living_in p u) c [])) (length (living_in p u))
    (λ c h. let known : c < length p.classes = omega (arith, h, living_length p u) in
    let one = map_each (value_before (living_in p s)) (value_in p s) (parts.Entity c) in
    map-append (value_before (living_in p s)) (each_of (entity_part c) (slice_index_or (living_in p s) c [])) _
    ∙ rw (
      one (slice_index_or (living_in p s) c []) (λ k. lived p s c k known),
      one (slice_index_or (living_in p u) c []) (λ k. lived p s c k known),
    )
    (sym (map-append (value_in p s) (each_of (entity_part c) (slice_index_or (living_in p s) c [])) _)))

-- ---- locals

same_names : (p : ProgramTable) (o q : Option (ℕ × ℕ)) →
    is_same_section (option_map (λ f. f.0) o) (option_map (λ f. f.0) q) ≡ true → names_in p o ≡ names_in p q
same_names p None q e = absurd (cc)
same_names p (Some a) None e = absurd (cc)
same_names p (Some a) (Some b) e = let same : a.0 ≡ b.0 = (Decides-eqb a.0 b.0).0 e in rw same refl

frame_same : (p : ProgramTable) (s u : State) (n : ℕ) (b : Bool) →
    is_same_section (section_below s n) (section_below u n) ≡ b →
    cond b (noted_against p u (noted p s (below_of (local_part n) (length (local_names p s n))))) []
    ≡ changes_among p s u (cond b (below_of (local_part n) (length (local_names p u n))) [])
frame_same p s u n true e =
    told_between p s u (below_of (local_part n) (length (local_names p s n)))
    ∙ ap (λ names. changes_among p s u (below_of (local_part n) (length names)))
    (same_names p (frame_place s (length s.below - n)) (frame_place u (length u.below - n)) e)
frame_same p s u n false e = refl

shared_is : (p : ProgramTable) (s u : State) → shared_frame (frames_noted p s) u ≡ frames_below s u
shared_is p s u =
    let many : length (frames_noted p s) ≡ suc (length s.below) = below_length (frame_noted p s) (suc (length s.below)) in
    rw many (omega arith)

pub frames_same : (p : ProgramTable) (s u : State) →
    frames_against p u (frames_noted p s) ≡ changes_among p s u (shared_locals p s u)
frames_same p s u =
    let n = frames_below s u in
    let at : slice_index_or (frames_noted p s) n no_frame ≡ frame_noted p s n =
    below_at (frame_noted p s) (suc (length s.below)) n no_frame (omega arith) in
    ap (λ k. frame_against p u k (slice_index_or (frames_noted p s) k no_frame)) (shared_is p s u)
    ∙ ap (frame_against p u n) at ∙ frame_same p s u n _ refl

frames_at : (p : ProgramTable) (u : State) (frames : List FrameView) (n : ℕ) (f : FrameView) →
    n ≡ shared_frame frames u → slice_index_or frames n no_frame ≡ f →
    frames_against p u frames ≡ frame_against p u n f
frames_at p u frames n f e h =
    ap (λ k. frame_against p u k (slice_index_or frames k no_frame)) (sym e) ∙ ap (frame_against p u n) h

-- of one that runs another section in each
pub frames_apart : (p : ProgramTable) (u : State) (frames : List FrameView) (n : ℕ) (f : FrameView) →
    n ≡ shared_frame frames u → slice_index_or frames n no_frame ≡ f →
    is_same_section f.section (section_below u n) ≡ false → frames_against p u frames ≡ []
frames_apart p u frames n f e h k = frames_at p u frames n f e h ∙ rw k refl

-- of one that runs the same section
pub frames_shared : (p : ProgramTable) (u : State) (frames : List FrameView) (n : ℕ) (f : FrameView) →
    n ≡ shared_frame frames u → slice_index_or frames n no_frame ≡ f →
    is_same_section f.section (section_below u n) ≡ true → frames_against p u frames ≡ noted_against p u f.locals
frames_shared p u frames n f e h k = frames_at p u frames n f e h ∙ rw k refl

-- ---- all

-- the parts as the code compares them
abbrev pub compared_across : ProgramTable → State → State → List Part
compared_across p s u =
    below_of global_part (length p.globals) ++ shared_locals p s u ++ attributes_among p (living_in p s)
    ++ entities_among (living_in p s) (living_in p u) ++ lists_among p (living_in p s) ++ notices_in p s
    ++ absent_in p s (notices_in p u) ++ single_parts

pub across_same : (p : ProgramTable) (s u : State) → IsSound p →
    changes_among p s u (compared_across p s u) ≡ changes_across p s u
across_same p s u sound =
    let same = both_same (told_of p s u) (is_changed p s u) in
    let attributes = attributes_among p (living_in p s) in
    let entities = entities_among (living_in p s) (living_in p u) in
    let lists = lists_among p (living_in p s) in
    let earlier = notices_in p s in
    let new = absent_in p s (notices_in p u) in
    let variables = below_of global_part (length p.globals) ++ shared_locals p s u in
    let to_attributes = variables ++ below_of (attribute_parts p u) (length p.classes) in
    let to_entities = to_attributes ++ below_of (entity_parts p s u) (length p.classes) in
    let to_lists = to_entities ++ below_of (list_parts p u) (length p.sets) in
    same (variables ++ attributes ++ entities ++ lists ++ earlier ++ new) single_parts
    (to_lists ++ (earlier ++ new)) single_parts
    (ap (changes_among p s u) (append_assoc (variables ++ attributes ++ entities ++ lists) earlier new)
    ∙ same (variables ++ attributes ++ entities ++ lists) (earlier ++ new) to_lists (earlier ++ new)
    (same (variables ++ attributes ++ entities) lists to_entities (below_of (list_parts p u) (length p.sets))
    (same (variables ++ attributes) entities to_attributes (below_of (entity_parts p s u) (length p.classes))
    (same variables attributes variables (below_of (attribute_parts p u) (length p.classes)) refl
    (attributes_noted p s u)) (all_entities_same p s u)) (lists_noted p s u sound)) refl) refl

-- the changes of one kind after the other
together : (p : ProgramTable) (s u : State) (xs ys : List Part) →
    changes_among p s u xs ++ changes_among p s u ys ≡ changes_among p s u (xs ++ ys)
together p s u xs ys = sym (among_append (told_of p s u) (is_changed p s u) xs ys)

-- those of all kinds, as the code appends them
pub all_across : (p : ProgramTable) (s u : State) → IsSound p →
    ((((((noted_against p u (noted p s (below_of global_part (length p.globals)))
    ++ frames_against p u (frames_noted p s))
    ++ noted_against p u (noted p s (attributes_among p (living_in p s))))
    ++ noted_against p u (record {
      parts = entities_among (living_in p s) (living_in p u);
      values = map (value_before (living_in p s)) (entities_among (living_in p s) (living_in p u));
    }))
    ++ noted_against p u (noted p s (lists_among p (living_in p s))))
    ++ noted_against p u (noted p s (notices_in p s)))
    ++ noted_against p u (record {
      parts = new_among (numbers_of (notices_in p s)) (notices_in p u);
      values = map (value_before []) (new_among (numbers_of (notices_in p s)) (notices_in p u));
    }))
    ++ noted_against p u (noted p s single_parts)
    ≡ changes_across p s u
all_across p s u sound =
    let g = below_of global_part (length p.globals) in
    let l = shared_locals p s u in
    let a = attributes_among p (living_in p s) in
    let e = entities_among (living_in p s) (living_in p u) in
    let k = lists_among p (living_in p s) in
    let n = notices_in p s in
    let w = absent_in p s (notices_in p u) in
    rw (
      told_between p s u g,
      frames_same p s u,
      told_between p s u a,
      entities_before p s u,
      told_between p s u e,
      told_between p s u k,
      told_between p s u n,
      new_notices p s u,
      new_absent p s u,
      told_between p s u w,
      told_between p s u single_parts,
      together p s u g l,
      together p s u (g ++ l) a,
      together p s u ((g ++ l) ++ a) e,
      together p s u (((g ++ l) ++ a) ++ e) k,
      together p s u ((((g ++ l) ++ a) ++ e) ++ k) n,
      together p s u (((((g ++ l) ++ a) ++ e) ++ k) ++ n) w,
      together p s u ((((((g ++ l) ++ a) ++ e) ++ k) ++ n) ++ w) single_parts,
    )
    (across_same p s u sound)

-- so they are one after the other
pub across_in_turn : (p : ProgramTable) (s u : State) → IsSound p → (l : SnapshotView) (q : ℕ) → l ≡ snapshot_of p s q →
    (e w : NotedView) → {one two three four five six seven eight : List Change} →
    one ≡ noted_against p u l.globals → two ≡ one ++ frames_against p u l.frames →
    three ≡ two ++ noted_against p u l.attributes → four ≡ three ++ noted_against p u e →
    five ≡ four ++ noted_against p u l.lists → six ≡ five ++ noted_against p u l.notices →
    seven ≡ six ++ noted_against p u w → eight ≡ seven ++ noted_against p u l.singles →
    e ≡ record {
      parts = entities_among (living_in p s) (living_in p u);
      values = map (value_before (living_in p s)) (entities_among (living_in p s) (living_in p u));
    } →
    w ≡ record {
      parts = new_among (numbers_of (notices_in p s)) (notices_in p u);
      values = map (value_before []) (new_among (numbers_of (notices_in p s)) (notices_in p u));
    } →
    eight ≡ changes_across p s u
across_in_turn p s u sound l q taken e w a b c d f g h i ends new =
    rw (i, h, g, f, d, c, b, a, ends, new, taken) (all_across p s u sound)

-- ---- a snapshot that is taken

-- at the position of a machine
pub taken_here : (m : Moment) (l : SnapshotView) → m.state ≡ run m.input (position m) →
    l ≡ snapshot_of m.input.program m.state (position m) → IsTakenIn m.input l
taken_here m l e h =
    let at : l.position ≡ position m = ap (λ (v : SnapshotView). v.position) h in
    h ∙ ap (λ (x : State). snapshot_of m.input.program x (position m)) e
    ∙ ap (λ (q : ℕ). snapshot_of m.input.program (run m.input q) q) (sym at)
