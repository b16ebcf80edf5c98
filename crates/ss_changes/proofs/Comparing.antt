-- The parts that are compared show each change between two states, in order.
use Rattle.std.proofs.Common.{◌≡◌, ℕ, suc, ◌+◌, ◌-◌, ◌<◌, Bool, true, false, not, List, [], ◌∷◌, ◌++◌, length, refl, sym, ap}
use Rattle.std.proofs.Common.{◌∙◌, arith, slice_index_or, append_assoc, subst, min}
use Rattle.std.proofs.lemmas.Option.{unwrap_or-slice_get}
use Rattle.ss_program.specs.declared.kinds.Discipline.TheVariants.{Fifo}
use Rattle.ss_program.specs.declared.kinds.Owner.{Owner}
use Rattle.ss_program.specs.declared.kinds.Owner.TheVariants.{System, OwnedBy}
use Rattle.ss_program.specs.Program.{ProgramTable, SetTable, set_of}
use Rattle.ss_program.specs.ProgramSound.{IsSound, IsSoundOwner, IsSoundSet}
use Rattle.ss_store.specs.Store.{exists}
use Rattle.ss_state.specs.State.{State}
use Rattle.ss_inspect.specs.Living.{living_numbers}
use Rattle.ss_inspect.proofs.LivingNumbers.{living_exist}
use Rattle.ss_changes.specs.declared.part.Part.{Part}
use Rattle.ss_changes.specs.declared.part.Part.TheVariants as parts
use Rattle.ss_changes.specs.Values.{value_in, is_told, is_there, life_of}
use Rattle.ss_changes.specs.Parts.{below_of, each_of, global_part, local_part, frames_below, local_names, local_parts}
use Rattle.ss_changes.specs.Parts.{attributes_of, attribute_parts, entity_part, entities_in, absent_in, entity_parts}
use Rattle.ss_changes.specs.Parts.{list_part, owners_in, list_parts, notices_in, notice_parts, parts_of}
use Rattle.ss_changes.specs.Changes.{is_changed, told_of, changes_among, changes_between}
use Rattle.ss_changes.specs.View.{local_counts, living_in, owners_among, attributes_among, entities_among, lists_among}
use Rattle.ss_changes.specs.View.{single_parts}
use Rattle.ss_changes.proofs.Orders.{below_length, below_at, both_same, below_same, each_same}

-- ---- locals

-- how many the last frame that both states have has
locals_there : (p : ProgramTable) (s u : State) →
    slice_index_or (local_counts p u) (frames_below s u) 0 ≡ length (local_names p u (frames_below s u))
locals_there p s u =
    let within : frames_below s u < suc (length u.below) = omega arith in
    below_at (λ n. length (local_names p u n)) (suc (length u.below)) (frames_below s u) 0 within

-- how many frames are below it, by the numbers that the code has
pub below_there : (p : ProgramTable) (s u : State) (counts : List ℕ) (frames : ℕ) → frames ≡ 1 + length s.below →
    counts ≡ local_counts p u → min (frames - 1) (length counts - 1) ≡ frames_below s u
below_there p s u counts frames h k =
    let one : frames - 1 ≡ length s.below = omega (arith, h) in
    let many : length counts ≡ suc (length u.below) =
    rw k (below_length (λ n. length (local_names p u n)) (suc (length u.below))) in
    let other : length counts - 1 ≡ length u.below = omega (arith, many) in
    rw (one, other) refl

-- ---- entities

-- those of a class
pub living_at : (p : ProgramTable) (u : State) (c : ℕ) → c < length p.classes →
    slice_index_or (living_in p u) c [] ≡ living_numbers u.store c
living_at p u c h = below_at (λ c. living_numbers u.store c) (length p.classes) c [] h

pub living_length : (p : ProgramTable) (u : State) → length (living_in p u) ≡ length p.classes
living_length p u = below_length (λ c. living_numbers u.store c) (length p.classes)

-- one that lived is shown if it ended, one that lives if it was made
ended : (c k : ℕ) (a b : Bool) → a ≡ true →
    is_told (parts.Entity c k) (life_of a) (life_of b) ≡ not (is_there (life_of b))
ended c k true true e = refl
ended c k true false e = refl
ended c k false b e = absurd (cc)

made : (c k : ℕ) (a b : Bool) → b ≡ true →
    is_told (parts.Entity c k) (life_of a) (life_of b) ≡ not (is_there (life_of a))
made c k true true e = refl
made c k false true e = refl
made c k a false e = absurd (cc)

entities_same : (p : ProgramTable) (s u : State) (c : ℕ) →
    changes_among p s u (entities_in s c ++ entities_in u c) ≡ changes_among p s u (entity_parts p s u c)
entities_same p s u c =
    both_same (told_of p s u) (is_changed p s u) (entities_in s c) (entities_in u c)
    (absent_in p u (entities_in s c)) (absent_in p s (entities_in u c))
    (each_same (told_of p s u) (is_changed p s u) (λ x. not (is_there (value_in p u x))) (parts.Entity c)
    (living_numbers s.store c) (λ k h. ended c k _ _ (sym (living_exist s.store c k) ∙ h)))
    (each_same (told_of p s u) (is_changed p s u) (λ x. not (is_there (value_in p s x))) (parts.Entity c)
    (living_numbers u.store c) (λ k h. made c k _ _ (sym (living_exist u.store c k) ∙ h)))

-- ---- lists

pub owners_same : (p : ProgramTable) (u : State) (owner : Owner) → IsSoundOwner (length p.classes) owner →
    owners_among (living_in p u) owner ≡ owners_in u owner
owners_same p u System h = refl
owners_same p u (OwnedBy c) h = living_at p u c h

pub sound_owner : (p : ProgramTable) (n : ℕ) → IsSound p → n < length p.sets →
    IsSoundOwner (length p.classes) (set_of p n).owner
sound_owner p n sound h =
    let none : SetTable = record { name = []; discipline = Fifo; owner = System; member = 0 } in
    subst (λ set. IsSoundOwner (length p.classes) set.owner) (sym (unwrap_or-slice_get p.sets n none))
    (sound.tables.sets n none h).owner

-- ---- all

attributes_same : (p : ProgramTable) (s u : State) →
    changes_among p s u (attributes_among p (living_in p u))
    ≡ changes_among p s u (below_of (attribute_parts p u) (length p.classes))
attributes_same p s u =
    let among : ℕ → List Part = λ c. each_of (attributes_of p c) (slice_index_or (living_in p u) c []) in
    ap (λ n. changes_among p s u (below_of among n)) (living_length p u)
    ∙ below_same (told_of p s u) (is_changed p s u) among (attribute_parts p u) (length p.classes)
    (λ c h. ap (λ ks. changes_among p s u (each_of (attributes_of p c) ks)) (living_at p u c h))

pub all_entities_same : (p : ProgramTable) (s u : State) →
    changes_among p s u (entities_among (living_in p s) (living_in p u))
    ≡ changes_among p s u (below_of (entity_parts p s u) (length p.classes))
all_entities_same p s u =
    let among : ℕ → List Part = λ c. each_of (entity_part c) (slice_index_or (living_in p s) c [])
    ++ each_of (entity_part c) (slice_index_or (living_in p u) c []) in
    ap (λ n. changes_among p s u (below_of among n)) (living_length p u)
    ∙ below_same (told_of p s u) (is_changed p s u) among (entity_parts p s u) (length p.classes)
    (λ c h. rw (living_at p s c h, living_at p u c h) (entities_same p s u c))

lists_same : (p : ProgramTable) (s u : State) → IsSound p →
    changes_among p s u (lists_among p (living_in p u))
    ≡ changes_among p s u (below_of (list_parts p u) (length p.sets))
lists_same p s u sound =
    below_same (told_of p s u) (is_changed p s u)
    (λ n. each_of (list_part n) (owners_among (living_in p u) (set_of p n).owner)) (list_parts p u) (length p.sets)
    (λ n h. ap (λ ks. changes_among p s u (each_of (list_part n) ks))
    (owners_same p u (set_of p n).owner (sound_owner p n sound h)))

-- the parts as the code appends them
abbrev pub compared : ProgramTable → State → ℕ → ℕ → List (List ℕ) → List (List ℕ) → List Part → List Part
compared p s n count lived living notices =
    below_of global_part (length p.globals) ++ below_of (local_part n) count ++ attributes_among p living
    ++ entities_among lived living ++ lists_among p living ++ notices_in p s ++ absent_in p s notices ++ single_parts

pub compared_same : (p : ProgramTable) (s u : State) → IsSound p →
    changes_among p s u (compared p s (frames_below s u) (slice_index_or (local_counts p u) (frames_below s u) 0)
    (living_in p s) (living_in p u) (notices_in p u))
    ≡ changes_between p s u
compared_same p s u sound =
    let same = both_same (told_of p s u) (is_changed p s u) in
    let attributes = attributes_among p (living_in p u) in
    let entities = entities_among (living_in p s) (living_in p u) in
    let lists = lists_among p (living_in p u) in
    let earlier = notices_in p s in
    let new = absent_in p s (notices_in p u) in
    let variables = below_of global_part (length p.globals) ++ local_parts p s u in
    let to_attributes = variables ++ below_of (attribute_parts p u) (length p.classes) in
    let to_entities = to_attributes ++ below_of (entity_parts p s u) (length p.classes) in
    let to_lists = to_entities ++ below_of (list_parts p u) (length p.sets) in
    rw (locals_there p s u)
    (same (variables ++ attributes ++ entities ++ lists ++ earlier ++ new) single_parts
    (to_lists ++ (earlier ++ new)) single_parts
    (ap (changes_among p s u) (append_assoc (variables ++ attributes ++ entities ++ lists) earlier new)
    ∙ same (variables ++ attributes ++ entities ++ lists) (earlier ++ new) to_lists (earlier ++ new)
    (same (variables ++ attributes ++ entities) lists to_entities (below_of (list_parts p u) (length p.sets))
    (same (variables ++ attributes) entities to_attributes (below_of (entity_parts p s u) (length p.classes))
    (same variables attributes variables (below_of (attribute_parts p u) (length p.classes)) refl
    (attributes_same p s u)) (all_entities_same p s u)) (lists_same p s u sound)) refl) refl)
