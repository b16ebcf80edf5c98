-- entities stay when others are made, changed or ended
use Rattle.std.proofs.Common.{◌≡◌, ◌≢◌, ◌<◌, ◌≤◌, ℕ, ℤ, zero, suc, ◌-◌, arith, refl, ap, ◌∙◌, length-append, List, []}
use Rattle.std.proofs.Common.{◌∷◌, ◌++◌, Bool, true, false, Option, Some, None, Result, Ok, Err}
use Rattle.std.specs.Prelude.{length, replicate, slice_get, slice_set, slice_index_or, not, ◌==◌, ◌&&◌, nat_lt, nat_le}
use Rattle.std.specs.Prelude.{if◌then◌else◌, option_and_then, is_some}
use Rattle.std.proofs.lemmas.Bool.{eq-eqb, eqb-true}
use borrow.Author.Tests.{ltb-true}
use Rattle.std.specs.Option.{option_or}
use Rattle.ss_words.specs.declared.fault.RunFault.{RunFault}
use Rattle.ss_words.specs.declared.fault.RunFault.TheVariants.{NoEntity, EndedInUse, EndedOwner, AlreadyCreated}
use Rattle.ss_words.specs.declared.fault.RunFault.TheVariants.{CountOutOfRange, TooManyReferences, AlreadyInSet}
use Rattle.ss_words.specs.declared.fault.RunFault.TheVariants.{NotInList}
use Rattle.ss_links.specs.Seats.{list_without}
use Rattle.ss_program.specs.declared.kinds.Owner.{Owner}
use Rattle.ss_program.specs.declared.kinds.Owner.TheVariants.{System, OwnedBy}
use Rattle.ss_store.specs.declared.shape.ClassShape.{ClassShape}
use Rattle.ss_store.specs.declared.shape.SetShape.{SetShape}
use Rattle.ss_store.specs.declared.shape.How.{How}
use Rattle.ss_store.specs.declared.shape.Which.{Which}
use Rattle.ss_store.specs.Lists.{change_at}
use Rattle.ss_store.specs.Tables.{Tables}
use Rattle.ss_store.specs.Store.{Entity, Store, number_of, unless, of_class, made_of, entity, exists, is_owner}
use Rattle.ss_store.specs.Store.{members_of, is_filed, changed_reference, with_changed, with_value, with_attribute}
use Rattle.ss_store.specs.Store.{with_owned, with_list_by, with_list, fresh, last_reference, with_reference, with_new}
use Rattle.ss_store.specs.Store.{with_made, with_class, is_member, owns_members, without_reference, without_entity}
use Rattle.ss_store.specs.declared.limits.TheConstants.{MOST_ENTITIES}
use Rattle.ss_words.specs.declared.limits.TheConstants.{MOST_REFERENCES}
use Rattle.ss_store.specs.Filing.{after_filing, filed_in, names_entity, names_member, member_named, without_member}
use Rattle.ss_store.specs.Filing.{after_removing}
use Rattle.ss_state.proofs.Ranges.{Got}
use Rattle.ss_state.proofs.Stores.{unless_got}

-- an entity that there was is there still
abbrev pub Stays : Store → Store → Type 0
Stays st new = (d j : ℕ) → exists st d j ≡ true → exists new d j ≡ true

-- the same, apart from number k
abbrev pub StaysBut : ℕ → Store → Store → Type 0
StaysBut k st new = (d j : ℕ) → j ≢ k → exists st d j ≡ true → exists new d j ≡ true

-- a change of an entity that leaves its class
abbrev KeepsClass : (Entity → Entity) → Type 0
KeepsClass f = (e : Entity) → (f e).class ≡ e.class

made_there : (f : Entity → Entity) (es : List Entity) (i j : ℕ) →
    is_some (slice_get (change_at f es i) j) ≡ is_some (slice_get es j)
made_there f [] i j = refl
made_there f (e ∷ es) zero zero = refl
made_there f (e ∷ es) zero (suc j) = refl
made_there f (e ∷ es) (suc i) zero = refl
made_there f (e ∷ es) (suc i) (suc j) = made_there f es i j

class_there : (f : Entity → Entity) (rows : List (List Entity)) (c i d j : ℕ) →
    is_some (slice_get (slice_index_or (change_at (λ row. change_at f row i) rows c) d []) j)
    ≡ is_some (slice_get (slice_index_or rows d []) j)
class_there f [] c i d j = refl
class_there f (es ∷ rest) zero i zero j = made_there f es i j
class_there f (es ∷ rest) zero i (suc d) j = refl
class_there f (es ∷ rest) (suc c) i zero j = refl
class_there f (es ∷ rest) (suc c) i (suc d) j = class_there f rest c i d j

either_there : (b : Bool) (x y : Entity) → is_some (if b then Some x else None) ≡ is_some (if b then Some y else None)
either_there true x y = refl
either_there false x y = refl

kept_there : (f : Entity → Entity) (c d : ℕ) (o : Option Entity) → KeepsClass f →
    is_some (of_class d (changed_reference f c o)) ≡ is_some (of_class d o)
kept_there f c d None k = refl
kept_there f c d (Some e) k = chosen (e.class == c)
  where
    chosen : (b : Bool) → is_some (of_class d (if b then Some (f e) else Some e)) ≡ is_some (of_class d (Some e))
    chosen true =
        ap (λ (n : ℕ). is_some (if n == d then Some (f e) else None)) (k e) ∙ either_there (e.class == d) (f e) e
    chosen false = refl

reference_there : (f : Entity → Entity) (c d : ℕ) (os : List (Option Entity)) (i j : ℕ) → KeepsClass f →
    is_some (option_and_then (of_class d) (slice_get (change_at (changed_reference f c) os i) j))
    ≡ is_some (option_and_then (of_class d) (slice_get os j))
reference_there f c d [] i j k = refl
reference_there f c d (o ∷ os) zero zero k = kept_there f c d o k
reference_there f c d (o ∷ os) zero (suc j) k = refl
reference_there f c d (o ∷ os) (suc i) zero k = refl
reference_there f c d (o ∷ os) (suc i) (suc j) k = reference_there f c d os i j k

some_or : (a b x y : Option Entity) → is_some a ≡ is_some x → is_some b ≡ is_some y →
    is_some (option_or a b) ≡ is_some (option_or x y)
some_or None b None y h k = k
some_or (Some e) b (Some f) y h k = refl
some_or None b (Some f) y h k = cc
some_or (Some e) b None y h k = cc

changed_stays : (f : Entity → Entity) (st : Store) (c k : ℕ) → KeepsClass f → Stays st (with_changed f st c k)
changed_stays f st c zero g d j h = h
changed_stays f st c (suc k) g d zero h = h
changed_stays f st c (suc k) g d (suc j) h =
    some_or _ _ (slice_get (made_of st d) j) (option_and_then (of_class d) (slice_get st.references j))
    (class_there f st.made c k d j) (reference_there f c d st.references k j g) ∙ h

-- an attribute set
pub attribute_stays : (st : Store) (c a k : ℕ) (value : ℤ) → Got (Stays st) (with_attribute st c a k value)
attribute_stays st c a k value =
    unless_got (Stays st) NoEntity (exists st c k) (Ok (with_changed (with_value a value) st c k))
    (changed_stays (with_value a value) st c k (λ e. refl))

list_stays : (w : Owner) (n : ℕ) (st : Store) (k : ℕ) (ks : List ℕ) → Stays st (with_list_by w n st k ks)
list_stays System n st k ks d zero h = h
list_stays System n st k ks d (suc j) h = h
list_stays (OwnedBy c) n st k ks d j h = changed_stays (with_owned n ks) st c k (λ e. refl) d j h

pub filed_stays : (s : SetShape) (st : Store) (o k : ℕ) (how : How) → Got (Stays st) (after_filing s st o k how)
filed_stays s st o k how =
    unless_got (Stays st) NoEntity (is_owner s st o) _
    (unless_got (Stays st) NoEntity (exists st s.member k) _
    (unless_got (Stays st) NoEntity (names_entity s st how) _
    (unless_got (Stays st) AlreadyInSet (not (is_filed s st k)) _
    (unless_got (Stays st) NotInList (names_member how (members_of s st o))
    (Ok (with_list s st o (filed_in s st how k (members_of s st o))))
    (list_stays s.owner s.list st o (filed_in s st how k (members_of s st o)))))))

-- the store after a REMOVE
abbrev pub LeavesThere : Store → ℕ × Store → Type 0
LeavesThere st r = Stays st r.1

taken_stays : (s : SetShape) (st : Store) (o : ℕ) (r : Result ℕ RunFault) → Got (LeavesThere st) (without_member s st o r)
taken_stays s st o (Ok k) = list_stays s.owner s.list st o (list_without (members_of s st o) k)
taken_stays s st o (Err f) = tt

pub removed_stays : (s : SetShape) (st : Store) (o : ℕ) (w : Which) → Got (LeavesThere st) (after_removing s st o w)
removed_stays s st o w =
    unless_got (LeavesThere st) NoEntity (is_owner s st o) _ (taken_stays s st o (member_named s st (members_of s st o) w))

one_more_there : (d : ℕ) (os rest : List (Option Entity)) (j : ℕ) →
    is_some (option_and_then (of_class d) (slice_get os j)) ≡ true →
    is_some (option_and_then (of_class d) (slice_get (os ++ rest) j)) ≡ true
one_more_there d [] rest j h = cc
one_more_there d (o ∷ os) rest zero h = h
one_more_there d (o ∷ os) rest (suc j) h = one_more_there d os rest j h

second_there : (a b y : Option Entity) → (is_some b ≡ true → is_some y ≡ true) → is_some (option_or a b) ≡ true →
    is_some (option_or a y) ≡ true
second_there None b y f h = f h
second_there (Some e) b y f h = refl

first_there : (a b x : Option Entity) → (is_some a ≡ true → is_some x ≡ true) → is_some (option_or a b) ≡ true →
    is_some (option_or x b) ≡ true
first_there a b (Some e) f h = refl
first_there None b None f h = h
first_there (Some e) b None f h = absurd (clash (f refl))
  where
    clash : false ≡ true → ⊥
    clash g = cc

reference_stays : (st : Store) (e : Entity) → Stays st (with_reference st e)
reference_stays st e d zero h = h
reference_stays st e d (suc j) h =
    second_there (slice_get (made_of st d) j) _ _ (one_more_there d st.references (Some e ∷ []) j) h

-- an entity more
pub new_stays : (st : Store) (c : ℕ) (shape : ClassShape) → Got (Stays st) (with_new st c shape)
new_stays st c shape =
    unless_got (Stays st) TooManyReferences (nat_lt (length st.references) MOST_REFERENCES)
    (Ok (with_reference st (fresh c shape)))
    (reference_stays st (fresh c shape))

same_class : (b : Bool) (e : Entity) → b ≡ true → is_some (if b then Some e else None) ≡ true
same_class true e h = refl
same_class false e h = cc

last_there : (os : List (Option Entity)) (e : Entity) (d : ℕ) → e.class ≡ d →
    is_some (option_and_then (of_class d) (slice_get (os ++ Some e ∷ []) (length os))) ≡ true
last_there [] e d h = same_class (e.class == d) e (eq-eqb e.class d h)
last_there (o ∷ os) e d h = last_there os e d h

second_some : (a b : Option Entity) → is_some b ≡ true → is_some (option_or a b) ≡ true
second_some None b h = h
second_some (Some e) b h = refl

reference_made : (st : Store) (e : Entity) (d : ℕ) → e.class ≡ d →
    exists (with_reference st e) d (last_reference (with_reference st e)) ≡ true
reference_made st e d h =
    let n : length (st.references ++ Some e ∷ []) ≡ suc (length st.references) =
    omega (arith, length-append st.references (Some e ∷ [])) in
    rw n (second_some (slice_get (made_of st d) (length st.references)) _ (last_there st.references e d h))

-- a new entity is there, and its number is within the limit
pub record IsLast (st : Store) (c : ℕ) : Type 0 where
  pub there : exists st c (last_reference st) ≡ true
  pub named : 0 < last_reference st
  pub small : last_reference st ≤ MOST_REFERENCES

new_last_by : (st : Store) (c : ℕ) (shape : ClassShape) (b : Bool) → nat_lt (length st.references) MOST_REFERENCES ≡ b →
    Got (λ (r : Store). IsLast r c) (unless TooManyReferences b (Ok (with_reference st (fresh c shape))))
new_last_by st c shape false h = tt
new_last_by st c shape true h =
    let n : length (st.references ++ Some (fresh c shape) ∷ []) ≡ suc (length st.references) =
    omega (arith, length-append st.references (Some (fresh c shape) ∷ [])) in
    record {
      there = reference_made st (fresh c shape) c refl;
      named = omega (arith, n);
      small = omega (arith, n, ltb-true _ _ h);
    }

pub new_last : (st : Store) (c : ℕ) (shape : ClassShape) → Got (λ (r : Store). IsLast r c) (with_new st c shape)
new_last st c shape = new_last_by st c shape (nat_lt (length st.references) MOST_REFERENCES) refl

nothing_made : (es : List Entity) (j : ℕ) → (length es == 0) ≡ true → is_some (slice_get es j) ≡ true → ⊥
nothing_made [] j h k = absurd (clash k)
  where
    clash : false ≡ true → ⊥
    clash g = cc
nothing_made (e ∷ es) j h k = let n : length (e ∷ es) ≡ 0 = eqb-true (length (e ∷ es)) 0 h in omega (arith, n)

class_made : (rows : List (List Entity)) (c d j : ℕ) (es : List Entity) →
    (length (slice_index_or rows c []) == 0) ≡ true →
    is_some (slice_get (slice_index_or rows d []) j) ≡ true →
    is_some (slice_get (slice_index_or (slice_set rows c es) d []) j) ≡ true
class_made [] c d j es h k = k
class_made (row ∷ rest) zero zero j es h k = absurd (nothing_made row j h k)
class_made (row ∷ rest) zero (suc d) j es h k = k
class_made (row ∷ rest) (suc c) zero j es h k = k
class_made (row ∷ rest) (suc c) (suc d) j es h k = class_made rest c d j es h k

made_stays : (st : Store) (c : ℕ) (es : List Entity) → (length (made_of st c) == 0) ≡ true →
    Stays st (with_made st c es)
made_stays st c es h d zero k = k
made_stays st c es h d (suc j) k =
    first_there (slice_get (made_of st d) j) _ _ (class_made st.made c d j es h) k

unless_given : {A : Type 0} (P : A → Type 0) (f : RunFault) (b : Bool) (r : Result A RunFault) → (b ≡ true → Got P r) →
    Got P (unless f b r)
unless_given P f true r h = h refl
unless_given P f false r h = tt

-- all entities of a permanent class
pub class_stays : (st : Store) (c : ℕ) (shape : ClassShape) (n : ℤ) → Got (Stays st) (with_class st c shape n)
class_stays st c shape n =
    unless_given (Stays st) AlreadyCreated (length (made_of st c) == 0) _ (λ h.
    unless_got (Stays st) CountOutOfRange (nat_lt 0 (number_of n) && nat_le (number_of n) MOST_ENTITIES)
    (Ok (with_made st c (replicate (number_of n) (fresh c shape))))
    (made_stays st c (replicate (number_of n) (fresh c shape)) h))

other_set : (os : List (Option Entity)) (i j : ℕ) → j ≢ i → slice_get (slice_set os i None) j ≡ slice_get os j
other_set [] i j n = refl
other_set (o ∷ os) zero zero n = absurd (n refl)
other_set (o ∷ os) zero (suc j) n = refl
other_set (o ∷ os) (suc i) zero n = refl
other_set (o ∷ os) (suc i) (suc j) n = other_set os i j (λ e. n (ap suc e))

others_stay : (st : Store) (c k : ℕ) → exists st c k ≡ true → StaysBut k st (without_reference st k)
others_stay st c zero h d j n g = cc
others_stay st c (suc k) h d zero n g = g
others_stay st c (suc k) h d (suc j) n g =
    let z : suc k - 1 ≡ k = omega arith in
    rw (z, other_set st.references k j (λ e. n (ap suc e))) g

-- an entity less
pub ended_stays : (t : Tables) (st : Store) (c k : ℕ) → Got (StaysBut k st) (without_entity t st c k)
ended_stays t st c k =
    unless_given (StaysBut k st) NoEntity (exists st c k) _ (λ h.
    unless_got (StaysBut k st) EndedInUse (not (is_member t.sets st c k)) _
    (unless_got (StaysBut k st) EndedOwner (not (owns_members (entity st c k))) (Ok (without_reference st k))
    (others_stay st c k h)))

-- no entity has number 0
pub named_positive : (st : Store) (c k : ℕ) → exists st c k ≡ true → 0 < k
named_positive st c zero h = cc
named_positive st c (suc k) h = omega arith
