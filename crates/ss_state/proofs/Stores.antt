-- the attributes of entities are in range
use Rattle.std.proofs.Common.{ℕ, ℤ, zero, suc, ◌-◌, List, [], ◌∷◌, ◌++◌, Bool, true, false, Option, Some, None, Result}
use Rattle.std.proofs.Common.{Ok, Err}
use Rattle.std.specs.Prelude.{length, replicate, slice_get, slice_set, slice_index_or, not, ◌==◌, ◌&&◌, nat_lt, nat_le}
use Rattle.std.specs.Prelude.{if◌then◌else◌, option_and_then}
use Rattle.std.specs.Option.{option_or}
use Rattle.ss_words.specs.declared.fault.RunFault.{RunFault}
use Rattle.ss_words.specs.declared.fault.RunFault.TheVariants.{NoEntity, EndedInUse, EndedOwner, AlreadyCreated}
use Rattle.ss_words.specs.declared.fault.RunFault.TheVariants.{CountOutOfRange, TooManyReferences, AlreadyInSet}
use Rattle.ss_words.specs.declared.fault.RunFault.TheVariants.{NotInList}
use Rattle.ss_links.specs.Seats.{list_without}
use Rattle.ss_program.specs.declared.kinds.Owner.{Owner}
use Rattle.ss_program.specs.declared.kinds.Owner.TheVariants.{System, OwnedBy}
use Rattle.ss_store.specs.declared.shape.ClassShape.{ClassShape}
use Rattle.ss_store.specs.declared.shape.SetShape.{SetShape}
use Rattle.ss_store.specs.declared.shape.How.{How}
use Rattle.ss_store.specs.declared.shape.Which.{Which}
use Rattle.ss_store.specs.Lists.{change_at}
use Rattle.ss_store.specs.Tables.{Tables}
use Rattle.ss_store.specs.Store.{Entity, Store, number_of, unless, of_class, made_of, entity, exists, attribute_in}
use Rattle.ss_store.specs.Store.{attribute_of, is_owner, members_of, is_filed, changed_reference, with_changed}
use Rattle.ss_store.specs.Store.{with_value, with_attribute, with_owned, with_list_by, with_list, fresh, empty_store}
use Rattle.ss_store.specs.Store.{with_reference, with_new, with_made, with_class, is_member, owns_members}
use Rattle.ss_store.specs.Store.{without_reference, without_entity}
use Rattle.ss_store.specs.declared.limits.TheConstants.{MOST_ENTITIES}
use Rattle.ss_words.specs.declared.limits.TheConstants.{MOST_REFERENCES}
use Rattle.ss_store.specs.Filing.{after_filing, filed_in, names_entity, names_member, member_named, without_member}
use Rattle.ss_store.specs.Filing.{after_removing}
use Rattle.ss_state.specs.Well.{AreInRange, AreEntitiesInRange, AreClassesInRange, IsNoneOrEntityInRange}
use Rattle.ss_state.specs.Well.{AreReferencesInRange, IsStoreInRange}
use Rattle.ss_state.proofs.Ranges.{Got, IsIn, index_in, set_in, zeros_in}

-- ---- the start

no_entities : (n : ℕ) → AreClassesInRange (replicate n [])
no_entities zero = tt
no_entities (suc n) = (tt, no_entities n)

pub empty_in : (t : Tables) → IsStoreInRange (empty_store t)
empty_in t = record { made = no_entities (length t.classes); references = tt }

-- ---- values of attributes

class_in : (rows : List (List Entity)) (c : ℕ) → AreClassesInRange rows → AreEntitiesInRange (slice_index_or rows c [])
class_in [] c h = tt
class_in (es ∷ rest) zero h = h.0
class_in (es ∷ rest) (suc c) h = class_in rest c h.1

entity_in : (es : List Entity) (i : ℕ) → AreEntitiesInRange es → IsNoneOrEntityInRange (slice_get es i)
entity_in [] i h = tt
entity_in (e ∷ es) zero h = h.0
entity_in (e ∷ es) (suc i) h = entity_in es i h.1

kept_class_in : (c : ℕ) (o : Option Entity) → IsNoneOrEntityInRange o → IsNoneOrEntityInRange (of_class c o)
kept_class_in c None h = tt
kept_class_in c (Some e) h = chosen (e.class == c)
  where
    chosen : (b : Bool) → IsNoneOrEntityInRange (if b then Some e else None)
    chosen true = h
    chosen false = tt

reference_in : (c : ℕ) (os : List (Option Entity)) (i : ℕ) → AreReferencesInRange os →
    IsNoneOrEntityInRange (option_and_then (of_class c) (slice_get os i))
reference_in c [] i h = tt
reference_in c (o ∷ os) zero h = kept_class_in c o h.0
reference_in c (o ∷ os) (suc i) h = reference_in c os i h.1

either_entity_in : (a b : Option Entity) → IsNoneOrEntityInRange a → IsNoneOrEntityInRange b →
    IsNoneOrEntityInRange (option_or a b)
either_entity_in None b h k = k
either_entity_in (Some e) b h k = h

-- an entity that there is has its attributes in range
pub named_entity_in : (st : Store) (c k : ℕ) → IsStoreInRange st → IsNoneOrEntityInRange (entity st c k)
named_entity_in st c zero h = tt
named_entity_in st c (suc k) h =
    either_entity_in (slice_get (made_of st c) k) (option_and_then (of_class c) (slice_get st.references k))
    (entity_in (made_of st c) k (class_in st.made c h.made)) (reference_in c st.references k h.references)

value_of_in : (a : ℕ) (o : Option Entity) → IsNoneOrEntityInRange o → Got IsIn (attribute_in a o)
value_of_in a None h = tt
value_of_in a (Some e) h = index_in e.attributes a h

-- so is the value of an attribute
pub attribute_value_in : (st : Store) (c a k : ℕ) → IsStoreInRange st → Got IsIn (attribute_of st c a k)
attribute_value_in st c a k h = value_of_in a (entity st c k) (named_entity_in st c k h)

-- ---- entities changed

-- a change of an entity that leaves its attributes in range
abbrev KeepsRange : (Entity → Entity) → Type 0
KeepsRange f = (e : Entity) → AreInRange e.attributes → AreInRange (f e).attributes

entities_changed : (f : Entity → Entity) (es : List Entity) (i : ℕ) → KeepsRange f → AreEntitiesInRange es →
    AreEntitiesInRange (change_at f es i)
entities_changed f [] i k h = tt
entities_changed f (e ∷ es) zero k h = (k e h.0, h.1)
entities_changed f (e ∷ es) (suc i) k h = (h.0, entities_changed f es i k h.1)

classes_changed : (f : Entity → Entity) (rows : List (List Entity)) (c i : ℕ) → KeepsRange f → AreClassesInRange rows →
    AreClassesInRange (change_at (λ row. change_at f row i) rows c)
classes_changed f [] c i k h = tt
classes_changed f (es ∷ rest) zero i k h = (entities_changed f es i k h.0, h.1)
classes_changed f (es ∷ rest) (suc c) i k h = (h.0, classes_changed f rest c i k h.1)

reference_changed : (f : Entity → Entity) (c : ℕ) (o : Option Entity) → KeepsRange f → IsNoneOrEntityInRange o →
    IsNoneOrEntityInRange (changed_reference f c o)
reference_changed f c None k h = tt
reference_changed f c (Some e) k h = chosen (e.class == c)
  where
    chosen : (b : Bool) → IsNoneOrEntityInRange (if b then Some (f e) else Some e)
    chosen true = k e h
    chosen false = h

references_changed : (f : Entity → Entity) (c : ℕ) (os : List (Option Entity)) (i : ℕ) → KeepsRange f →
    AreReferencesInRange os →
    AreReferencesInRange (change_at (changed_reference f c) os i)
references_changed f c [] i k h = tt
references_changed f c (o ∷ os) zero k h = (reference_changed f c o k h.0, h.1)
references_changed f c (o ∷ os) (suc i) k h = (h.0, references_changed f c os i k h.1)

changed_in : (f : Entity → Entity) (st : Store) (c k : ℕ) → KeepsRange f → IsStoreInRange st →
    IsStoreInRange (with_changed f st c k)
changed_in f st c zero g h = h
changed_in f st c (suc k) g h = record {
  made = classes_changed f st.made c k g h.made;
  references = references_changed f c st.references k g h.references;
}

pub unless_got : {A : Type 0} (P : A → Type 0) (f : RunFault) (b : Bool) (r : Result A RunFault) → Got P r →
    Got P (unless f b r)
unless_got P f true r h = h
unless_got P f false r h = tt

-- an attribute with a value in range
pub set_attribute_in : (st : Store) (c a k : ℕ) (value : ℤ) → IsIn value → IsStoreInRange st →
    Got IsStoreInRange (with_attribute st c a k value)
set_attribute_in st c a k value v h =
    unless_got IsStoreInRange NoEntity (exists st c k) (Ok (with_changed (with_value a value) st c k))
    (changed_in (with_value a value) st c k (λ e g. set_in e.attributes a value g v) h)

-- ---- lists changed

listed_by : (w : Owner) (n : ℕ) (st : Store) (k : ℕ) (ks : List ℕ) → IsStoreInRange st →
    IsStoreInRange (with_list_by w n st k ks)
listed_by System n st k ks h = record { made = h.made; references = h.references }
listed_by (OwnedBy c) n st k ks h = changed_in (with_owned n ks) st c k (λ e g. g) h

pub listed_in : (s : SetShape) (st : Store) (k : ℕ) (ks : List ℕ) → IsStoreInRange st →
    IsStoreInRange (with_list s st k ks)
listed_in s st k ks h = listed_by s.owner s.list st k ks h

-- FILE
pub filed_well : (s : SetShape) (st : Store) (o k : ℕ) (how : How) → IsStoreInRange st →
    Got IsStoreInRange (after_filing s st o k how)
filed_well s st o k how h =
    unless_got IsStoreInRange NoEntity (is_owner s st o) _
    (unless_got IsStoreInRange NoEntity (exists st s.member k) _
    (unless_got IsStoreInRange NoEntity (names_entity s st how) _
    (unless_got IsStoreInRange AlreadyInSet (not (is_filed s st k)) _
    (unless_got IsStoreInRange NotInList (names_member how (members_of s st o))
    (Ok (with_list s st o (filed_in s st how k (members_of s st o))))
    (listed_in s st o (filed_in s st how k (members_of s st o)) h)))))

-- the store after a REMOVE
abbrev pub LeavesInRange : ℕ × Store → Type 0
LeavesInRange r = IsStoreInRange r.1

taken_out_in : (s : SetShape) (st : Store) (o : ℕ) (r : Result ℕ RunFault) → IsStoreInRange st →
    Got LeavesInRange (without_member s st o r)
taken_out_in s st o (Ok k) h = listed_in s st o (list_without (members_of s st o) k) h
taken_out_in s st o (Err f) h = tt

-- REMOVE
pub removed_well : (s : SetShape) (st : Store) (o : ℕ) (w : Which) → IsStoreInRange st →
    Got LeavesInRange (after_removing s st o w)
removed_well s st o w h =
    unless_got LeavesInRange NoEntity (is_owner s st o) _ (taken_out_in s st o (member_named s st (members_of s st o) w) h)

-- ---- entities made and ended

one_more : (os : List (Option Entity)) (e : Entity) → AreInRange e.attributes → AreReferencesInRange os →
    AreReferencesInRange (os ++ Some e ∷ [])
one_more [] e v h = (v, tt)
one_more (o ∷ os) e v h = (h.0, one_more os e v h.1)

-- an entity more
pub new_in : (st : Store) (c : ℕ) (shape : ClassShape) → IsStoreInRange st → Got IsStoreInRange (with_new st c shape)
new_in st c shape h =
    unless_got IsStoreInRange TooManyReferences (nat_lt (length st.references) MOST_REFERENCES)
    (Ok (with_reference st (fresh c shape)))
    (record {
      made = h.made;
      references = one_more st.references (fresh c shape) (zeros_in shape.attributes)
          h.references;
    })

fresh_in : (n c : ℕ) (shape : ClassShape) → AreEntitiesInRange (replicate n (fresh c shape))
fresh_in zero c shape = tt
fresh_in (suc n) c shape = (zeros_in shape.attributes, fresh_in n c shape)

class_set : (rows : List (List Entity)) (c : ℕ) (es : List Entity) → AreEntitiesInRange es → AreClassesInRange rows →
    AreClassesInRange (slice_set rows c es)
class_set [] c es v h = tt
class_set (row ∷ rest) zero es v h = (v, h.1)
class_set (row ∷ rest) (suc c) es v h = (h.0, class_set rest c es v h.1)

-- all entities of a permanent class
pub made_in : (st : Store) (c : ℕ) (shape : ClassShape) (n : ℤ) → IsStoreInRange st →
    Got IsStoreInRange (with_class st c shape n)
made_in st c shape n h =
    unless_got IsStoreInRange AlreadyCreated (length (made_of st c) == 0) _
    (unless_got IsStoreInRange CountOutOfRange (nat_lt 0 (number_of n) && nat_le (number_of n) MOST_ENTITIES)
    (Ok (with_made st c (replicate (number_of n) (fresh c shape))))
    (record { made = class_set st.made c _ (fresh_in (number_of n) c shape) h.made; references = h.references }))

ended : (os : List (Option Entity)) (i : ℕ) → AreReferencesInRange os → AreReferencesInRange (slice_set os i None)
ended [] i h = tt
ended (o ∷ os) zero h = (tt, h.1)
ended (o ∷ os) (suc i) h = (h.0, ended os i h.1)

-- an entity less
pub without_in : (t : Tables) (st : Store) (c k : ℕ) → IsStoreInRange st → Got IsStoreInRange (without_entity t st c k)
without_in t st c k h =
    unless_got IsStoreInRange NoEntity (exists st c k) _
    (unless_got IsStoreInRange EndedInUse (not (is_member t.sets st c k)) _
    (unless_got IsStoreInRange EndedOwner (not (owns_members (entity st c k))) (Ok (without_reference st k))
    (record { made = h.made; references = ended st.references (k - 1) h.references })))
