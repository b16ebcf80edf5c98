-- One step changes a list exactly when it changes the number of its members.
use Rattle.std.proofs.Common.{◌≡◌, ◌≢◌, ℕ, ℤ, zero, suc, ◌-◌, ◌≤◌, List}
use Rattle.std.proofs.Common.{[], ◌∷◌, ◌++◌, Bool, true, false, Option, Some, None, ◌⊎◌}
use Rattle.std.proofs.Common.{Result, Ok, Err, refl, sym, ap, ◌∙◌, arith, length, length-append, inl, inr}
use Rattle.std.specs.Prelude.{slice_get, slice_set, slice_index_or, option_map}
use Rattle.std.specs.Prelude.{option_and_then, is_some, unwrap_or, not}
use Rattle.std.specs.Prelude.{◌==◌, nat_lt, if◌then◌else◌}
use Rattle.std.specs.Option.{option_or}
use Rattle.std.proofs.lemmas.Bool.{eq-eqb, eqb-true}
use Rattle.ss_words.specs.declared.fault.RunFault.{RunFault}
use Rattle.ss_words.specs.declared.fault.RunFault.TheVariants.{NoEntity, EndedInUse, EndedOwner, TooManyReferences}
use Rattle.ss_words.specs.declared.fault.RunFault.TheVariants.{AlreadyInSet, NotInList}
use Rattle.ss_words.specs.declared.limits.TheConstants.{MOST_REFERENCES}
use Rattle.ss_links.specs.Seats.{list_without, put_before, put_behind}
use Rattle.ss_links.proofs.SeatLaws.{length-without}
use Rattle.ss_program.specs.declared.kinds.Discipline.{Discipline}
use Rattle.ss_program.specs.declared.kinds.Discipline.TheVariants.{Fifo, Lifo, Ranked}
use Rattle.ss_program.specs.declared.kinds.Owner.{Owner}
use Rattle.ss_program.specs.declared.kinds.Owner.TheVariants.{System, OwnedBy}
use Rattle.ss_store.specs.declared.shape.ClassShape.{ClassShape}
use Rattle.ss_store.specs.declared.shape.SetShape.{SetShape}
use Rattle.ss_store.specs.declared.shape.How.{How}
use Rattle.ss_store.specs.declared.shape.How.TheVariants.{ByRule, First, Last, Before, After}
use Rattle.ss_store.specs.declared.shape.Which.{Which}
use Rattle.ss_store.specs.Lists.{change_at, placed_before}
use Rattle.ss_store.specs.Tables.{Tables}
use Rattle.ss_store.specs.Store.{Entity, Store, number_of, of_class}
use Rattle.ss_store.specs.Store.{made_of, entity, exists, list_number, list_by}
use Rattle.ss_store.specs.Store.{members_by, members_of, is_owner}
use Rattle.ss_store.specs.Store.{is_filed, changed_reference, with_changed, with_owned}
use Rattle.ss_store.specs.Store.{with_list_by, with_list, fresh, with_reference, with_new, is_member, owns_members}
use Rattle.ss_store.specs.Store.{without_reference, without_entity, with_attribute}
use Rattle.ss_store.specs.Filing.{after_filing, after_removing, filed_in}
use Rattle.ss_store.specs.Filing.{filed_by, ranks_behind, names_entity, names_member}
use Rattle.ss_store.specs.Filing.{member_named, without_member}
use Rattle.ss_store.proofs.Between.{other_lists_stay}
use Rattle.ss_state.proofs.Ranges.{Got}
use Rattle.ss_state.proofs.Stores.{unless_got}
use Rattle.ss_trace.proofs.SameLists.{HasSameLists, same_lists, list_same, attribute_same}

-- a list that is another one has another length
abbrev pub Counts : List ℕ → List ℕ → Type 0
Counts ks new = length new ≡ length ks → new ≡ ks

-- a list, perhaps without an owner, that is another one has another length
abbrev pub CountsIf : Option (List ℕ) → Option (List ℕ) → Type 0
CountsIf o new = option_map length new ≡ option_map length o → new ≡ o

-- all lists of two stores
pub record HasCounted (st new : Store) : Type 0 where
  pub each : (w : Owner) (n k : ℕ) → CountsIf (list_by w n st k) (list_by w n new k)

pub counted_same : (st : Store) → HasCounted st st
counted_same st = record { each = λ w n k e. refl }

-- ---- stores with the same lists

-- lists that are counted in one store are counted in another one with the same lists
pub counted_then : (old st new : Store) → HasCounted old st → HasSameLists st new → HasCounted old new
counted_then old st new h s = record {
  each = λ w n k. rw (list_same w n k st new s) (h.each w n k);
}

-- an attribute set changes no list
pub attribute_counted : (old st : Store) (c a k : ℕ) (z : ℤ) → HasCounted old st →
    Got (HasCounted old) (with_attribute st c a k z)
attribute_counted old st c a k z h =
    weakened (HasSameLists st) (HasCounted old) (with_attribute st c a k z)
    (attribute_same st st c a k z (same_lists st)) (λ new s. counted_then old st new h s)
  where
    weakened : (P Q : Store → Type 0) (r : Result Store RunFault) → Got P r → ((x : Store) → P x → Q x) → Got Q r
    weakened P Q (Ok x) g f = f x g
    weakened P Q (Err e) g f = tt

-- ---- one list

longer : (xs ys : List ℕ) → length ys ≡ suc (length xs) → Counts xs ys
longer xs ys e = λ f. absurd (omega (arith, e, f))

-- one of two lists: a longer one, or the old one except for the members after its first
chosen_counts : (b : Bool) (j : ℕ) (ks long rest : List ℕ) → length long ≡ suc (suc (length ks)) → Counts ks rest →
    Counts (j ∷ ks) (if b then long else j ∷ rest)
chosen_counts true j ks long rest e h = λ f. absurd (omega (arith, e, f))
chosen_counts false j ks long rest e h = λ f. ap (λ (l : List ℕ). j ∷ l) (h (omega (arith, f)))

before_counts : (ks : List ℕ) (y k : ℕ) → Counts ks (put_before ks y k)
before_counts [] y k = λ e. refl
before_counts (j ∷ ks) y k = chosen_counts (j == y) j ks (k ∷ j ∷ ks) (put_before ks y k) refl (before_counts ks y k)

behind_counts : (ks : List ℕ) (y k : ℕ) → Counts ks (put_behind ks y k)
behind_counts [] y k = λ e. refl
behind_counts (j ∷ ks) y k = chosen_counts (j == y) j ks (j ∷ k ∷ ks) (put_behind ks y k) refl (behind_counts ks y k)

chosen_length : (b : Bool) (j : ℕ) (ks long rest : List ℕ) → length long ≡ suc (suc (length ks)) →
    length rest ≡ suc (length ks) → length (if b then long else j ∷ rest) ≡ suc (suc (length ks))
chosen_length true j ks long rest e f = e
chosen_length false j ks long rest e f = ap suc f

placed_length : (test : ℕ → Bool) (k : ℕ) (ks : List ℕ) → length (placed_before test k ks) ≡ suc (length ks)
placed_length test k [] = refl
placed_length test k (j ∷ ks) =
    chosen_length (test j) j ks (k ∷ j ∷ ks) (placed_before test k ks) refl (placed_length test k ks)

last_counts : (ks : List ℕ) (k : ℕ) → Counts ks (ks ++ k ∷ [])
last_counts ks k = longer ks (ks ++ k ∷ []) (omega (arith, length-append ks (k ∷ [])))

rule_counts : (d : Discipline) (st : Store) (c k : ℕ) (ks : List ℕ) → Counts ks (filed_by d st c k ks)
rule_counts Fifo st c k ks = last_counts ks k
rule_counts Lifo st c k ks = longer ks (k ∷ ks) refl
rule_counts (Ranked keys) st c k ks = longer ks _ (placed_length (ranks_behind keys st c k) k ks)

pub filed_counts : (s : SetShape) (st : Store) (how : How) (k : ℕ) (ks : List ℕ) → Counts ks (filed_in s st how k ks)
filed_counts s st ByRule k ks = rule_counts s.discipline st s.member k ks
filed_counts s st First k ks = longer ks (k ∷ ks) refl
filed_counts s st Last k ks = last_counts ks k
filed_counts s st (Before y) k ks = before_counts ks (number_of y) k
filed_counts s st (After y) k ks = behind_counts ks (number_of y) k

-- one of two lists: a shorter one, or the old one except for the members after its first
dropped_counts : (b : Bool) (j : ℕ) (ks rest : List ℕ) → length rest ≤ length ks → Counts ks rest →
    Counts (j ∷ ks) (if b then rest else j ∷ rest)
dropped_counts true j ks rest e h = λ f. absurd (omega (arith, e, f))
dropped_counts false j ks rest e h = λ f. ap (λ (l : List ℕ). j ∷ l) (h (omega (arith, f)))

pub without_counts : (ks : List ℕ) (x : ℕ) → Counts ks (list_without ks x)
without_counts [] x = λ e. refl
without_counts (j ∷ ks) x =
    dropped_counts (j == x) j ks (list_without ks x) (omega (arith, length-without ks x)) (without_counts ks x)

-- ---- one list of a store

set_counts : (ls : List (List ℕ)) (n : ℕ) (ks : List ℕ) → Counts (list_number ls n) ks →
    Counts (list_number ls n) (list_number (slice_set ls n ks) n)
set_counts [] n ks h = λ e. refl
set_counts (l ∷ ls) zero ks h = h
set_counts (l ∷ ls) (suc n) ks h = set_counts ls n ks h

if_counts : (ks new : List ℕ) → Counts ks new → CountsIf (Some ks) (Some new)
if_counts ks new h = λ e. ap Some (h (unwrapped e))
  where
    unwrapped : {a b : ℕ} → Some a ≡ Some b → a ≡ b
    unwrapped f = ap (λ (o : Option ℕ). unwrap_or o 0) f

-- list number n of an entity, if there is one
abbrev listed : ℕ → Option Entity → Option (List ℕ)
listed n o = option_map (λ (e : Entity). list_number e.owned n) o

entity_counts : (n : ℕ) (ks : List ℕ) (o : Option Entity) → Counts (unwrap_or (listed n o) []) ks →
    CountsIf (listed n o) (listed n (option_map (with_owned n ks) o))
entity_counts n ks None h = λ e. refl
entity_counts n ks (Some x) h =
    if_counts (list_number x.owned n) (list_number (slice_set x.owned n ks) n) (set_counts x.owned n ks h)

made_here : (f : Entity → Entity) (es : List Entity) (i : ℕ) →
    slice_get (change_at f es i) i ≡ option_map f (slice_get es i)
made_here f [] i = refl
made_here f (e ∷ es) zero = refl
made_here f (e ∷ es) (suc i) = made_here f es i

class_here : (f : Entity → Entity) (rows : List (List Entity)) (c i : ℕ) →
    slice_get (slice_index_or (change_at (λ row. change_at f row i) rows c) c []) i
    ≡ option_map f (slice_get (slice_index_or rows c []) i)
class_here f [] c i = refl
class_here f (es ∷ rest) zero i = made_here f es i
class_here f (es ∷ rest) (suc c) i = class_here f rest c i

kept_here : (n : ℕ) (ks : List ℕ) (c : ℕ) (o : Option Entity) →
    of_class c (changed_reference (with_owned n ks) c o) ≡ option_map (with_owned n ks) (of_class c o)
kept_here n ks c None = refl
kept_here n ks c (Some e) = chosen (e.class == c) refl
  where
    chosen : (b : Bool) → (e.class == c) ≡ b →
        of_class c (if b then Some (with_owned n ks e) else Some e)
        ≡ option_map (with_owned n ks) (if b then Some e else None)
    chosen true h = rw h refl
    chosen false h = rw h refl

reference_here : (n : ℕ) (ks : List ℕ) (c : ℕ) (os : List (Option Entity)) (i : ℕ) →
    option_and_then (of_class c) (slice_get (change_at (changed_reference (with_owned n ks) c) os i) i)
    ≡ option_map (with_owned n ks) (option_and_then (of_class c) (slice_get os i))
reference_here n ks c [] i = refl
reference_here n ks c (o ∷ os) zero = kept_here n ks c o
reference_here n ks c (o ∷ os) (suc i) = reference_here n ks c os i

either_here : (f : Entity → Entity) (a b x y : Option Entity) → a ≡ option_map f x → b ≡ option_map f y →
    option_or a b ≡ option_map f (option_or x y)
either_here f a b None y h k = rw h k
either_here f a b (Some e) y h k = rw h refl

changed_here : (n : ℕ) (ks : List ℕ) (st : Store) (c k : ℕ) →
    entity (with_changed (with_owned n ks) st c k) c k ≡ option_map (with_owned n ks) (entity st c k)
changed_here n ks st c zero = refl
changed_here n ks st c (suc i) =
    either_here (with_owned n ks) _ _ (slice_get (made_of st c) i)
    (option_and_then (of_class c) (slice_get st.references i))
    (class_here (with_owned n ks) st.made c i) (reference_here n ks c st.references i)

here_counts : (w : Owner) (n : ℕ) (st : Store) (o : ℕ) (ks : List ℕ) → Counts (members_by w n st o) ks →
    CountsIf (list_by w n st o) (list_by w n (with_list_by w n st o ks) o)
here_counts System n st o ks h = if_counts _ _ (set_counts st.system n ks h)
here_counts (OwnedBy c) n st o ks h = rw (changed_here n ks st c o) (entity_counts n ks (entity st c o) h)

same_counts : (a b : Option (List ℕ)) → b ≡ a → CountsIf a b
same_counts a b h = λ e. h

-- ---- any list of a store

clash : false ≡ true → ⊥
clash g = cc

pub is_or_not : (i j : ℕ) → (i ≡ j) ⊎ (i ≢ j)
is_or_not i j = chosen (i == j) refl
  where
    chosen : (b : Bool) → (i == j) ≡ b → (i ≡ j) ⊎ (i ≢ j)
    chosen true h = inl (eqb-true i j h)
    chosen false h = inr (λ e. clash (sym h ∙ eq-eqb i j e))

list_counts : (w : Owner) (n o : ℕ) (v : Owner) (m u : ℕ) (st : Store) (ks : List ℕ) → Counts (members_by w n st o) ks →
    CountsIf (list_by v m st u) (list_by v m (with_list_by w n st o ks) u)
list_counts System n o System m u st ks h = elim (is_or_not n m) [
  | inl e ↦ rw (sym e) (here_counts System n st o ks h)
  | inr far ↦ same_counts _ _ (other_lists_stay System System n o m u st ks far)
]
list_counts System n o (OwnedBy d) m u st ks h = same_counts _ _ (other_lists_stay System (OwnedBy d) n o m u st ks tt)
list_counts (OwnedBy c) n o System m u st ks h = same_counts _ _ (other_lists_stay (OwnedBy c) System n o m u st ks tt)
list_counts (OwnedBy c) n o (OwnedBy d) m u st ks h = elim (is_or_not c d) [
  | inr far ↦ same_counts _ _ (other_lists_stay (OwnedBy c) (OwnedBy d) n o m u st ks (λ e f g. far e))
  | inl e ↦ elim (is_or_not n m) [
    | inr far ↦ same_counts _ _ (other_lists_stay (OwnedBy c) (OwnedBy d) n o m u st ks (λ e f g. far f))
    | inl f ↦ elim (is_or_not o u) [
      | inr far ↦ same_counts _ _ (other_lists_stay (OwnedBy c) (OwnedBy d) n o m u st ks (λ e f g. far g))
      | inl g ↦ rw (sym e, sym f, sym g) (here_counts (OwnedBy c) n st o ks h)
    ]
  ]
]

pub relisted : (s : SetShape) (st : Store) (o : ℕ) (ks : List ℕ) → Counts (members_of s st o) ks →
    HasCounted st (with_list s st o ks)
relisted s st o ks h = record { each = λ v m u. list_counts s.owner s.list o v m u st ks h }

-- FILE
pub filed : (s : SetShape) (st : Store) (o k : ℕ) (how : How) → Got (HasCounted st) (after_filing s st o k how)
filed s st o k how =
    unless_got (HasCounted st) NoEntity (is_owner s st o) _
    (unless_got (HasCounted st) NoEntity (exists st s.member k) _
    (unless_got (HasCounted st) NoEntity (names_entity s st how) _
    (unless_got (HasCounted st) AlreadyInSet (not (is_filed s st k)) _
    (unless_got (HasCounted st) NotInList (names_member how (members_of s st o))
    (Ok (with_list s st o (filed_in s st how k (members_of s st o))))
    (relisted s st o (filed_in s st how k (members_of s st o)) (filed_counts s st how k (members_of s st o)))))))

-- the lists after a REMOVE are counted
abbrev pub LeavesCounted : Store → ℕ × Store → Type 0
LeavesCounted st r = HasCounted st r.1

taken_counts : (s : SetShape) (st : Store) (o : ℕ) (r : Result ℕ RunFault) →
    Got (LeavesCounted st) (without_member s st o r)
taken_counts s st o (Ok k) = relisted s st o (list_without (members_of s st o) k) (without_counts (members_of s st o) k)
taken_counts s st o (Err f) = tt

-- REMOVE
pub removed : (s : SetShape) (st : Store) (o : ℕ) (w : Which) → Got (LeavesCounted st) (after_removing s st o w)
removed s st o w =
    unless_got (LeavesCounted st) NoEntity (is_owner s st o) _
    (taken_counts s st o (member_named s st (members_of s st o) w))

-- ---- entities made and ended

-- an entity that is another one was not there before, or is not there now
abbrev Fits : Option Entity → Option Entity → Type 0
Fits a b = is_some b ≡ is_some a → b ≡ a

there : (n : ℕ) (a b : Option Entity) → option_map length (listed n b) ≡ option_map length (listed n a) →
    is_some b ≡ is_some a
there n None None e = refl
there n (Some x) (Some y) e = refl
there n None (Some y) e = cc
there n (Some x) None e = cc

fits_counts : (n : ℕ) (a b : Option Entity) → Fits a b → CountsIf (listed n a) (listed n b)
fits_counts n a b h = λ e. ap (listed n) (h (there n a b e))

refitted : (st new : Store) → ((c k : ℕ) → Fits (entity st c k) (entity new c k)) → new.system ≡ st.system →
    HasCounted st new
refitted st new h s = record { each = λ w n k. chosen w n k }
  where
    chosen : (w : Owner) (n k : ℕ) → CountsIf (list_by w n st k) (list_by w n new k)
    chosen System n k = λ e. ap (λ (ls : List (List ℕ)). Some (list_number ls n)) s
    chosen (OwnedBy c) n k = fits_counts n (entity st c k) (entity new c k) (h c k)

none_fits : (y : Option Entity) → Fits None y
none_fits None e = refl
none_fits (Some y) e = cc

gone_fits : (y : Option Entity) → Fits y None
gone_fits None e = refl
gone_fits (Some y) e = cc

second_fits : (a b y : Option Entity) → Fits b y → Fits (option_or a b) (option_or a y)
second_fits None b y h = h
second_fits (Some x) b y h = λ e. refl

added_fits : (d : ℕ) (os : List (Option Entity)) (x : Entity) (j : ℕ) →
    Fits (option_and_then (of_class d) (slice_get os j))
    (option_and_then (of_class d) (slice_get (os ++ Some x ∷ []) j))
added_fits d [] x zero = none_fits _
added_fits d [] x (suc j) = λ e. refl
added_fits d (o ∷ os) x zero = λ e. refl
added_fits d (o ∷ os) x (suc j) = added_fits d os x j

reference_fits : (st : Store) (x : Entity) (d k : ℕ) → Fits (entity st d k) (entity (with_reference st x) d k)
reference_fits st x d zero = λ e. refl
reference_fits st x d (suc j) =
    second_fits (slice_get (made_of st d) j) (option_and_then (of_class d) (slice_get st.references j)) _
    (added_fits d st.references x j)

-- CREATE
pub made : (st : Store) (c : ℕ) (shape : ClassShape) → Got (HasCounted st) (with_new st c shape)
made st c shape =
    unless_got (HasCounted st) TooManyReferences (nat_lt (length st.references) MOST_REFERENCES)
    (Ok (with_reference st (fresh c shape)))
    (refitted st (with_reference st (fresh c shape)) (reference_fits st (fresh c shape)) refl)

ended_fits : (d : ℕ) (os : List (Option Entity)) (i j : ℕ) →
    Fits (option_and_then (of_class d) (slice_get os j))
    (option_and_then (of_class d) (slice_get (slice_set os i None) j))
ended_fits d [] i j = λ e. refl
ended_fits d (o ∷ os) zero zero = gone_fits _
ended_fits d (o ∷ os) zero (suc j) = λ e. refl
ended_fits d (o ∷ os) (suc i) zero = λ e. refl
ended_fits d (o ∷ os) (suc i) (suc j) = ended_fits d os i j

without_fits : (st : Store) (k d j : ℕ) → Fits (entity st d j) (entity (without_reference st k) d j)
without_fits st k d zero = λ e. refl
without_fits st k d (suc j) =
    second_fits (slice_get (made_of st d) j) (option_and_then (of_class d) (slice_get st.references j)) _
    (ended_fits d st.references (k - 1) j)

-- DESTROY
pub ended : (t : Tables) (st : Store) (c k : ℕ) → Got (HasCounted st) (without_entity t st c k)
ended t st c k =
    unless_got (HasCounted st) NoEntity (exists st c k) _
    (unless_got (HasCounted st) EndedInUse (not (is_member t.sets st c k)) _
    (unless_got (HasCounted st) EndedOwner (not (owns_members (entity st c k))) (Ok (without_reference st k))
    (refitted st (without_reference st k) (without_fits st k) refl)))
