-- The part of the entities that a step leaves as it is, by how much it may change.
use Rattle.std.proofs.Common.{◌≡◌, ◌≢◌, ℕ, ℤ, zero, suc, pos, List, [], ◌∷◌, Bool, true, false, Option, Some, None}
use Rattle.std.proofs.Common.{Result, Ok, Err, inl, inr, refl, sym, ap, ◌∙◌, map}
use Rattle.std.specs.Prelude.{slice_index_or, slice_set, option_map, unwrap_or, not, ◌==◌, ◌&&◌, if◌then◌else◌}
use Rattle.std.specs.Result.{result_unwrap_or}
use Rattle.std.proofs.lemmas.Bool.{eq-eqb}
use Rattle.ss_words.specs.declared.fault.RunFault.{RunFault}
use Rattle.ss_words.specs.declared.fault.RunFault.TheVariants.{NoEntity, AlreadyInSet, NotInList}
use Rattle.ss_links.specs.Seats.{list_without}
use Rattle.ss_program.specs.declared.filing.Filing.{Filing}
use Rattle.ss_program.specs.declared.filing.Filing.TheVariants.{File, FileAt, RemoveAt, Remove}
use Rattle.ss_program.specs.declared.making.Making.TheVariants.{Create, CreateEvery, Destroy}
use Rattle.ss_program.specs.declared.kinds.Owner.{Owner}
use Rattle.ss_program.specs.declared.kinds.Owner.TheVariants.{System, OwnedBy}
use Rattle.ss_program.specs.declared.looping.Looping.{Looping}
use Rattle.ss_program.specs.declared.looping.Looping.TheVariants.{For, Loop, Find, Gather, Tell}
use Rattle.ss_program.specs.declared.place.Assign.{Assign}
use Rattle.ss_program.specs.declared.place.Control.{Control}
use Rattle.ss_program.specs.declared.place.Control.TheVariants.{Stop, Return, End}
use Rattle.ss_program.specs.declared.place.Place.{Place}
use Rattle.ss_program.specs.declared.place.Place.TheVariants as places
use Rattle.ss_program.specs.declared.place.Spot.{Spot}
use Rattle.ss_program.specs.declared.target.SetRef.{SetRef}
use Rattle.ss_program.specs.declared.target.Target.{Target}
use Rattle.ss_program.specs.declared.target.Target.TheVariants as targets
use Rattle.ss_program.specs.declared.ways.Ways.{Ways}
use Rattle.ss_program.specs.Program.{ProgramTable, is_same_owner, spot_at}
use Rattle.ss_store.specs.declared.shape.How.{How}
use Rattle.ss_store.specs.declared.shape.SetShape.{SetShape}
use Rattle.ss_store.specs.declared.shape.Which.{Which}
use Rattle.ss_store.specs.declared.shape.Which.TheVariants as which
use Rattle.ss_store.specs.Filing.{after_filing, after_removing, filed_in, names_entity, names_member}
use Rattle.ss_store.specs.Filing.{member_named, without_member}
use Rattle.ss_store.specs.Store.{Entity, Store, number_of, entity, exists, attribute_in, list_number, list_by, lists_by}
use Rattle.ss_store.specs.Store.{members_of, is_owner, is_filed, with_changed, with_value, with_attribute, with_owned}
use Rattle.ss_store.specs.Store.{with_list_by, with_list}
use Rattle.ss_store.specs.Tables.{Tables, tables_of, set_of}
use Rattle.ss_store.proofs.Between.{other_lists_stay}
use Rattle.ss_values.specs.Faults.{◌>>=◌}
use Rattle.ss_values.specs.Values.{value_of, subscript_value, number_value, assigned_value}
use Rattle.ss_state.proofs.Ranges.{Got, after_got}
use Rattle.ss_state.proofs.Stores.{unless_got}
use Rattle.ss_state.specs.Readings.{readings}
use Rattle.ss_state.specs.Run.{Input, run}
use Rattle.ss_state.specs.State.{State, is_ready}
use Rattle.ss_state.specs.Statements.{state_with_store, state_with_value, ways_here}
use Rattle.ss_state.specs.Statements.Assigning.{target_of}
use Rattle.ss_state.specs.Statements.Filing.{state_after_filing, state_after_file, how_asked, how_at, which_at}
use Rattle.ss_state.specs.Step.{step, step_at, step_by}
use Rattle.ss_debug.specs.Entities.{shape_of}
use Rattle.ss_trace.specs.declared.touches.Part.TheVariants as parts
use Rattle.ss_trace.specs.declared.touches.Touch.{Touch}
use Rattle.ss_trace.specs.declared.touches.Touch.TheVariants.{Nothing, Attribute, Attributes, Set, Entities, Anything}
use Rattle.ss_trace.specs.EntityNumbers.{attribute_number}
use Rattle.ss_trace.specs.Touches.{touched_target, touched_assign, touched_filing, touched_control}
use Rattle.ss_trace.specs.Touches.{touched_looping, touched_entities}
use Rattle.ss_trace.specs.Touches.{touched_by, touched_in, touched_at}
use Rattle.ss_trace.proofs.OneEntity.{one_left, all_left, one_there, all_there, there_same}
use Rattle.ss_trace.proofs.Counting.{Counts, CountsIf, HasCounted, counted_same, is_or_not, relisted, filed_counts}
use Rattle.ss_trace.proofs.Counting.{without_counts}
use Rattle.ss_trace.proofs.SameLists.{HasSameLists, same_lists, changed_same, same_there, list_same, attribute_same}
use Rattle.ss_trace.proofs.Skips.{store_at, lists_at}
use Rattle.ss_trace.proofs.PlaceSteps.{Ignores, IgnoresAttributes, got, then_got, placed, assigned, by_control}
use Rattle.ss_trace.proofs.PlaceSteps.{by_looping, by_read}

-- ---- the parts that stay

-- whether entities may be made or ended
abbrev pub touches_there : Touch → Bool
touches_there Entities = true
touches_there _ = false

-- whether the values of attribute a of class c may change
abbrev pub touches_value : Touch → ℕ → ℕ → Bool
touches_value (Attribute d b) c a = (d == c) && (b == a)
touches_value Attributes c a = true
touches_value Entities c a = true
touches_value _ c a = false

-- whether lists number n of an owner may
abbrev pub touches_list : ProgramTable → Touch → Owner → ℕ → Bool
touches_list p (Set s) w n = is_same_owner (shape_of p s).owner w && ((shape_of p s).list == n)
touches_list p Entities w n = true
touches_list p _ w n = false

-- an untouched part is the same, and a list that changes has more members or fewer
pub record Leaves (p : ProgramTable) (u : Touch) (st new : Store) : Type 0 where
  pub there : (c k : ℕ) → touches_there u ≡ false → exists new c k ≡ exists st c k
  pub values : (c k a : ℕ) → touches_value u c a ≡ false → attribute_number new c k a ≡ attribute_number st c k a
  pub one : (w : Owner) (n k : ℕ) → touches_list p u w n ≡ false → list_by w n new k ≡ list_by w n st k
  pub all : (w : Owner) (n : ℕ) → touches_list p u w n ≡ false → lists_by w n new ≡ lists_by w n st
  pub counted : (w : Owner) (n k : ℕ) → CountsIf (list_by w n st k) (list_by w n new k)

-- if it may change anything, nothing is said
abbrev pub LeavesIf : ProgramTable → Touch → Store → Store → Type 0
LeavesIf p Anything st new = Unit {0}
LeavesIf p u st new = Leaves p u st new

turned : (p : ProgramTable) (u : Touch) (st new : Store) → Leaves p u st new → Leaves p u new st
turned p u st new h = record {
  there = λ c k e. sym (h.there c k e);
  values = λ c k a e. sym (h.values c k a e);
  one = λ w n k e. sym (h.one w n k e);
  all = λ w n e. sym (h.all w n e);
  counted = λ w n k e. sym (h.counted w n k (sym e));
}

pub turned_if : (p : ProgramTable) (u : Touch) (st new : Store) → LeavesIf p u st new → LeavesIf p u new st
turned_if p Nothing st new h = turned p Nothing st new h
turned_if p (Attribute c a) st new h = turned p (Attribute c a) st new h
turned_if p Attributes st new h = turned p Attributes st new h
turned_if p (Set s) st new h = turned p (Set s) st new h
turned_if p Entities st new h = turned p Entities st new h
turned_if p Anything st new h = tt

left_same : (p : ProgramTable) (u : Touch) (st : Store) → Leaves p u st st
left_same p u st = record {
  there = λ c k e. refl;
  values = λ c k a e. refl;
  one = λ w n k e. refl;
  all = λ w n e. refl;
  counted = λ w n k e. refl;
}

left_if_same : (p : ProgramTable) (u : Touch) (st : Store) → LeavesIf p u st st
left_if_same p Nothing st = left_same p Nothing st
left_if_same p (Attribute c a) st = left_same p (Attribute c a) st
left_if_same p Attributes st = left_same p Attributes st
left_if_same p (Set s) st = left_same p (Set s) st
left_if_same p Entities st = left_same p Entities st
left_if_same p Anything st = tt

-- stores with the same lists
by_lists : (p : ProgramTable) (u : Touch) (st new : Store) → HasSameLists st new →
    ((c k a : ℕ) → touches_value u c a ≡ false → attribute_number new c k a ≡ attribute_number st c k a) →
    Leaves p u st new
by_lists p u st new h v = record {
  there = λ c k e. same_there st new c k h;
  values = v;
  one = λ w n k e. list_same w n k st new h;
  all = λ w n e. h.all w n;
  counted = λ w n k e. list_same w n k st new h;
}

-- ---- an attribute set

number_in : (a : ℕ) (o : Option Entity) →
    result_unwrap_or (attribute_in a o) (pos 0)
    ≡ unwrap_or (option_map (λ (e : Entity). slice_index_or e.attributes a (pos 0)) o) (pos 0)
number_in a None = refl
number_in a (Some e) = refl

number_left : (st new : Store) (c k a : ℕ) →
    option_map (λ (e : Entity). slice_index_or e.attributes a (pos 0)) (entity new c k)
    ≡ option_map (λ (e : Entity). slice_index_or e.attributes a (pos 0)) (entity st c k) →
    attribute_number new c k a ≡ attribute_number st c k a
number_left st new c k a h =
    number_in a (entity new c k) ∙ ap (λ (o : Option ℤ). unwrap_or o (pos 0)) h ∙ sym (number_in a (entity st c k))

apart : {A : Type 0} (xs : List A) (i j : ℕ) (x d : A) → j ≢ i →
    slice_index_or (slice_set xs i x) j d ≡ slice_index_or xs j d
apart [] i j x d far = refl
apart (y ∷ xs) zero zero x d far = absurd (far refl)
apart (y ∷ xs) zero (suc j) x d far = refl
apart (y ∷ xs) (suc i) zero x d far = refl
apart (y ∷ xs) (suc i) (suc j) x d far = apart xs i j x d (λ e. far (ap suc e))

clash : true ≡ false → ⊥
clash e = cc

both_same : (d c b a : ℕ) → ((d == c) && (b == a)) ≡ false → d ≡ c → b ≡ a → ⊥
both_same d c b a e h k =
    let both : ((d == c) && (b == a)) ≡ true = rw (eq-eqb d c h, eq-eqb b a k) refl in clash (sym both ∙ e)

changed_value : (st : Store) (d b j : ℕ) (z : ℤ) (c k a : ℕ) → touches_value (Attribute d b) c a ≡ false →
    attribute_number (with_changed (with_value b z) st d j) c k a ≡ attribute_number st c k a
changed_value st d b j z c k a e = elim (is_or_not c d) [
  | inr far ↦
      ap (λ (o : Option Entity). result_unwrap_or (attribute_in a o) (pos 0))
      (one_there (with_value b z) (λ x. refl) st d j c k far)
  | inl same ↦
      number_left st (with_changed (with_value b z) st d j) c k a
      (one_left (λ (x : Entity). slice_index_or x.attributes a (pos 0)) (with_value b z)
      (λ x. apart x.attributes b a z (pos 0) (λ h. both_same d c b a e (sym same) (sym h))) (λ x. refl) st d j c k)
]

attribute_leaves : (p : ProgramTable) (st : Store) (d b j : ℕ) (z : ℤ) →
    Got (Leaves p (Attribute d b) st) (with_attribute st d b j z)
attribute_leaves p st d b j z =
    unless_got (Leaves p (Attribute d b) st) NoEntity (exists st d j) (Ok (with_changed (with_value b z) st d j))
    (by_lists p (Attribute d b) st (with_changed (with_value b z) st d j) (changed_same b z st d j)
    (λ c k a e. changed_value st d b j z c k a e))

-- ---- a list changed

there_by : (w : Owner) (n o : ℕ) (st : Store) (ks : List ℕ) (c k : ℕ) →
    exists (with_list_by w n st o ks) c k ≡ exists st c k
there_by System n o st ks c zero = refl
there_by System n o st ks c (suc k) = refl
there_by (OwnedBy d) n o st ks c k =
    there_same (λ (x : Entity). x.attributes) _ _
    (one_left (λ (x : Entity). x.attributes) (with_owned n ks) (λ x. refl) (λ x. refl) st d o c k)

value_by : (w : Owner) (n o : ℕ) (st : Store) (ks : List ℕ) (c k a : ℕ) →
    attribute_number (with_list_by w n st o ks) c k a ≡ attribute_number st c k a
value_by System n o st ks c zero a = refl
value_by System n o st ks c (suc k) a = refl
value_by (OwnedBy d) n o st ks c k a =
    number_left st (with_changed (with_owned n ks) st d o) c k a
    (one_left (λ (x : Entity). slice_index_or x.attributes a (pos 0)) (with_owned n ks) (λ x. refl) (λ x. refl)
    st d o c k)

differs : (n m : ℕ) → (n == m) ≡ false → n ≢ m
differs n m e = λ h. clash (sym (eq-eqb n m h) ∙ e)

one_by : (w : Owner) (n o : ℕ) (v : Owner) (m u : ℕ) (st : Store) (ks : List ℕ) →
    (is_same_owner w v && (n == m)) ≡ false → list_by v m (with_list_by w n st o ks) u ≡ list_by v m st u
one_by System n o System m u st ks e = other_lists_stay System System n o m u st ks (differs n m e)
one_by System n o (OwnedBy d) m u st ks e = other_lists_stay System (OwnedBy d) n o m u st ks tt
one_by (OwnedBy c) n o System m u st ks e = other_lists_stay (OwnedBy c) System n o m u st ks tt
one_by (OwnedBy c) n o (OwnedBy d) m u st ks e =
    other_lists_stay (OwnedBy c) (OwnedBy d) n o m u st ks (λ f g h. both_same c d n m e f g)

all_by : (w : Owner) (n o : ℕ) (v : Owner) (m : ℕ) (st : Store) (ks : List ℕ) →
    (is_same_owner w v && (n == m)) ≡ false → lists_by v m (with_list_by w n st o ks) ≡ lists_by v m st
all_by System n o System m st ks e =
    ap (λ (l : List ℕ). l ∷ []) (apart st.system n m ks [] (λ h. differs n m e (sym h)))
all_by System n o (OwnedBy d) m st ks e = refl
all_by (OwnedBy c) n zero System m st ks e = refl
all_by (OwnedBy c) n (suc o) System m st ks e = refl
all_by (OwnedBy c) n o (OwnedBy d) m st ks e = elim (is_or_not d c) [
  | inr far ↦
      ap (λ (es : List Entity). map (λ (x : Entity). list_number x.owned m) es)
      (all_there (with_owned n ks) (λ x. refl) st c o d far)
  | inl same ↦
      all_left (λ (x : Entity). list_number x.owned m) (with_owned n ks)
      (λ x. apart x.owned n m ks [] (λ h. both_same c d n m e (sym same) (sym h))) (λ x. refl) st c o d
]

list_leaves : (p : ProgramTable) (n : ℕ) (st : Store) (o : ℕ) (ks : List ℕ) →
    Counts (members_of (shape_of p n) st o) ks → Leaves p (Set n) st (with_list (shape_of p n) st o ks)
list_leaves p n st o ks h = record {
  there = λ c k e. there_by (shape_of p n).owner (shape_of p n).list o st ks c k;
  values = λ c k a e. value_by (shape_of p n).owner (shape_of p n).list o st ks c k a;
  one = λ w m k e. one_by (shape_of p n).owner (shape_of p n).list o w m k st ks e;
  all = λ w m e. all_by (shape_of p n).owner (shape_of p n).list o w m st ks e;
  counted = λ w m k. (relisted (shape_of p n) st o ks h).each w m k;
}

filed : (p : ProgramTable) (n : ℕ) (st : Store) (o k : ℕ) (how : How) →
    Got (Leaves p (Set n) st) (after_filing (shape_of p n) st o k how)
filed p n st o k how =
    let s : SetShape = shape_of p n in
    let Left : Store → Type 0 = Leaves p (Set n) st in
    unless_got Left NoEntity (is_owner s st o) _
    (unless_got Left NoEntity (exists st s.member k) _
    (unless_got Left NoEntity (names_entity s st how) _
    (unless_got Left AlreadyInSet (not (is_filed s st k)) _
    (unless_got Left NotInList (names_member how (members_of s st o))
    (Ok (with_list s st o (filed_in s st how k (members_of s st o))))
    (list_leaves p n st o (filed_in s st how k (members_of s st o)) (filed_counts s st how k (members_of s st o)))))))

taken : (p : ProgramTable) (n : ℕ) (st : Store) (o : ℕ) (r : Result ℕ RunFault) →
    Got (λ (m : ℕ × Store). Leaves p (Set n) st m.1) (without_member (shape_of p n) st o r)
taken p n st o (Ok k) =
    list_leaves p n st o (list_without (members_of (shape_of p n) st o) k)
    (without_counts (members_of (shape_of p n) st o) k)
taken p n st o (Err f) = tt

removed : (p : ProgramTable) (n : ℕ) (st : Store) (o : ℕ) (w : Which) →
    Got (λ (m : ℕ × Store). Leaves p (Set n) st m.1) (after_removing (shape_of p n) st o w)
removed p n st o w =
    unless_got (λ (m : ℕ × Store). Leaves p (Set n) st m.1) NoEntity (is_owner (shape_of p n) st o) _
    (taken p n st o (member_named (shape_of p n) st (members_of (shape_of p n) st o) w))

-- ---- a place

abbrev LeavesBy : ProgramTable → Touch → Store → State → Type 0
LeavesBy p u st s = LeavesIf p u st s.store

ignores : (p : ProgramTable) (u : Touch) (st : Store) → Ignores (LeavesBy p u st)
ignores p u st = record {
  frames = λ s f fs h. h;
  status = λ s x h. h;
  variables = λ s xs h. h;
  feed = λ s d h. h;
  entry = λ s e h. h;
}

target_leaves : (q : ProgramTable) (t : Tables) (s : State) (x : Target) (z : ℤ) →
    Got (LeavesBy q (touched_target x) s.store) (state_with_value t s x z)
target_leaves q t s (targets.Variable v) z = assigned (ignores q Nothing s.store) s v z (left_same q Nothing s.store)
target_leaves q t s (targets.Attribute c a e) z =
    then_got (ignores q (Attribute c a) s.store) (subscript_value (readings t s) e) _ (λ x.
    after_got (Leaves q (Attribute c a) s.store) (LeavesBy q (Attribute c a) s.store)
    (with_attribute s.store c a (number_of x) z) _ (attribute_leaves q s.store c a (number_of x) z) (λ st h. h))

assign_leaves : (q : ProgramTable) (s : State) (w : Ways) (a : Assign) →
    LeavesBy q (touched_assign a) s.store (step_at q s w (places.Assign a))
assign_leaves q s w a =
    let i = ignores q (touched_target (target_of a)) s.store in
    let Left : State → Type 0 = LeavesBy q (touched_target (target_of a)) s.store in
    got i Left s _ _ (left_if_same q (touched_target (target_of a)) s.store)
    (then_got i (assigned_value (readings (tables_of q) s) a) _ (λ x.
    target_leaves q (tables_of q) s (target_of a) x)) (λ r h. placed i r w.next h)

file_leaves : (q : ProgramTable) (s : State) (r : SetRef) (x : ℤ) (how : How) →
    Got (LeavesBy q (Set r.set) s.store) (state_after_file (tables_of q) s r x how)
file_leaves q s r x how =
    then_got (ignores q (Set r.set) s.store) (subscript_value (readings (tables_of q) s) r.owner) _ (λ o.
    after_got (Leaves q (Set r.set) s.store) (LeavesBy q (Set r.set) s.store)
    (after_filing (set_of (tables_of q) r.set) s.store (number_of o) (number_of x) how) _
    (filed q r.set s.store (number_of o) (number_of x) how) (λ st h. h))

remove_leaves : (q : ProgramTable) (s : State) (r : SetRef) (o : ℤ) (w : Which)
    (f : ℕ × Store → Result State RunFault) →
    ((m : ℕ × Store) → Leaves q (Set r.set) s.store m.1 → Got (LeavesBy q (Set r.set) s.store) (f m)) →
    Got (LeavesBy q (Set r.set) s.store)
    (after_removing (set_of (tables_of q) r.set) s.store (number_of o) w >>= f)
remove_leaves q s r o w f h =
    after_got (λ (m : ℕ × Store). Leaves q (Set r.set) s.store m.1) (LeavesBy q (Set r.set) s.store)
    (after_removing (set_of (tables_of q) r.set) s.store (number_of o) w) f (removed q r.set s.store (number_of o) w) h

-- a statement that files or removes, unless it removes to an attribute
filing_leaves : (q : ProgramTable) (s : State) (f : Filing) → touched_filing f ≢ Entities →
    Got (LeavesBy q (touched_filing f) s.store) (state_after_filing (tables_of q) s f)
filing_leaves q s (File e position r) n =
    let i = ignores q (Set r.set) s.store in
    then_got i (value_of (readings (tables_of q) s) e) _ (λ x.
    then_got i (how_asked (readings (tables_of q) s) position) _ (λ how. file_leaves q s r x how))
filing_leaves q s (FileAt end e r) n =
    then_got (ignores q (Set r.set) s.store) (value_of (readings (tables_of q) s) e) _ (λ x.
    file_leaves q s r x (how_at end))
filing_leaves q s (RemoveAt end (targets.Variable v) r) n =
    let i = ignores q (Set r.set) s.store in
    then_got i (subscript_value (readings (tables_of q) s) r.owner) _ (λ o.
    remove_leaves q s r o (which_at end) _ (λ m h.
    then_got i (number_value m.0) _ (λ x. assigned i (state_with_store s m.1) v x h)))
filing_leaves q s (RemoveAt end (targets.Attribute c a e) r) n = absurd (n refl)
filing_leaves q s (Remove e r) n =
    let i = ignores q (Set r.set) s.store in
    then_got i (value_of (readings (tables_of q) s) e) _ (λ x.
    then_got i (subscript_value (readings (tables_of q) s) r.owner) _ (λ o.
    remove_leaves q s r o (which.Member x) _ (λ m h. h)))

-- statements that make or end entities

entities_left : (q : ProgramTable) (st new : Store) → HasCounted st new → Leaves q Entities st new
entities_left q st new h = record {
  there = λ c k e. absurd (clash e);
  values = λ c k a e. absurd (clash e);
  one = λ w n k e. absurd (clash e);
  all = λ w n e. absurd (clash e);
  counted = λ w n k. h.each w n k;
}

-- statements that change only attributes

abbrev HasLists : Store → State → Type 0
HasLists st s = HasSameLists st s.store

lists_ignore : (st : Store) → Ignores (HasLists st)
lists_ignore st = record {
  frames = λ s f fs h. h;
  status = λ s x h. h;
  variables = λ s xs h. h;
  feed = λ s d h. h;
  entry = λ s e h. h;
}

lists_attributes : (st : Store) → IgnoresAttributes (HasLists st)
lists_attributes st s c a k z h = attribute_same st s.store c a k z h

attributes_left : (q : ProgramTable) (st new : Store) → HasSameLists st new → Leaves q Attributes st new
attributes_left q st new h = by_lists q Attributes st new h (λ c k a e. absurd (clash e))

nothing_left : (q : ProgramTable) (st new : Store) → new ≡ st → Leaves q Nothing st new
nothing_left q st new e = rw e (left_same q Nothing st)

control_leaves : (q : ProgramTable) (s : State) (w : Ways) (c : Control) →
    LeavesBy q (touched_control c) s.store (step_at q s w (places.Control c))
control_leaves q s w Stop = left_same q Nothing s.store
control_leaves q s w Return =
    attributes_left q s.store _
    (by_control (lists_ignore s.store) (lists_attributes s.store) q s w Return (same_lists s.store))
control_leaves q s w End =
    attributes_left q s.store _
    (by_control (lists_ignore s.store) (lists_attributes s.store) q s w End (same_lists s.store))

looping_leaves : (q : ProgramTable) (s : State) (w : Ways) (l : Looping) →
    LeavesBy q (touched_looping l) s.store (step_at q s w (places.Looping l))
looping_leaves q s w (For f) = nothing_left q s.store _ (store_at s.store q s w (places.Looping (For f)) refl refl)
looping_leaves q s w Loop = nothing_left q s.store _ (store_at s.store q s w (places.Looping Loop) refl refl)
looping_leaves q s w Find = nothing_left q s.store _ (store_at s.store q s w (places.Looping Find) refl refl)
looping_leaves q s w (Gather e) =
    nothing_left q s.store _ (store_at s.store q s w (places.Looping (Gather e)) refl refl)
looping_leaves q s w (Tell ts) =
    attributes_left q s.store _
    (by_looping (lists_ignore s.store) (lists_attributes s.store) q s w (Tell ts) (same_lists s.store))

differ : {n : ℕ} → Set n ≡ Entities → ⊥
differ e = cc

filed_leaves : (q : ProgramTable) (s : State) (w : Ways) (f : Filing) → touched_filing f ≢ Entities →
    LeavesBy q (touched_filing f) s.store (step_at q s w (places.Filing f))
filed_leaves q s w f n =
    let i = ignores q (touched_filing f) s.store in
    got i (LeavesBy q (touched_filing f) s.store) s _ _ (left_if_same q (touched_filing f) s.store)
    (filing_leaves q s f n) (λ r h. placed i r w.next h)

place_leaves : (q : ProgramTable) (s : State) (w : Ways) (x : Place) →
    LeavesBy q (touched_entities x) s.store (step_at q s w x)
place_leaves q s w (places.Assign a) = assign_leaves q s w a
place_leaves q s w (places.Making (Create c b t)) =
    entities_left q s.store _
    (lists_at q s w (places.Making (Create c b t)) refl (counted_same s.store))
place_leaves q s w (places.Making (CreateEvery c n k)) = tt
place_leaves q s w (places.Making (Destroy c b x)) =
    entities_left q s.store _
    (lists_at q s w (places.Making (Destroy c b x)) refl (counted_same s.store))
place_leaves q s w (places.Filing (File e position r)) = filed_leaves q s w (File e position r) (λ n. differ n)
place_leaves q s w (places.Filing (FileAt end e r)) = filed_leaves q s w (FileAt end e r) (λ n. differ n)
place_leaves q s w (places.Filing (RemoveAt end (targets.Variable v) r)) =
    filed_leaves q s w (RemoveAt end (targets.Variable v) r) (λ n. differ n)
place_leaves q s w (places.Filing (RemoveAt end (targets.Attribute c a e) r)) =
    entities_left q s.store _
    (lists_at q s w (places.Filing (RemoveAt end (targets.Attribute c a e) r)) refl (counted_same s.store))
place_leaves q s w (places.Filing (Remove e r)) = filed_leaves q s w (Remove e r) (λ n. differ n)
place_leaves q s w (places.Output o) = nothing_left q s.store _ (store_at s.store q s w (places.Output o) refl refl)
place_leaves q s w (places.Control c) = control_leaves q s w c
place_leaves q s w (places.Branch b) = nothing_left q s.store _ (store_at s.store q s w (places.Branch b) refl refl)
place_leaves q s w (places.Looping l) = looping_leaves q s w l
place_leaves q s w (places.Call c) = nothing_left q s.store _ (store_at s.store q s w (places.Call c) refl refl)
place_leaves q s w (places.Timing x) =
    entities_left q s.store _ (lists_at q s w (places.Timing x) refl (counted_same s.store))
place_leaves q s w (places.Read ts) =
    attributes_left q s.store _
    (by_read (lists_ignore s.store) (lists_attributes s.store) q s w ts (same_lists s.store))

-- ---- the next state

spot_leaves : (q : ProgramTable) (s : State) (o : Option Spot) →
    LeavesBy q (touched_by parts.Entities o) s.store (step_by q s o)
spot_leaves q s None = tt
spot_leaves q s (Some spot) = place_leaves q s (ways_here q s spot.place) spot.place

next_leaves : (q : ProgramTable) (s : State) (ready : Bool) →
    LeavesBy q (touched_in q parts.Entities s) s.store (if ready then step q s else s)
next_leaves q s true = spot_leaves q s (spot_at q s.frame.section s.frame.place)
next_leaves q s false = left_if_same q (touched_in q parts.Entities s) s.store

-- a state and the next
pub run_leaves : (t : Input) (p : ℕ) →
    LeavesIf t.program (touched_at t parts.Entities p) (run t p).store (run t (suc p)).store
run_leaves t p = next_leaves t.program (run t p) (is_ready (run t p).status)
