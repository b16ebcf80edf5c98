-- A list, a member or a condition whose finding is a missing entity faults.
use Rattle.std.proofs.Common.{◌≡◌, ℕ, Bool, true, false, nat_lt, length, refl, sym, ap}
use Rattle.std.proofs.Common.{subst, Result, Ok, Err}
use Rattle.std.specs.Prelude.{ℤ, ◌==◌, not}
use Rattle.ss_words.specs.declared.fault.RunFault.{RunFault}
use Rattle.ss_words.specs.declared.fault.RunFault.TheVariants.{NoEntity, AlreadyInSet, NotInList}
use Rattle.ss_words.specs.declared.terms.OwnerKept.TheVariants.{Count}
use Rattle.ss_program.specs.declared.target.SetRef.{SetRef}
use Rattle.ss_program.specs.declared.filing.Position.{Position}
use Rattle.ss_program.specs.declared.filing.Position.TheVariants as position
use Rattle.ss_program.specs.declared.filing.Filing.{Filing}
use Rattle.ss_program.specs.declared.filing.Filing.TheVariants.{File, FileAt, RemoveAt, Remove}
use Rattle.ss_program.specs.Program.{ProgramTable, set_of}
use Rattle.ss_program.specs.ProgramExpr.{Expr}
use Rattle.ss_program.specs.ProgramCondition.{Condition, any, no_conjunctions, or_else, Conjunction, all}
use Rattle.ss_program.specs.ProgramCondition.{Relations, no_relations, and_also, Relation, compared, is_empty, is_in}
use Rattle.ss_program.specs.ProgramCondition.{nested}
use Rattle.ss_store.specs.declared.shape.SetShape.{SetShape}
use Rattle.ss_store.specs.declared.shape.How.{How}
use Rattle.ss_store.specs.declared.shape.How.TheVariants as hows
use Rattle.ss_store.specs.declared.shape.Which.TheVariants as which
use Rattle.ss_store.specs.Tables.{tables_of}
use Rattle.ss_store.specs.Store.{Store, number_of, exists, unless, is_owner}
use Rattle.ss_store.specs.Store.{members_of, is_filed, with_list}
use Rattle.ss_store.specs.Filing.{count, names_entity}
use Rattle.ss_store.specs.Filing.{after_filing, after_removing, without_member, member_named, is_in as member_stands}
use Rattle.ss_store.specs.Filing.{names_member, filed_in}
use Rattle.ss_links.specs.Seats.{has}
use Rattle.ss_values.specs.Faults.{◌>>=◌}
use Rattle.ss_values.specs.Values.{value_of}
use Rattle.ss_values.specs.Values.{subscript_value}
use Rattle.ss_values.specs.Values.{number_value}
use Rattle.ss_values.specs.Conditions.{holds, any_holds, conjunction_holds, all_hold, relation_holds}
use Rattle.ss_values.specs.Conditions.{comparison_holds}
use Rattle.ss_values.specs.Conditions.{truth_by, is_empty_list, is_in_list}
use Rattle.ss_state.specs.State.{State}
use Rattle.ss_state.specs.Statements.{state_with_value}
use Rattle.ss_state.specs.Statements.{state_with_store}
use Rattle.ss_state.specs.Statements.Filing.{how_at, which_at, how_asked, state_after_file, state_after_remove}
use Rattle.ss_state.specs.Statements.Filing.{state_after_filing}
use Rattle.ss_faults.specs.declared.told.Told.{Told}
use Rattle.ss_faults.specs.declared.told.Told.TheVariants.{Untold, Unclear}
use Rattle.ss_faults.specs.Readings.{both, at_entity, shape_of}
use Rattle.ss_faults.specs.Readings.{owner_missing, count_read, of_owner}
use Rattle.ss_faults.specs.Readings.{owner_told}
use Rattle.ss_faults.specs.Readings.{entity_told, told_of}
use Rattle.ss_faults.specs.Readings.{subscript_told}
use Rattle.ss_faults.specs.Missing.{named_told, list_told}
use Rattle.ss_faults.specs.Missing.{position_told, placed_told, filed_told, filing_told, relation_told}
use Rattle.ss_faults.specs.Missing.{relations_told, conjunction_told, condition_told}
use Rattle.ss_faults.proofs.NotThere.{shape_is}
use Rattle.ss_faults.proofs.Fitting.{read, FitsValue, Fits, IsThere, IsUnclear, Stops, there_stops, fit_there, over}
use Rattle.ss_faults.proofs.Fitting.{further, never, got_fits, both_there, unclear_there, unclear_before}
use Rattle.ss_faults.proofs.Fitting.{unclear_behind, second_stops, both_stops, at_there, at_unclear}
use Rattle.ss_faults.proofs.Evaluated.{expr_stops, named_there, expr_fits, subscript_fits}

-- ---- lists

pub count_by : (t : Told) (b : Bool) (n : ℕ) → b ≡ true → IsThere (count_read t (unless NoEntity b (Ok n)))
count_by t true n h = tt
count_by t false n h = absurd cc

pub table_there : (b : Bool) (t : Told) → IsThere t → IsThere (elim b [ true ↦ t | false ↦ Unclear ])
table_there true t h = h
table_there false t h = tt

pub outside : (b : Bool) (t : Told) → b ≡ false → IsUnclear (elim b [ true ↦ t | false ↦ Unclear ])
outside true t h = absurd cc
outside false t h = tt

pub list_there : (p : ProgramTable) (s : State) (r : SetRef) (o : ℤ) → FitsValue (subscript_told p s r.owner) o →
    is_owner (shape_of p r.set) s.store (number_of o) ≡ true → IsThere (list_told p s r)
list_there p s r o h k =
    at_there (subscript_told p s r.owner) (owner_told p s Count r.set) o h
    (table_there (nat_lt r.set (length p.sets)) (of_owner p s Count r.set o)
    (count_by (owner_missing (set_of p r.set).owner o) (is_owner (shape_of p r.set) s.store (number_of o))
    (length (members_of (shape_of p r.set) s.store (number_of o))) k))

pub list_unclear : (p : ProgramTable) (s : State) (r : SetRef) (o : ℤ) → nat_lt r.set (length p.sets) ≡ false →
    FitsValue (subscript_told p s r.owner) o → IsUnclear (list_told p s r)
list_unclear p s r o b h =
    at_unclear (subscript_told p s r.owner) (owner_told p s Count r.set) o h
    (λ x. outside (nat_lt r.set (length p.sets)) (of_owner p s Count r.set x) b)

-- a member and a list, whose values were got, in a set that the table lacks: the finding is unclear
pub filed_unclear : (p : ProgramTable) (s : State) (e : Expr) (t : Told) (r : SetRef) (x o : ℤ) →
    nat_lt r.set (length p.sets) ≡ false → FitsValue (told_of p s e) x → IsThere t →
    FitsValue (subscript_told p s r.owner) o → IsUnclear (filed_told p s e t r)
filed_unclear p s e t r x o b h i k =
    unclear_before (both (both (told_of p s e) t) (list_told p s r)) (named_told p s (set_of p r.set).member e)
    (unclear_behind (both (told_of p s e) t) (list_told p s r)
    (both_there (told_of p s e) t (fit_there (told_of p s e) x h) i) (list_unclear p s r o b k))

-- in a set of the table, whose owner and member exist: each is there
pub filed_in_table : (p : ProgramTable) (s : State) (e : Expr) (t : Told) (r : SetRef) (x o : ℤ) →
    nat_lt r.set (length p.sets) ≡ true → FitsValue (told_of p s e) x → IsThere t →
    FitsValue (subscript_told p s r.owner) o → is_owner (shape_of p r.set) s.store (number_of o) ≡ true →
    exists s.store (shape_of p r.set).member (number_of x) ≡ true → IsThere (filed_told p s e t r)
filed_in_table p s e t r x o b h i k owner member =
    both_there (both (both (told_of p s e) t) (list_told p s r)) (named_told p s (set_of p r.set).member e)
    (both_there (both (told_of p s e) t) (list_told p s r)
    (both_there (told_of p s e) t (fit_there (told_of p s e) x h) i) (list_there p s r o k owner))
    (named_there s (set_of p r.set).member (told_of p s e) x h
    (subst (λ (q : SetShape). exists s.store q.member (number_of x) ≡ true) (shape_is p r.set b) member))

pub filed_by : (p : ProgramTable) (s : State) (e : Expr) (t : Told) (r : SetRef) (x o : ℤ) (b : Bool) →
    nat_lt r.set (length p.sets) ≡ b → FitsValue (told_of p s e) x → IsThere t →
    FitsValue (subscript_told p s r.owner) o → is_owner (shape_of p r.set) s.store (number_of o) ≡ true →
    exists s.store (shape_of p r.set).member (number_of x) ≡ true → IsThere (filed_told p s e t r)
filed_by p s e t r x o true b h i k owner member = filed_in_table p s e t r x o b h i k owner member
filed_by p s e t r x o false b h i k owner member =
    unclear_there (filed_told p s e t r) (filed_unclear p s e t r x o b h i k)

-- ---- FILE and REMOVE

-- the member that BEFORE or AFTER names, by its value that was got
pub asked_there : (t : Told) (r : Result ℤ RunFault) (f : ℤ → How) (h : How) → Fits t r → (r >>= λ y. Ok (f y)) ≡ Ok h →
    IsThere t
asked_there t (Ok y) f h k e = fit_there t y k
asked_there t (Err g) f h k e = never g h e

pub position_there : (p : ProgramTable) (s : State) (how : Position) (h : How) → how_asked (read p s) how ≡ Ok h →
    IsThere (position_told p s how)
position_there p s position.ByRule h e = tt
position_there p s (position.AtEnd end) h e = tt
position_there p s (position.Before y) h e =
    asked_there (told_of p s y) (value_of (read p s) y) (λ z. hows.Before z) h (expr_fits p s y) e
position_there p s (position.After y) h e =
    asked_there (told_of p s y) (value_of (read p s) y) (λ z. hows.After z) h (expr_fits p s y) e

-- the place at which FILE puts a member, as it was got
abbrev pub how_in : Result How RunFault → How
how_in (Ok h) = h
how_in (Err e) = hows.ByRule

pub before_there : (s : State) (shape : SetShape) (t : Told) (r : Result ℤ RunFault) (h : How) → Fits t r →
    (r >>= λ y. Ok (hows.Before y)) ≡ Ok h → names_entity shape s.store h ≡ true →
    IsThere (at_entity t (entity_told s shape.member))
before_there s shape t (Ok y) h k e n =
    let same : hows.Before y ≡ h = ap how_in e in
    named_there s shape.member t y k
    (subst (λ (q : How). names_entity shape s.store q ≡ true) (sym same) n)
before_there s shape t (Err f) h k e n = never f h e

pub after_there : (s : State) (shape : SetShape) (t : Told) (r : Result ℤ RunFault) (h : How) → Fits t r →
    (r >>= λ y. Ok (hows.After y)) ≡ Ok h → names_entity shape s.store h ≡ true →
    IsThere (at_entity t (entity_told s shape.member))
after_there s shape t (Ok y) h k e n =
    let same : hows.After y ≡ h = ap how_in e in
    named_there s shape.member t y k
    (subst (λ (q : How). names_entity shape s.store q ≡ true) (sym same) n)
after_there s shape t (Err f) h k e n = never f h e

pub placed_there : (p : ProgramTable) (s : State) (shape : SetShape) (how : Position) (h : How) →
    how_asked (read p s) how ≡ Ok h → names_entity shape s.store h ≡ true → IsThere (placed_told p s shape.member how)
placed_there p s shape position.ByRule h e n = tt
placed_there p s shape (position.AtEnd end) h e n = tt
placed_there p s shape (position.Before y) h e n =
    before_there s shape (told_of p s y) (value_of (read p s) y) h (expr_fits p s y) e n
placed_there p s shape (position.After y) h e n =
    after_there s shape (told_of p s y) (value_of (read p s) y) h (expr_fits p s y) e n

-- FILE, whose values were got, if owner, member and the member that is named exist
pub file_by : (p : ProgramTable) (s : State) (e : Expr) (how : Position) (r : SetRef) (x o : ℤ) (h : How) (b : Bool) →
    nat_lt r.set (length p.sets) ≡ b → FitsValue (told_of p s e) x → how_asked (read p s) how ≡ Ok h →
    FitsValue (subscript_told p s r.owner) o → is_owner (shape_of p r.set) s.store (number_of o) ≡ true →
    exists s.store (shape_of p r.set).member (number_of x) ≡ true →
    names_entity (shape_of p r.set) s.store h ≡ true → IsThere (filing_told p s (File e how r))
file_by p s e how r x o h true b k eh i owner member named =
    both_there (filed_told p s e (position_told p s how) r) (placed_told p s (set_of p r.set).member how)
    (filed_in_table p s e (position_told p s how) r x o b k (position_there p s how h eh) i owner member)
    (subst (λ (q : SetShape). IsThere (placed_told p s q.member how)) (shape_is p r.set b)
    (placed_there p s (shape_of p r.set) how h eh named))
file_by p s e how r x o h false b k eh i owner member named =
    unclear_there (filing_told p s (File e how r))
    (unclear_before (filed_told p s e (position_told p s how) r) (placed_told p s (set_of p r.set).member how)
    (filed_unclear p s e (position_told p s how) r x o b k (position_there p s how h eh) i))

pub one_end : {A B : Type 0} (t : Told) (b : Bool) (q : Result A RunFault) (g : A → Result B RunFault) →
    (b ≡ true → IsThere t) → Stops t (unless NoEntity b q >>= g)
one_end t true q g k = there_stops t (q >>= g) (k refl)
one_end t false q g k = tt

pub two_end : {A : Type 0} (t : Told) (a b : Bool) (q : Result A RunFault) → (a ≡ true → b ≡ true → IsThere t) →
    Stops t (unless NoEntity a (unless NoEntity b q))
two_end t true true q k = there_stops t q (k refl refl)
two_end t true false q k = tt
two_end t false b q k = tt

pub three_end : {B : Type 0} (t : Told) (a b c : Bool) (q : Result Store RunFault) (g : Store → Result B RunFault) →
    (a ≡ true → b ≡ true → c ≡ true → IsThere t) →
    Stops t (unless NoEntity a (unless NoEntity b (unless NoEntity c q)) >>= g)
three_end t true true true q g k = there_stops t (q >>= g) (k refl refl refl)
three_end t true true false q g k = tt
three_end t true false c q g k = tt
three_end t false b c q g k = tt

pub removed_end : {B : Type 0} (t : Told) (a b : Bool) (shape : SetShape) (st : Store) (o : ℕ) (q : Result ℕ RunFault)
    (g : (ℕ × Store) → Result B RunFault) → (a ≡ true → b ≡ true → IsThere t) →
    Stops t (unless NoEntity a (without_member shape st o (unless NoEntity b q)) >>= g)
removed_end t true true shape st o q g k = there_stops t (without_member shape st o q >>= g) (k refl refl)
removed_end t true false shape st o q g k = tt
removed_end t false b shape st o q g k = tt

-- the value of a member, and of an owner, that were got
pub expr_got : (p : ProgramTable) (s : State) (e : Expr) (x : ℤ) → value_of (read p s) e ≡ Ok x →
    FitsValue (told_of p s e) x
expr_got p s e x h = got_fits (told_of p s e) (value_of (read p s) e) x h (expr_fits p s e)

pub owner_got : (p : ProgramTable) (s : State) (r : SetRef) (o : ℤ) → subscript_value (read p s) r.owner ≡ Ok o →
    FitsValue (subscript_told p s r.owner) o
owner_got p s r o h =
    got_fits (subscript_told p s r.owner) (subscript_value (read p s) r.owner) o h (subscript_fits p s r.owner)

-- the answer of FILE if owner and members exist
abbrev pub filed_else : SetShape → Store → ℕ → ℕ → How → Result Store RunFault
filed_else shape st o k h =
    unless AlreadyInSet (not (is_filed shape st k))
    (unless NotInList (names_member h (members_of shape st o))
    (Ok (with_list shape st o (filed_in shape st h k (members_of shape st o)))))

-- the deed of FILE
pub filing_deed : (p : ProgramTable) (s : State) (r : SetRef) (t : Told) (x : ℤ) (h : How) →
    ((o : ℤ) → subscript_value (read p s) r.owner ≡ Ok o →
    is_owner (shape_of p r.set) s.store (number_of o) ≡ true →
    exists s.store (shape_of p r.set).member (number_of x) ≡ true →
    names_entity (shape_of p r.set) s.store h ≡ true → IsThere t) →
    Stops t (state_after_file (tables_of p) s r x h)
filing_deed p s r t x h k =
    over t (subscript_value (read p s) r.owner)
    (λ o. after_filing (shape_of p r.set) s.store (number_of o) (number_of x) h >>= λ st. Ok (state_with_store s st))
    (λ o e. three_end t (is_owner (shape_of p r.set) s.store (number_of o))
    (exists s.store (shape_of p r.set).member (number_of x)) (names_entity (shape_of p r.set) s.store h)
    (filed_else (shape_of p r.set) s.store (number_of o) (number_of x) h) (λ st. Ok (state_with_store s st)) (k o e))

pub filing_stops : (p : ProgramTable) (s : State) (f : Filing) →
    Stops (filing_told p s f) (state_after_filing (tables_of p) s f)
filing_stops p s (File e how r) =
    over (filing_told p s (File e how r)) (value_of (read p s) e)
    (λ x. how_asked (read p s) how >>= λ h. state_after_file (tables_of p) s r x h)
    (λ x ex. over (filing_told p s (File e how r)) (how_asked (read p s) how)
    (λ h. state_after_file (tables_of p) s r x h)
    (λ h eh. filing_deed p s r (filing_told p s (File e how r)) x h
    (λ o eo. file_by p s e how r x o h (nat_lt r.set (length p.sets)) refl (expr_got p s e x ex) eh
    (owner_got p s r o eo))))
filing_stops p s (FileAt end e r) =
    over (filed_told p s e Untold r) (value_of (read p s) e)
    (λ x. state_after_file (tables_of p) s r x (how_at end))
    (λ x ex. filing_deed p s r (filed_told p s e Untold r) x (how_at end)
    (λ o eo owner member named. filed_by p s e Untold r x o (nat_lt r.set (length p.sets)) refl (expr_got p s e x ex) tt
    (owner_got p s r o eo) owner member))
filing_stops p s (RemoveAt end t r) =
    over (list_told p s r) (subscript_value (read p s) r.owner)
    (λ o. after_removing (shape_of p r.set) s.store (number_of o) (which_at end)
    >>= λ k. number_value k.0 >>= state_with_value (tables_of p) (state_with_store s k.1) t)
    (λ o eo. one_end (list_told p s r) (is_owner (shape_of p r.set) s.store (number_of o))
    (without_member (shape_of p r.set) s.store (number_of o)
    (member_named (shape_of p r.set) s.store (members_of (shape_of p r.set) s.store (number_of o)) (which_at end)))
    (λ k. number_value k.0 >>= state_with_value (tables_of p) (state_with_store s k.1) t)
    (list_there p s r o (owner_got p s r o eo)))
filing_stops p s (Remove e r) =
    over (filed_told p s e Untold r) (value_of (read p s) e) (λ x. state_after_remove (tables_of p) s r x)
    (λ x ex. over (filed_told p s e Untold r) (subscript_value (read p s) r.owner)
    (λ o. after_removing (shape_of p r.set) s.store (number_of o) (which.Member x)
    >>= λ k. Ok (state_with_store s k.1))
    (λ o eo. removed_end (filed_told p s e Untold r) (is_owner (shape_of p r.set) s.store (number_of o))
    (exists s.store (shape_of p r.set).member (number_of x)) (shape_of p r.set) s.store (number_of o)
    (unless NotInList (has (members_of (shape_of p r.set) s.store (number_of o)) (number_of x)) (Ok (number_of x)))
    (λ k. Ok (state_with_store s k.1))
    (filed_by p s e Untold r x o (nat_lt r.set (length p.sets)) refl (expr_got p s e x ex) tt (owner_got p s r o eo))))

-- ---- conditions

pub relation_stops : (p : ProgramTable) (s : State) (r : Relation) →
    Stops (relation_told p s r) (relation_holds (read p s) r)
relation_stops p s (compared e c f) =
    both_stops (told_of p s e) (told_of p s f) (value_of (read p s) e)
    (λ x. value_of (read p s) f >>= λ y. Ok (comparison_holds c x y)) (expr_fits p s e)
    (λ x. further (told_of p s f) (value_of (read p s) f) (λ y. Ok (comparison_holds c x y)) (expr_stops p s f))
relation_stops p s (is_empty r is) =
    further (list_told p s r) (is_empty_list (read p s) r) (λ b. Ok (truth_by is b))
    (over (list_told p s r) (subscript_value (read p s) r.owner)
    (λ o. count (shape_of p r.set) s.store (number_of o) >>= λ n. Ok (n == 0))
    (λ o eo. one_end (list_told p s r) (is_owner (shape_of p r.set) s.store (number_of o))
    (Ok (length (members_of (shape_of p r.set) s.store (number_of o)))) (λ n. Ok (n == 0))
    (list_there p s r o (owner_got p s r o eo))))
relation_stops p s (is_in e is r) =
    further (filed_told p s e Untold r) (is_in_list (read p s) e r) (λ b. Ok (truth_by is b))
    (over (filed_told p s e Untold r) (value_of (read p s) e)
    (λ x. subscript_value (read p s) r.owner
    >>= λ o. member_stands (shape_of p r.set) s.store (number_of o) (number_of x))
    (λ x ex. over (filed_told p s e Untold r) (subscript_value (read p s) r.owner)
    (λ o. member_stands (shape_of p r.set) s.store (number_of o) (number_of x))
    (λ o eo. two_end (filed_told p s e Untold r) (is_owner (shape_of p r.set) s.store (number_of o))
    (exists s.store (shape_of p r.set).member (number_of x))
    (Ok (has (members_of (shape_of p r.set) s.store (number_of o)) (number_of x)))
    (filed_by p s e Untold r x o (nat_lt r.set (length p.sets)) refl (expr_got p s e x ex) tt (owner_got p s r o eo)))))
relation_stops p s (nested c) = there_stops Unclear (holds (read p s) c) tt

-- a condition that holds misses nothing
abbrev pub DeniesTruth : Told → Bool → Type 0
DeniesTruth t true = IsThere t
DeniesTruth t false = Unit {0}

-- if a condition was found to hold, no entity is missing by its finding
abbrev pub Denies : Told → Result Bool RunFault → Type 0
Denies t (Ok b) = DeniesTruth t b
Denies t (Err e) = Unit {0}

pub stops_deny : (t : Told) (r : Result Bool RunFault) → Stops t r → Denies t r
stops_deny t (Ok true) h = h
stops_deny t (Ok false) h = tt
stops_deny t (Err e) h = tt

pub ends_deny : (t : Told) (r : Result Bool RunFault) → Denies t r → Denies t (r >>= λ b. Ok b)
ends_deny t (Ok true) h = h
ends_deny t (Ok false) h = tt
ends_deny t (Err e) h = tt

pub relations_deny : (p : ProgramTable) (s : State) (t : Told) (q : Result Bool RunFault) (rs : Relations) →
    Denies t q → Denies (relations_told p s t rs) (q >>= λ b. all_hold (read p s) b rs)
relations_deny p s t q no_relations h = ends_deny t q h
relations_deny p s t (Ok true) (and_also r rs) h =
    relations_deny p s (both t (relation_told p s r)) (relation_holds (read p s) r) rs
    (stops_deny (both t (relation_told p s r)) (relation_holds (read p s) r)
    (second_stops t (relation_told p s r) (relation_holds (read p s) r) h (relation_stops p s r)))
relations_deny p s t (Ok false) (and_also r rs) h = tt
relations_deny p s t (Err e) (and_also r rs) h = tt

pub conjunction_denies : (p : ProgramTable) (s : State) (c : Conjunction) →
    Denies (conjunction_told p s c) (conjunction_holds (read p s) c)
conjunction_denies p s (all r rs) =
    relations_deny p s (relation_told p s r) (relation_holds (read p s) r) rs
    (stops_deny (relation_told p s r) (relation_holds (read p s) r) (relation_stops p s r))

pub condition_denies : (p : ProgramTable) (s : State) (c : Condition) →
    Denies (condition_told p s c) (holds (read p s) c)
condition_denies p s (any c no_conjunctions) =
    ends_deny (conjunction_told p s c) (conjunction_holds (read p s) c) (conjunction_denies p s c)
condition_denies p s (any (all r rs) (or_else d ds)) =
    stops_deny (relation_told p s r) (holds (read p s) (any (all r rs) (or_else d ds)))
    (further (relation_told p s r) (conjunction_holds (read p s) (all r rs))
    (λ b. any_holds (read p s) b (or_else d ds))
    (further (relation_told p s r) (relation_holds (read p s) r) (λ b. all_hold (read p s) b rs)
    (relation_stops p s r)))
