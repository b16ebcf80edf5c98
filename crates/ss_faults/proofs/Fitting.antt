-- The finding about a part fits the result of its evaluation.
use Rattle.std.proofs.Common.{◌≡◌, ℕ, Bool, true, false, nat_lt, length, refl, sym}
use Rattle.std.proofs.Common.{subst, Option, Some, None, Result, Ok, Err}
use Rattle.std.specs.Prelude.{ℤ, pos, unwrap_or}
use Rattle.std.specs.Prelude.{if◌then◌else◌}
use Rattle.ss_words.specs.Ranges.{in_range}
use Rattle.ss_words.specs.declared.fault.RunFault.{RunFault}
use Rattle.ss_words.specs.declared.fault.RunFault.TheVariants.{OutOfRange}
use Rattle.ss_words.specs.declared.terms.TermSign.{TermSign}
use Rattle.ss_words.specs.declared.terms.OwnerKept.{OwnerKept}
use Rattle.ss_words.specs.declared.terms.OwnerKept.TheVariants.{First, Last, Count}
use Rattle.ss_words.specs.declared.terms.MemberKept.{MemberKept}
use Rattle.ss_words.specs.declared.terms.MemberKept.TheVariants.{Predecessor, Successor, Membership}
use Rattle.ss_program.specs.declared.variable.Variable.{Variable}
use Rattle.ss_program.specs.declared.variable.Variable.TheVariants.{Global, Local, Clock}
use Rattle.ss_program.specs.Program.{ProgramTable, set_of}
use Rattle.ss_store.specs.Tables.{tables_of}
use Rattle.ss_store.specs.Store.{number_of}
use Rattle.ss_store.specs.Filing.{walk_first, walk_last, count, predecessor, successor, membership}
use Rattle.ss_values.specs.Faults.{◌>>=◌}
use Rattle.ss_values.specs.Values.{Readings, variable_value}
use Rattle.ss_values.specs.Values.{result_in_range, with_sign}
use Rattle.ss_values.specs.Values.{number_value}
use Rattle.ss_values.specs.Values.{number_or_none, one_if}
use Rattle.ss_values.specs.Values.{owner_kept_value, member_kept_value}
use Rattle.ss_state.specs.State.{State}
use Rattle.ss_state.specs.Readings.{readings, variable_in}
use Rattle.ss_faults.specs.declared.told.Told.{Told}
use Rattle.ss_faults.specs.declared.told.Told.TheVariants.{Value, Untold, Missing, Unclear}
use Rattle.ss_faults.specs.Readings.{behind, both, at_entity, shape_of, number_told, attribute_read}
use Rattle.ss_faults.specs.Readings.{owner_missing, member_read, count_read, truth_read, of_owner, of_member}
use Rattle.ss_faults.specs.Readings.{owner_told}
use Rattle.ss_faults.specs.Readings.{member_told, signed_told}

-- the readings of an expression in a state
abbrev pub read : ProgramTable → State → Readings
read p s = readings (tables_of p) s

-- ---- the finding about a part, and the result of its evaluation

-- a value that was got is the one of the finding, and no entity is missing
abbrev pub FitsValue : Told → ℤ → Type 0
FitsValue (Value x) y = y ≡ x
FitsValue Untold y = Unit {0}
FitsValue (Missing c x) y = ⊥
FitsValue Unclear y = Unit {0}

-- the finding about a part fits the result of its evaluation
abbrev pub Fits : Told → Result ℤ RunFault → Type 0
Fits t (Ok y) = FitsValue t y
Fits t (Err e) = Unit {0}

-- the finding is no missing entity
abbrev pub IsThere : Told → Type 0
IsThere (Value x) = Unit {0}
IsThere Untold = Unit {0}
IsThere (Missing c x) = ⊥
IsThere Unclear = Unit {0}

-- the finding is unclear
abbrev pub IsUnclear : Told → Type 0
IsUnclear (Value x) = ⊥
IsUnclear Untold = ⊥
IsUnclear (Missing c x) = ⊥
IsUnclear Unclear = Unit {0}

-- if there is a result, the finding is no missing entity
abbrev pub Stops : {A : Type 0} → Told → Result A RunFault → Type 0
Stops t (Ok a) = IsThere t
Stops t (Err e) = Unit {0}

pub untold_fits : (r : Result ℤ RunFault) → Fits Untold r
untold_fits (Ok y) = tt
untold_fits (Err e) = tt

pub unclear_fits : (r : Result ℤ RunFault) → Fits Unclear r
unclear_fits (Ok y) = tt
unclear_fits (Err e) = tt

pub there_stops : {A : Type 0} (t : Told) (r : Result A RunFault) → IsThere t → Stops t r
there_stops t (Ok a) h = h
there_stops t (Err e) h = tt

pub fit_there : (t : Told) (y : ℤ) → FitsValue t y → IsThere t
fit_there (Value x) y h = tt
fit_there Untold y h = tt
fit_there (Missing c x) y h = absurd h
fit_there Unclear y h = tt

pub fit_stops : (t : Told) (r : Result ℤ RunFault) → Fits t r → Stops t r
fit_stops t (Ok y) h = fit_there t y h
fit_stops t (Err e) h = tt

-- if there is a result, and the steps after it
pub over : {A B : Type 0} (t : Told) (r : Result A RunFault) (g : A → Result B RunFault) →
    ((a : A) → r ≡ Ok a → Stops t (g a)) → Stops t (r >>= g)
over t (Ok a) g k = k a refl
over t (Err e) g k = tt

pub further : {A B : Type 0} (t : Told) (r : Result A RunFault) (g : A → Result B RunFault) → Stops t r →
    Stops t (r >>= g)
further t (Ok a) g h = there_stops t (g a) h
further t (Err e) g h = tt

-- a fault is nothing that was got
pub never : {A X : Type 0} (f : RunFault) (a : A) → Err f ≡ Ok a → X
never f a e = absurd cc

pub got_there : {A : Type 0} (t : Told) (r : Result A RunFault) (a : A) → r ≡ Ok a → Stops t r → IsThere t
got_there t (Ok b) a e h = h
got_there t (Err f) a e h = never f a e

pub got_fits : (t : Told) (r : Result ℤ RunFault) (y : ℤ) → r ≡ Ok y → Fits t r → FitsValue t y
got_fits t r y e h = subst (λ (q : Result ℤ RunFault). Fits t q) e h

-- ---- parts in order

pub behind_there : (t : Told) → IsThere t → IsThere (behind t)
behind_there (Value x) h = tt
behind_there Untold h = tt
behind_there (Missing c x) h = absurd h
behind_there Unclear h = tt

pub both_there : (t u : Told) → IsThere t → IsThere u → IsThere (both t u)
both_there (Value x) u h k = behind_there u k
both_there Untold u h k = behind_there u k
both_there (Missing c x) u h k = absurd h
both_there Unclear u h k = tt

pub unclear_there : (t : Told) → IsUnclear t → IsThere t
unclear_there (Value x) h = absurd h
unclear_there Untold h = absurd h
unclear_there (Missing c x) h = absurd h
unclear_there Unclear h = tt

-- the finding about two parts is unclear if that of the first is
pub unclear_before : (t u : Told) → IsUnclear t → IsUnclear (both t u)
unclear_before (Value x) u h = absurd h
unclear_before Untold u h = absurd h
unclear_before (Missing c x) u h = absurd h
unclear_before Unclear u h = tt

-- or if that of the second is
pub unclear_behind : (t u : Told) → IsThere t → IsUnclear u → IsUnclear (both t u)
unclear_behind (Value x) (Value y) h k = absurd k
unclear_behind (Value x) Untold h k = absurd k
unclear_behind (Value x) (Missing c y) h k = absurd k
unclear_behind (Value x) Unclear h k = tt
unclear_behind Untold (Value y) h k = absurd k
unclear_behind Untold Untold h k = absurd k
unclear_behind Untold (Missing c y) h k = absurd k
unclear_behind Untold Unclear h k = tt
unclear_behind (Missing c x) u h k = absurd h
unclear_behind Unclear u h k = tt

pub behind_fits : (t : Told) (r : Result ℤ RunFault) → Stops t r → Fits (behind t) r
behind_fits (Value x) (Ok y) h = tt
behind_fits Untold (Ok y) h = tt
behind_fits (Missing c x) (Ok y) h = absurd h
behind_fits Unclear (Ok y) h = tt
behind_fits t (Err e) h = tt

pub both_fits : (t u : Told) (r : Result ℤ RunFault) (g : ℤ → Result ℤ RunFault) → Fits t r →
    ((y : ℤ) → Stops u (g y)) → Fits (both t u) (r >>= g)
both_fits (Value x) u (Ok y) g h k = behind_fits u (g y) (k y)
both_fits Untold u (Ok y) g h k = behind_fits u (g y) (k y)
both_fits (Missing c x) u (Ok y) g h k = absurd h
both_fits Unclear u (Ok y) g h k = unclear_fits (g y)
both_fits t u (Err e) g h k = tt

-- two parts, both of which are there
pub second_stops : {B : Type 0} (t u : Told) (r : Result B RunFault) → IsThere t → Stops u r → Stops (both t u) r
second_stops t u (Ok b) h k = both_there t u h k
second_stops t u (Err e) h k = tt

pub both_stops : {B : Type 0} (t u : Told) (r : Result ℤ RunFault) (g : ℤ → Result B RunFault) → Fits t r →
    ((y : ℤ) → Stops u (g y)) → Stops (both t u) (r >>= g)
both_stops t u (Ok y) g h k = second_stops t u (g y) (fit_there t y h) (k y)
both_stops t u (Err e) g h k = tt

pub at_fits : (t : Told) (f : ℤ → Told) (r : Result ℤ RunFault) (g : ℤ → Result ℤ RunFault) → Fits t r →
    ((x : ℤ) → Fits (f x) (g x)) → Fits (at_entity t f) (r >>= g)
at_fits (Value x) f (Ok y) g h k = subst (λ (z : ℤ). Fits (f x) (g z)) (sym h) (k x)
at_fits Untold f (Ok y) g h k = unclear_fits (g y)
at_fits (Missing c x) f (Ok y) g h k = absurd h
at_fits Unclear f (Ok y) g h k = unclear_fits (g y)
at_fits t f (Err e) g h k = tt

pub at_stops : {B : Type 0} (t : Told) (f : ℤ → Told) (r : Result ℤ RunFault) (g : ℤ → Result B RunFault) → Fits t r →
    ((x : ℤ) → Stops (f x) (g x)) → Stops (at_entity t f) (r >>= g)
at_stops (Value x) f (Ok y) g h k = subst (λ (z : ℤ). Stops (f x) (g z)) (sym h) (k x)
at_stops Untold f (Ok y) g h k = there_stops Unclear (g y) tt
at_stops (Missing c x) f (Ok y) g h k = absurd h
at_stops Unclear f (Ok y) g h k = there_stops Unclear (g y) tt
at_stops t f (Err e) g h k = tt

-- the finding at the value that was got
pub at_there : (t : Told) (f : ℤ → Told) (y : ℤ) → FitsValue t y → IsThere (f y) → IsThere (at_entity t f)
at_there (Value x) f y h k = subst (λ (z : ℤ). IsThere (f z)) h k
at_there Untold f y h k = tt
at_there (Missing c x) f y h k = absurd h
at_there Unclear f y h k = tt

pub at_unclear : (t : Told) (f : ℤ → Told) (y : ℤ) → FitsValue t y → ((x : ℤ) → IsUnclear (f x)) →
    IsUnclear (at_entity t f)
at_unclear (Value x) f y h k = k x
at_unclear Untold f y h k = tt
at_unclear (Missing c x) f y h k = absurd h
at_unclear Unclear f y h k = tt

-- ---- readings

pub number_fits : (r : Result ℤ RunFault) → Fits (number_told r) r
number_fits (Ok x) = refl
number_fits (Err e) = tt

pub range_by : (z : ℤ) (b : Bool) → Fits (Value z) (if b then Ok z else Err OutOfRange)
range_by z true = refl
range_by z false = tt

pub range_fits : (z : ℤ) → Fits (Value z) (result_in_range z)
range_fits z = range_by z (in_range z)

pub variable_fits : (p : ProgramTable) (s : State) (x : Variable) → variable_value (read p s) x ≡ variable_in s x
variable_fits p s (Global i) = refl
variable_fits p s (Local i) = refl
variable_fits p s Clock = refl

pub attribute_fits : (c : ℕ) (x : ℤ) (r : Result ℤ RunFault) → Fits (attribute_read c x r) r
attribute_fits c x (Ok y) = refl
attribute_fits c x (Err e) = tt

pub member_fits : (t : Told) (r : Result (Option ℕ) RunFault) → Fits (member_read t r) (r >>= number_or_none)
member_fits t (Ok k) = range_fits (pos (unwrap_or k 0))
member_fits t (Err e) = tt

pub count_fits : (t : Told) (r : Result ℕ RunFault) → Fits (count_read t r) (r >>= number_value)
count_fits t (Ok n) = range_fits (pos n)
count_fits t (Err e) = tt

pub truth_fits : (t : Told) (r : Result Bool RunFault) → Fits (truth_read t r) (r >>= one_if)
truth_fits t (Ok b) = refl
truth_fits t (Err e) = tt

pub of_owner_fits : (p : ProgramTable) (s : State) (kept : OwnerKept) (set : ℕ) (x : ℤ) →
    Fits (of_owner p s kept set x) (owner_kept_value (read p s) kept set x)
of_owner_fits p s First set x =
    member_fits (owner_missing (set_of p set).owner x) (walk_first (shape_of p set) s.store (number_of x))
of_owner_fits p s Last set x =
    member_fits (owner_missing (set_of p set).owner x) (walk_last (shape_of p set) s.store (number_of x))
of_owner_fits p s Count set x =
    count_fits (owner_missing (set_of p set).owner x) (count (shape_of p set) s.store (number_of x))

pub of_member_fits : (p : ProgramTable) (s : State) (kept : MemberKept) (set : ℕ) (x : ℤ) →
    Fits (of_member p s kept set x) (member_kept_value (read p s) kept set x)
of_member_fits p s Predecessor set x =
    member_fits (Missing (set_of p set).member x) (predecessor (shape_of p set) s.store (number_of x))
of_member_fits p s Successor set x =
    member_fits (Missing (set_of p set).member x) (successor (shape_of p set) s.store (number_of x))
of_member_fits p s Membership set x =
    truth_fits (Missing (set_of p set).member x) (membership (shape_of p set) s.store (number_of x))

-- the finding about a set of the table; it is unclear for any other set
pub table_fits : (b : Bool) (t : Told) (r : Result ℤ RunFault) → Fits t r →
    Fits (elim b [ true ↦ t | false ↦ Unclear ]) r
table_fits true t r h = h
table_fits false t r h = unclear_fits r

pub owner_fits : (p : ProgramTable) (s : State) (kept : OwnerKept) (set : ℕ) (x : ℤ) →
    Fits (owner_told p s kept set x) (owner_kept_value (read p s) kept set x)
owner_fits p s kept set x =
    table_fits (nat_lt set (length p.sets)) (of_owner p s kept set x) (owner_kept_value (read p s) kept set x)
    (of_owner_fits p s kept set x)

pub member_kept_fits : (p : ProgramTable) (s : State) (kept : MemberKept) (set : ℕ) (x : ℤ) →
    Fits (member_told p s kept set x) (member_kept_value (read p s) kept set x)
member_kept_fits p s kept set x =
    table_fits (nat_lt set (length p.sets)) (of_member p s kept set x) (member_kept_value (read p s) kept set x)
    (of_member_fits p s kept set x)

pub signed_fits : (l : Option TermSign) (t : Told) (r : Result ℤ RunFault) → Fits t r →
    Fits (signed_told l t) (r >>= with_sign l)
signed_fits None t (Ok y) h = h
signed_fits (Some w) (Value x) (Ok y) h =
    subst (λ (z : ℤ). Fits (number_told (with_sign (Some w) x)) (with_sign (Some w) z)) (sym h)
    (number_fits (with_sign (Some w) x))
signed_fits (Some w) Untold (Ok y) h = untold_fits (with_sign (Some w) y)
signed_fits (Some w) (Missing c x) (Ok y) h = absurd h
signed_fits (Some w) Unclear (Ok y) h = unclear_fits (with_sign (Some w) y)
signed_fits l t (Err e) h = tt
