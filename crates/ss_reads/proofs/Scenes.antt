-- The value of a variable in a scene.
use Rattle.std.proofs.Common.{◌≡◌, ℕ, zero, suc, ◌+◌, ◌<◌, ◌==◌, List, [], ◌∷◌, length, true, false, Bool, Option, Some, None}
use Rattle.std.proofs.Common.{arith, refl, ap, sym, subst, ◌∙◌}
use Rattle.std.specs.Prelude.{ℤ, pos, slice_set, slice_index_or, nat_eq}
use Rattle.std.proofs.lemmas.Bool.{eqb-true, eq-eqb}
use Rattle.ss_program.specs.declared.variable.Variable.{Variable}
use Rattle.ss_program.specs.declared.variable.Variable.TheVariants.{Global, Local, Clock}
use Rattle.ss_program.specs.Program.{ProgramTable}
use Rattle.ss_program.specs.ProgramSound.{IsSettable, IsSoundVariable, scope_in}
use Rattle.ss_store.specs.Tables.{tables_of}
use Rattle.ss_values.specs.Values.{variable_value}
use Rattle.ss_state.specs.State.{State}
use Rattle.ss_state.specs.Readings.{readings, variable_in, HasVariable}
use Rattle.ss_state.specs.Statements.{state_after_assignment}
use Rattle.ss_state.specs.Well.{IsWell}
use Rattle.ss_reads.specs.declared.scene.Given.{Given}
use Rattle.ss_reads.specs.Same.{is_same_variable}
use Rattle.ss_reads.specs.Scenes.{Scene, sources, state_given, scope_of, IsSoundGiven, IsSoundScene}

-- the element that was set, and the others
set_here : (xs : List ℤ) (i : ℕ) (x d : ℤ) → i < length xs → slice_index_or (slice_set xs i x) i d ≡ x
set_here [] i x d h = absurd (omega (arith, h))
set_here (y ∷ ys) zero x d h = refl
set_here (y ∷ ys) (suc i) x d h = set_here ys i x d (omega (arith, h))

set_elsewhere : (xs : List ℤ) (i j : ℕ) (x d : ℤ) → (i ≡ j → ⊥) →
    slice_index_or (slice_set xs i x) j d ≡ slice_index_or xs j d
set_elsewhere [] i j x d h = refl
set_elsewhere (y ∷ ys) zero zero x d h = absurd (h refl)
set_elsewhere (y ∷ ys) zero (suc j) x d h = refl
set_elsewhere (y ∷ ys) (suc i) zero x d h = refl
set_elsewhere (y ∷ ys) (suc i) (suc j) x d h = set_elsewhere ys i j x d (λ e. h (ap (λ (n : ℕ). suc n) e))

apart : (i j : ℕ) → (i == j) ≡ false → i ≡ j → ⊥
apart i j h e = let same : true ≡ false = sym (eq-eqb i j e) ∙ h in cc

nat_is : (i j : ℕ) → (i == j) ≡ true → i ≡ j
nat_is i j h = eqb-true i j h

-- the same variable
same_is : (x y : Variable) → true ≡ is_same_variable x y → x ≡ y
same_is (Global i) (Global j) h = ap (λ (n : ℕ). Global n) (nat_is i j (sym h))
same_is (Global i) (Local j) h = cc
same_is (Global i) Clock h = cc
same_is (Local i) (Global j) h = cc
same_is (Local i) (Local j) h = ap (λ (n : ℕ). Local n) (nat_is i j (sym h))
same_is (Local i) Clock h = cc
same_is Clock (Global j) h = cc
same_is Clock (Local j) h = cc
same_is Clock Clock h = refl

-- a variable of the section has a value
pub has_variable : (p : ProgramTable) (st : State) (x : Variable) → IsWell p st →
    IsSoundVariable (scope_in p st.frame.section) x → HasVariable st x
has_variable p st (Global i) w h = rw w.bounds.variables h
has_variable p st (Local i) w h = rw w.bounds.frame.locals h
has_variable p st Clock w h = h

-- the value that was assigned
assigned_same : (p : ProgramTable) (st : State) (v : Variable) (k : ℤ) → IsWell p st →
    IsSettable (scope_in p st.frame.section) v →
    variable_value (readings (tables_of p) (state_after_assignment st v k)) v ≡ k
assigned_same p st (Global i) k w h = set_here st.variables i k (pos 0) (rw w.bounds.variables h)
assigned_same p st (Local i) k w h = set_here st.frame.locals i k (pos 0) (rw w.bounds.frame.locals h)
assigned_same p st Clock k w h = absurd h

-- the others are as they were
assigned_other : (p : ProgramTable) (st : State) (v x : Variable) (k : ℤ) → is_same_variable v x ≡ false →
    variable_value (readings (tables_of p) (state_after_assignment st v k)) x ≡ variable_in st x
assigned_other p st (Global i) (Global j) k h = set_elsewhere st.variables i j k (pos 0) (apart i j h)
assigned_other p st (Global i) (Local j) k h = refl
assigned_other p st (Global i) Clock k h = refl
assigned_other p st (Local i) (Global j) k h = refl
assigned_other p st (Local i) (Local j) k h = set_elsewhere st.frame.locals i j k (pos 0) (apart i j h)
assigned_other p st (Local i) Clock k h = refl
assigned_other p st Clock (Global j) k h = refl
assigned_other p st Clock (Local j) k h = refl
assigned_other p st Clock Clock k h = refl

-- the value of the variable that has another one
given_value : (s : Scene) (g : Given) (x : Variable) → IsSoundScene s → s.given ≡ Some g →
    true ≡ is_same_variable g.variable x → variable_value (sources s) x ≡ g.value
given_value s g x h e same =
    let is : g.variable ≡ x = same_is g.variable x same in
    let settable : IsSettable (scope_of s) g.variable =
    subst (λ (o : Option Given). IsSoundGiven (scope_of s) o) e h.1 in
    subst (λ (y : Variable). variable_value (readings (tables_of s.program) (state_given s.state s.given)) y ≡ g.value)
    is (rw e (assigned_same s.program s.state g.variable g.value h.0 settable))

-- the value of another one
other_value : (s : Scene) (g : Given) (x : Variable) → s.given ≡ Some g → false ≡ is_same_variable g.variable x →
    variable_value (sources s) x ≡ variable_in s.state x
other_value s g x e other = rw e (assigned_other s.program s.state g.variable x g.value (sym other))

plain_value : (st : State) (p : ProgramTable) (x : Variable) →
    variable_value (readings (tables_of p) st) x ≡ variable_in st x
plain_value st p (Global i) = refl
plain_value st p (Local i) = refl
plain_value st p Clock = refl

-- the value of a variable, if none has another one
own_value : (s : Scene) (x : Variable) → s.given ≡ None → variable_value (sources s) x ≡ variable_in s.state x
own_value s x e = rw e (plain_value s.state s.program x)

-- the result of reading a variable, by the cases of the code
pub value_given : (s : Scene) (g : Given) (x : Variable) (r : ℤ) → IsSoundScene s → s.given ≡ Some g →
    true ≡ is_same_variable g.variable x → r ≡ g.value → r ≡ variable_value (sources s) x
value_given s g x r h e same is = is ∙ sym (given_value s g x h e same)

pub value_of_another : (s : Scene) (g : Given) (x : Variable) (r : ℤ) → s.given ≡ Some g →
    false ≡ is_same_variable g.variable x → r ≡ variable_in s.state x → r ≡ variable_value (sources s) x
value_of_another s g x r e other is = is ∙ sym (other_value s g x e other)

pub value_own : (s : Scene) (x : Variable) (r : ℤ) → s.given ≡ None → r ≡ variable_in s.state x →
    r ≡ variable_value (sources s) x
value_own s x r e is = is ∙ sym (own_value s x e)

-- the value of a variable in a scene
pub ruleset values = (has_variable, value_given, value_of_another, value_own)
