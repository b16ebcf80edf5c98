-- assignments keep a state well-formed
use Rattle.std.proofs.Common.{ℕ, ℤ, ◌+◌, List}
use Rattle.std.specs.Prelude.{slice_index_or, pos, [], ◌∷◌}
use Rattle.ss_program.specs.declared.target.Target.{Target}
use Rattle.ss_program.specs.declared.target.Target.TheVariants as targets
use Rattle.ss_program.specs.declared.place.Assign.{Assign}
use Rattle.ss_program.specs.Program.{ProgramTable}
use Rattle.ss_state.specs.State.{State}
use Rattle.ss_store.specs.Tables.{Tables}
use Rattle.ss_store.specs.Store.{number_of, with_attribute}
use Rattle.ss_values.specs.Values.{subscript_value, assigned_value}
use Rattle.ss_state.specs.Readings.{readings}
use Rattle.ss_state.specs.Statements.{state_with_value, state_with_values}
use Rattle.ss_state.specs.Statements.Assigning.{target_of, state_after_assign}
use Rattle.ss_state.specs.Well.{IsInBounds, AreInRange}
use Rattle.ss_state.proofs.Ranges.{Got, after_got, anything, IsIn, index_in}
use Rattle.ss_state.proofs.ValuesIn.{assigned_value_in}
use Rattle.ss_state.proofs.Stores.{set_attribute_in}
use Rattle.ss_state.proofs.Staying.{attribute_stays}
use Rattle.ss_state.proofs.Wells.Shared.{IsNext, assigned_well, next_store, readings_in, store_well}

pub value_well : (t : Tables) (p : ProgramTable) (s : State) (x : Target) (z : ℤ) → IsIn z → IsInBounds p s →
    Got (IsInBounds p) (state_with_value t s x z)
value_well t p s (targets.Variable v) z h w = assigned_well p s v z h w
value_well t p s (targets.Attribute c a i) z h w =
    after_got (λ (_ : ℤ). Unit {0}) (IsInBounds p) (subscript_value (readings t s) i) _ (anything _) (λ x _.
    after_got (IsNext s.store) (IsInBounds p) (with_attribute s.store c a (number_of x) z) _
    (next_store s.store _ (set_attribute_in s.store c a (number_of x) z h w.store)
    (attribute_stays s.store c a (number_of x) z))
    (λ st k. store_well p s st k w))

pub assign_well : (t : Tables) (p : ProgramTable) (s : State) (a : Assign) → IsInBounds p s →
    Got (IsInBounds p) (state_after_assign t s a)
assign_well t p s a w =
    after_got IsIn (IsInBounds p) (assigned_value (readings t s) a) _
    (assigned_value_in (readings t s) a (readings_in t p s w))
    (λ x h. value_well t p s (target_of a) x h w)

pub values_well : (t : Tables) (p : ProgramTable) (vs : List ℤ) (s : State) (k : ℕ) (xs : List Target) → AreInRange vs →
    IsInBounds p s →
    Got (IsInBounds p) (state_with_values t vs s k xs)
values_well t p vs s k [] h w = w
values_well t p vs s k (x ∷ xs) h w =
    after_got (IsInBounds p) (IsInBounds p) (state_with_value t s x (slice_index_or vs k (pos 0))) _
    (value_well t p s x (slice_index_or vs k (pos 0)) (index_in vs k h) w)
    (λ r g. values_well t p vs r (k + 1) xs h g)
