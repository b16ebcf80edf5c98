-- One step of READ.
use Rattle.std.specs.Prelude.{ℕ, ℤ, ◌+◌, ◌&&◌, Bool, true, false, List, [], ◌∷◌, length, Option, Result, Ok, slice_get}
use Rattle.ss_words.specs.declared.fault.RunFault.{RunFault}
use Rattle.ss_words.specs.declared.fault.RunFault.TheVariants.{OutsideEntry}
use Rattle.ss_program.specs.declared.target.Target.{Target}
use Rattle.ss_program.specs.Program.{ProgramTable, has_external}
use Rattle.ss_data.specs.Items.{Item, value_or_fault}
use Rattle.ss_data.specs.declared.entry.PieceKind.{PieceKind}
use Rattle.ss_data.specs.declared.entry.PieceKind.TheVariants.{Mark}
use Rattle.ss_data.specs.Entries.{kind_or_end}
use Rattle.ss_store.specs.Tables.{tables_of}
use Rattle.ss_state.specs.State.{State, is_waiting}
use Rattle.ss_values.specs.Faults.{◌>>=◌, ◌>>◌, refuse_if}
use Rattle.ss_state.specs.Statements.{state_after_result, state_at_place, state_with_taken, state_with_values}

-- the mark that ends an entry
abbrev pub is_mark : PieceKind → Bool
is_mark Mark = true
is_mark _ = false

-- the number of an item: F16; F22 at a mark, if the program has external events; F17
abbrev pub value_taken : Bool → Option Item → Result ℤ RunFault
value_taken external o = refuse_if (external && is_mark (kind_or_end o)) OutsideEntry >> value_or_fault o

-- the numbers of the next items, one for each target, from item number i on; or the first fault
abbrev pub values_taken : Bool → List Item → ℕ → List Target → Result (List ℤ) RunFault
values_taken external items i [] = Ok []
values_taken external items i (t ∷ ts) =
    value_taken external (slice_get items i) >>= λ x. values_taken external items (i + 1) ts >>= λ xs. Ok (x ∷ xs)

-- the state in which a READ has taken its values: all of them before the first target is
-- assigned; F22 if an entry waits
abbrev pub state_after_read : ProgramTable → State → List Target → Result State RunFault
state_after_read program state ts =
    refuse_if (is_waiting state.entry) OutsideEntry
    >> values_taken (has_external program) state.feed.items state.feed.taken ts
    >>= λ xs. state_with_values (tables_of program) xs (state_with_taken state (state.feed.taken + length ts)) 0 ts

-- one step of a READ
abbrev pub step_read : ProgramTable → State → ℕ → List Target → State
step_read program state next ts = state_after_result state (state_after_read program state ts) (state_at_place next)
