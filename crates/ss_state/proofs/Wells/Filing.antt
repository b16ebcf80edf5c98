-- so do FILE and REMOVE
use Rattle.std.proofs.Common.{ℕ, ℤ}
use Rattle.std.specs.Prelude.{position, pos}
use Rattle.ss_program.specs.declared.target.SetRef.{SetRef}
use Rattle.ss_program.specs.declared.filing.Filing.{Filing}
use Rattle.ss_program.specs.declared.filing.Filing.TheVariants.{File, FileAt, RemoveAt, Remove}
use Rattle.ss_program.specs.Program.{ProgramTable}
use Rattle.ss_state.specs.State.{State}
use Rattle.ss_store.specs.declared.shape.SetShape.{SetShape}
use Rattle.ss_store.specs.declared.shape.How.{How}
use Rattle.ss_store.specs.declared.shape.Which.{Which}
use Rattle.ss_store.specs.declared.shape.Which.TheVariants as which
use Rattle.ss_store.specs.Tables.{Tables, set_of}
use Rattle.ss_store.specs.Store.{Store, number_of}
use Rattle.ss_store.specs.Filing.{after_filing, after_removing}
use Rattle.ss_values.specs.Values.{value_of, subscript_value, number_value}
use Rattle.ss_state.specs.Readings.{readings}
use Rattle.ss_state.specs.Statements.{state_with_store}
use Rattle.ss_state.specs.Statements.Filing.{how_at, which_at, how_asked, state_after_file, state_after_filing}
use Rattle.ss_state.specs.Well.{IsInBounds, IsStoreInRange}
use Rattle.ss_state.proofs.Ranges.{Got, after_got, anything, IsIn, ranged_in}
use Rattle.ss_state.proofs.Stores.{LeavesInRange, filed_well, removed_well}
use Rattle.ss_state.proofs.Staying.{LeavesThere, filed_stays, removed_stays}
use Rattle.ss_state.proofs.Wells.Shared.{IsNext, LeavesNext, both_got, next_store, store_well}
use Rattle.ss_state.proofs.Wells.Assigning.{value_well}

file_well : (t : Tables) (p : ProgramTable) (s : State) (r : SetRef) (x : ℤ) (h : How) → IsInBounds p s →
    Got (IsInBounds p) (state_after_file t s r x h)
file_well t p s r x h w =
    after_got (λ (_ : ℤ). Unit {0}) (IsInBounds p) (subscript_value (readings t s) r.owner) _ (anything _) (λ o _.
    after_got (IsNext s.store) (IsInBounds p) (after_filing (set_of t r.set) s.store (number_of o) (number_of x) h) _
    (next_store s.store _ (filed_well (set_of t r.set) s.store (number_of o) (number_of x) h w.store)
    (filed_stays (set_of t r.set) s.store (number_of o) (number_of x) h)) (λ st k. store_well p s st k w))

next_removed : (st : Store) (shape : SetShape) (o : ℕ) (w : Which) → IsStoreInRange st →
    Got (LeavesNext st) (after_removing shape st o w)
next_removed st shape o w h =
    both_got LeavesInRange (LeavesThere st) _ (removed_well shape st o w h) (removed_stays shape st o w)

pub filing_well : (t : Tables) (p : ProgramTable) (s : State) (f : Filing) → IsInBounds p s →
    Got (IsInBounds p) (state_after_filing t s f)
filing_well t p s (File e position r) w =
    after_got (λ (_ : ℤ). Unit {0}) (IsInBounds p) (value_of (readings t s) e) _ (anything _) (λ x _.
    after_got (λ (_ : How). Unit {0}) (IsInBounds p) (how_asked (readings t s) position) _ (anything _)
    (λ h _. file_well t p s r x h w))
filing_well t p s (FileAt end e r) w =
    after_got (λ (_ : ℤ). Unit {0}) (IsInBounds p) (value_of (readings t s) e) _ (anything _)
    (λ x _. file_well t p s r x (how_at end) w)
filing_well t p s (RemoveAt end target r) w =
    after_got (λ (_ : ℤ). Unit {0}) (IsInBounds p) (subscript_value (readings t s) r.owner) _ (anything _) (λ o _.
    after_got (LeavesNext s.store) (IsInBounds p) (after_removing (set_of t r.set) s.store (number_of o) (which_at end)) _
    (next_removed s.store (set_of t r.set) (number_of o) (which_at end) w.store) (λ k g.
    after_got IsIn (IsInBounds p) (number_value k.0) _ (ranged_in (pos k.0))
    (λ x h. value_well t p (state_with_store s k.1) target x h (store_well p s k.1 g w))))
filing_well t p s (Remove e r) w =
    after_got (λ (_ : ℤ). Unit {0}) (IsInBounds p) (value_of (readings t s) e) _ (anything _) (λ x _.
    after_got (λ (_ : ℤ). Unit {0}) (IsInBounds p) (subscript_value (readings t s) r.owner) _ (anything _) (λ o _.
    after_got (LeavesNext s.store) (IsInBounds p) (after_removing (set_of t r.set) s.store (number_of o) (which.Member x)) _
    (next_removed s.store (set_of t r.set) (number_of o) (which.Member x) w.store) (λ k g. store_well p s k.1 g w)))
