-- so does READ
use Rattle.std.proofs.Common.{◌≡◌, ℕ, ℤ, ◌+◌, ◌<◌, List, length, Result, Ok, Err, sym, subst}
use Rattle.std.specs.Prelude.{slice_get}
use Rattle.ss_words.specs.declared.fault.RunFault.{RunFault}
use Rattle.ss_words.specs.declared.fault.RunFault.TheVariants.{OutsideEntry}
use Rattle.ss_program.specs.declared.target.Target.{Target}
use Rattle.ss_program.specs.Program.{ProgramTable, has_external, places_of}
use Rattle.ss_state.specs.State.{State, is_waiting}
use Rattle.ss_store.specs.Tables.{tables_of}
use Rattle.ss_values.specs.Faults.{◌>>◌, refuse_if}
use Rattle.ss_state.specs.Statements.{state_with_taken}
use Rattle.ss_state.specs.Statements.Reading.{values_taken, state_after_read, step_read}
use Rattle.ss_state.specs.Well.{IsInBounds}
use Rattle.ss_state.proofs.Ranges.{Got, after_got, unless_refused, anything}
use Rattle.ss_state.proofs.Rests.{LeavesRest, values_rest}
use Rattle.ss_state.proofs.Items.{AreThere, taken_there}
use Rattle.ss_state.proofs.Wells.Shared.{IsPlace, both_got, settled_well, state_at_place_well, taken_well}
use Rattle.ss_state.proofs.Wells.Assigning.{values_well}

-- the state that a READ leaves
read_well : (p : ProgramTable) (s : State) (ts : List Target) → IsInBounds p s →
    Got (IsInBounds p) (state_after_read p s ts)
read_well p s ts w =
    let taken = values_taken (has_external p) s.feed.items s.feed.taken ts in
    after_got (AreThere s.feed.items s.feed.taken ts) (IsInBounds p)
    (refuse_if (is_waiting s.entry) OutsideEntry >> taken) _
    (unless_refused (AreThere s.feed.items s.feed.taken ts) (is_waiting s.entry) OutsideEntry taken
    (taken_there (has_external p) s.feed.items s.feed.taken ts w.items w.taken))
    (λ vs h. values_well (tables_of p) p vs (state_with_taken s (s.feed.taken + length ts)) 0 ts h.0
    (taken_well p s (s.feed.taken + length ts) h.1 w))

-- and its section is the same
read_section : (p : ProgramTable) (s : State) (ts : List Target) →
    Got (λ (r : State). r.frame.section ≡ s.frame.section) (state_after_read p s ts)
read_section p s ts =
    after_got (λ (_ : List ℤ). Unit {0}) (λ (r : State). r.frame.section ≡ s.frame.section)
    (refuse_if (is_waiting s.entry) OutsideEntry >> values_taken (has_external p) s.feed.items s.feed.taken ts) _
    (anything _) (λ vs _.
    section_of_rest (state_with_taken s (s.feed.taken + length ts)) _
    (values_rest (tables_of p) vs (state_with_taken s (s.feed.taken + length ts)) 0 ts))
  where
    section_of_rest : (u : State) (r : Result State RunFault) → Got (LeavesRest u) r →
        Got (λ (t : State). t.frame.section ≡ u.frame.section) r
    section_of_rest u (Ok t) h = h.section
    section_of_rest u (Err e) h = tt

pub went_read : (p : ProgramTable) (s : State) (n : ℕ) (ts : List Target) → IsPlace p s n → IsInBounds p s →
    IsInBounds p (step_read p s n ts)
went_read p s n ts k w =
    settled_well (λ (r : State). (r.frame.section ≡ s.frame.section) × IsInBounds p r) p s _ _ w
    (both_got (λ (r : State). r.frame.section ≡ s.frame.section) (IsInBounds p) _ (read_section p s ts)
    (read_well p s ts w))
    (λ r h. state_at_place_well p r n (subst (λ (i : ℕ). n < length (places_of (slice_get p.sections i))) (sym h.0) k)
    h.1)
