-- the notes that are made when notices are scheduled and events start
use Rattle.std.proofs.Common.{◌≡◌, ◌≤◌, ℕ, Result, Ok, Err, arith, sym, subst}
use Rattle.ss_words.specs.declared.fault.RunFault.{RunFault}
use Rattle.ss_words.specs.declared.fault.StepFault.{StepFault}
use Rattle.ss_words.specs.declared.fault.StepFault.TheVariants.{Fault, Memory}
use Rattle.ss_journal.specs.Log.{Log}
use Rattle.ss_journal.specs.Undoing.{WorkKeepsOrigin}
use Rattle.ss_state.specs.Change.{Change, Fits, unapply}
use Rattle.ss_state.specs.State.{State}
use Rattle.ss_state.specs.Held.{Held}
use Rattle.ss_machine.specs.Storing.{IsScheduling}

-- the same in other words
pub noted_same : (m n : ℕ) (h k l : Held) (i j : Log Change) → l ≡ k → m ≤ n → WorkKeepsOrigin Fits unapply m h i k j →
    WorkKeepsOrigin Fits unapply n h i l j
noted_same m n h k l i j e f g = subst (λ (x : Held). WorkKeepsOrigin Fits unapply n h i x j) (sym e) (record {
  origin = g.origin;
  fitting = g.fitting;
  steps = g.steps;
  closes = g.closes;
  noted = omega (arith, g.noted, f);
  room = omega (arith, g.room, f);
})

-- a refused scheduling changes nothing
pub not_scheduled : (e : StepFault) (q : Result State RunFault) (h k : Held) → IsScheduling (Err e) q h k → k ≡ h
not_scheduled (Fault e) (Err f) h k o = o.1
not_scheduled Memory (Ok s) h k o = o
not_scheduled (Fault e) (Ok s) h k o = absurd o
not_scheduled Memory (Err f) h k o = absurd o
