-- Private: the facts that every machine keeps.
use Rattle.std.specs.Prelude.{◌≡◌, ℕ, zero, suc, ◌+◌, ◌≤◌, List, [], length}
use Rattle.ss_journal.specs.Log.{Log}
use Rattle.ss_journal.specs.Undoing.{StepsLeadBack}
use Rattle.ss_program.specs.ProgramSound.{IsSound}
use Rattle.ss_store.specs.Tables.{tables_of}
use Rattle.ss_events.specs.Rules.{rules_of}
use Rattle.ss_state.specs.declared.limits.TheConstants.{LAST_POSITION}
use Rattle.ss_state.specs.Held.{Held}
use Rattle.ss_state.specs.Well.{AreItemsInRange}
use Rattle.ss_state.specs.Change.{Change, unapply, Fits}
use Rattle.ss_state.specs.declared.status.Status.TheVariants.{Ready}
use Rattle.ss_state.specs.Run.{Input, run}

-- changes that fit and lead back through the states of a run, the first of them to its state number a
abbrev pub LeadsBack : Input → ℕ → List (List Change) → Held → Type 0
LeadsBack input a steps held = StepsLeadBack Fits unapply (λ g. g.state) (λ k. run input (a + k)) steps held

-- the states of a run before its state number p are ready: the run went on from each
abbrev pub WentOn : Input → ℕ → Type 0
WentOn input zero = Unit {0}
WentOn input (suc p) = ((run input p).status ≡ Ready) × WentOn input p

-- the facts that every machine keeps
pub record Stands (input : Input) (forgotten : ℕ) (held : Held) (log : Log Change) : Type 0 where
  -- the program is sound
  pub sound : IsSound input.program
  -- the numbers of its data are in range
  pub items : AreItemsInRange input.items
  -- no step is open
  pub closed : log.current ≡ []
  -- the state is the run's with the machine's position
  pub here : held.state ≡ run input (forgotten + length log.steps)
  -- which is not past the last one
  pub within : forgotten + length log.steps ≤ LAST_POSITION
  -- the run went on up to it
  pub went : WentOn input (forgotten + length log.steps)
  -- the tables kept with the state are those of the program's classes and sets
  pub tables : held.beside.tables ≡ tables_of input.program
  -- and the rules give the order of its notices
  pub rules : held.beside.rules ≡ rules_of input.program
  -- the kept changes fit, and lead back through the states of the run
  pub kept : LeadsBack input forgotten log.steps held
