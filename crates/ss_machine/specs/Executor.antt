-- Private: the parts of an executor that the clauses of a statement's code read.
use Rattle.std.specs.Prelude.{List}
use Rattle.ss_journal.specs.Undoing.{unapply_all}
use Rattle.ss_store.specs.Tables.{Tables}
use Rattle.ss_events.specs.Rules.{Rule}
use Rattle.ss_machine.specs.declared.executor.Executor.{Executor}
use Rattle.ss_state.specs.State.{State}
use Rattle.ss_state.specs.Change.{unapply}

-- the state of its run
abbrev pub state : {S : Type 0} → Executor S → State
state executor = executor.held.state

-- the state before its open step
abbrev pub state_before : {S : Type 0} → Executor S → State
state_before executor = (unapply_all unapply executor.journal.current executor.held).state

-- the tables of classes and sets
abbrev pub tables : {S : Type 0} → Executor S → Tables
tables executor = executor.held.beside.tables

-- the rules of the classes for notices
abbrev pub rules : {S : Type 0} → Executor S → List Rule
rules executor = executor.held.beside.rules
