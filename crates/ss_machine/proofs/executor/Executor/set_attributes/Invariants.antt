use Rattle.std.proofs.Common.{◌≡◌, drop}
use Rattle.ss_machine.specs.Noting.{Notes}
use Rattle.ss_machine.specs.Seen.{scope_held}
use Rattle.ss_state.specs.Statements.Timing.{state_with_attributes}
use Rattle.ss_machine.proofs.executor.Executor.set_attributes.Given as goal

-- the values that are left bring the state to the result
abbrev pub invariant-loop-number : goal.invariant-loop-number
invariant-loop-number g l = record {
  values : l.self.values ≡ l.fn.self.values;
  tables : l.self.held.beside.tables ≡ l.fn.self.held.beside.tables;
  rules : l.self.held.beside.rules ≡ l.fn.self.held.beside.rules;
  scope : scope_held l.self.held ≡ scope_held l.fn.self.held;
  state : state_with_attributes l.self.held.state l.class l.entity l.number (drop l.number l.fn.self.values.items)
      ≡ state_with_attributes l.fn.self.held.state l.class l.entity 0 l.fn.self.values.items;
  notes : Notes l.number l.fn.self l.self;
}
