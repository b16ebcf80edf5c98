use Rattle.std.proofs.Common.{◌≡◌, ◌++◌, length}
use Rattle.ss_debug.specs.CommandLines.{command_words}
use Rattle.ss_prompt.specs.Rows.{further_cells}
use Rattle.ss_prompt.proofs.rows.push_further_cells.Given as goal

abbrev pub invariant-loop-name : goal.invariant-loop-name
invariant-loop-name g l =
    l.text.items ++ further_cells l.machine.input.program l.machine.state.store l.class l.number (command_words l.rest)
    ≡ l.initial.text.items
    ++ further_cells l.machine.input.program l.machine.state.store l.class l.number (command_words l.names)

abbrev pub decreases-loop-name : goal.decreases-loop-name
decreases-loop-name g l = length l.rest
