use Rattle.std.proofs.Common.{◌≡◌, ◌++◌, drop}
use Rattle.ss_debug.specs.CommandLines.{command_words}
use Rattle.ss_prompt.specs.Rows.{rows}
use Rattle.ss_prompt.proofs.rows.push_rows.Given as goal

abbrev pub invariant-loop-number : goal.invariant-loop-number
invariant-loop-number g l =
    l.text.items ++ rows l.machine.input.program l.machine.state.store l.class (command_words l.names)
    (drop l.number-index l.numbers)
    ≡ l.initial.text.items ++ rows l.machine.input.program l.machine.state.store l.class (command_words l.names)
    l.numbers
