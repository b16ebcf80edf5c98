use Rattle.std.proofs.Common.{◌≡◌, ◌++◌, drop}
use Rattle.ss_prompt.specs.Rows.{further_cells}
use Rattle.ss_prompt.proofs.notice_rows.push_further_cells.Given as goal

abbrev pub invariant-loop-name : goal.invariant-loop-name
invariant-loop-name g l =
    l.text.items
    ++ further_cells l.machine.input.program l.machine.state.store l.class l.notice (drop l.name-index l.names)
    ≡ l.initial.text.items
    ++ further_cells l.machine.input.program l.machine.state.store l.class l.notice l.names
