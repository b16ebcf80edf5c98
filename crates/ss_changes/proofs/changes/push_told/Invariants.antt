use Rattle.std.proofs.Common.{◌≡◌, ◌++◌, drop}
use Rattle.ss_changes.specs.View.{told_against}
use Rattle.ss_changes.proofs.changes.push_told.Given as goal

abbrev pub invariant-loop-place : goal.invariant-loop-place
invariant-loop-place g l =
    l.changes.items
    ++ told_against l.machine.input.program l.machine.state (drop l.place l.parts) (drop l.place l.before)
    ≡ l.initial.changes.items ++ told_against l.machine.input.program l.machine.state l.parts l.before
