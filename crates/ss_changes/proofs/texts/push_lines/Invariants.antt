use Rattle.std.proofs.Common.{◌≡◌, ◌++◌, drop}
use Rattle.ss_changes.specs.Texts.{change_lines}
use Rattle.ss_changes.proofs.texts.push_lines.Given as goal

abbrev pub invariant-loop-change : goal.invariant-loop-change
invariant-loop-change g l =
    l.text.items ++ change_lines l.word l.machine.input.program l.machine.state (drop l.change-index l.changes)
    ≡ l.initial.text.items ++ change_lines l.word l.machine.input.program l.machine.state l.changes
