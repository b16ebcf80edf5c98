use Rattle.std.proofs.Common.{◌≡◌, ◌++◌, drop}
use Rattle.ss_changes.specs.Parts.{absent_in}
use Rattle.ss_changes.proofs.listing.push_absent.Given as goal

abbrev pub invariant-loop-part : goal.invariant-loop-part
invariant-loop-part g l =
    l.parts.items ++ absent_in l.machine.input.program l.machine.state (drop l.part-index l.among)
    ≡ l.initial.parts.items ++ absent_in l.machine.input.program l.machine.state l.among
