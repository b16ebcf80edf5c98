use Rattle.std.proofs.Common.{◌≡◌, drop}
use Rattle.ss_faults.specs.Missing.{values_told}
use Rattle.ss_faults.proofs.missing.values_told.Given as goal

-- with the values that are left the finding is that of all
abbrev pub invariant-loop-value : goal.invariant-loop-value
invariant-loop-value g l =
    values_told l.machine.input.program l.machine.state l.told (drop l.value-index l.values)
    ≡ values_told l.machine.input.program l.machine.state l.fn.before l.values
