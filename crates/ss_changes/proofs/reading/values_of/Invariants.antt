use Rattle.std.proofs.Common.{◌≡◌, ◌++◌, drop, map}
use Rattle.ss_changes.specs.Values.{value_in}
use Rattle.ss_changes.proofs.reading.values_of.Given as goal

abbrev pub invariant-loop-part : goal.invariant-loop-part
invariant-loop-part g l =
    l.values.items ++ map (value_in l.machine.input.program l.machine.state) (drop l.part-index l.parts)
    ≡ map (value_in l.machine.input.program l.machine.state) l.parts
