use Rattle.std.proofs.Common.{◌≡◌, drop}
use Rattle.std.specs.Prelude.{map}
use Rattle.ss_program.specs.ProgramCondition.{conjunction_of, relation_of, relations_of}
use Rattle.ss_faults.specs.Missing.{conjunction_told, relations_told}
use Rattle.ss_faults.proofs.missing.conjunction_told.Given as goal

-- with the relations that are left the finding is that of all
abbrev pub invariant-loop-further : goal.invariant-loop-further
invariant-loop-further g l =
    relations_told l.machine.input.program l.machine.state l.told
    (relations_of (map relation_of (drop l.further-index l.further-items)))
    ≡ conjunction_told l.machine.input.program l.machine.state (conjunction_of l.conjunction)
