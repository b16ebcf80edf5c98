use Rattle.std.proofs.Common.{◌≡◌, drop}
use Rattle.ss_program.specs.ProgramSound.{AreSoundQualifiers}
use Rattle.ss_state.specs.Loops.{verdict_of}
use Rattle.ss_values.specs.Seen.{view_readings, InView}
use Rattle.ss_machine.proofs.statements.looping.candidates.verdict.Given as goal

-- the qualifiers that are left decide
abbrev pub invariant-loop-qualifier : goal.invariant-loop-qualifier
invariant-loop-qualifier g l = record {
  sound : InView l.view AreSoundQualifiers (drop l.qualifier-index l.qualifiers);
  verdict : verdict_of (view_readings l.view) (drop l.qualifier-index l.qualifiers)
      ≡ verdict_of (view_readings l.view) l.qualifiers;
}
