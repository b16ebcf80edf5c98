use Rattle.std.proofs.Common.{◌≡◌, ◌++◌, drop, Ok}
use Rattle.ss_program.specs.ProgramSound.{AreSoundExprs}
use Rattle.ss_values.specs.Faults.{◌>>=◌}
use Rattle.ss_values.specs.Values.{values_of}
use Rattle.ss_values.specs.Seen.{view_readings, scope_of}
use Rattle.ss_values.proofs.evaluation.values.Given as goal

-- the values so far, and after them those of the expressions that are left, are the values of all
abbrev pub invariant-loop-e : goal.invariant-loop-e
invariant-loop-e g l = record {
  sound : AreSoundExprs (scope_of (view_readings l.view)) (drop l.e-index l.es);
  values : (values_of (view_readings l.view) (drop l.e-index l.es) >>= λ xs. Ok (l.values.items ++ xs))
      ≡ values_of (view_readings l.view) l.es;
}
