use Rattle.std.proofs.Common.{◌≡◌, ◌++◌, drop, Ok}
use Rattle.std.specs.Prelude.{map}
use Rattle.ss_values.specs.Faults.{◌>>=◌}
use Rattle.ss_state.specs.Statements.Timing.{attributes_now}
use Rattle.ss_machine.proofs.state.State.keys.Given as goal

-- the values read so far, and after them those of the keys that are left, are the values of all
abbrev pub invariant-loop-key : goal.invariant-loop-key
invariant-loop-key g l =
    (attributes_now l.self.state.store l.class l.entity (drop l.key-index (map (λ key. key.attribute) l.ties)) >>= λ xs.
    Ok (l.values.items ++ xs))
    ≡ attributes_now l.self.state.store l.class l.entity (map (λ key. key.attribute) l.ties)
