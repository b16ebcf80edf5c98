use Rattle.std.proofs.Common.{◌≡◌, ◌++◌, drop, Ok}
use Rattle.std.specs.List.{range_with_len}
use Rattle.ss_values.specs.Faults.{◌>>=◌}
use Rattle.ss_state.specs.Statements.Timing.{attributes_now}
use Rattle.ss_machine.proofs.state.State.first_attributes.Given as goal

-- the values read so far, and after them those of the attributes left, are the values of all
abbrev pub invariant-loop-attribute : goal.invariant-loop-attribute
invariant-loop-attribute g l =
    (attributes_now l.self.state.store l.class l.entity (drop l.attribute (range_with_len 0 l.count)) >>= λ xs. Ok
    (l.values.items ++ xs))
    ≡ attributes_now l.self.state.store l.class l.entity (range_with_len 0 l.count)
