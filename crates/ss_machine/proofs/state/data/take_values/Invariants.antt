use Rattle.std.proofs.Common.{◌≡◌, ◌+◌, ◌++◌, drop, Ok}
use Rattle.ss_values.specs.Faults.{◌>>=◌}
use Rattle.ss_state.specs.Statements.Reading.{values_taken}
use Rattle.ss_machine.proofs.state.data.take_values.Given as goal

-- the values taken so far, and after them those for the targets left, are the values of all
abbrev pub invariant-loop-target : goal.invariant-loop-target
invariant-loop-target l = record {
  items : l.feed.items ≡ l.fn.feed.items;
  taken : l.feed.taken ≡ l.fn.feed.taken + l._target-index;
  values : (values_taken l.external l.feed.items l.feed.taken (drop l._target-index l.targets) >>= λ xs. Ok
      (l.values.items ++ xs))
      ≡ values_taken l.external l.fn.feed.items l.fn.feed.taken l.targets;
}
