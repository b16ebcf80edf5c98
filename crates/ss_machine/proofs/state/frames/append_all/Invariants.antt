use Rattle.std.proofs.Common.{◌≡◌, ◌++◌, take}
use Rattle.ss_machine.proofs.state.frames.append_all.Given as goal

-- the first values of the part, as many as were appended, come after the old ones
abbrev pub invariant-loop-value : goal.invariant-loop-value
invariant-loop-value l = l.values.items ≡ l.fn.values.items ++ take l.value-index l.part
