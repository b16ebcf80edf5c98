use Rattle.std.proofs.Common.{◌≡◌, ◌≤◌, ◌+◌, ◌++◌, replicate, vec_len, vec_capacity}
use Rattle.ss_store.proofs.growing.add_numbers.Given as goal

-- there is room for those that are left
abbrev pub invariant-loop : goal.invariant-loop
invariant-loop l = (l.numbers.items ≡ l.fn.numbers.items ++ replicate l.counter l.number)
    × (vec_len l.numbers + l.count ≤ vec_capacity l.numbers + l.counter)
