use Rattle.std.proofs.Common.{◌≡◌, ◌≤◌, ◌+◌, ◌++◌, replicate, vec_len, vec_capacity}
use Rattle.ss_store.proofs.search.add_unknown.Given as goal

-- there is room for those that are left
abbrev pub invariant-loop : goal.invariant-loop
invariant-loop l = (l.rounds.items ≡ l.fn.rounds.items ++ replicate l.counter 0)
    × (vec_len l.rounds + l.count ≤ vec_capacity l.rounds + l.counter)
