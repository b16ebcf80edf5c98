use Rattle.std.proofs.Common.{◌≡◌, drop}
use Rattle.ss_program.specs.Keys.{by_keys, key_values}
use Rattle.ss_store.proofs.ranking.ranks_behind.Given as goal

-- the keys that are left compare the two as all keys do
abbrev pub invariant-loop-key : goal.invariant-loop-key
invariant-loop-key l = by_keys (drop l.key-index l.keys) (key_values (drop l.key-index l.keys) l.theirs)
    (key_values (drop l.key-index l.keys) l.ours)
    ≡ by_keys l.keys (key_values l.keys l.theirs) (key_values l.keys l.ours)
