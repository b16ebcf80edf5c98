use Rattle.std.proofs.Common.{◌≡◌, drop}
use Rattle.ss_program.specs.Keys.{by_keys}
use Rattle.ss_events.proofs.ranking.keys_decide.Given as goal

-- the keys that are left decide as all keys do
abbrev pub invariant-loop-i : goal.invariant-loop-i
invariant-loop-i l = by_keys l.ties l.a l.b ≡ by_keys (drop l.i l.ties) (drop l.i l.a) (drop l.i l.b)
