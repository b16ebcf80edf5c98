use Rattle.std.proofs.Common.{◌≡◌, ◌==◌, drop}
use Rattle.std.specs.List.{list_any}
use Rattle.ss_program.specs.declared.keys.Key.{Key}
use Rattle.ss_store.proofs.writing.has_key.Given as goal

-- none of the keys that were passed is the attribute
abbrev pub invariant-loop-key : goal.invariant-loop-key
invariant-loop-key l = list_any (λ (k : Key). k.attribute == l.attribute) (drop l.key-index l.keys)
    ≡ list_any (λ (k : Key). k.attribute == l.attribute) l.keys
