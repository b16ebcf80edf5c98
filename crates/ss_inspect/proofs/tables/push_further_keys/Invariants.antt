use Rattle.std.proofs.Common.{◌≡◌, ◌++◌, drop}
use Rattle.ss_inspect.specs.Tables.{further_keys}
use Rattle.ss_inspect.proofs.tables.push_further_keys.Given as goal

abbrev pub invariant-loop-key : goal.invariant-loop-key
invariant-loop-key l =
    l.text.items ++ further_keys l.attributes (drop l.key-index l.keys)
    ≡ l.initial.text.items ++ further_keys l.attributes l.keys
