use Rattle.std.proofs.Common.{◌≡◌, ◌++◌, map, drop}
use Rattle.ss_words.specs.Plain.{plain_at}
use Rattle.ss_names.specs.Unused.{unfiled_text}
use Rattle.ss_names.proofs.unused.push_unfiled.Given as goal

abbrev pub invariant-loop-number : goal.invariant-loop-number
invariant-loop-number l =
    l.text.items ++ unfiled_text l.program (map plain_at l.words) l.number (drop l.number l.program.sets)
    ≡ l.initial.text.items ++ unfiled_text l.program (map plain_at l.words) 0 l.program.sets
