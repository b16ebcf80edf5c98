use Rattle.std.proofs.Common.{◌≡◌, ◌++◌, map, drop}
use Rattle.ss_words.specs.Plain.{plain_at}
use Rattle.ss_names.specs.Unused.{unscheduled_text}
use Rattle.ss_names.proofs.unused.push_unscheduled.Given as goal

abbrev pub invariant-loop-number : goal.invariant-loop-number
invariant-loop-number l =
    l.text.items ++ unscheduled_text l.program (map plain_at l.words) l.number (drop l.number l.program.classes)
    ≡ l.initial.text.items ++ unscheduled_text l.program (map plain_at l.words) 0 l.program.classes
