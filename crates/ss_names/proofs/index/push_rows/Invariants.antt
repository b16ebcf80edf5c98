use Rattle.std.proofs.Common.{◌≡◌, ◌++◌, [], map, length}
use Rattle.ss_words.specs.Plain.{plain_at}
use Rattle.ss_names.specs.Index.{name_rows}
use Rattle.ss_names.proofs.index.push_rows.Given as goal

abbrev pub invariant-loop-rest : goal.invariant-loop-rest
invariant-loop-rest l =
    l.text.items ++ name_rows l.all l.before (map plain_at l.rest)
    ≡ l.fn.text.items ++ name_rows l.all [] (map plain_at l.words)

abbrev pub decreases-loop-rest : goal.decreases-loop-rest
decreases-loop-rest l = length l.rest
