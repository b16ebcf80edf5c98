use Rattle.std.proofs.Common.{◌≡◌, ◌++◌, [], map, length}
use Rattle.ss_words.specs.Plain.{plain_at}
use Rattle.ss_names.specs.Unread.{only_text}
use Rattle.ss_names.proofs.unread.push_only.Given as goal

abbrev pub invariant-loop-rest : goal.invariant-loop-rest
invariant-loop-rest l =
    l.text.items
    ++ only_text l.sought.said.now l.sought.vocabulary.names.now l.sought.vocabulary.declarations.now
    l.sought.used.now l.sought.others.now l.before l.section (map plain_at l.rest)
    ≡ l.fn.text.items
    ++ only_text l.sought.said.now l.sought.vocabulary.names.now l.sought.vocabulary.declarations.now
    l.sought.used.now l.sought.others.now [] 0 (map plain_at l.words)

abbrev pub decreases-loop-rest : goal.decreases-loop-rest
decreases-loop-rest l = length l.rest
