use Rattle.std.proofs.Common.{◌≡◌, ◌++◌, map, length}
use Rattle.ss_words.specs.Plain.{plain_at}
use Rattle.ss_names.specs.Here.{at_start}
use Rattle.ss_names.specs.Ranked.{filed_at, none_filed, ranked_text}
use Rattle.ss_names.proofs.ranked.push_ranked.Given as goal

abbrev pub invariant-loop-rest : goal.invariant-loop-rest
invariant-loop-rest l =
    l.text.items
    ++ ranked_text l.ranking.names.now l.ranking.keys.now (filed_at l.filed) l.here (map plain_at l.rest)
    ≡ l.fn.text.items
    ++ ranked_text l.ranking.names.now l.ranking.keys.now none_filed at_start (map plain_at l.words)

abbrev pub decreases-loop-rest : goal.decreases-loop-rest
decreases-loop-rest l = length l.rest
