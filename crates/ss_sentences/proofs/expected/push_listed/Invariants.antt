use Rattle.std.proofs.Common.{◌≡◌, ◌++◌, true, length}
use Rattle.ss_sentences.specs.declared.expected.TheConstants.{FIRST_ROOM}
use Rattle.ss_sentences.specs.Expected.{fitting_list}
use Rattle.ss_sentences.proofs.expected.push_listed.Given as goal

abbrev pub invariant-loop-rest : goal.invariant-loop-rest
invariant-loop-rest l =
    l.text.items ++ fitting_list l.is_first l.room l.rest ≡ l.fn.text.items ++ fitting_list true FIRST_ROOM l.judged

abbrev pub decreases-loop-rest : goal.decreases-loop-rest
decreases-loop-rest l = length l.rest
