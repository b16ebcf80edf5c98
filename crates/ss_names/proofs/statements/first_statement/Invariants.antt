use Rattle.std.proofs.Common.{◌≡◌, map, length}
use Rattle.ss_words.specs.Plain.{plain_at}
use Rattle.ss_names.specs.Here.{at_start}
use Rattle.ss_names.specs.Landmarks.{no_section, section_at}
use Rattle.ss_names.specs.Statements.{statement}
use Rattle.ss_names.proofs.statements.first_statement.Given as goal

abbrev pub invariant-loop-rest : goal.invariant-loop-rest
invariant-loop-rest l =
    statement l.reason l.line (section_at l.section) l.here (map plain_at l.rest)
    ≡ statement l.reason l.line no_section at_start (map plain_at l.words)

abbrev pub decreases-loop-rest : goal.decreases-loop-rest
decreases-loop-rest l = length l.rest
