use Rattle.std.proofs.Common.{◌≡◌, map, length}
use Rattle.ss_sentences.specs.Wording as spec
use Rattle.ss_sentences.proofs.wording.text_beside_number.Given as goal

abbrev pub invariant-loop-rows : goal.invariant-loop-rows
invariant-loop-rows l =
    spec.beside_number l.number (map (λ row. (row.0, row.1.now)) l.rows)
    ≡ spec.beside_number l.number (map (λ row. (row.0, row.1.now)) l.initial.rows)

abbrev pub decreases-loop-rows : goal.decreases-loop-rows
decreases-loop-rows l = length l.rows
