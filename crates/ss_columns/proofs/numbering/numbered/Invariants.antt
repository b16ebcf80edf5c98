use Rattle.std.proofs.Common.{◌≡◌, ◌++◌, map, drop}
use Rattle.std.specs.List.{enumerate_from}
use Rattle.ss_words.specs.Words.{word_at}
use Rattle.ss_columns.specs.Numbers.{on_line, words_by_number}
use Rattle.ss_columns.proofs.numbering.numbered.Given as goal

abbrev pub invariant-loop-line : goal.invariant-loop-line
invariant-loop-line l =
    map word_at l.list.items ++ map (λ e. on_line e.0 e.1)
    (enumerate_from l.line (map word_at (drop l.line l.words))) ≡ words_by_number (map word_at l.words)
