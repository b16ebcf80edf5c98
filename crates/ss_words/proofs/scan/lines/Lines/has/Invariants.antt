use Rattle.std.proofs.Common.{◌≡◌, ◌+◌, length}
use Rattle.ss_words.specs.TextLines.{text_lines}
use Rattle.ss_words.proofs.scan.lines.Lines.has.Given as goal

abbrev pub invariant-loop-line : goal.invariant-loop-line
invariant-loop-line l = length (text_lines l.self.rest.now) ≡ l._line + length (text_lines l.left.rest.now)
