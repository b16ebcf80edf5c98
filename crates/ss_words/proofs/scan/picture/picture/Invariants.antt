use Rattle.std.proofs.Common.{◌+◌, ◌-◌, ◌≤◌, length, map}
use Rattle.ss_words.specs.TextLines.{text_lines}
use Rattle.ss_words.proofs.TextPictureLines.{Drawn}
use Rattle.ss_words.proofs.scan.picture.picture.Given as goal

abbrev pub invariant-loop-line : goal.invariant-loop-line
invariant-loop-line l = record {
  drawn : Drawn (l.fn.lines.taken + 1) l.count (text_lines l.fn.lines.rest.now) l.lines.taken (l.count - l._line)
      (text_lines l.lines.rest.now) (map (λ v. v.items) l.picture.items);
  shorter : length l.lines.rest.now ≤ length l.fn.lines.rest.now;
}
