use Rattle.std.proofs.Common.{◌≡◌, ◌<◌, false, take}
use Rattle.std.specs.Vec.{vec_capacity}
use Rattle.ss_console.specs.Lines.{kept_part}
use Rattle.ss_console.specs.declared.lines.TheConstants.{LONGEST_LINE}
use Rattle.ss_console.proofs.LineLaws.{has_feed}
use Rattle.ss_console.proofs.lines.take_line.Given as goal

abbrev pub invariant-loop-at : goal.invariant-loop-at
invariant-loop-at l = record {
  one : has_feed (take l.at l.text) ≡ false;
  kept_so_far : l.line.items ≡ kept_part (take l.at l.text);
  room : LONGEST_LINE < vec_capacity l.line;
}
