use Rattle.std.proofs.Common.{◌<◌}
use Rattle.std.specs.Vec.{vec_capacity}
use Rattle.ss_console.specs.declared.lines.TheConstants.{LONGEST_LINE}
use Rattle.ss_console.proofs.LineLaws.{IsWithin}
use Rattle.ss_console.proofs.lines.next_line.Given as goal

abbrev pub invariant-loop : goal.invariant-loop
invariant-loop g l = record {
  within : IsWithin (g.R.Read.remaining l.initial.reader) (g.R.Read.remaining l.reader) l.line.items;
  room : LONGEST_LINE < vec_capacity l.line;
}
