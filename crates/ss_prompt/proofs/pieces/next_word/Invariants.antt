use Rattle.std.proofs.Common.{◌≡◌, ◌≤◌, length}
use Rattle.ss_debug.specs.CommandLines.{command_words}
use Rattle.ss_prompt.proofs.pieces.next_word.Given as goal

abbrev pub invariant-loop-rest : goal.invariant-loop-rest
invariant-loop-rest l = record {
  same : command_words l.line ≡ command_words l.rest;
  less : length l.rest ≤ length l.line;
}

abbrev pub decreases-loop-rest : goal.decreases-loop-rest
decreases-loop-rest l = length l.rest
