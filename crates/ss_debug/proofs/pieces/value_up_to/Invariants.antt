use Rattle.std.proofs.Common.{◌≡◌, ◌≤◌, take}
use Rattle.ss_words.specs.TextRuns.{number_of}
use Rattle.ss_debug.proofs.pieces.value_up_to.Given as goal

abbrev pub invariant-loop-b : goal.invariant-loop-b
invariant-loop-b l = (l.value ≡ number_of (take l.b-index l.digits)) × (l.value ≤ l.limit)
