use Rattle.std.proofs.Common.{◌≡◌, ◌<◌, ◌^◌, take}
use Rattle.ss_words.specs.TextRuns.{number_of}
use Rattle.ss_words.proofs.scan.run.number_of.Given as goal

abbrev pub invariant-loop-byte : goal.invariant-loop-byte
invariant-loop-byte l = (l.number ≡ number_of (take l.byte-index l.digits)) × (l.number < 2 ^ 63)
