use Rattle.std.proofs.Common.{◌≡◌, ◌++◌, map, take}
use Rattle.ss_columns.specs.Quotes.{blank_of}
use Rattle.ss_columns.proofs.quotes.push_blanks.Given as goal

abbrev pub invariant-loop-byte : goal.invariant-loop-byte
invariant-loop-byte l = l.text.items ≡ l.fn.text.items ++ map blank_of (take l.byte-index l.bytes)
