use Rattle.std.proofs.Common.{◌≡◌, ◌++◌, take, flat_map}
use Rattle.ss_messages.specs.Escapes.{escaped_wide_byte}
use Rattle.ss_messages.proofs.escape.push_wide_bytes.Given as goal

abbrev pub invariant-loop-byte : goal.invariant-loop-byte
invariant-loop-byte l = l.out.items ≡ l.fn.out.items ++ flat_map escaped_wide_byte (take l.byte-index l.text)
