use Rattle.std.proofs.Common.{◌≡◌, ◌≤◌, ◌+◌, ◌-◌, ◌++◌, length, take, map}
use Rattle.std.specs.Vec.{vec_capacity}
use Rattle.ss_console.specs.declared.entry.Entry.TheVariants.{Wrote}
use Rattle.ss_console.proofs.entry.note_written.Given as goal

abbrev pub invariant-loop-byte : goal.invariant-loop-byte
invariant-loop-byte l = record {
  noted : l.entries.items ≡ l.fn.entries.items ++ map Wrote (take l.byte-index l.bytes);
  room : length l.entries.items + (length l.bytes - l.byte-index) ≤ vec_capacity l.entries;
}
