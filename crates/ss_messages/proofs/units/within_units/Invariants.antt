use Rattle.std.proofs.Common.{◌≡◌, ◌++◌, drop}
use Rattle.ss_messages.specs.Units.{within_units}
use Rattle.ss_messages.proofs.units.within_units.Given as goal

-- the bytes that are left bring the part so far to the whole part
abbrev pub invariant-loop-byte : goal.invariant-loop-byte
invariant-loop-byte l =
    l.part.items ++ within_units l.left (drop l.byte-index l.text) ≡ within_units l.fn.units l.text
