use Rattle.std.proofs.Common.{◌≡◌, ◌≤◌, ◌+◌, ◌-◌, drop}
use Rattle.ss_messages.specs.Units.{count_units, within_units}
use Rattle.ss_messages.proofs.units.units_within.Given as goal

-- the count so far and the count of the rest of the text make the whole count
abbrev pub invariant-loop-byte : goal.invariant-loop-byte
invariant-loop-byte l =
    (l.left ≤ l.fn.units)
    × ((l.fn.units - l.left) + count_units (within_units l.left (drop l.byte-index l.text))
    ≡ count_units (within_units l.fn.units l.text))
