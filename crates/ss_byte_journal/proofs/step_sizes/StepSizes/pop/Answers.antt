use Rattle.std.proofs.Common.{◌≡◌, ◌∷◌, ◌++◌, ◌≤◌, [], length, drop, ap, sym, ◌∙◌, arith}
use Rattle.ss_journal.specs.Pieces.{SizeList}
use Rattle.ss_journal.proofs.Bytes.{newest_long, first_fits}
use Rattle.ss_byte_journal.proofs.Stretches.{live_off, newest_count}
use Rattle.ss_byte_journal.proofs.step_sizes.StepSizes.pop.Goals as goal

-- the forgotten bytes are not among those that are taken off
within : (c : goal.After-unwrap-more) → c.self.inside.forgotten ≤ length c.take_last-byte.new.self.items
within c =
    omega (
      arith,
      c.self.invariant.1,
      c.if-len-self.false,
      c.len.ensures,
      c.take_last-byte.ensures.len,
      c.take_last-byte.new.self.ok.0,
    )

live : (c : goal.After-unwrap-more) → drop c.self.inside.forgotten c.self.inside.bytes.items
    ≡ drop c.self.inside.forgotten c.take_last-byte.new.self.items ++ c.take_last-byte.result ∷ []
live c =
    live_off c.self.inside.bytes.items c.take_last-byte.new.self.items c.self.inside.forgotten c.take_last-byte.result
    c.take_last-byte.ensures.items (within c)

pub invariant_of-self-2 : goal.invariant_of-self-2
invariant_of-self-2 c = (
  newest_count (drop c.self.inside.forgotten c.self.inside.bytes.items)
      (drop c.self.inside.forgotten c.take_last-byte.new.self.items) c.self.inside.longs.items
      c.pop_back.new.self.items c.take_last-byte.result c.unwrap-more.result (live c)
      (rw c.unwrap-more.ensures at c.pop_back.ensures.items) c.if-byte-lt-LONG.false c.self.invariant.0,
  omega (arith, within c, c.take_last-byte.new.self.ok.0),
)

pub returns-clause-sizes : goal.returns-clause-sizes
returns-clause-sizes c =
    sym (ap (λ (v : SizeList). v.sizes) c.self.view_is)
    ∙ newest_long (drop c.self.inside.forgotten c.self.inside.bytes.items)
    (drop c.self.inside.forgotten c.take_last-byte.new.self.items) c.self.inside.longs.items c.pop_back.new.self.items _ _
    (live c) (rw c.unwrap-more.ensures at c.pop_back.ensures.items) c.if-byte-lt-LONG.false

pub overflow_add-result : goal.overflow_add-result
overflow_add-result c = omega (arith, first_fits _ _ _ (returns-clause-sizes c), c.requires)
