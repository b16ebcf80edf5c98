use Rattle.std.proofs.Common.{rules, ◌≡◌, ◌+◌, ◌<◌, length, drop, ap, sym, ◌∙◌, arith}
use Rattle.std.specs.VecDeque.{deque_len}
use Rattle.ss_journal.specs.Pieces.{SizeList}
use Rattle.ss_journal.proofs.Bytes.{oldest_short, oldest_long, left_short, left_long, some_long, last_fits}
use Rattle.ss_byte_journal.proofs.Stretches.{first_live}
use Rattle.ss_byte_journal.proofs.step_sizes.StepSizes.pop_oldest.Goals as goal

pub invariant_of-self : goal.invariant_of-self
invariant_of-self c =
    let i = c.self.inside in
    let some : i.forgotten < length i.bytes.items =
    omega (arith, c.self.invariant.1, c.if-len-self.false, c.len.ensures, i.bytes.ok.0) in
    let first = first_live i.bytes.items i.forgotten c.index.result.now some c.index.ensures in (
      left_short (drop i.forgotten i.bytes.items) (drop (i.forgotten + 1) i.bytes.items) i.longs.items _ first c.self.invariant.0
          c.if-byte-lt-LONG.true,
      omega (arith, some, i.bytes.ok.0),
    )

pub returns-then-byte-lt-LONG-clause-sizes : goal.returns-then-byte-lt-LONG-clause-sizes
returns-then-byte-lt-LONG-clause-sizes c =
    let i = c.self.inside in
    let some : i.forgotten < length i.bytes.items =
    omega (arith, c.self.invariant.1, c.if-len-self.false, c.len.ensures, i.bytes.ok.0) in
    let first = first_live i.bytes.items i.forgotten c.index.result.now some c.index.ensures in
    sym (ap (λ (v : SizeList). v.sizes) c.self.view_is)
    ∙ oldest_short (drop i.forgotten i.bytes.items) (drop (i.forgotten + 1) i.bytes.items) i.longs.items _ first
    c.self.invariant.0 c.if-byte-lt-LONG.true

pub unwrap-more-requires : goal.unwrap-more-requires
unwrap-more-requires c =
    let i = c.self.inside in
    let some : i.forgotten < length i.bytes.items =
    omega (arith, c.self.invariant.1, c.if-len-self.false, c.len.ensures, i.bytes.ok.0) in
    let first = first_live i.bytes.items i.forgotten c.index.result.now some c.index.ensures in
    let full : deque_len i.longs ≡ length i.longs.items = search rules in
    let long =
    some_long (drop i.forgotten i.bytes.items) (drop (i.forgotten + 1) i.bytes.items) i.longs.items _ first c.self.invariant.0
    c.if-byte-lt-LONG.false in
    c.pop_front.ensures.variant.1 (omega (arith, full, long))

pub invariant_of-self-2 : goal.invariant_of-self-2
invariant_of-self-2 c =
    let i = c.self.inside in
    let some : i.forgotten < length i.bytes.items =
    omega (arith, c.self.invariant.1, c.if-len-self.false, c.len.ensures, i.bytes.ok.0) in
    let first = first_live i.bytes.items i.forgotten c.index.result.now some c.index.ensures in (
      left_long (drop i.forgotten i.bytes.items) (drop (i.forgotten + 1) i.bytes.items) i.longs.items c.pop_front.new.self.items _
          c.unwrap-more.result first (rw c.unwrap-more.ensures at c.pop_front.ensures.items) c.self.invariant.0
          c.if-byte-lt-LONG.false,
      omega (arith, some, i.bytes.ok.0),
    )

pub returns-clause-sizes : goal.returns-clause-sizes
returns-clause-sizes c =
    let i = c.self.inside in
    let some : i.forgotten < length i.bytes.items =
    omega (arith, c.self.invariant.1, c.if-len-self.false, c.len.ensures, i.bytes.ok.0) in
    let first = first_live i.bytes.items i.forgotten c.index.result.now some c.index.ensures in
    sym (ap (λ (v : SizeList). v.sizes) c.self.view_is)
    ∙ oldest_long (drop i.forgotten i.bytes.items) (drop (i.forgotten + 1) i.bytes.items) i.longs.items c.pop_front.new.self.items
    _ c.unwrap-more.result first (rw c.unwrap-more.ensures at c.pop_front.ensures.items) c.self.invariant.0
    c.if-byte-lt-LONG.false

pub overflow_add-result : goal.overflow_add-result
overflow_add-result c = omega (arith, last_fits _ _ _ (returns-clause-sizes c), c.requires)
