use Rattle.std.proofs.Common.{rules, ◌≡◌, length, ap, sym, ◌∙◌, arith}
use Rattle.std.specs.VecDeque.{deque_len}
use Rattle.ss_journal.specs.Pieces.{SizeList}
use Rattle.ss_journal.proofs.Bytes.{oldest_short, oldest_long, left_short, left_long, some_long, last_fits}
use Rattle.ss_journal.proofs.sizes.Sizes.pop_oldest.Goals as goal

pub invariant_of-self-then-byte-lt-LONG : goal.invariant_of-self-then-byte-lt-LONG
invariant_of-self-then-byte-lt-LONG c =
    left_short c.self.inside.bytes.items c.pop_front.new.self.items c.self.inside.longs.items _
    c.in_ok-byte.ensures.items c.self.invariant c.if-byte-lt-LONG.true

pub returns-then-byte-lt-LONG-clause-sizes : goal.returns-then-byte-lt-LONG-clause-sizes
returns-then-byte-lt-LONG-clause-sizes c =
    sym (ap (λ (v : SizeList). v.sizes) c.self.view_is)
    ∙ oldest_short c.self.inside.bytes.items c.pop_front.new.self.items c.self.inside.longs.items _
    c.in_ok-byte.ensures.items c.self.invariant c.if-byte-lt-LONG.true

pub unwrap-more-requires : goal.unwrap-more-requires
unwrap-more-requires c =
    let full : deque_len c.self.inside.longs ≡ length c.self.inside.longs.items = search rules in
    let some =
    some_long c.self.inside.bytes.items c.pop_front.new.self.items c.self.inside.longs.items _
    c.in_ok-byte.ensures.items c.self.invariant c.if-byte-lt-LONG.false in
    c.pop_front-2.ensures.variant.1 (omega (arith, full, some))

pub invariant_of-self-2 : goal.invariant_of-self-2
invariant_of-self-2 c =
    left_long c.self.inside.bytes.items c.pop_front.new.self.items c.self.inside.longs.items
    c.pop_front-2.new.self.items _ c.unwrap-more.result c.in_ok-byte.ensures.items
    (rw c.unwrap-more.ensures at c.pop_front-2.ensures.items) c.self.invariant c.if-byte-lt-LONG.false

pub returns-clause-sizes : goal.returns-clause-sizes
returns-clause-sizes c =
    sym (ap (λ (v : SizeList). v.sizes) c.self.view_is)
    ∙ oldest_long c.self.inside.bytes.items c.pop_front.new.self.items c.self.inside.longs.items
    c.pop_front-2.new.self.items _ c.unwrap-more.result c.in_ok-byte.ensures.items
    (rw c.unwrap-more.ensures at c.pop_front-2.ensures.items) c.self.invariant c.if-byte-lt-LONG.false

pub overflow_add-result : goal.overflow_add-result
overflow_add-result c = omega (arith, last_fits _ _ _ (returns-clause-sizes c), c.requires)
