use Rattle.std.proofs.Common.{ap, sym, ◌∙◌, arith}
use Rattle.ss_journal.specs.Pieces.{SizeList}
use Rattle.ss_journal.proofs.Bytes.{newest_long, first_fits}
use Rattle.ss_journal.proofs.sizes.Sizes.pop.Goals as goal

pub returns-clause-sizes : goal.returns-clause-sizes
returns-clause-sizes c =
    sym (ap (λ (v : SizeList). v.sizes) c.self.view_is)
    ∙ newest_long c.self.inside.bytes.items c.pop_back.new.self.items c.self.inside.longs.items
    c.pop_back-2.new.self.items _ _ c.in_ok-byte.ensures.items (rw c.unwrap-more.ensures at c.pop_back-2.ensures.items)
    c.if-byte-lt-LONG.false

pub overflow_add-result : goal.overflow_add-result
overflow_add-result c = omega (arith, first_fits _ _ _ (returns-clause-sizes c), c.requires)
