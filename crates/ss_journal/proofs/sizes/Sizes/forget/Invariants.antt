use Rattle.std.proofs.Common.{◌≡◌, ◌+◌, ◌-◌, length, sum, take}
use Rattle.ss_journal.proofs.sizes.Sizes.forget.Given as goal

-- n sizes were taken out; n is the counter
abbrev pub invariant-loop : goal.invariant-loop
invariant-loop l = record {
  sizes : l.self.sizes ≡ take (length l.fn.self.sizes - l.counter) l.fn.self.sizes;
  changes : l.changes + sum l.self.sizes ≡ sum l.fn.self.sizes;
  closes : l.self.closes ≡ l.fn.self.closes + l.counter;
  most : l.self.most ≡ l.fn.self.most;
}
