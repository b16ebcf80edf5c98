use Rattle.std.proofs.Common.{◌≡◌, ◌+◌, ◌-◌, length, sum, take}
use Rattle.ss_byte_journal.proofs.step_sizes.StepSizes.forget.Given as goal

-- each turn has taken out one size, the oldest first
abbrev pub invariant-loop : goal.invariant-loop
invariant-loop l = record {
  sizes : l.self.sizes ≡ take (length l.fn.self.sizes - l.counter) l.fn.self.sizes;
  bytes : l.bytes + sum l.self.sizes ≡ sum l.fn.self.sizes;
  closes : l.self.closes ≡ l.fn.self.closes;
  most : l.self.most ≡ l.fn.self.most;
}
