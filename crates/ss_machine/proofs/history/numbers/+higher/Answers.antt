use Rattle.std.proofs.Common.{rules}
use Rattle.ss_machine.proofs.NumberBytes.{small_rest}
use Rattle.ss_machine.proofs.history.numbers.+higher.Goals as goal

pub higher-requires : goal.higher-requires
higher-requires t c = (
  search rules,
  small_rest c.in-Some.byte c.pop_open.new.self.current c.if-byte-lt-GROUP.false
      (rw c.in-Some.ensures.current at c.requires),
)
