use Rattle.ss_machine.specs.History.Numbers.{numbers_of}
use Rattle.ss_machine.proofs.NumberBytes.{small_left, small_rest, small_behind_byte}
use Rattle.ss_machine.proofs.history.numbers.Numbers.pop_open.Goals as goal

pub invariant_of-self-then-byte-lt-GROUP : goal.invariant_of-self-then-byte-lt-GROUP
invariant_of-self-then-byte-lt-GROUP c = (
  small_behind_byte c.in_ok-byte.field-0 c.pop_open.new.self.current c.if-byte-lt-GROUP.true
      (rw c.in_ok-byte.ensures.current at c.self.invariant.0),
  rw c.in_ok-byte.ensures.steps c.self.invariant.1,
)

pub higher-requires : goal.higher-requires
higher-requires c =
    small_rest c.in_ok-byte.field-0 c.pop_open.new.self.current c.if-byte-lt-GROUP.false
    (rw c.in_ok-byte.ensures.current at c.self.invariant.0)

pub invariant_of-self-2 : goal.invariant_of-self-2
invariant_of-self-2 c = (
  small_left c.higher.result (numbers_of c.pop_open.new.self.current) (numbers_of c.higher.new.bytes.current)
      c.higher.ensures.current
      (small_rest c.in_ok-byte.field-0 c.pop_open.new.self.current c.if-byte-lt-GROUP.false
      (rw c.in_ok-byte.ensures.current at c.self.invariant.0)),
  rw (c.higher.ensures.steps, c.in_ok-byte.ensures.steps) c.self.invariant.1,
)
