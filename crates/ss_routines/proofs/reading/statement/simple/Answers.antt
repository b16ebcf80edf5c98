use mathlib.Core.Logic.{inr}
use Rattle.ss_routines.specs.Combined.{either_of}
use Rattle.ss_routines.specs.SimpleReading.{making_at, filing_at, transfer_at, timing_at, exchange_at, assign_at}
use Rattle.ss_routines.specs.SimpleReading.{simple_of, simple_at}
use Rattle.ss_routines.proofs.ChoiceAnswers.{left_out}
use Rattle.ss_routines.proofs.reading.statement.simple.Goals as goal

pub returns-clause-exact : goal.returns-clause-exact
unfolding simple_at
returns-clause-exact c =
    let room = c.args.room in
    let last = either_of (timing_at room) (either_of (exchange_at room) (assign_at room)) in
    let behind = either_of (transfer_at room) last in
    rw (
      left_out (making_at room) (either_of (filing_at room) behind) simple_of c.args.cursor.now c.making.new.cursor
          (rw c.in_default.is at c.in_ok-making.ensures.exact),
      left_out (filing_at room) behind (λ x. simple_of (inr x)) c.making.new.cursor c.filing.new.cursor
          (rw c.in_default-2.is at c.in_ok-filing.ensures.exact),
      left_out (transfer_at room) last (λ x. simple_of (inr (inr x))) c.filing.new.cursor c.transfer.new.cursor
          (rw c.in_default-3.is at c.in_ok-transfer.ensures.exact),
    )
    c.other.ensures.exact
