use Rattle.std.proofs.Common.{arith}
use Rattle.ss_machine.proofs.Notings.{notes_both}
use Rattle.ss_machine.proofs.executor.Executor.close_to.Goals as goal

pub returns-clause-notes : goal.returns-clause-notes
returns-clause-notes g c =
    notes_both 1 1 2 c.args.self.now c.close_loop.new.self c.go_to.new.self c.close_loop.ensures.notes
    c.go_to.ensures.notes (omega arith)
