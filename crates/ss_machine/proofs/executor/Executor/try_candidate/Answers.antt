use Rattle.std.proofs.Common.{arith}
use Rattle.ss_machine.proofs.Notings.{notes_both}
use Rattle.ss_machine.proofs.executor.Executor.try_candidate.Goals as goal

pub returns-clause-notes : goal.returns-clause-notes
returns-clause-notes g c =
    notes_both 1 1 2 c.args.self.now c.move_loop.new.self c.assign.new.self c.move_loop.ensures.notes
    c.assign.ensures.notes (omega arith)
