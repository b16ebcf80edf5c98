use Rattle.std.proofs.Common.{arith}
use Rattle.ss_machine.proofs.Notings.{notes_both, noted_anew}
use Rattle.ss_machine.proofs.executor.Executor.turn.Goals as goal

pub returns-in-Err-clause-notes : goal.returns-in-Err-clause-notes
returns-in-Err-clause-notes g c =
    notes_both 2 1 4 c.args.self.now c.try_candidate.new.self c.mark.new.self c.try_candidate.ensures.notes
    (noted_anew 1 c.try_candidate.new.self c.roll_back.new.self c.mark.new.self c.roll_back.ensures.held
    c.roll_back.ensures.steps c.roll_back.ensures.current c.roll_back.ensures.notes c.roll_back.ensures.closes
    c.mark.ensures.notes) (omega arith)
