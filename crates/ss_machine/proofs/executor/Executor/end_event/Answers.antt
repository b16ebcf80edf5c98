use Rattle.std.proofs.Common.{arith}
use Rattle.ss_machine.proofs.Notings.{notes_both, noted_anew}
use Rattle.ss_machine.proofs.executor.Executor.end_event.Goals as goal

pub returns-in-Err-clause-notes : goal.returns-in-Err-clause-notes
returns-in-Err-clause-notes g c =
    notes_both 2 1 3 c.args.self.now c.end_entry.new.self c.mark.new.self c.end_entry.ensures.notes
    (noted_anew 1 c.end_entry.new.self c.roll_back.new.self c.mark.new.self c.roll_back.ensures.held
    c.roll_back.ensures.steps c.roll_back.ensures.current c.roll_back.ensures.notes c.roll_back.ensures.closes
    c.mark.ensures.notes) (omega arith)

pub returns-in-Ok-clause-notes : goal.returns-in-Ok-clause-notes
returns-in-Ok-clause-notes g c =
    notes_both 2 1 3 c.args.self.now c.end_entry.new.self c.drop_frame.new.self c.end_entry.ensures.notes
    c.drop_frame.ensures.notes (omega arith)
