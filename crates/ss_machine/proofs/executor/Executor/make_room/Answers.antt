use Rattle.ss_machine.proofs.Notings.{noted_room}
use Rattle.ss_machine.proofs.executor.Executor.make_room.Goals as goal

pub returns-in-None-clause-notes : goal.returns-in-None-clause-notes
returns-in-None-clause-notes g c =
    noted_room 0 c.args.self.now.held c.args.self.now.journal c.reserve.new.self c.reserve.ensures.steps
    c.reserve.ensures.current c.reserve.ensures.kept_notes c.reserve.ensures.kept_closes

pub returns-in-Some-clause-notes : goal.returns-in-Some-clause-notes
returns-in-Some-clause-notes g c =
    noted_room 0 c.args.self.now.held c.args.self.now.journal c.reserve-in-Some.new.self c.reserve-in-Some.ensures.steps
    c.reserve-in-Some.ensures.current c.reserve-in-Some.ensures.kept_notes c.reserve-in-Some.ensures.kept_closes
