use Rattle.ss_machine.proofs.Scopes.{sound_with}
use Rattle.ss_state.proofs.Sounds.{few_targets}
use Rattle.ss_machine.proofs.executor.Executor.come_back.Goals as goal

pub behind_call-requires-clause-sound : goal.behind_call-requires-clause-sound
behind_call-requires-clause-sound g c =
    sound_with c.args.program.now c.args.self.now.held _ c.known.ensures c.requires.variables c.requires.frame.locals
    c.requires.tables
    (rw c.place-section.ensures at c.spot-spot.ensures)

pub behind_call-requires-clause-few : goal.behind_call-requires-clause-few
behind_call-requires-clause-few g c = few_targets _ _ _ _ c.known.ensures c.spot-spot.ensures
