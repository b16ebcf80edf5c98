use Rattle.ss_machine.proofs.Scopes.{sound_here}
use Rattle.ss_state.proofs.Sounds.{spot_linked, spot_timed, chain_at}
use Rattle.ss_machine.proofs.executor.Executor.run.Goals as goal

pub make_room-requires-clause-timed : goal.make_room-requires-clause-timed
make_room-requires-clause-timed g c =
    spot_timed c.args.program.now _ _ _ c.known.ensures (rw c.place-section.ensures at c.spot-spot.ensures)

pub make_room-requires-clause-few : goal.make_room-requires-clause-few
make_room-requires-clause-few g c =
    rw c.ways_at-ways.ensures (chain_at c.args.program.now _ _ _ c.known.ensures c.spot-spot.ensures)

pub run_place-requires-clause-sound : goal.run_place-requires-clause-sound
run_place-requires-clause-sound g c =
    rw c.make_room.ensures.held
    (sound_here c.args.program.now c.args.self.now.held _ c.known.ensures c.requires.well c.requires.tables
    (rw c.place-section.ensures at c.spot-spot.ensures))

pub run_place-requires-clause-timed : goal.run_place-requires-clause-timed
run_place-requires-clause-timed g c =
    rw c.make_room.ensures.held
    (spot_timed c.args.program.now _ _ _ c.known.ensures (rw c.place-section.ensures at c.spot-spot.ensures))

pub run_place-requires-clause-leads : goal.run_place-requires-clause-leads
run_place-requires-clause-leads g c =
    rw (c.make_room.ensures.held, c.ways_at-ways.ensures, c.place-section.ensures)
    (spot_linked _ _ _ _ c.known.ensures (rw c.place-section.ensures at c.spot-spot.ensures)).leads

pub run_place-requires-clause-few : goal.run_place-requires-clause-few
run_place-requires-clause-few g c =
    rw c.ways_at-ways.ensures (chain_at c.args.program.now _ _ _ c.known.ensures c.spot-spot.ensures)
