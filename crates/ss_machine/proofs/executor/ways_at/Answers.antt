use Rattle.std.specs.Prelude.{slice_get}
use Rattle.ss_program.specs.Program.{places_of}
use Rattle.ss_state.proofs.Sounds.{ways_found}
use Rattle.ss_machine.proofs.executor.ways_at.Goals as goal

pub returns : goal.returns
returns c =
    ways_found (places_of (slice_get c.args.program.now.sections c.args.section)) c.args.place c.args.spot.now
    c.ways.result
    c.ways.ensures c.requires.spot
