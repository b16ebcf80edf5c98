use Rattle.std.proofs.Common.{◌≡◌, rules}
use Rattle.ss_program.specs.Program.{event_of}
use Rattle.ss_state.proofs.Sounds.{event_there, given_few}
use Rattle.ss_machine.proofs.statements.timing.simulating.event_section.Goals as goal

pub returns-clause-few : goal.returns-clause-few
returns-clause-few c =
    let p = c.args.program.now in
    let e : c.behind-program.inside.section ≡ (event_of p c.args.class).section = search rules in
    rw e (given_few p (event_of p c.args.class).section c.known.ensures
    (event_there p c.args.class c.known.ensures c.requires.event).section)
