use Rattle.ss_state.proofs.Starts.{arrival_event, class_shaped, event_shaped}
use Rattle.ss_machine.proofs.executor.Executor.load.Goals as goal

pub await_arrival-requires-clause-event : goal.await_arrival-requires-clause-event
await_arrival-requires-clause-event g c = arrival_event c.args.program.now _ _ c.in_ok-class.ensures.class

pub await_arrival-requires-clause-class : goal.await_arrival-requires-clause-class
await_arrival-requires-clause-class g c =
    let p = c.args.program.now in
    rw (c.take_arrival.ensures.beside, c.requires.tables) (class_shaped p c.in_ok-class.class
    (arrival_event p _ _ c.in_ok-class.ensures.class).class)

pub await_arrival-requires-clause-kind : goal.await_arrival-requires-clause-kind
await_arrival-requires-clause-kind g c =
    let p = c.args.program.now in
    rw (c.take_arrival.ensures.beside, c.requires.tables) (event_shaped p c.in_ok-class.class 0
    (arrival_event p _ _ c.in_ok-class.ensures.class))
